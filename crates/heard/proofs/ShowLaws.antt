-- What is shown of a bank whose receivers were put in the order of their stations.
use Rattle.std.proofs.Common.{◌≡◌, ℕ, suc, ◌<◌, ◌≤◌, true, List, [], ◌∷◌, length, map, get_or, Option, refl, sym, ap, ◌∙◌, subst, arith}
use Rattle.signal_base.specs.declared.limits.TheConstants.{MOST_RECEIVERS}
use Rattle.signal_base.specs.declared.dut.StationDut.{StationDut}
use Rattle.signal_base.specs.declared.tuning.CostTable.{CostTable}
use Rattle.signal_base.specs.declared.window.Window.{Window}
use Rattle.definitions.specs.declared.answer.Answer.{Answer}
use Rattle.definitions.specs.declared.answer.Answer.TheVariants as answers
use Rattle.definitions.specs.declared.sequence.Sequence.{Sequence}
use Rattle.definitions.specs.answers.Answers.{IsWindowAnswer}
use Rattle.definitions.specs.codes.Allowed.{has_station}
use Rattle.definitions.specs.heard.Costs.{Costs}
use Rattle.definitions.specs.heard.Logs.{Records}
use Rattle.definitions.specs.heard.Receivers.{Receiver}
use Rattle.bank_config.specs.declared.config.Receiver.{Receiver as Entry}
use Rattle.bank_config.specs.Configuration.{plain_receiver}
use Rattle.formats.specs.declared.words.Asked.{Asked}
use Rattle.formats.specs.Heard.{Hearing, costs_of}
use Rattle.symbol_cost.specs.Grid.{Grid}
use Rattle.plain_costs.specs.Grids.{HaveCosts}
use Rattle.due.specs.declared.due.Due.TheVariants as dues
use Rattle.due.specs.declared.heard_due.HeardDue.{HeardDue}
use Rattle.due.specs.declared.heard_due.HeardDue.TheVariants.{Heard, Told}
use Rattle.due.specs.Banks.{Bank as PlainBank, IsBankAnswer, by_station, costs_in, duts_of, ordered, receivers_of, stations_heard, window_of}
use Rattle.due.specs.HeardRuns.{hearing_of}
use Rattle.due.proofs.StationLaws.{same_costs, same_window}
use Rattle.due.proofs.WindowLaws.{station_is_heard}
use Rattle.bank.specs.declared.hearing.Bank.{Bank}
use Rattle.bank.specs.Hearing.{IsBank, bank_seen}
use Rattle.heard.specs.Kept.{hearing_in, places_in, receiver_at, station_at}
use Rattle.heard.specs.Seen.{IsShownFor}
use Rattle.heard.proofs.PlaceLaws.{count, is_heard_at, place_station, place_within, same_receivers, their_stations}

module _ (asked : Asked) (bank : PlainBank) (b : Bank) (is : IsBank b) (same : bank_seen b ≡ ordered bank) where
  order : (bank_seen b).receivers ≡ by_station bank.receivers
  order = ap (λ (x : PlainBank). x.receivers) same

  -- where its receivers stand
  abbrev places : List ℕ
  places = places_in (their_stations bank.receivers)

  pub window_is : (w : Window) → w ≡ window_of asked (bank_seen b).receivers → w ≡ window_of asked bank.receivers
  window_is w e = e ∙ ap (window_of asked) order ∙ same_window asked bank.receivers

  costs_are : (w : Window) → costs_in w (bank_seen b) ≡ costs_in w bank
  costs_are w = ap (costs_in w) same ∙ same_costs w bank

  -- the same is looked at
  abbrev made : List Receiver → CostTable → Window → Sequence → Option ℕ → Hearing
  made receivers table w q next = record { receivers = receivers; table = table; window = w; sequence = q; next = next }

  by_parts : (rs ss : List Receiver) (t u : CostTable) (w : Window) (q : Sequence) (next : Option ℕ) → rs ≡ ss → t ≡ u → made rs t w q next ≡ made ss u w q next
  by_parts rs ss t u w q next e f = cc

  pub hearing_is : (w : Window) (q : Sequence) (next : Option ℕ) → hearing_in b places w q next ≡ hearing_of w bank q next
  hearing_is w q next =
      by_parts (map (receiver_at b) places) bank.receivers b.table bank.table w q next (same_receivers b is bank.receivers order) (ap (λ (x : PlainBank). x.table) same)

  pub have_costs : (w : Window) (q : Sequence) (next : Option ℕ) (grids : List Grid) → HaveCosts w grids (costs_in w (bank_seen b)) → HaveCosts w grids (costs_of (hearing_in b places w q next))
  have_costs w q next grids = subst (HaveCosts w grids) (costs_are w ∙ ap costs_of (sym (hearing_is w q next)))

  pub have_bank_costs : (w : Window) (grids : List Grid) → HaveCosts w grids (costs_in w (bank_seen b)) → HaveCosts w grids (costs_in w bank)
  have_bank_costs w grids = subst (HaveCosts w grids) (costs_are w)

  -- the places are of the bank, and of receivers whose stations are heard
  pub few_places : length bank.receivers ≤ MOST_RECEIVERS → length places ≤ MOST_RECEIVERS
  few_places few = omega (arith, count b is bank.receivers order, few)

  pub within : (i : ℕ) → i < length places → get_or places i 0 < length b.stations.items
  within i lt = place_within b is bank.receivers order i (omega (arith, count b is bank.receivers order, lt))

  pub heard : (w : Window) → w ≡ window_of asked bank.receivers → (i : ℕ) → i < length places
      → has_station w.stations (station_at b.stations.items (get_or places i 0)) ≡ true
  heard w e i lt =
      let inside : i < length bank.receivers = omega (arith, count b is bank.receivers order, lt) in
      let d : Receiver = receiver_at b 0 in
      ap (λ (v : Window). has_station v.stations (station_at b.stations.items (get_or places i 0))) e
      ∙ ap (has_station (stations_heard bank.receivers)) (place_station b is bank.receivers order i d inside)
      ∙ station_is_heard bank.receivers (get_or bank.receivers i d).station
      ∙ is_heard_at bank.receivers i d inside

  -- the answer
  answer_is : (w : Window) (answer : Answer) → w ≡ window_of asked bank.receivers → IsWindowAnswer w (costs_in w (bank_seen b)) b.ceiling answer
      → IsBankAnswer (window_of asked bank.receivers) bank answer
  answer_is w answer e a =
      subst (λ (v : Window). IsBankAnswer v bank answer) e
      (subst (λ (n : ℕ). IsWindowAnswer w (costs_in w bank) n answer) (ap (λ (x : PlainBank). x.ceiling) same)
      (subst (λ (costs : Costs). IsWindowAnswer w costs b.ceiling answer) (costs_are w) a))

  -- is shown
  pub heard_shown : (w : Window) (c : ℕ) (q : Sequence) (next : Option ℕ) (h : Hearing) → w ≡ window_of asked bank.receivers
      → IsWindowAnswer w (costs_in w (bank_seen b)) b.ceiling (answers.Decided c q next) → h ≡ hearing_in b places w q next → IsShownFor asked bank (Heard h)
  heard_shown w c q next h e a k =
      (answers.Decided c q next, answer_is w (answers.Decided c q next) e a, ap Heard (k ∙ hearing_is w q next ∙ ap (λ (v : Window). hearing_of v bank q next) e))

  told_by : (w : Window) (answer : Answer) (duts : List StationDut) → w ≡ window_of asked bank.receivers → duts ≡ duts_of w bank answer
      → ◌≡◌ {A = HeardDue Hearing} (Told (dues.Report w answer duts)) (Told (dues.Report (window_of asked bank.receivers) answer (duts_of (window_of asked bank.receivers) bank answer)))
  told_by w answer duts e f =
      ap (λ ds. Told (dues.Report w answer ds)) f ∙ ap (λ (v : Window). Told (dues.Report v answer (duts_of v bank answer))) e

  pub tie_shown : (w : Window) (c : ℕ) (q r : Sequence) (duts : List StationDut) → w ≡ window_of asked bank.receivers
      → IsWindowAnswer w (costs_in w (bank_seen b)) b.ceiling (answers.Undecided c q r) → duts ≡ duts_of w bank (answers.Undecided c q r)
      → IsShownFor asked bank (Told (dues.Report w (answers.Undecided c q r) duts))
  tie_shown w c q r duts e a f = (answers.Undecided c q r, answer_is w (answers.Undecided c q r) e a, told_by w (answers.Undecided c q r) duts e f)

  pub none_shown : (w : Window) (duts : List StationDut) → w ≡ window_of asked bank.receivers
      → IsWindowAnswer w (costs_in w (bank_seen b)) b.ceiling answers.Nothing → duts ≡ duts_of w bank answers.Nothing
      → IsShownFor asked bank (Told (dues.Report w answers.Nothing duts))
  none_shown w duts e a f = (answers.Nothing, answer_is w answers.Nothing e a, told_by w answers.Nothing duts e f)

-- the stations of a configuration's receivers
pub same_stations : (rs : List Entry) (logs : List Records) → length logs ≡ length rs → their_stations (receivers_of (map plain_receiver rs) logs) ≡ map (λ r. r.station) rs
same_stations [] logs each = refl
same_stations (r ∷ rs) [] each = absurd (omega arith)
same_stations (r ∷ rs) (log ∷ logs) each = ap (λ ss. r.station ∷ ss) (same_stations rs logs (omega arith))

pub same_count : (rs : List Entry) (logs : List Records) → length logs ≡ length rs → length (receivers_of (map plain_receiver rs) logs) ≡ length rs
same_count [] logs each = refl
same_count (r ∷ rs) [] each = absurd (omega arith)
same_count (r ∷ rs) (log ∷ logs) each = ap suc (same_count rs logs (omega arith))
