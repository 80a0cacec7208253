-- The bank of a trial, from the texts of its logs.
use Rattle.std.proofs.Common.{◌≡◌, ℕ, suc, zero, ◌<◌, ◌≤◌, List, [], ◌∷◌, ◌++◌, length, get_or, map, zero-add, refl, sym, ap, ◌∙◌, subst, arith}
use Rattle.std.specs.List.{range_with_len}
use Rattle.std.proofs.lemmas.List.FromFn.{get_or-map-range_with_len, length-map-range_with_len}
use Rattle.signal_base.specs.declared.station.Station.{Station}
use Rattle.signal_base.specs.declared.tuning.Tuning.{Tuning}
use Rattle.definitions.specs.heard.Logs.{Records}
use Rattle.definitions.specs.heard.Receivers.{Receiver, receptions}
use Rattle.align.specs.Receivers.{receivers}
use Rattle.trial_log.specs.Clean.{log_text}
use Rattle.trial_log.specs.Trials.{trial_logs, trial_receivers, trial_records}
use Rattle.signal_base.specs.declared.tuning.CostTable.{CostTable}
use Rattle.signal_base.specs.declared.limits.TheConstants.{GREATEST_COST, MOST_RECEIVERS}
use Rattle.signal_base.specs.Table.{difference_table}
use Rattle.due.specs.Banks.{Bank}
use Rattle.due.specs.Trials.{trial_bank, trial_receiver}
use Rattle.bank.proofs.LogListLaws.{length_map}

nth : {X : Type 0} (f : X → List ℕ) (xs : List X) (i : ℕ) (x : X) → i < length xs → x ≡ get_or xs i x → get_or (map f xs) i [] ≡ f x
nth f [] i x below at = absurd (omega arith)
nth f (y ∷ ys) zero x below at = ap f (sym at)
nth f (y ∷ ys) (suc i) x below at = nth f ys i x (omega arith) at

-- there are as many texts as receivers
pub text_count : {X : Type 0} (texts : List X) (f : X → List ℕ) (number : ℕ) → map f texts ≡ trial_logs number → length texts ≡ trial_receivers number
text_count texts f number are =
    sym (length_map f texts) ∙ ap length are ∙ length-map-range_with_len (λ (r : ℕ). log_text (trial_records number r)) 0 (trial_receivers number)

-- each is that of its receiver
pub text_is : {X : Type 0} (texts : List X) (f : X → List ℕ) (number i : ℕ) (x : X) → map f texts ≡ trial_logs number → i < length texts → x ≡ get_or texts i x
    → f x ≡ log_text (trial_records number i)
text_is texts f number i x are below at =
    let within : i < trial_receivers number = subst (λ (n : ℕ). i < n) (text_count texts f number are) below in
    sym (nth f texts i x below at) ∙ ap (λ (xs : List (List ℕ)). get_or xs i []) are
    ∙ get_or-map-range_with_len (λ (r : ℕ). log_text (trial_records number r)) 0 (trial_receivers number) i i [] within (zero-add i)

-- one more receiver
pub receivers_more : (ss : List Station) (ts : List Tuning) (logs : List Records) (s : Station) (t : Tuning) (log : Records) → length ts ≡ length ss → length logs ≡ length ss
    → receivers (ss ++ s ∷ []) (receptions (ts ++ t ∷ []) (logs ++ log ∷ [])) ≡ receivers ss (receptions ts logs) ++ record { station = s; heard = record { tuning = t; log = log } } ∷ []
receivers_more [] [] [] s t log e f = refl
receivers_more [] [] (l ∷ logs) s t log e f = absurd (omega arith)
receivers_more [] (u ∷ ts) logs s t log e f = absurd (omega arith)
receivers_more (r ∷ ss) [] logs s t log e f = absurd (omega arith)
receivers_more (r ∷ ss) (u ∷ ts) [] s t log e f = absurd (omega arith)
receivers_more (r ∷ ss) (u ∷ ts) (l ∷ logs) s t log e f =
    ap (λ (rs : List Receiver). record { station = r; heard = record { tuning = u; log = l } } ∷ rs) (receivers_more ss ts logs s t log (omega arith) (omega arith))

pub bank_is : (number : ℕ) (rs : List Receiver) (i : ℕ) (table : CostTable) → rs ≡ map (trial_receiver number) (range_with_len 0 i) → i ≡ trial_receivers number → table ≡ difference_table
    → ◌≡◌ {A = Bank} (record { receivers = rs; table = table; ceiling = GREATEST_COST }) (trial_bank number)
bank_is number rs i table e f g = rw (e, f, g) refl

pub one_to_eight : (number : ℕ) → (1 ≤ trial_receivers number) × (trial_receivers number ≤ MOST_RECEIVERS)
one_to_eight number = (omega arith, omega arith)
