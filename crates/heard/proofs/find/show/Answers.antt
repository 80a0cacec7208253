-- What is shown of what was loaded, by its answer.
use Rattle.std.proofs.Common.{◌≡◌, ◌<◌, ◌≤◌, ℕ, true, List, length, map, get_or, ap, sym, ◌∙◌, subst, arith}
use Rattle.std.proofs.lemmas.List.{length-map}
use Rattle.signal_base.specs.declared.limits.TheConstants.{MOST_RECEIVERS}
use Rattle.definitions.specs.codes.Allowed.{has_station}
use Rattle.definitions.specs.answers.Answers.{IsWindowAnswer}
use Rattle.formats.specs.Heard.{costs_of}
use Rattle.plain_costs.specs.Grids.{HaveCosts}
use Rattle.bank_config.specs.declared.config.Receiver.{Receiver as Entry}
use Rattle.bank_config.specs.Configuration.{plain_config}
use Rattle.due.specs.Banks.{bank_of, costs_in, duts_of}
use Rattle.bank.specs.Hearing.{bank_seen}
use Rattle.bank.proofs.EntryLaws.{bank_in_order}
use Rattle.heard.specs.Kept.{hearing_in, places_in, station_at}
use Rattle.heard.specs.Seen.{IsShownFor}
use Rattle.heard.proofs.ShowLaws.{few_places, have_bank_costs, have_costs, heard, heard_shown, none_shown, same_count, same_stations, tie_shown, window_is, within}
use Rattle.heard.proofs.find.show.Goals as goal

pub places_in-requires : goal.places_in-requires
places_in-requires g c =
    let is = ap length (c.as_slice-2.ensures.value ∙ c.in_ok-stations.ensures ∙ ap (map (λ (r : Entry). r.station)) c.as_slice.ensures.value) in
    omega (arith, is, length-map c.args.config.receivers.items (λ (r : Entry). r.station), c.requires.in_range.few_receivers)

pub hearing_of-requires-clause-few : goal.hearing_of-requires-clause-few
hearing_of-requires-clause-few g c =
    let config = plain_config c.args.config in
    let logs = c.args.logs.items in
    let bank = bank_of config logs in
    let b = c.in_ok-bank.bank in
    let is = c.in_ok-bank.ensures.in_range in
    let same = c.in_ok-bank.ensures.bank ∙ bank_in_order config logs (plain_config c.in_ok-loaded.loaded.config) c.in_ok-loaded.loaded.logs.items c.in_ok-loaded.ensures.order in
    let placed = c.in_ok-places.ensures
    ∙ ap places_in (c.as_slice-2.ensures.value ∙ c.in_ok-stations.ensures ∙ ap (map (λ (r : Entry). r.station)) c.as_slice.ensures.value
    ∙ sym (same_stations c.args.config.receivers.items logs c.requires.one_each)) in
    let few = same_count c.args.config.receivers.items logs c.requires.one_each in
    subst (λ (ps : List ℕ). length ps ≤ MOST_RECEIVERS) (sym placed) (few_places c.args.asked.now bank b is same (omega (arith, few, c.requires.in_range.few_receivers)))

pub hearing_of-requires-clause-within : goal.hearing_of-requires-clause-within
hearing_of-requires-clause-within g c =
    let config = plain_config c.args.config in
    let logs = c.args.logs.items in
    let bank = bank_of config logs in
    let b = c.in_ok-bank.bank in
    let is = c.in_ok-bank.ensures.in_range in
    let same = c.in_ok-bank.ensures.bank ∙ bank_in_order config logs (plain_config c.in_ok-loaded.loaded.config) c.in_ok-loaded.loaded.logs.items c.in_ok-loaded.ensures.order in
    let placed = c.in_ok-places.ensures
    ∙ ap places_in (c.as_slice-2.ensures.value ∙ c.in_ok-stations.ensures ∙ ap (map (λ (r : Entry). r.station)) c.as_slice.ensures.value
    ∙ sym (same_stations c.args.config.receivers.items logs c.requires.one_each)) in
    subst (λ (ps : List ℕ). (i : ℕ) → i < length ps → get_or ps i 0 < length b.stations.items) (sym placed) (within c.args.asked.now bank b is same)

pub hearing_of-requires-clause-heard : goal.hearing_of-requires-clause-heard
hearing_of-requires-clause-heard g c =
    let config = plain_config c.args.config in
    let logs = c.args.logs.items in
    let bank = bank_of config logs in
    let b = c.in_ok-bank.bank in
    let is = c.in_ok-bank.ensures.in_range in
    let same = c.in_ok-bank.ensures.bank ∙ bank_in_order config logs (plain_config c.in_ok-loaded.loaded.config) c.in_ok-loaded.loaded.logs.items c.in_ok-loaded.ensures.order in
    let w = c.window_of-window.result in
    let here = window_is c.args.asked.now bank b is same w c.window_of-window.ensures.window in
    let placed = c.in_ok-places.ensures
    ∙ ap places_in (c.as_slice-2.ensures.value ∙ c.in_ok-stations.ensures ∙ ap (map (λ (r : Entry). r.station)) c.as_slice.ensures.value
    ∙ sym (same_stations c.args.config.receivers.items logs c.requires.one_each)) in
    subst (λ (ps : List ℕ). (i : ℕ) → i < length ps → has_station w.stations (station_at b.stations.items (get_or ps i 0)) ≡ true) (sym placed) (heard c.args.asked.now bank b is same w here)

pub hearing_of-requires-clause-costs : goal.hearing_of-requires-clause-costs
hearing_of-requires-clause-costs g c =
    let config = plain_config c.args.config in
    let logs = c.args.logs.items in
    let bank = bank_of config logs in
    let b = c.in_ok-bank.bank in
    let is = c.in_ok-bank.ensures.in_range in
    let same = c.in_ok-bank.ensures.bank ∙ bank_in_order config logs (plain_config c.in_ok-loaded.loaded.config) c.in_ok-loaded.loaded.logs.items c.in_ok-loaded.ensures.order in
    let w = c.window_of-window.result in
    let here = window_is c.args.asked.now bank b is same w c.window_of-window.ensures.window in
    let placed = c.in_ok-places.ensures
    ∙ ap places_in (c.as_slice-2.ensures.value ∙ c.in_ok-stations.ensures ∙ ap (map (λ (r : Entry). r.station)) c.as_slice.ensures.value
    ∙ sym (same_stations c.args.config.receivers.items logs c.requires.one_each)) in
    let q = c.in-Decided.sequence in
    let next = c.in-Decided.next in
    subst (λ (ps : List ℕ). HaveCosts w c.in_ok-grids.grids.items (costs_of (hearing_in b ps w q next))) (sym placed)
    (have_costs c.args.asked.now bank b is same w q next c.in_ok-grids.grids.items c.in_ok-grids.ensures.costs)

pub hearing_of-requires-clause-sequence : goal.hearing_of-requires-clause-sequence
hearing_of-requires-clause-sequence g c = (rw c.in-Decided.is at c.in_ok-decoded.ensures.reportable).2

pub hearing_of-requires-clause-walkable : goal.hearing_of-requires-clause-walkable
hearing_of-requires-clause-walkable g c = (rw (c.in-Decided.is, c.in_ok-decoded.ensures.window) at c.in_ok-decoded.ensures.reportable).3

pub returns-in-Decided-clause-shown : goal.returns-in-Decided-clause-shown
returns-in-Decided-clause-shown g c =
    let config = plain_config c.args.config in
    let logs = c.args.logs.items in
    let bank = bank_of config logs in
    let b = c.in_ok-bank.bank in
    let is = c.in_ok-bank.ensures.in_range in
    let same = c.in_ok-bank.ensures.bank ∙ bank_in_order config logs (plain_config c.in_ok-loaded.loaded.config) c.in_ok-loaded.loaded.logs.items c.in_ok-loaded.ensures.order in
    let w = c.window_of-window.result in
    let here = window_is c.args.asked.now bank b is same w c.window_of-window.ensures.window in
    let found = c.in_ok-decoded.ensures.answer (costs_in w (bank_seen b)) (rw c.as_slice-3.ensures.value c.in_ok-grids.ensures.costs) in
    let answer = subst (IsWindowAnswer w (costs_in w (bank_seen b)) b.ceiling) c.in-Decided.is found in
    let placed = c.in_ok-places.ensures
    ∙ ap places_in (c.as_slice-2.ensures.value ∙ c.in_ok-stations.ensures ∙ ap (map (λ (r : Entry). r.station)) c.as_slice.ensures.value
    ∙ sym (same_stations c.args.config.receivers.items logs c.requires.one_each)) in
    let d = c.in-Decided in
    heard_shown c.args.asked.now bank b is same w d.cost d.sequence d.next _ here answer (c.hearing_of.ensures ∙ ap (λ ps. hearing_in b ps w d.sequence d.next) placed)

pub returns-in-Undecided-clause-shown : goal.returns-in-Undecided-clause-shown
returns-in-Undecided-clause-shown g c =
    let config = plain_config c.args.config in
    let logs = c.args.logs.items in
    let bank = bank_of config logs in
    let b = c.in_ok-bank.bank in
    let is = c.in_ok-bank.ensures.in_range in
    let same = c.in_ok-bank.ensures.bank ∙ bank_in_order config logs (plain_config c.in_ok-loaded.loaded.config) c.in_ok-loaded.loaded.logs.items c.in_ok-loaded.ensures.order in
    let w = c.window_of-window.result in
    let here = window_is c.args.asked.now bank b is same w c.window_of-window.ensures.window in
    let found = c.in_ok-decoded.ensures.answer (costs_in w (bank_seen b)) (rw c.as_slice-3.ensures.value c.in_ok-grids.ensures.costs) in
    let answer = subst (IsWindowAnswer w (costs_in w (bank_seen b)) b.ceiling) c.in-Undecided.is found in
    let have = have_bank_costs c.args.asked.now bank b is same w c.in_ok-grids.grids.items c.in_ok-grids.ensures.costs in
    let duts = c.in_ok-decoded.ensures.duts bank (rw c.as_slice-3.ensures.value have) in
    let u = c.in-Undecided in
    subst (IsShownFor c.args.asked.now bank) (sym (rw (u.is, c.in_ok-decoded.ensures.window) at c.reported.ensures.told))
    (tie_shown c.args.asked.now bank b is same w u.cost u.sequence u.other c.in_ok-decoded.decoded.duts here answer (duts ∙ ap (duts_of w bank) u.is))

pub returns-clause-shown : goal.returns-clause-shown
returns-clause-shown g c =
    let config = plain_config c.args.config in
    let logs = c.args.logs.items in
    let bank = bank_of config logs in
    let b = c.in_ok-bank.bank in
    let is = c.in_ok-bank.ensures.in_range in
    let same = c.in_ok-bank.ensures.bank ∙ bank_in_order config logs (plain_config c.in_ok-loaded.loaded.config) c.in_ok-loaded.loaded.logs.items c.in_ok-loaded.ensures.order in
    let w = c.window_of-window.result in
    let here = window_is c.args.asked.now bank b is same w c.window_of-window.ensures.window in
    let found = c.in_ok-decoded.ensures.answer (costs_in w (bank_seen b)) (rw c.as_slice-3.ensures.value c.in_ok-grids.ensures.costs) in
    let answer = subst (IsWindowAnswer w (costs_in w (bank_seen b)) b.ceiling) c.in-Nothing.is found in
    let have = have_bank_costs c.args.asked.now bank b is same w c.in_ok-grids.grids.items c.in_ok-grids.ensures.costs in
    let duts = c.in_ok-decoded.ensures.duts bank (rw c.as_slice-3.ensures.value have) in
    subst (IsShownFor c.args.asked.now bank) (sym (rw (c.in-Nothing.is, c.in_ok-decoded.ensures.window) at c.reported-in-Nothing.ensures.told))
    (none_shown c.args.asked.now bank b is same w c.in_ok-decoded.decoded.duts here answer (duts ∙ ap (duts_of w bank) c.in-Nothing.is))
