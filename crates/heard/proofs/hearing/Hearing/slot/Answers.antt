-- What is told of the slot, by the station's grid.
use Rattle.std.proofs.Common.{◌<◌, ℕ, ap, ◌∙◌, subst}
use Rattle.signal_base.specs.declared.station.Station.{Station}
use Rattle.signal_base.specs.Waveform.{symbol_count}
use Rattle.formats.specs.Heard.{best_symbol, costs_of}
use Rattle.symbol_cost.specs.Grid.{cost_at}
use Rattle.heard.specs.Seen.{hearing_seen}
use Rattle.heard.proofs.ReceiverLaws.{same_cost_of, slot_is}
use Rattle.heard.proofs.SameLaws.{same_best}
use Rattle.heard.proofs.hearing.Hearing.slot.Goals as goal

pub returns-clause-slot : goal.returns-clause-slot
returns-clause-slot c =
    let h = hearing_seen c.args.self.now in
    let station = c.args.station in
    let grid = c.grid_for-grid.result.now in
    let own = c.grid_for-grid.ensures.of_station in
    let f = cost_at grid.rows c.args.slot in
    let g = costs_of h station c.args.slot in
    let same = λ (x : ℕ) (few : x < symbol_count station). c.grid_for-grid.ensures.has.each c.args.slot x c.requires.slot few in
    let known = subst (λ (s : Station). c.best_symbol-best.result < symbol_count s) own c.best_symbol-best.ensures.known in
    slot_is h c.args.slot station c.args.place c.args.sent c.sent_cost.result c.best_symbol-best.result c.cost_of.result c.requires.place c.requires.sent
    (c.sent_cost.ensures ∙ same_cost_of (symbol_count station) f g c.args.sent c.requires.known same)
    (c.best_symbol-best.ensures.best ∙ ap (λ (s : Station). best_symbol s f) own ∙ same_best station f g same)
    (c.cost_of.ensures.cost ∙ same c.best_symbol-best.result known)
