-- The cheapest symbol of the set, by the station's grid.
use Rattle.std.proofs.Common.{ℕ, ◌<◌, sym, ap, ◌∙◌, subst}
use Rattle.std.specs.Option.{ForSome}
use Rattle.signal_base.specs.declared.station.Station.{Station}
use Rattle.signal_base.specs.Waveform.{symbol_count}
use Rattle.definitions.specs.codes.Allowed.{IsSetOf}
use Rattle.formats.specs.Heard.{costs_of, symbol_of_set}
use Rattle.symbol_cost.specs.Grid.{cost_at}
use Rattle.heard.specs.Seen.{hearing_seen}
use Rattle.heard.proofs.SameLaws.{same_of_set}
use Rattle.heard.proofs.WalkLaws.{encoded, in_century, is_set, set_is}
use Rattle.heard.proofs.hearing.Hearing.symbol_in_set.Goals as goal

pub set_in-set-requires-clause-century : goal.set_in-set-requires-clause-century
set_in-set-requires-clause-century c =
    let self = c.args.self.now in
    in_century self.window self.sequence self.kept.walkable c.args.slot c.args.place c.requires.place c.requires.slot

pub set_in-set-requires-clause-encoded : goal.set_in-set-requires-clause-encoded
set_in-set-requires-clause-encoded c =
    let self = c.args.self.now in
    encoded self.window self.sequence self.kept.walkable c.args.slot c.args.place c.requires.place c.args.station c.requires.station c.requires.slot

pub symbol_of_set-requires-clause-set : goal.symbol_of_set-requires-clause-set
symbol_of_set-requires-clause-set c =
    let self = c.args.self.now in
    subst (λ (s : Station). IsSetOf s c.set_in-set.result) (sym c.grid_for.ensures.of_station)
    (is_set self.window self.sequence self.kept.walkable c.args.slot c.args.place c.requires.place c.args.station c.set_in-set.result c.set_in-set.ensures)

pub returns : goal.returns
returns c =
    let self = c.args.self.now in
    let h = hearing_seen self in
    let grid = c.grid_for.result.now in
    let own = c.grid_for.ensures.of_station in
    let set = c.set_in-set.result in
    let is = is_set self.window self.sequence self.kept.walkable c.args.slot c.args.place c.requires.place c.args.station set c.set_in-set.ensures in
    record {
      symbol =
          c.symbol_of_set.ensures.symbol
          ∙ ap (λ (s : Station). symbol_of_set s (cost_at grid.rows c.args.slot) set) own
          ∙ same_of_set c.args.station (cost_at grid.rows c.args.slot) (costs_of h c.args.station c.args.slot) (λ x few. c.grid_for.ensures.has.each c.args.slot x c.requires.slot few) set is
          ∙ ap (symbol_of_set c.args.station (costs_of h c.args.station c.args.slot)) (set_is self.window self.sequence self.kept.walkable c.args.slot c.args.place c.requires.place c.args.station set c.set_in-set.ensures);
      known = subst (λ (s : Station). ForSome c.symbol_of_set.result (λ (x : ℕ). x < symbol_count s)) own c.symbol_of_set.ensures.known;
    }
