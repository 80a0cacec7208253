-- By the station's grid, if it has one.
use Rattle.std.proofs.Common.{refl, subst}
use Rattle.signal_base.specs.declared.station.Station.{Station}
use Rattle.symbol_cost.specs.Grid.{cost_at}
use Rattle.heard.specs.Told.{IsTold}
use Rattle.heard.proofs.GridLaws.{found_of_window, its_grid, not_missing}
use Rattle.heard.proofs.SameLaws.{told_too}
use Rattle.heard.proofs.find.told_in.Goals as goal

pub returns-in-None : goal.returns-in-None
returns-in-None c = λ costs have heard. absurd (not_missing c.args.window.now c.args.grids.now c.args.station c.requires.grids heard c.in-None.ensures)

pub told_value-requires : goal.told_value-requires
told_value-requires c =
    let of = found_of_window c.args.window.now c.args.grids.now c.args.station c.in-Some.grid.now c.requires.grids c.in-Some.ensures in
    record {
      of_station = refl;
      heard = of.heard;
      slots = of.slots;
      seconds = c.requires.window.not_long;
      sequence = c.requires.sequence;
      walkable = c.requires.walkable;
    }

pub returns-in-Some : goal.returns-in-Some
returns-in-Some c = λ costs have heard.
    let window = c.args.window.now in
    let g = c.in-Some.grid.now in
    let it = its_grid window c.args.grids.now costs c.args.station g c.requires.grids have heard c.in-Some.ensures in
    told_too c.args.station (cost_at g.rows) (costs c.args.station) window.seconds c.args.q.now (λ k x lt few. it.has.each k x lt few) c.told_value.result
    (subst (λ (s : Station). IsTold s (cost_at g.rows) window.seconds c.args.q.now c.told_value.result) it.of_station c.told_value.ensures)
