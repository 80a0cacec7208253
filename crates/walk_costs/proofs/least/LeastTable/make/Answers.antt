use Rattle.std.proofs.Common.{◌*◌, List, length, subst, arith}
use Rattle.signal_base.specs.declared.station.Station.{Station}
use Rattle.slot_columns.specs.Layered.{AreGroups}
use Rattle.walk_costs.specs.declared.kinds.Kind.{Kind}
use Rattle.walk_costs.specs.Kinds.{AreKindsOf}
use Rattle.walk_costs.specs.Leasts.{AreThirds, IsLeastOf}
use Rattle.walk_costs.proofs.LeastLaws.{are_least}
use Rattle.walk_costs.proofs.least.LeastTable.make.Goals as goal

pub returns : goal.returns
returns c =
    let grid = c.args.columns.now in
    let parts = c.args.parts.now in
    let across = c.args.across in
    let kinds = c.in_ok-kinds.kinds in
    let thirds = c.in_ok-thirds.thirds in
    are_least grid parts c.args.walks.now across kinds.all.items thirds.all.items _ c.requires.costs
    (subst (λ (s : Station). AreKindsOf parts s across kinds.all.items kinds.places.items (2 * length parts.runs)) c.station.ensures c.in_ok-kinds.ensures)
    (subst (λ (ks : List Kind). AreThirds ks thirds.all.items thirds.splits.items (length ks)) c.deref.ensures.value c.in_ok-thirds.ensures)
    (subst (λ (ks : List Kind). AreGroups 0 (IsLeastOf grid c.args.walks.now ks across) (length ks) c.in_ok-costs.costs.least.items 60) c.deref-2.ensures.value c.in_ok-costs.ensures.least)
    c.in_ok-costs.ensures.given (omega (arith, c.len.ensures, kinds.all.ok.0)) (omega (arith, c.len-2.ensures, thirds.all.ok.0))
