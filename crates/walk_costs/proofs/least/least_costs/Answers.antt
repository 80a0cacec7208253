use Rattle.std.proofs.Common.{ℕ, List, [], length, subst}
use Rattle.slot_columns.specs.Layered.{AreAdded}
use Rattle.slot_columns.proofs.GroupLaws.{groups_more}
use Rattle.walk_costs.specs.declared.thirds.Split.{Split}
use Rattle.walk_costs.specs.declared.kinds.Kind.{Kind}
use Rattle.walk_costs.specs.Leasts.{AreThirdCosts, IsLeastBy, IsLeastOf, IsRowAt, IsThirdRow}
use Rattle.walk_costs.proofs.LeastLaws.{by_thirds, thirds_added}
use Rattle.walk_costs.proofs.least.least_costs.Goals as goal

pub loop-p-preserved : goal.loop-p-preserved
loop-p-preserved c =
    let grid = c.args.columns.now in
    let walks = c.args.walks.now in
    let kinds = c.args.kinds.now in
    let p = c.loop-p.p in
    let all = c.args.thirds.now.all.items in
    let splits = c.args.thirds.now.splits.items in
    let rows = c.in_ok-rows.rows.items in
    let count = c.begin_count-count.result in
    let reached = c.walk_minutes-reached.result in
    let old = c.loop-p.least.items in
    let new = c.push_costs.new.costs.items in
    let costs = subst (λ (hs : List Kind). AreThirdCosts grid p hs rows (length hs)) c.deref.ensures.value c.in_ok-rows.ensures in
    let pushed = subst (λ (rs : List (List ℕ)). AreAdded 0 (IsLeastBy walks kinds splits rs p count reached) old new (length kinds)) c.deref-in-loop-p-2.ensures.value
    (subst (λ (ss : List Split). AreAdded 0 (IsLeastBy walks kinds ss c.deref-in-loop-p-2.result.now p count reached) old new (length kinds)) c.deref-in-loop-p.ensures.value
    c.in_ok-push_costs.ensures) in
    let copied = subst (λ (rs : List (List ℕ)). AreAdded [] (IsRowAt rs) c.loop-p.given.items c.add_rows.new.given.items (length rs)) c.deref-in-loop-p-3.ensures.value c.in_ok-add_rows.ensures in
    record {
      least = groups_more 0 (IsLeastOf grid walks kinds c.args.across) (length kinds) old new p c.loop-p.invariant.least
          (by_thirds grid walks kinds all splits rows c.args.across p count reached old new c.requires costs c.begin_count-count.ensures.count
          c.walk_minutes-reached.ensures.count pushed);
      given = groups_more [] (IsThirdRow grid all) (length all) c.loop-p.given.items c.add_rows.new.given.items p c.loop-p.invariant.given
          (thirds_added grid all rows c.loop-p.given.items c.add_rows.new.given.items p costs copied);
    }
