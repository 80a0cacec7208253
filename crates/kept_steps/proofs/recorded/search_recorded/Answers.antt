-- The lists of what kept the steps are those of the workers.
use Rattle.std.proofs.Common.{◌≡◌, List, sym, subst}
use Rattle.std.proofs.lemmas.Result.{IfOk-weaker}
use Rattle.field_tables.specs.Scored.{costs_of}
use Rattle.workers.specs.Steps.{Step}
use Rattle.kept_steps.specs.Kept.{AreKept}
use Rattle.kept_steps.proofs.Kept.{all_kept}
use Rattle.kept_steps.proofs.recorded.search_recorded.Goals as goal

pub returns-clause-kept : goal.returns-clause-kept
returns-clause-kept g c =
    let t = c.args.tables.now in
    let Are : List (List Step) → Type 0 = AreKept (costs_of t) t.window c.args.ceiling c.args.items.now c.args.workers c.search_with.new.seat.view in
    let kept : Are c.search_with.new.recorder = all_kept (costs_of t) t.window c.args.ceiling c.args.items.now c.args.workers c.search_with.new.seat.view
    c.new-keeper.result c.search_with.new.recorder c.new-keeper.ensures c.in_ok-search_with.ensures.recorded in
    IfOk-weaker c.into_lists.result (λ lists. lists.items ≡ c.search_with.new.recorder) (λ lists. Are lists.items)
    (λ lists is. subst Are (sym is) kept) c.into_lists.ensures
