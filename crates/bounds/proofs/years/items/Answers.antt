use Rattle.std.proofs.Common.{◌≡◌, ◌-◌, true, false, ap, sym, subst, arith}
use Rattle.std.specs.List.{range_with_len, flat_map, AllByRecursion}
use Rattle.definitions.specs.declared.block.Span.TheVariants.{Year}
use Rattle.definitions.specs.answers.Blocks.{blocks, IsBlock}
use Rattle.definitions.proofs.BlockLaws.{items_are_blocks}
use Rattle.bounds.proofs.BlockLists.{finished, moved, second_then, second_then_more}
use Rattle.bounds.proofs.years.items.Goals as goal

pub loop-second-preserved : goal.loop-second-preserved
loop-second-preserved c =
    let window = c.args.window.now in
    let later = flat_map (λ p. blocks true p Year 100 window.from window.to) (range_with_len 0 61) in
    let next = second_then_more (λ p. blocks false p Year 100 window.from window.to) c.loop-second.second 60 later c.loop-second-test.true in
    rw c.in_ok-push_years.ensures (moved _ _ _ _ _ next c.loop-second.invariant)

pub loop-second-2-preserved : goal.loop-second-2-preserved
loop-second-2-preserved c =
    let window = c.args.window.now in
    let next = second_then (λ p. blocks true p Year 100 window.from window.to) c.loop-second-2.second 61 c.loop-second-2-test.true in
    rw c.in_ok-push_years-2.ensures (moved _ _ _ _ _ next c.loop-second-2.invariant)

pub returns-clause-value : goal.returns-clause-value
returns-clause-value c =
    let window = c.args.window.now in
    let second = c.loop-second-2.second in
    let over : 61 - second ≡ 0 = omega arith in
    let none = ap (λ n. flat_map (λ p. blocks true p Year 100 window.from window.to) (range_with_len second n)) over in
    finished _ _ _ none c.loop-second-2.invariant

pub returns-clause-blocks : goal.returns-clause-blocks
returns-clause-blocks c =
    let window = c.args.window.now in
    subst (λ bs. AllByRecursion (IsBlock window) bs) (sym (returns-clause-value c)) (items_are_blocks window c.requires.century)
