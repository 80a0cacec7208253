-- The blocks of the seconds so far, and those of the seconds that are left, are all of them.
use Rattle.std.proofs.Common.{◌≡◌, ◌-◌, ◌++◌, true, false}
use Rattle.std.specs.List.{range_with_len, flat_map}
use Rattle.definitions.specs.declared.block.Span.TheVariants.{Year}
use Rattle.definitions.specs.answers.Blocks.{blocks, items}
use Rattle.bounds.proofs.years.items.Given as goal

abbrev pub invariant-loop-second : goal.invariant-loop-second
invariant-loop-second l =
    l.list.items ++ (flat_map (λ p. blocks false p Year 100 l.window.from l.window.to) (range_with_len l.second (60 - l.second))
    ++ flat_map (λ p. blocks true p Year 100 l.window.from l.window.to) (range_with_len 0 61))
    ≡ items l.window

abbrev pub invariant-loop-second-2 : goal.invariant-loop-second-2
invariant-loop-second-2 l =
    l.list.items ++ flat_map (λ p. blocks true p Year 100 l.window.from l.window.to) (range_with_len l.second (61 - l.second))
    ≡ items l.window
