-- The years so far, and those that are left, are all of them.
use Rattle.std.proofs.Common.{◌≡◌, ◌-◌, ◌++◌}
use Rattle.definitions.specs.declared.block.Span.TheVariants.{Year}
use Rattle.definitions.specs.answers.Blocks.{blocks}
use Rattle.bounds.proofs.years.push_years.Given as goal

abbrev pub invariant-loop : goal.invariant-loop
invariant-loop l =
    l.list.items ++ blocks l.announced l.second Year (100 - l.counter) l.lo l.window.to
    ≡ l.fn.list.items ++ blocks l.announced l.second Year 100 l.window.from l.window.to
