-- Blocks of one span.
use Rattle.std.specs.Prelude.{◌≡◌, List}
use Rattle.std.specs.List.{AllByRecursion}
use Rattle.signal_base.specs.declared.window.Window.{Window}
use Rattle.definitions.specs.declared.block.Block.{Block}
use Rattle.definitions.specs.declared.block.Span.{Span}
use Rattle.definitions.specs.answers.Blocks.{IsBlock}

-- blocks of a window, each of this span
abbrev pub AreOf : Window → Span → List Block → Type 0
AreOf window span bs = AllByRecursion (λ b. IsBlock window b × (b.span ≡ span)) bs
