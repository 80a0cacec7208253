-- A set that is scored and leaves no choice has one symbol.
use Rattle.std.proofs.Common.{◌≡◌, ◌<◌, ℕ, Some, subst}
use Rattle.std.specs.Int.{trailing_zeros, w8}
use Rattle.signal_base.specs.Waveform.{symbol_count}
use Rattle.symbol_cost.specs.Grid.{cost_at}
use Rattle.heard.proofs.SymbolLaws.{of_set}
use Rattle.heard.proofs.symbols.symbol_of_set.Goals as goal

some_same : (a b : ℕ) → Some a ≡ Some b → a ≡ b
some_same a b e = cc

pub returns-clause-symbol : goal.returns-clause-symbol
returns-clause-symbol c =
    let g = c.args.grid.now in
    (of_set g.station (cost_at g.rows c.args.slot) c.args.set c.requires.set c.if-set-eq-UNSCORED.false c.if-set-eq-FREE.false).symbol

pub returns-clause-known : goal.returns-clause-known
returns-clause-known c x e =
    let g = c.args.grid.now in
    subst (λ (y : ℕ). y < symbol_count g.station) (some_same (trailing_zeros w8 c.args.set) x e)
    (of_set g.station (cost_at g.rows c.args.slot) c.args.set c.requires.set c.if-set-eq-UNSCORED.false c.if-set-eq-FREE.false).known
