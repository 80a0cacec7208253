use Rattle.std.proofs.Common.{ℕ, ◌<◌, List, [], length, get_or, ap, ◌∙◌, arith}
use Rattle.std.proofs.lemmas.List.{get_or_default}
use Rattle.slot_columns.proofs.day_columns.Day.column.Goals as goal

pub returns-clause-bound : goal.returns-clause-bound
returns-clause-bound c = λ i reached.
    let columns = c.self.inside.columns.items in
    let are = c.self.invariant in
    let within : c.args.s < length columns = omega (arith, c.requires, are.count) in
    let column = c.index.ensures ∙ get_or_default columns c.args.s c.index.result.now [] within in
    omega (arith, ap (λ (xs : List ℕ). get_or xs i 0) column, are.bound c.args.s i c.requires reached)
