use Rattle.std.proofs.Common.{◌∙◌, get_or, sym, ap, arith}
use Rattle.std.proofs.lemmas.List.{ext_get_or}
use Rattle.std.specs.Cmp.Lexicographic.{other_text, same_text}
use Rattle.minute_parts.proofs.part.same.Goals as goal

pub returns-clause-same : goal.returns-clause-same
returns-clause-same c = λ is s lt. ap (λ xs. get_or xs s 0) (same_text c.args.a.now c.args.b.now (sym is ∙ c.eq.ensures))

pub returns-clause-differ : goal.returns-clause-differ
returns-clause-differ c = λ is all.
    other_text c.args.a.now c.args.b.now (sym is ∙ c.eq.ensures)
    (ext_get_or 0 c.args.a.now c.args.b.now (omega arith) (λ s lt. all s (omega arith)))
