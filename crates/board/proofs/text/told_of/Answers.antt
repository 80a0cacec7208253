-- Queries are told as they are read; a bad line is refused.
use Rattle.std.proofs.Common.{IfSome, sym, ◌∙◌, subst}
use Rattle.board_due.specs.Queries.{IsRefused}
use Rattle.board.proofs.TextLaws.{queries_told}
use Rattle.board.proofs.text.told_of.Goals as goal

pub returns-in-Ok-clause-told : goal.returns-in-Ok-clause-told
returns-in-Ok-clause-told c = queries_told c.args.bytes.now c.in-Ok.queries.items c.new.result c.requires c.in-Ok.ensures.accepted c.new.ensures

pub returns-in-Some-clause-told : goal.returns-in-Some-clause-told
returns-in-Some-clause-told c =
    (c.requires, subst (λ o. IfSome o (IsRefused c.args.bytes.now)) (sym c.bad_line.ensures ∙ c.in-Some.is) c.in-Err.ensures.refused)
