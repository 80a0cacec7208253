-- What stands before the first space.
use Rattle.std.proofs.lemmas.List.{take_rest}
use Rattle.formats.specs.Bytes.{space}
use Rattle.certificate_texts.proofs.FieldLaws.{field_before, no_field}
use Rattle.certificate_texts.proofs.fields.field_in.Goals as goal

pub returns-in_err-end-clause-none : goal.returns-in_err-end-clause-none
returns-in_err-end-clause-none c = rw c.from_residual.ensures (no_field space c.args.text.now c.in_err-end.ensures)

pub returns-clause-first : goal.returns-clause-first
returns-clause-first c = (field_before space c.args.text.now c.in_ok-end.end c.in_ok-end.ensures).0

pub returns-clause-parts : goal.returns-clause-parts
returns-clause-parts c = rw take_rest (field_before space c.args.text.now c.in_ok-end.end c.in_ok-end.ensures).1
