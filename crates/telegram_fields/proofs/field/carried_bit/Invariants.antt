use Rattle.std.proofs.Common.{◌≡◌, drop}
use Rattle.definitions.specs.codes.Vocabulary.{carried_bit}
use Rattle.telegram_fields.proofs.field.carried_bit.Given as goal

abbrev pub invariant-loop-field : goal.invariant-loop-field
invariant-loop-field l = carried_bit (drop l.field-index l.fields) l.second ≡ carried_bit l.fields l.second
