use Rattle.std.proofs.Common.{rules}
use Rattle.telegram_fields.proofs.Calls.{made_by_calls}
use Rattle.definitions.specs.codes.Msf.{msf_second}
use Rattle.msf_code.proofs.telegram.Goals as goal

pub returns-then-facts : goal.returns-then-facts
returns-then-facts c =
    made_by_calls _ (msf_second c.args.facts.now) _ (λ i x f' call. search rules) _ 61 c.from_fn.ensures.items
