use Rattle.std.proofs.Common.{rules}
use Rattle.telegram_fields.proofs.Calls.{made_by_calls}
use Rattle.definitions.specs.codes.Jjy.{jjy_second}
use Rattle.jjy_code.proofs.telegram.Goals as goal

pub returns-then-is_call_minute : goal.returns-then-is_call_minute
returns-then-is_call_minute c =
    made_by_calls _ (jjy_second c.args.facts.now) _ (λ i x f' call. search rules) _ 61 c.from_fn.ensures.items
