use Rattle.std.proofs.Common.{rules}
use Rattle.telegram_fields.proofs.Calls.{made_by_calls}
use Rattle.formats.specs.Frames.{element}
use Rattle.irig_frames.proofs.table.elements_on.Goals as goal

pub returns : goal.returns
returns c =
    made_by_calls _ (element c.args.fields.now c.args.second) _ (λ i x f' call. search rules) _ 100 c.from_fn.ensures.items
