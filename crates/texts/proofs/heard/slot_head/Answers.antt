-- The parts are put together.
use Rattle.std.specs.Fmt.{decimal}
use Rattle.definitions.specs.time.Spelling.{minute_text}
use Rattle.texts.proofs.HeardLaws.{head_parts}
use Rattle.texts.proofs.heard.slot_head.Goals as goal

pub returns : goal.returns
returns c =
    let s = c.args.slot.now in
    head_parts _ _ _ _ _ _ (decimal s.slot) (minute_text s.minute) (decimal s.second) c.new-text.ensures c.push_str.ensures.bytes c.push_number.ensures.bytes c.push_str-2.ensures.bytes
    c.push_minute.ensures.bytes c.push_str-3.ensures.bytes _ c.push_number-2.ensures.bytes
