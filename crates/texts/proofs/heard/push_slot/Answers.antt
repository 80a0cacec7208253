-- The parts of the line are put together.
use Rattle.std.proofs.Common.{Some}
use Rattle.std.specs.Fmt.{decimal}
use Rattle.definitions.specs.time.Spelling.{minute_text}
use Rattle.formats.specs.Bytes.{station_name}
use Rattle.formats.specs.Heard.{symbol_text}
use Rattle.texts.proofs.HeardLaws.{slot_parts}
use Rattle.texts.proofs.heard.push_slot.Goals as goal

pub returns-clause-bytes : goal.returns-clause-bytes
returns-clause-bytes c =
    let s = c.args.slot.now in
    slot_parts _ _ _ _ _ _ _ (decimal s.slot) (minute_text s.minute) (decimal s.second) (station_name s.station) (symbol_text s.station s.sent) (decimal s.cost)
    (symbol_text s.station (Some s.best)) (decimal s.best_cost) c.push.ensures.bytes c.push-2.ensures.bytes c.push-3.ensures.bytes c.slot_head.ensures c.slot_sent.ensures c.slot_best.ensures
