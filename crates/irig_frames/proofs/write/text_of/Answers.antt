use Rattle.std.proofs.Common.{◌∙◌, ap, arith}
use Rattle.formats.specs.Frames.{pulses}
use Rattle.irig_frames.proofs.TextLaws.{pulses_all}
use Rattle.irig_frames.proofs.write.text_of.Goals as goal

pub returns : goal.returns
returns c =
    let frame = c.args.frame.now in
    let elements = c.elements-elements.result in
    pulses_all c.loop-i.text.bytes (pulses frame.at elements) elements c.loop-i.ms c.loop-i.i (omega (arith, c.loop-i.invariant.long, c.loop-i-test.false)) c.loop-i.invariant.so_far
    ∙ ap (pulses frame.at) c.elements-elements.ensures
