-- One empty part after the other, and the end.
use Rattle.std.proofs.Common.{refl, arith}
use Rattle.certificate_texts.proofs.LineLaws.{tail_all, worker_more}
use Rattle.certificate_texts.proofs.lines.tail_text.Goals as goal

pub loop-part-init : goal.loop-part-init
loop-part-init c = record { so_far = rw c.new-text.ensures refl; some = omega arith; most = omega arith; room = rw c.new-text.ensures (omega arith) }

pub loop-part-preserved : goal.loop-part-preserved
loop-part-preserved c = record {
  so_far = worker_more c.args.parts _ _ _ _ _ c.loop-part.part c.loop-part-test.true c.push_str.ensures.bytes c.push_number.ensures.bytes c.push_str-in-loop-part.ensures.bytes
      c.loop-part.invariant.so_far;
  some = omega arith;
  most = omega (arith, c.loop-part-test.true, c.requires);
  room = omega (arith, c.loop-part.invariant.room, c.push_str.ensures.len, c.push_number.ensures.len, c.push_str-in-loop-part.ensures.len);
}

pub returns : goal.returns
returns c = tail_all c.args.parts _ _ _ c.loop-part.part c.loop-part-test.false c.push_str-2.ensures.bytes c.loop-part.invariant.so_far
