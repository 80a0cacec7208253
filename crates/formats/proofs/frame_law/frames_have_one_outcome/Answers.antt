use Rattle.std.proofs.Common.{refl, sym}
use Rattle.formats.proofs.FrameOutcomeLaws.{one_list, one_refusal, text_has_outcome, text_not_refused}
use Rattle.formats.proofs.frame_law.frames_have_one_outcome.Goals as goal

pub returns : goal.returns
returns c = record {
  some = text_has_outcome;
  one_list = one_list;
  one_fault = one_refusal;
  not_both = text_not_refused;
  written = λ frames order. (order, refl);
  same = λ text frames is. sym is.1;
}
