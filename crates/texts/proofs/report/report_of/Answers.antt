use Rattle.std.proofs.Common.{sym}
use Rattle.std.proofs.lemmas.List.{append-nil}
use Rattle.texts.proofs.report.report_of.Goals as goal

pub returns-in-Decided : goal.returns-in-Decided
returns-in-Decided c =
    rw (
      c.in-Decided.is,
      c.push_minutes.ensures,
      c.push_duts.ensures.bytes,
      c.push-in-Decided-4.ensures.bytes,
      c.next_line.ensures,
      c.push-in-Decided-3.ensures.bytes,
      c.sequence_line.ensures,
      c.push-in-Decided-2.ensures.bytes,
      c.phase_line-in-Decided.ensures,
      c.push-in-Decided.ensures.bytes,
      c.number_line.ensures,
      c.new-page.ensures.bytes,
    )

pub returns-in-Undecided : goal.returns-in-Undecided
returns-in-Undecided c =
    rw (
      c.in-Undecided.is,
      c.push-in-Undecided-4.ensures.bytes,
      c.sequence_line-in-Undecided-2.ensures,
      c.push-in-Undecided-3.ensures.bytes,
      c.sequence_line-in-Undecided.ensures,
      c.push-in-Undecided-2.ensures.bytes,
      c.phase_line-in-Undecided.ensures,
      c.push-in-Undecided.ensures.bytes,
      c.number_line-in-Undecided.ensures,
      c.new-page.ensures.bytes,
    ) (sym (append-nil _))
