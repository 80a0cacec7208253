use Rattle.texts.proofs.trial.summary_of.Goals as goal

pub returns : goal.returns
returns c =
    rw (
      c.push_answer.ensures,
      c.push-4.ensures.bytes,
      c.sequence_line.ensures,
      c.push-3.ensures.bytes,
      c.number_line-2.ensures,
      c.push-2.ensures.bytes,
      c.station_line.ensures,
      c.push.ensures.bytes,
      c.number_line.ensures,
      c.new-page.ensures.bytes,
    )
