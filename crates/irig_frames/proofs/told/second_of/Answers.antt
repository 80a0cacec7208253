-- What is found are the elements of the second that it tells, or of none.
use Rattle.std.proofs.Common.{◌∙◌, true, ap, sym, arith}
use Rattle.definitions.specs.time.Calendar.{minute_length}
use Rattle.formats.specs.Frames.{elements, told_second}
use Rattle.irig_frames.proofs.ToldLaws.{are_others, are_same, no_minute, no_second, other_elements}
use Rattle.irig_frames.proofs.told.second_of.Goals as goal

pub returns-then-minute-clause-none : goal.returns-then-minute-clause-none
returns-then-minute-clause-none c = no_minute c.args.found.now (omega (arith, c.if-minute.true, c.told_minute-minute.ensures))

pub returns-then-second-minute_length-clause-none : goal.returns-then-second-minute_length-clause-none
returns-then-second-minute_length-clause-none c =
    no_second c.args.found.now (omega (arith, c.if-second-minute_length.true, c.minute_length.ensures, c.sum_told-second.ensures.value, ap (minute_length true) c.told_minute-minute.ensures))

pub returns-then-ne-clause-none : goal.returns-then-ne-clause-none
returns-then-ne-clause-none c =
    let found = c.args.found.now in
    let second = ap (elements c.told_minute-minute.result) c.sum_told-second.ensures.value in
    let minute = ap (λ t. elements t (told_second found)) c.told_minute-minute.ensures in
    other_elements found (λ same.
    are_others c.as_slice.result.now found c.if-ne.ensures (c.as_slice.ensures ∙ (c.elements-told_by_second.ensures ∙ (second ∙ (minute ∙ same)))))

pub returns-clause-told : goal.returns-clause-told
returns-clause-told c =
    sym (c.as_slice.ensures ∙ c.elements-told_by_second.ensures) ∙ are_same c.as_slice.result.now c.args.found.now c.if-ne.ensures
