-- Line by line, up to the last of the frame.
use Rattle.std.proofs.Common.{◌∙◌, subst, arith}
use Rattle.std.proofs.lemmas.Result.{err_from_is_err_and}
use Rattle.irig_frames.proofs.ReadLaws.{IsWithin, fall_refused, rise_refused, whole_frame, within_more, without_meaning}
use Rattle.irig_frames.proofs.read.read_frame.Goals as goal

pub returns-in_err-element-clause-refused : goal.returns-in_err-element-clause-refused
returns-in_err-element-clause-refused c =
    let p = err_from_is_err_and c.from_residual-in_err-element.result c.from_residual-in_err-element.ensures.1 in
    rw (p.1, p.2) (fall_refused c.args.frames.now c.args.text.now c.in_ok-start.start c.loop-over.over.items c.loop-over.rest.now c.loop-over.invariant
    c.as_slice.result.now c.as_slice.ensures.value c.in_err-element.field-0.0 c.in_err-element.ensures.refused)

pub returns-in_err-rest-clause-refused : goal.returns-in_err-rest-clause-refused
returns-in_err-rest-clause-refused c =
    let p = err_from_is_err_and c.from_residual-in_err-rest.result c.from_residual-in_err-rest.ensures.1 in
    rw (p.1, p.2) (rise_refused c.args.frames.now c.args.text.now c.in_ok-start.start c.loop-over.over.items c.loop-over.rest.now c.loop-over.invariant
    c.as_slice.result.now c.as_slice.ensures.value c.in_ok-element.element c.in_ok-element.low.now c.in_ok-element.ensures.element c.in_ok-element.ensures.edge
    c.as_slice-in-loop-over.result.now (c.as_slice-in-loop-over.ensures.value ∙ c.push.ensures.items) (omega (arith, c.loop-over-test.true, c.len.ensures.value))
    c.in_err-rest.field-0.0 c.in_err-rest.ensures.refused)

pub loop-over-preserved : goal.loop-over-preserved
loop-over-preserved c =
    let view = c.as_slice-in-loop-over.ensures.value in
    subst (λ es. IsWithin c.args.frames.now c.args.text.now c.in_ok-start.start es c.in_ok-rest.rest.now) view
    (within_more c.args.frames.now c.args.text.now c.in_ok-start.start c.loop-over.over.items c.loop-over.rest.now c.loop-over.invariant
    c.as_slice.result.now c.as_slice.ensures.value c.in_ok-element.element c.in_ok-element.low.now c.in_ok-element.ensures.element c.in_ok-element.ensures.edge
    c.as_slice-in-loop-over.result.now (view ∙ c.push.ensures.items) (omega (arith, c.loop-over-test.true, c.len.ensures.value))
    c.in_ok-rest.rest.now c.in_ok-rest.ensures.edge)

pub returns-in_err-element-2-clause-refused : goal.returns-in_err-element-2-clause-refused
returns-in_err-element-2-clause-refused c =
    let p = err_from_is_err_and c.from_residual-in_err-element-2.result c.from_residual-in_err-element-2.ensures.1 in
    rw (p.1, p.2) (fall_refused c.args.frames.now c.args.text.now c.in_ok-start.start c.loop-over.over.items c.loop-over.rest.now c.loop-over.invariant
    c.as_slice-2.result.now c.as_slice-2.ensures.value c.in_err-element-2.field-0.0 c.in_err-element-2.ensures.refused)

pub returns-in_default-clause-refused : goal.returns-in_default-clause-refused
returns-in_default-clause-refused c =
    let at = c.loop-over.invariant in
    without_meaning c.args.frames.now c.args.text.now c.in_ok-start.start c.loop-over.over.items c.loop-over.rest.now at
    c.as_slice-2.result.now c.as_slice-2.ensures.value c.in_ok-element-2.element c.in_ok-element-2.low.now c.in_ok-element-2.ensures.element c.in_ok-element-2.ensures.edge
    c.as_slice-3.result.now (c.as_slice-3.ensures.value ∙ c.push-2.ensures.items) c.line_number-number.result (omega (arith, at.short, c.loop-over-test.false, c.len.ensures.value))
    (omega (arith, c.line_number-number.ensures, c.len-2.ensures.value)) c.in_default.ensures.none

pub returns-clause-read : goal.returns-clause-read
returns-clause-read c =
    whole_frame c.args.frames.now c.args.text.now c.in_ok-start.start c.loop-over.over.items c.loop-over.rest.now c.loop-over.invariant
    c.as_slice-2.result.now c.as_slice-2.ensures.value c.in_ok-element-2.element c.in_ok-element-2.low.now c.in_ok-element-2.ensures.element c.in_ok-element-2.ensures.edge
    c.as_slice-3.result.now (c.as_slice-3.ensures.value ∙ c.push-2.ensures.items) c.in-Some.minute c.in-Some.second c.in-Some.ensures.second c.in-Some.ensures.told
