-- Each field is that of any step that the text spells.
use Rattle.std.proofs.Common.{arith, sym}
use Rattle.certificate_texts.proofs.ReadStepLaws.{flags, from_announced, from_hi, from_lo, from_second, from_span, kinds, no_bound, no_hi, seconds, spans, spelled}
use Rattle.certificate_texts.proofs.step.step_in.Goals as goal

pub returns-in_err-kind-clause-none : goal.returns-in_err-kind-clause-none
returns-in_err-kind-clause-none c = rw c.from_residual.ensures (λ l is e. c.in_err-kind.ensures.none l.kind (from_span l) (sym e))

pub returns-in_err-span-clause-none : goal.returns-in_err-span-clause-none
returns-in_err-span-clause-none c =
    let kind = c.in_ok-kind.kind in
    rw c.from_residual-in_err-span.ensures
    (λ l is e. c.in_err-span.ensures.none l.block.span (from_announced l) (sym (kinds c.args.text.now kind.value kind.rest.now c.in_ok-kind.ensures.some l is e).1))

pub returns-in_err-announced-clause-none : goal.returns-in_err-announced-clause-none
returns-in_err-announced-clause-none c =
    let kind = c.in_ok-kind.kind in
    let span = c.in_ok-span.span in
    rw c.from_residual-in_err-announced.ensures
    (λ l is e.
    c.in_err-announced.ensures.none l.block.announced (from_second l)
    (sym (spans c.args.text.now kind.value kind.rest.now c.in_ok-kind.ensures.some span.value span.rest.now c.in_ok-span.ensures.some l is e).1))

pub returns-in_err-second-clause-none : goal.returns-in_err-second-clause-none
returns-in_err-second-clause-none c =
    let kind = c.in_ok-kind.kind in
    let span = c.in_ok-span.span in
    let announced = c.in_ok-announced.announced in
    rw c.from_residual-in_err-second.ensures
    (λ l is e.
    c.in_err-second.ensures.none l.block.second (from_lo l) (omega arith) is.second
    (sym (flags c.args.text.now kind.value kind.rest.now c.in_ok-kind.ensures.some span.value span.rest.now c.in_ok-span.ensures.some announced.value announced.rest.now
    c.in_ok-announced.ensures.some l is e).1))

pub returns-in_err-lo-clause-none : goal.returns-in_err-lo-clause-none
returns-in_err-lo-clause-none c =
    let kind = c.in_ok-kind.kind in
    let span = c.in_ok-span.span in
    let announced = c.in_ok-announced.announced in
    let second = c.in_ok-second.second in
    rw c.from_residual-in_err-lo.ensures
    (λ l is e.
    c.in_err-lo.ensures.none l.block.lo (from_hi l) (omega arith) (omega (arith, is.not_empty, is.century))
    (sym (seconds c.args.text.now kind.value kind.rest.now c.in_ok-kind.ensures.some span.value span.rest.now c.in_ok-span.ensures.some announced.value announced.rest.now
    c.in_ok-announced.ensures.some second.value second.rest.now (omega (arith, c.in_ok-second.ensures.range)) c.in_ok-second.ensures.some l is e).1))

pub returns-in_err-hi-clause-none : goal.returns-in_err-hi-clause-none
returns-in_err-hi-clause-none c =
    let kind = c.in_ok-kind.kind in
    let span = c.in_ok-span.span in
    let announced = c.in_ok-announced.announced in
    let second = c.in_ok-second.second in
    let lo = c.in_ok-lo.lo in
    rw c.from_residual-in_err-hi.ensures
    (no_hi c.args.text.now kind.value kind.rest.now c.in_ok-kind.ensures.some span.value span.rest.now c.in_ok-span.ensures.some announced.value announced.rest.now
    c.in_ok-announced.ensures.some second.value second.rest.now (omega (arith, c.in_ok-second.ensures.range)) c.in_ok-second.ensures.some lo.value lo.rest.now
    (omega (arith, c.in_ok-lo.ensures.range)) c.in_ok-lo.ensures.some c.in_err-hi.ensures.none)

pub returns-in_err-bound-clause-none : goal.returns-in_err-bound-clause-none
returns-in_err-bound-clause-none c =
    let kind = c.in_ok-kind.kind in
    let span = c.in_ok-span.span in
    let announced = c.in_ok-announced.announced in
    let second = c.in_ok-second.second in
    let lo = c.in_ok-lo.lo in
    let hi = c.in_ok-hi.hi in
    rw c.from_residual-in_err-bound.ensures
    (no_bound c.args.text.now kind.value kind.rest.now c.in_ok-kind.ensures.some span.value span.rest.now c.in_ok-span.ensures.some announced.value announced.rest.now
    c.in_ok-announced.ensures.some second.value second.rest.now (omega (arith, c.in_ok-second.ensures.range)) c.in_ok-second.ensures.some lo.value lo.rest.now
    (omega (arith, c.in_ok-lo.ensures.range)) c.in_ok-lo.ensures.some hi.value hi.rest.now (omega (arith, c.in_ok-hi.ensures.range)) c.in_ok-hi.ensures.some
    c.in_err-bound.ensures.none)

pub returns-clause-some : goal.returns-clause-some
returns-clause-some c =
    let kind = c.in_ok-kind.kind in
    let span = c.in_ok-span.span in
    let announced = c.in_ok-announced.announced in
    let second = c.in_ok-second.second in
    let lo = c.in_ok-lo.lo in
    let hi = c.in_ok-hi.hi in
    let bound = c.in_ok-bound.bound in
    record {
      is_line = record {
        second = omega (arith, c.in_ok-second.ensures.range);
        not_empty = omega (arith, c.in_ok-hi.ensures.range);
        century = omega (arith, c.in_ok-hi.ensures.range);
        shape = c.in_ok-bound.ensures.some.0;
      };
      text = spelled c.args.text.now kind.value kind.rest.now c.in_ok-kind.ensures.some span.value span.rest.now c.in_ok-span.ensures.some announced.value announced.rest.now
          c.in_ok-announced.ensures.some second.value second.rest.now (omega (arith, c.in_ok-second.ensures.range)) c.in_ok-second.ensures.some lo.value lo.rest.now
          (omega (arith, c.in_ok-lo.ensures.range)) c.in_ok-lo.ensures.some hi.value hi.rest.now (omega (arith, c.in_ok-hi.ensures.range)) c.in_ok-hi.ensures.some
          bound.value c.in_ok-bound.ensures.some.1;
    }
