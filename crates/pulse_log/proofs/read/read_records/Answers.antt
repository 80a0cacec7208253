-- Each line is skipped, is one more record, or is the first bad one.
use Rattle.std.proofs.Common.{arith, sym, subst}
use Rattle.std.proofs.lemmas.Bool.{iff_false}
use Rattle.definitions.specs.heard.Logs.{Records}
use Rattle.formats.specs.declared.fault.LineFault.TheVariants.{NotRising, TooManyRecords}
use Rattle.formats.specs.LogLines.{IsLater}
use Rattle.pulse_log.proofs.ReadLaws.{HasRead-skipped, HasRead-record, IsRefused-read}
use Rattle.pulse_log.proofs.read.read_records.Goals as goal

pub loop-rest-preserved-in-Skipped : goal.loop-rest-preserved-in-Skipped
loop-rest-preserved-in-Skipped c = record {
  so_far = HasRead-skipped c.args.bytes.now c.loop-rest.rest.now c.first_line.result.1.now c.first_line.result.0.now c.loop-rest.number c.loop-rest.records.items c.loop-rest.invariant.so_far c.first_line.ensures.lines c.in-Skipped.ensures;
  small = omega arith;
}

pub returns-then-not-is_later-clause-refused : goal.returns-then-not-is_later-clause-refused
returns-then-not-is_later-clause-refused c =
    IsRefused-read c.args.bytes.now c.loop-rest.rest.now c.first_line.result.1.now c.first_line.result.0.now c.loop-rest.number c.loop-rest.records.items NotRising c.loop-rest.invariant.so_far c.first_line.ensures.lines
    ((c.in-Record.time, c.in-Record.level), c.in-Record.ensures, λ later. iff_false c.is_later.ensures c.if-not-is_later.true (subst (λ (rs : Records). IsLater rs c.in-Record.time) (sym c.as_slice.ensures.value) later))

pub returns-then-len-ge-MOST_RECORDS-clause-refused : goal.returns-then-len-ge-MOST_RECORDS-clause-refused
returns-then-len-ge-MOST_RECORDS-clause-refused c =
    let later = subst (λ (rs : Records). IsLater rs c.in-Record.time) c.as_slice.ensures.value (c.is_later.ensures.0 c.if-not-is_later.false) in
    IsRefused-read c.args.bytes.now c.loop-rest.rest.now c.first_line.result.1.now c.first_line.result.0.now c.loop-rest.number c.loop-rest.records.items TooManyRecords c.loop-rest.invariant.so_far c.first_line.ensures.lines
    ((c.in-Record.time, c.in-Record.level), c.in-Record.ensures, later, omega (arith, c.loop-rest.records.ok.0))

pub loop-rest-preserved : goal.loop-rest-preserved
loop-rest-preserved c =
    let later = subst (λ (rs : Records). IsLater rs c.in-Record.time) c.as_slice.ensures.value (c.is_later.ensures.0 c.if-not-is_later.false) in
    record {
      so_far = rw c.in_ok-push-in-Record.ensures.items (HasRead-record c.args.bytes.now c.loop-rest.rest.now c.first_line.result.1.now c.first_line.result.0.now c.loop-rest.number c.loop-rest.records.items (c.in-Record.time, c.in-Record.level) c.loop-rest.invariant.so_far c.first_line.ensures.lines c.in-Record.ensures later (omega (arith, c.loop-rest.records.ok.0)));
      small = omega arith;
    }
