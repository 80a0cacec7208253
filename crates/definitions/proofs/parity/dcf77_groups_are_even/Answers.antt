-- Even parity of DCF77's groups.
use Rattle.std.proofs.Common.{◌≡◌, ◌+◌, ◌%◌, subst, arith}
use Rattle.definitions.specs.codes.Allowed.{dcf_facts}
use Rattle.definitions.specs.codes.Dcf77.{dcf_bit, date_ones, minute_weights, hour_weights}
use Rattle.definitions.specs.codes.Vocabulary.{ones}
use Rattle.definitions.proofs.ParityLaws.{dcf_group, even, date_sum}
use Rattle.definitions.proofs.parity.dcf77_groups_are_even.Goals as goal

pub returns-clause-minute : goal.returns-clause-minute
returns-clause-minute c = λ announced t.
    let f = dcf_facts announced t in
    dcf_group f 21 7 28 (omega arith) (omega arith) (omega arith) (omega arith) (even (ones minute_weights f.minute))

pub returns-clause-hour : goal.returns-clause-hour
returns-clause-hour c = λ announced t.
    let f = dcf_facts announced t in
    dcf_group f 29 6 35 (omega arith) (omega arith) (omega arith) (omega arith) (even (ones hour_weights f.hour))

pub returns-clause-date : goal.returns-clause-date
returns-clause-date c = λ announced t.
    let f = dcf_facts announced t in
    let bit = dcf_bit f in
    dcf_group f 36 22 58 (omega arith) (omega arith) (omega arith) (omega arith)
    (subst (λ m. (m + date_ones f % 2) % 2 ≡ 0)
    (date_sum (bit 36) (bit 37) (bit 38) (bit 39) (bit 40) (bit 41) (bit 42) (bit 43) (bit 44) (bit 45) (bit 46) (bit 47) (bit 48) (bit 49) (bit 50) (bit 51) (bit 52) (bit 53) (bit 54) (bit 55) (bit 56) (bit 57))
    (even (date_ones f)))
