-- Odd parity of MSF's groups.
use Rattle.std.proofs.Common.{◌≡◌, ◌+◌, ◌%◌, refl, subst, arith}
use Rattle.definitions.specs.codes.Allowed.{is_long, msf_facts}
use Rattle.definitions.specs.codes.Msf.{bit_a, odd_parity, year_weights, month_weights, day_weights, weekday_weights, hour_weights, minute_weights}
use Rattle.definitions.specs.codes.Vocabulary.{ones}
use Rattle.definitions.proofs.ParityLaws.{msf_group, odd, month_and_day, hour_and_minute}
use Rattle.definitions.proofs.parity.msf_groups_are_odd.Goals as goal

pub returns-clause-year : goal.returns-clause-year
returns-clause-year c = λ announced t.
    let f = msf_facts announced t in
    let sum = odd (ones year_weights f.year) in
    msf_group f 17 8 54 (omega arith) (omega arith) (omega arith) (omega arith) sum sum (is_long announced t) refl

pub returns-clause-date : goal.returns-clause-date
returns-clause-date c = λ announced t.
    let f = msf_facts announced t in
    let n = ones month_weights f.month + ones day_weights f.day in
    let bit = bit_a f in
    let sum = subst (λ m. (m + odd_parity n) % 2 ≡ 1)
    (month_and_day (bit 25) (bit 26) (bit 27) (bit 28) (bit 29) (bit 30) (bit 31) (bit 32) (bit 33) (bit 34) (bit 35)) (odd n) in
    msf_group f 25 11 55 (omega arith) (omega arith) (omega arith) (omega arith) sum sum (is_long announced t) refl

pub returns-clause-weekday : goal.returns-clause-weekday
returns-clause-weekday c = λ announced t.
    let f = msf_facts announced t in
    let sum = odd (ones weekday_weights f.weekday) in
    msf_group f 36 3 56 (omega arith) (omega arith) (omega arith) (omega arith) sum sum (is_long announced t) refl

pub returns-clause-time : goal.returns-clause-time
returns-clause-time c = λ announced t.
    let f = msf_facts announced t in
    let n = ones hour_weights f.hour + ones minute_weights f.minute in
    let bit = bit_a f in
    let sum = subst (λ m. (m + odd_parity n) % 2 ≡ 1)
    (hour_and_minute (bit 39) (bit 40) (bit 41) (bit 42) (bit 43) (bit 44) (bit 45) (bit 46) (bit 47) (bit 48) (bit 49) (bit 50) (bit 51)) (odd n) in
    msf_group f 39 13 57 (omega arith) (omega arith) (omega arith) (omega arith) sum sum (is_long announced t) refl
