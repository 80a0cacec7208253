-- Even parity of JJY's groups.
use Rattle.std.proofs.Common.{◌≡◌, ◌+◌, ◌%◌, inl, inr, subst, arith}
use Rattle.definitions.specs.codes.Allowed.{jjy_facts}
use Rattle.definitions.specs.codes.Jjy.{jjy_bit, hour_weights, minute_weights}
use Rattle.definitions.specs.codes.Vocabulary.{ones}
use Rattle.definitions.proofs.ParityLaws.{jjy_group, jjy_hour, jjy_minute, even, unmarked}
use Rattle.definitions.proofs.parity.jjy_groups_are_even.Goals as goal

pub returns-clause-hour : goal.returns-clause-hour
returns-clause-hour c = λ announced t.
    let f = jjy_facts announced t in
    jjy_group f 12 7 36 (λ s le lt. unmarked f s (inr (inl (omega (arith, le), omega (arith, lt))))) (omega arith)
    (unmarked f 36 (inr (inr (omega arith, omega arith)))) (omega arith)
    (subst (λ m. (m + ones hour_weights f.hour % 2) % 2 ≡ 0)
    (jjy_hour (jjy_bit f 12) (jjy_bit f 13) (jjy_bit f 15) (jjy_bit f 16) (jjy_bit f 17) (jjy_bit f 18))
    (even (ones hour_weights f.hour)))

pub returns-clause-minute : goal.returns-clause-minute
returns-clause-minute c = λ announced t.
    let f = jjy_facts announced t in
    jjy_group f 1 8 37 (λ s le lt. unmarked f s (inl (omega (arith, le), omega (arith, lt)))) (omega arith)
    (unmarked f 37 (inr (inr (omega arith, omega arith)))) (omega arith)
    (subst (λ m. (m + ones minute_weights f.minute % 2) % 2 ≡ 0)
    (jjy_minute (jjy_bit f 1) (jjy_bit f 2) (jjy_bit f 3) (jjy_bit f 5) (jjy_bit f 6) (jjy_bit f 7) (jjy_bit f 8))
    (even (ones minute_weights f.minute)))
