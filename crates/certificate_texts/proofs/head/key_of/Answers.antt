-- A number that is no key.
use Rattle.std.proofs.Common.{arith}
use Rattle.certificate_texts.proofs.HeadLaws.{not_named}
use Rattle.certificate_texts.proofs.head.key_of.Goals as goal

pub returns-then-key-clause-none : goal.returns-then-key-clause-none
returns-then-key-clause-none c =
    not_named c.args.field.now c.in_ok-key.key c.in_ok-key.ensures.small c.in_ok-key.ensures.some (λ can. omega (arith, c.if-key.true, can.0))

pub returns-then-key-2-clause-none : goal.returns-then-key-2-clause-none
returns-then-key-2-clause-none c =
    not_named c.args.field.now c.in_ok-key.key c.in_ok-key.ensures.small c.in_ok-key.ensures.some (λ can. omega (arith, c.if-key-2.true, can.1))
