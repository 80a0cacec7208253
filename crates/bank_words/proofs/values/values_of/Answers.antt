use Rattle.std.proofs.Common.{subst, sym}
use Rattle.bank_words.specs.Gives.{Gives}
use Rattle.bank_words.specs.Seen.{parts_seen}
use Rattle.bank_words.proofs.RestLaws.{values_of-rest}
use Rattle.bank_words.proofs.values.values_of.Goals as goal

pub returns : goal.returns
returns c =
    subst (Gives (λ v. v) c.behind_range.result)
    (sym (values_of-rest (parts_seen c.args.line.now) _ _ _ _ _ _ _ _
    c.in_ok-number.ensures.value c.in_ok-minute.ensures.value c.in_ok-start.ensures.value
    c.in_ok-seconds.ensures.value c.in_ok-from.ensures.value c.in_ok-to.ensures.value c.narrow.ensures c.narrow-2.ensures))
    c.behind_range.ensures
