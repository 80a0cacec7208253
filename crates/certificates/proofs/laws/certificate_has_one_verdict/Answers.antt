-- What a verdict asks can be decided, and each case excludes the others.
use Rattle.std.proofs.Common.{◌≡◌, ℕ, Option}
use Rattle.definitions.specs.declared.block.Block.{Block}
use Rattle.definitions.specs.answers.Blocks.{IsBound}
use Rattle.certificates.proofs.VerdictLaws.{certified_valid, decide_of, one_verdict, some_verdict, valid_certified}
use Rattle.certificates.proofs.laws.certificate_has_one_verdict.Goals as goal

pub returns-clause-some : goal.returns-clause-some
returns-clause-some c costs window ceiling d =
    some_verdict costs window (λ b. c.bound_exists.ensures.bound costs window b) (λ b. c.bound_is_one.ensures.bound costs window b) ceiling d (decide_of window ceiling d)

pub returns-clause-one : goal.returns-clause-one
returns-clause-one c costs window ceiling d =
    one_verdict costs window (λ b. c.bound_exists.ensures.bound costs window b) (λ b. c.bound_is_one.ensures.bound costs window b) ceiling d

pub returns-clause-certified : goal.returns-clause-certified
returns-clause-certified c costs window ceiling d spelled =
    let exists : (b : Block) → (m : Option ℕ) × IsBound costs window b m = λ b. c.bound_exists.ensures.bound costs window b in
    let one : (b : Block) (m n : Option ℕ) → IsBound costs window b m → IsBound costs window b n → m ≡ n = λ b. c.bound_is_one.ensures.bound costs window b in
    (certified_valid costs window exists one ceiling d spelled, valid_certified costs window exists one ceiling d)
