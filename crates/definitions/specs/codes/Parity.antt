-- Groups of seconds that a parity bit guards, by what each of these seconds may carry.
use Rattle.std.specs.Prelude.{ℕ, ◌+◌, ◌*◌, ◌%◌, ◌<◌, ◌≤◌, ◌≡◌, Bool, if◌then◌else◌, sum_by}
use Rattle.std.specs.List.{range_with_len}
use Rattle.definitions.specs.codes.Vocabulary.{only}
use Rattle.definitions.specs.codes.Allowed.{is_long}

-- a second may carry this one bit
abbrev pub CarriesBit : (ℕ → ℕ) → (ℕ → ℕ) → ℕ → Type 0
CarriesBit sets bits s = (bits s < 2) × (sets s ≡ only (bits s))

-- The n seconds from the first on and the last one may carry one bit each; of these bits an even number is 1.
pub record IsEvenGroup (sets : ℕ → ℕ) (first n last : ℕ) : Type 0 where
  pub bits : ℕ → ℕ
  pub each : (s : ℕ) → first ≤ s → s < first + n → CarriesBit sets bits s
  pub parity : CarriesBit sets bits last
  pub even : (sum_by bits (range_with_len first n) + bits last) % 2 ≡ 0

-- a second of MSF may carry these bits A and B
abbrev pub CarriesPair : (ℕ → ℕ) → (ℕ → ℕ) → (ℕ → ℕ) → ℕ → Type 0
CarriesPair sets a b s = (a s < 2) × (b s < 2) × (sets s ≡ only (2 * a s + b s))

-- The n seconds from the first on and the last one may carry one bit A and one bit B each; of the bits A of the ones and
-- the bit B of the other an odd number is 1.
pub record IsOddGroup (sets : ℕ → ℕ) (first n last : ℕ) : Type 0 where
  pub a : ℕ → ℕ
  pub b : ℕ → ℕ
  pub each : (s : ℕ) → first ≤ s → s < first + n → CarriesPair sets a b s
  pub parity : CarriesPair sets a b last
  pub odd : (sum_by a (range_with_len first n) + b last) % 2 ≡ 1

-- the second of a minute in which MSF sends a code second after 16: one later in a minute of 61 seconds
abbrev pub sent_in : Bool → ℕ → ℕ → ℕ
sent_in announced t s = if is_long announced t then s + 1 else s
