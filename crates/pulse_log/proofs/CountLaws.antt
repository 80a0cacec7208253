-- The low milliseconds that are counted while the records are gone through.
use Rattle.std.proofs.Common.{◌≡◌, ℕ, ◌+◌, ◌-◌, ◌<◌, ◌≤◌, length, get_or, Option, Some, None, refl, sym, ap, ◌∙◌, subst, arith}
use Rattle.std.specs.Option.{ForSome}
use Rattle.definitions.specs.declared.level.Level.{Level}
use Rattle.definitions.specs.heard.Logs.{Records, low_count}
use Rattle.definitions.proofs.CostLaws.{IsAtMost, low_count_bound}
use Rattle.formats.specs.LogOrder.{IsRising}
use Rattle.pulse_log.specs.Place.{StandsAfter, count_levels, level_after}
use Rattle.pulse_log.proofs.PlaceLaws.{low_count-until}

-- of the milliseconds below `to` those before `at` are counted, and n records aren't after it
pub record IsCounted (log : Records) (from to at n : ℕ) (low : Option ℕ) : Type 0 where
  pub started : from ≤ at
  pub within : at ≤ to
  pub place : StandsAfter log at n
  pub counted : low ≡ low_count log from (at - from)

-- up to the next record, or to any millisecond after the last one
pub counted_more : (log : Records) (from to at until n : ℕ) (low : Option ℕ) → IsRising log → IsCounted log from to at n low → at ≤ until → ((d : ℕ × Level) → n < length log → until ≤ (get_or log n d).0)
    → count_levels (level_after log n) (until - at) low ≡ low_count log from (until - from)
counted_more log from to at until n low rising so_far mid high =
    ap (count_levels (level_after log n) (until - at)) so_far.counted ∙ sym (low_count-until log from at until n rising so_far.place so_far.started mid high)

-- a count of n milliseconds, and more milliseconds beside
some_below : (n more most : ℕ) (low : Option ℕ) → IsAtMost n low → n + more ≤ most → ForSome low (λ c. c + more ≤ most)
some_below n more most None small room = λ c e. (cc)
some_below n more most (Some b) small room = λ c e. let same : b ≡ c = cc in omega arith

pub counted_room : (log : Records) (from to at until n most : ℕ) (low : Option ℕ) → IsCounted log from to at n low → at ≤ until → until ≤ from + most → ForSome low (λ c. c + (until - at) ≤ most)
counted_room log from to at until n most low so_far mid room =
    some_below (at - from) (until - at) most low (subst (IsAtMost (at - from)) (sym so_far.counted) (low_count_bound log from (at - from))) (let started = so_far.started in omega arith)

-- a count of n milliseconds is at most n
pub counted_bound : (log : Records) (from n : ℕ) (low : Option ℕ) → low ≡ low_count log from n → ForSome low (λ c. c ≤ n)
counted_bound log from n low is =
    λ c e. let small = some_below n 0 n low (subst (IsAtMost n) (sym is) (low_count_bound log from n)) (omega arith) c e in omega arith
