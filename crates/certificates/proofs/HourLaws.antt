-- The hour of the examples: its minutes, and the walk that opens it.
use Rattle.std.proofs.Common.{◌≡◌, ℕ, false, [], ◌∷◌, Some, refl, arith}
use Rattle.definitions.specs.declared.block.Span.TheVariants.{Hour, Minute}
use Rattle.definitions.specs.time.Calendar.{day_at}
use Rattle.definitions.specs.time.Summer.{season_at}
use Rattle.definitions.specs.sequences.Walks.{place_at}
use Rattle.definitions.specs.heard.Costs.{sum_below}
use Rattle.definitions.specs.answers.Blocks.{IsBound, blocks, items}
use Rattle.definitions.specs.examples.Sequences.{block_of, costs_by_symbol, window_of}
use Rattle.definitions.proofs.MinuteLaws.{early, walkable}
use Rattle.certificates.specs.declared.certificate.Kind.TheVariants.{Opened, Leaf}
use Rattle.certificates.specs.Validity.{AreWalks, IsSaid}
use Rattle.certificates.specs.Verdicts.{AreOver}
use Rattle.certificates.specs.Examples.{hour, line_of, opened_hour, two_minutes}
use Rattle.certificates.proofs.GoodLaws.{themselves}

pub first_minute : IsBound costs_by_symbol two_minutes (block_of Minute 700 701) (Some 116)
unfolding day_at season_at place_at sum_below
first_minute = ((walkable false 700 refl 4 700 702 (omega arith) (omega arith) (early (window_of 4 700 702).stations 700 (omega arith)), λ e. absurd cc), refl)

hour_long : Hour ≡ Minute → ⊥
hour_long e = absurd cc

module _ (limit : ℕ) (bound : IsBound costs_by_symbol two_minutes hour (Some 112)) (minute : IsBound costs_by_symbol two_minutes (block_of Minute 701 702) (Some 118)) where
  pub hour_said : IsSaid costs_by_symbol two_minutes limit (line_of Opened hour (Some 112))
  hour_said = record { shape = (hour_long, omega arith); bound = bound; above = tt }

  pub first_said : IsSaid costs_by_symbol two_minutes limit (line_of Leaf (block_of Minute 700 701) (Some 116))
  first_said = record { shape = (refl, omega arith); bound = first_minute; above = tt }

  pub second_said : IsSaid costs_by_symbol two_minutes limit (line_of Leaf (block_of Minute 701 702) (Some 118))
  second_said = record { shape = (refl, omega arith); bound = minute; above = tt }

  pub walks_opened : AreWalks costs_by_symbol two_minutes limit (hour ∷ []) opened_hour
  unfolding blocks
  walks_opened = (refl, hour_said, (refl, first_said, (refl, second_said, tt)))

-- where all items were begun and none is due, all is over
pub all_begun : AreOver two_minutes [] (items two_minutes)
all_begun = (refl, themselves (items two_minutes) (items two_minutes) (λ b is. is))
