-- How a part by the date is filled in.
use Rattle.std.proofs.Common.{◌≡◌, ◌≢◌, ℕ, ◌+◌, ◌<◌, List, length, get_or, set, ◌∙◌, arith, below_more, get_or-set_other, get_or-set_same}
use Rattle.std.proofs.Math.ListN.{length-set}
use Rattle.signal_base.specs.declared.station.Station.{Station}
use Rattle.signal_base.proofs.Made.{made_by}
use Rattle.minute_parts.specs.declared.dates.DateFacts.{DateFacts}
use Rattle.minute_parts.specs.Dates.{date_part, date_set}
use Rattle.minute_parts.specs.Filling.{IsFilled}

-- one more second
pub filled_more : (station : Station) (f : DateFacts) (part : List ℕ) (s v : ℕ) → s < 60 → IsFilled station f part s → v ≡ date_set station f s
    → IsFilled station f (set part s v) (s + 1)
filled_more station f part s v lt filled new =
    let inside : s < length part = omega (arith, filled.long) in
    record {
      long = length-set part s v ∙ filled.long;
      done = below_more (λ k. get_or (set part s v) k 0 ≡ date_set station f k) s
          (λ k h. let other : k ≢ s = omega arith in rw get_or-set_other (filled.done k h))
          (rw get_or-set_same new);
      rest = λ k h. let other : k ≢ s = omega arith in rw get_or-set_other (filled.rest k (omega arith));
    }

-- a part with all 60 seconds
pub finished : (station : Station) (f : DateFacts) (part : List ℕ) → IsFilled station f part 60 → part ≡ date_part station f
unfolding date_part
finished station f part filled = made_by (date_set station f) 60 part filled.long filled.done
