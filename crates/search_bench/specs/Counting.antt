-- What was counted of a search. A count stays at the greatest u64 once it is there.
use Rattle.std.specs.Prelude.{ℕ, ◌+◌, min}
use Rattle.definitions.specs.declared.block.Span.{Span}
use Rattle.definitions.specs.declared.block.Span.TheVariants.{Year, Day, Hour, Minute}
use Rattle.search_bench.specs.declared.counts.Counts.{Counts}

-- a sum, or the greatest u64 where it is above that
abbrev pub sum_up_to_most : ℕ → ℕ → ℕ
sum_up_to_most m n = min (m + n) 18446744073709551615

abbrev pub nothing_counted : Counts
nothing_counted = record { years = 0; days = 0; hours = 0; minutes = 0 }

-- a block of this span was counted too
abbrev pub counted : Span → Counts → Counts
counted Year c = record c { years = sum_up_to_most c.years 1 }
counted Day c = record c { days = sum_up_to_most c.days 1 }
counted Hour c = record c { hours = sum_up_to_most c.hours 1 }
counted Minute c = record c { minutes = sum_up_to_most c.minutes 1 }

abbrev pub both : Counts → Counts → Counts
both c d =
    record {
      years = sum_up_to_most c.years d.years;
      days = sum_up_to_most c.days d.days;
      hours = sum_up_to_most c.hours d.hours;
      minutes = sum_up_to_most c.minutes d.minutes;
    }
