-- All values of a line, where those up to the range are known.
use Rattle.std.proofs.Common.{◌≡◌, ℕ, suc, ◌+◌, ◌-◌, nat_le, nat_lt, Option, Ok, refl, ap, arith}
use Rattle.definitions.specs.time.Calendar.{century_minutes}
use Rattle.formats.specs.declared.option.OptionName.TheVariants as value
use Rattle.formats.specs.declared.words.TheConstants.{DEFAULT_SECONDS}
use Rattle.formats.specs.Orders.{given, valued, values_of}
use Rattle.formats.specs.Words.{Line}
use Rattle.bank_words.specs.Rest.{behind_range}

empty-is : (from to : ℕ) → nat_lt to from ≡ nat_le (to + 1) from
empty-is from to = let next : suc to ≡ to + 1 = omega arith in ap (λ n. nat_le n from) next

pub values_of-rest : (line : Line) (number minute start n m : Option ℕ) (seconds from to : ℕ)
    → given value.Number line ≡ Ok number → given value.Minute line ≡ Ok minute → given value.Start line ≡ Ok start
    → valued value.Seconds DEFAULT_SECONDS line ≡ Ok seconds → valued value.From 0 line ≡ Ok from → valued value.To (century_minutes - 1) line ≡ Ok to
    → n ≡ number → m ≡ minute
    → values_of line ≡ behind_range n m (record { start = start; seconds = seconds; from = from; to = to + 1 }) line
values_of-rest line number minute start n m seconds from to number_is minute_is start_is seconds_is from_is to_is n_is m_is =
    rw (number_is, minute_is, start_is, seconds_is, from_is, to_is, n_is, m_is, empty-is from to) refl
