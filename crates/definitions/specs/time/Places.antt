-- A place in time: a minute, and a second of it.
use Rattle.std.specs.Prelude.{ℕ}

abbrev pub Place : Type 0
Place = ℕ × ℕ

abbrev pub minute_of : Place → ℕ
minute_of place = place.0

abbrev pub second_of : Place → ℕ
second_of place = place.1
