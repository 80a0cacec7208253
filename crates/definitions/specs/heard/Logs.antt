-- What a log says: the level at a millisecond, and the low milliseconds of a tenth of a second.
use Rattle.std.specs.Prelude.{ℕ, zero, suc, ◌+◌, nat_lt, nat_le, if◌then◌else◌, List, [], ◌∷◌, filter, Option, Some, None}
use Rattle.std.specs.List.{list_any}
use Rattle.definitions.specs.declared.level.Level.{Level}
use Rattle.definitions.specs.declared.level.Level.TheVariants.{High, Low, Unknown}

-- a record of a log: a time in milliseconds, and the level from then on
abbrev pub Record : Type 0
Record = ℕ × Level

abbrev pub time_of : Record → ℕ
time_of r = r.0

abbrev pub level_of : Record → Level
level_of r = r.1

-- a log: records whose times rise
abbrev pub Records : Type 0
Records = List Record

-- the level of the last record
abbrev pub last_level : Records → Level
last_level [] = Unknown
last_level (r ∷ []) = level_of r
last_level (r ∷ s ∷ rs) = last_level (s ∷ rs)

-- The level at millisecond m is that of the last record not after it, where some record is later.
abbrev pub level_at : Records → ℕ → Level
level_at log m =
    if list_any (λ r. nat_lt m (time_of r)) log then last_level (filter (λ r. nat_le (time_of r) m) log) else Unknown

-- how many of some milliseconds are low, with one more of this level; none where one of them is unknown
abbrev pub count_level : Level → Option ℕ → Option ℕ
count_level level None = None
count_level Low (Some n) = Some (n + 1)
count_level High (Some n) = Some n
count_level Unknown (Some n) = None

-- how many of the n milliseconds from m on are low, or none where one of them is unknown
unfoldable pub low_count : Records → ℕ → ℕ → Option ℕ
low_count log m zero = Some 0
low_count log m (suc n) = count_level (level_at log (m + n)) (low_count log m n)
