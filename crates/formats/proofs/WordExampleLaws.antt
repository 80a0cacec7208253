-- The minutes that stand in examples of command lines.
use Rattle.std.proofs.Common.{◌≡◌, length, Some, None, codes, refl, ap, arith}
use Rattle.definitions.specs.time.Calendar.{day_at}
use Rattle.formats.specs.WordValues.{minute_of}
use Rattle.formats.proofs.WordMinuteLaws.{minute_of-found, minute_of-none}

-- 10 June 2024, its first minute and its last
pub day_begins : minute_of (codes "2024-06-10T00:00Z") ≡ Some 12_854_880
unfolding day_at
day_begins = minute_of-found _ 12_854_880 (omega arith) refl

pub day_ends : minute_of (codes "2024-06-10T23:59Z") ≡ Some 12_856_319
unfolding day_at
day_ends = minute_of-found _ 12_856_319 (omega arith) refl

pub leap_day : minute_of (codes "2024-02-29T12:34Z") ≡ Some 12_708_754
unfolding day_at
leap_day = minute_of-found _ 12_708_754 (omega arith) refl

pub leap_second : minute_of (codes "2016-12-31T23:59Z") ≡ Some 8_942_399
unfolding day_at
leap_second = minute_of-found _ 8_942_399 (omega arith) refl

pub late_evening : minute_of (codes "2099-12-31T22:59Z") ≡ Some 52_595_939
unfolding day_at
late_evening = minute_of-found _ 52_595_939 (omega arith) refl

pub afternoon : minute_of (codes "2099-12-31T15:00Z") ≡ Some 52_595_460
unfolding day_at
afternoon = minute_of-found _ 52_595_460 (omega arith) refl

-- the text of a minute is longer
pub no_minute : minute_of (codes "1") ≡ None
no_minute = minute_of-none (codes "1") (λ t early e. let long : 1 ≡ 17 = ap length e in omega arith)
