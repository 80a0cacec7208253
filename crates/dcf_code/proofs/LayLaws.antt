-- The sets of the seconds of no field, with the fields laid into them, are the telegram.
use Rattle.std.proofs.Common.{◌≡◌, ℕ, ◌*◌, Bool, true, false, List, map, replicate, refl, subst, arith}
use Rattle.std.specs.List.{range_with_len}
use Rattle.definitions.specs.declared.dcf77.DcfFacts.{DcfFacts}
use Rattle.definitions.specs.codes.Dcf77.{day_weights, dcf_second, hour_weights, minute_weights, month_weights, weekday_from_monday, weekday_weights, year_weights}
use Rattle.definitions.specs.codes.Vocabulary.{free}
use Rattle.telegram_fields.specs.Laying.{laid, with_sets}
use Rattle.dcf_code.specs.Laying.{no_field}

-- all six fields
abbrev with_fields : (ℕ → ℕ) → DcfFacts → List ℕ → List ℕ
with_fields symbol f sets =
    laid symbol year_weights f.year (laid symbol month_weights f.month (laid symbol weekday_weights (weekday_from_monday f.weekday)
    (laid symbol day_weights f.day (laid symbol hour_weights f.hour (laid symbol minute_weights f.minute sets)))))

abbrev IsTelegram : (ℕ → ℕ) → DcfFacts → Type 0
IsTelegram symbol f = with_fields symbol f (with_sets (dcf_second f) no_field (replicate 61 free)) ≡ map (dcf_second f) (range_with_len 0 61)

by_fields : (m h d w o y : ℕ) (a b c long : Bool)
    → IsTelegram (λ bit. bit) (record { minute = m; hour = h; day = d; weekday = w; month = o; year = y; summer = a; change = b; leap = c; long = long })
by_fields m h d w o y a b c true = refl
by_fields m h d w o y a b c false = refl

once : (bit : ℕ) → bit ≡ 1 * bit
once bit = omega arith

-- a bit is its own symbol
own_symbol : ◌≡◌ {A = ℕ → ℕ} (λ bit. bit) (λ bit. 1 * bit)
own_symbol = λ i bit. once bit i

pub is_telegram : (f : DcfFacts) → IsTelegram (λ bit. 1 * bit) f
is_telegram f =
    subst (λ (symbol : ℕ → ℕ). IsTelegram symbol f) own_symbol
    (by_fields f.minute f.hour f.day f.weekday f.month f.year f.summer f.change f.leap f.long)
