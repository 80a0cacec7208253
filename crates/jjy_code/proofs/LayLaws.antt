-- The sets of the seconds of no field, with the fields laid into them, are the telegram of a minute without a call sign.
use Rattle.std.proofs.Common.{◌≡◌, ℕ, ◌*◌, Bool, true, false, ◌==◌, ◌||◌, List, map, replicate, refl, subst, arith}
use Rattle.std.specs.List.{range_with_len}
use Rattle.definitions.specs.declared.jjy.JjyFacts.{JjyFacts}
use Rattle.definitions.specs.codes.Jjy.{day_weights, hour_weights, is_call_minute, jjy_second, minute_weights, weekday_weights, year_weights}
use Rattle.definitions.specs.codes.Vocabulary.{only}
use Rattle.telegram_fields.specs.Laying.{laid, with_sets}
use Rattle.jjy_code.specs.Laying.{no_field}

-- all five fields
abbrev with_fields : (ℕ → ℕ) → JjyFacts → List ℕ → List ℕ
with_fields symbol f sets =
    laid symbol weekday_weights f.weekday (laid symbol year_weights f.year (laid symbol day_weights f.day_of_year
    (laid symbol hour_weights f.hour (laid symbol minute_weights f.minute sets))))

abbrev IsTelegram : (ℕ → ℕ) → JjyFacts → Type 0
IsTelegram symbol f = with_fields symbol f (with_sets (jjy_second f) no_field (replicate 61 (only 0))) ≡ map (jjy_second f) (range_with_len 0 61)

by_fields : (m h d y w : ℕ) (a long : Bool) → ((m == 15) || (m == 45)) ≡ false
    → IsTelegram (λ bit. bit) (record { minute = m; hour = h; day_of_year = d; year = y; weekday = w; leap = a; long = long })
by_fields m h d y w a true coded = rw coded refl
by_fields m h d y w a false coded = rw coded refl

once : (bit : ℕ) → bit ≡ 1 * bit
once bit = omega arith

-- a bit is its own symbol
own_symbol : ◌≡◌ {A = ℕ → ℕ} (λ bit. bit) (λ bit. 1 * bit)
own_symbol = λ i bit. once bit i

pub is_telegram : (f : JjyFacts) → is_call_minute f ≡ false → IsTelegram (λ bit. 1 * bit) f
is_telegram f coded =
    subst (λ (symbol : ℕ → ℕ). IsTelegram symbol f) own_symbol
    (by_fields f.minute f.hour f.day_of_year f.year f.weekday f.leap f.long coded)
