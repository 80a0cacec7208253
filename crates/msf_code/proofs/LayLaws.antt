-- The sets of the seconds of no field, with the fields laid into them, are the telegram of a minute of 60 seconds.
use Rattle.std.proofs.Common.{◌≡◌, ℕ, ◌+◌, ◌*◌, Bool, true, false, List, map, replicate, set, refl, subst, arith}
use Rattle.std.specs.List.{range_with_len}
use Rattle.definitions.specs.declared.msf.MsfFacts.{MsfFacts}
use Rattle.definitions.specs.codes.Msf.{code_second, day_weights, hour_weights, minute_weights, month_weights, msf_second, weekday_weights, year_weights}
use Rattle.definitions.specs.codes.Vocabulary.{free, no_second}
use Rattle.telegram_fields.specs.Laying.{laid, with_sets}
use Rattle.msf_code.specs.Laying.{no_field}

-- all six fields
abbrev with_fields : (ℕ → ℕ) → MsfFacts → List ℕ → List ℕ
with_fields symbol f sets =
    laid symbol minute_weights f.minute (laid symbol hour_weights f.hour (laid symbol weekday_weights f.weekday
    (laid symbol day_weights f.day (laid symbol month_weights f.month (laid symbol year_weights f.year sets)))))

abbrev IsTelegram : (ℕ → ℕ) → MsfFacts → Type 0
IsTelegram symbol f =
    with_fields symbol f (with_sets (code_second f) no_field (set (replicate 61 free) 60 no_second)) ≡ map (msf_second f) (range_with_len 0 61)

by_fields : (m h d w o y : ℕ) (a b long : Bool) → long ≡ false
    → IsTelegram (λ bit. 2 * bit + 0) (record { minute = m; hour = h; day = d; weekday = w; month = o; year = y; summer = a; change = b; long = long })
by_fields m h d w o y a b true short = absurd cc
by_fields m h d w o y a b false short = refl

twice : (bit : ℕ) → 2 * bit + 0 ≡ 2 * bit
twice bit = omega arith

-- a bit A with a bit B of 0 is the symbol of twice its number
symbol_of_a : ◌≡◌ {A = ℕ → ℕ} (λ bit. 2 * bit + 0) (λ bit. 2 * bit)
symbol_of_a = λ i bit. twice bit i

pub is_telegram : (f : MsfFacts) → f.long ≡ false → IsTelegram (λ bit. 2 * bit) f
is_telegram f short =
    subst (λ (symbol : ℕ → ℕ). IsTelegram symbol f) symbol_of_a
    (by_fields f.minute f.hour f.day f.weekday f.month f.year f.summer f.change f.long short)
