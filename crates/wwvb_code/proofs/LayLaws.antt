-- The sets of the seconds of no field, with the fields laid into them, are the telegram.
use Rattle.std.proofs.Common.{◌≡◌, ℕ, ◌*◌, Bool, true, false, List, map, replicate, refl, subst, arith}
use Rattle.std.specs.List.{range_with_len}
use Rattle.definitions.specs.declared.wwvb.WwvbFacts.{WwvbFacts}
use Rattle.definitions.specs.codes.Wwvb.{day_weights, hour_weights, minute_weights, wwvb_second, year_weights}
use Rattle.definitions.specs.codes.Vocabulary.{only}
use Rattle.telegram_fields.specs.Laying.{laid, with_sets}
use Rattle.wwvb_code.specs.Laying.{no_field}

-- all four fields
abbrev with_fields : (ℕ → ℕ) → WwvbFacts → List ℕ → List ℕ
with_fields symbol f sets =
    laid symbol year_weights f.year (laid symbol day_weights f.day_of_year (laid symbol hour_weights f.hour (laid symbol minute_weights f.minute sets)))

abbrev IsTelegram : (ℕ → ℕ) → WwvbFacts → Type 0
IsTelegram symbol f = with_fields symbol f (with_sets (wwvb_second f) no_field (replicate 61 (only 0))) ≡ map (wwvb_second f) (range_with_len 0 61)

by_fields : (m h d y u : ℕ) (a long : Bool)
    → IsTelegram (λ bit. bit) (record { minute = m; hour = h; day_of_year = d; year = y; us_code = u; leap = a; long = long })
by_fields m h d y u a true = refl
by_fields m h d y u a false = refl

once : (bit : ℕ) → bit ≡ 1 * bit
once bit = omega arith

-- a bit is its own symbol
own_symbol : ◌≡◌ {A = ℕ → ℕ} (λ bit. bit) (λ bit. 1 * bit)
own_symbol = λ i bit. once bit i

pub is_telegram : (f : WwvbFacts) → IsTelegram (λ bit. 1 * bit) f
is_telegram f =
    subst (λ (symbol : ℕ → ℕ). IsTelegram symbol f) own_symbol
    (by_fields f.minute f.hour f.day_of_year f.year f.us_code f.leap f.long)
