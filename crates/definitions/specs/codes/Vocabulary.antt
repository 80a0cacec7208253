-- The words that the telegrams share: sets of symbols, weights of seconds, decimal fields and parity.
use Rattle.std.specs.Prelude.{ℕ, ◌+◌, ◌*◌, ◌/◌, ◌%◌, ◌^◌, Bool, false, ◌==◌, ◌&&◌, ◌||◌, nat_lt, nat_le, if◌then◌else◌, List, [], ◌∷◌, sum_by, Option, option_map, find}
use Rattle.std.specs.Option.{option_map_or}

-- A set of symbols is a mask in which bit x stands for symbol x.
-- the set of one symbol
abbrev pub only : ℕ → ℕ
only x = 2 ^ x

-- the set of the symbols 0 and 1
abbrev pub free : ℕ
free = 3

-- the second isn't scored
abbrev pub unscored : ℕ
unscored = 255

-- the minute has no such second
abbrev pub no_second : ℕ
no_second = 0

-- a second of a telegram, and the weight of its bit
abbrev pub Weighed : Type 0
Weighed = ℕ × ℕ

abbrev pub its_second : Weighed → ℕ
its_second w = w.0

abbrev pub its_weight : Weighed → ℕ
its_weight w = w.1

-- the weights of some consecutive seconds, the first of them given
abbrev pub weights_from : ℕ → List ℕ → List Weighed
weights_from second [] = []
weights_from second (w ∷ ws) = (second, w) ∷ weights_from (second + 1) ws

-- A number is written digit by digit: the weights 1 to 8 carry the units, 10 to 80 the tens, 100 and 200 the
-- hundreds, each digit in binary: BCD.
-- the bit of the number's digits that has this weight
abbrev pub digit_bit : ℕ → ℕ → ℕ
digit_bit value weight =
    if nat_lt weight 10 then value % 10 / weight % 2
    else if nat_lt weight 100 then value / 10 % 10 / (weight / 10) % 2
    else value / 100 % 10 / (weight / 100) % 2

-- the weight of a second, where the table has it
abbrev pub weight_of : List Weighed → ℕ → Option ℕ
weight_of weights second = option_map its_weight (find (λ w. its_second w == second) weights)

-- a field of a telegram: the weights of its seconds, and its value
abbrev pub Field : Type 0
Field = List Weighed × ℕ

abbrev pub weights_of : Field → List Weighed
weights_of field = field.0

-- the number that a field tells
abbrev pub value_of : Field → ℕ
value_of field = field.1

-- the bit that a second carries: that of the field that has it, and 0 in a second of no field
abbrev pub carried_bit : List Field → ℕ → ℕ
carried_bit [] second = 0
carried_bit (f ∷ fs) second = option_map_or (digit_bit (value_of f)) (weight_of (weights_of f) second) (carried_bit fs second)

-- the sum of the weights of a field's ones
abbrev pub weight_of_ones : Field → ℕ
weight_of_ones field = sum_by (λ w. its_weight w * digit_bit (value_of field) (its_weight w)) (weights_of field)

-- how many ones a field has
abbrev pub ones : List Weighed → ℕ → ℕ
ones weights value = sum_by (λ w. digit_bit value (its_weight w)) weights

-- the second is one of these
abbrev pub is_one_of : List ℕ → ℕ → Bool
is_one_of [] second = false
is_one_of (s ∷ ss) second = (s == second) || is_one_of ss second

-- the second is one of those from first to last
abbrev pub is_within : ℕ → ℕ → ℕ → Bool
is_within first last second = nat_le first second && nat_le second last
