-- The pairs of an option and a value, as the code walks over them.
use Rattle.std.proofs.Common.{◌≡◌, ℕ, ◌<◌, ◌≤◌, ◌-◌, ◌==◌, Bool, true, false, ◌&&◌, List, [], ◌∷◌, length, take, drop, get_or, None, String, Global, string_bytes, bytes_eq, is_none, take_all, refl, sym, ap, ◌∙◌, arith}
use Rattle.std.specs.List.{list_any}
use Rattle.formats.specs.Words.{are_pairs, is_value, value_behind}
use Rattle.bank_words.specs.Seen.{texts_of}

-- no pair is left
pub value_behind-end : (option : List ℕ) (left : List (String Global)) → length left < 2 → value_behind option (texts_of left) ≡ None
value_behind-end option [] few = refl
value_behind-end option (word ∷ []) few = refl
value_behind-end option (word ∷ value ∷ words) few = absurd (omega arith)

pub are_pairs-end : (options : List (List ℕ)) (left : List (String Global)) → length left < 2 → are_pairs options (texts_of left) ≡ (length left == 0)
are_pairs-end options [] few = refl
are_pairs-end options (word ∷ []) few = refl
are_pairs-end options (word ∷ value ∷ words) few = absurd (omega arith)

-- what is left behind the first two words, as the code cuts it
abbrev pub behind_two : List (String Global) → List (String Global)
behind_two left = take (length left - 2) (drop 2 left)

behind_two-is : (a b : String Global) (words : List (String Global)) → behind_two (a ∷ b ∷ words) ≡ words
behind_two-is a b words =
    let n : length (a ∷ b ∷ words) - 2 ≡ length words = omega arith in
    rw n (take_all (length words) words (omega arith))

-- the option isn't that of the first pair
pub value_behind-next : (option : List ℕ) (left : List (String Global)) (word value : String Global) → 2 ≤ length left → word ≡ get_or left 0 word → value ≡ get_or left 1 value
    → (same : Bool) (w : List ℕ) → w ≡ string_bytes word → same ≡ bytes_eq w option → same ≡ false
    → value_behind option (texts_of left) ≡ value_behind option (texts_of (behind_two left))
value_behind-next option [] word value two is also same w w_is judged other = absurd (omega arith)
value_behind-next option (a ∷ []) word value two is also same w w_is judged other = absurd (omega arith)
value_behind-next option (a ∷ b ∷ words) word value two is also same w w_is judged other =
    let e : bytes_eq (string_bytes a) option ≡ false =
    ap (λ s. bytes_eq (string_bytes s) option) (sym is) ∙ ap (λ t. bytes_eq t option) (sym w_is) ∙ sym judged ∙ other in
    rw (behind_two-is a b words, e) refl

-- The first pair of a list, which the code has judged.
module _ (options : List (List ℕ)) where
  is_pair : List ℕ → List ℕ → List (List ℕ) → Bool
  is_pair option value behind = list_any (bytes_eq option) options && is_value value && is_none (value_behind option behind)

  step : (left : List (String Global)) (option value : String Global) → 2 ≤ length left → option ≡ get_or left 0 option → value ≡ get_or left 1 value
      → are_pairs options (texts_of left) ≡ (is_pair (string_bytes option) (string_bytes value) (texts_of (behind_two left)) && are_pairs options (texts_of (behind_two left)))
  unfolding is_pair
  step [] option value two is also = absurd (omega arith)
  step (a ∷ []) option value two is also = absurd (omega arith)
  step (a ∷ b ∷ words) option value two is also = rw (is, also, behind_two-is a b words) refl

  module _ (left : List (String Global)) (option value : String Global) (two : 2 ≤ length left) (is : option ≡ get_or left 0 option) (also : value ≡ get_or left 1 value)
      (good : Bool) (o v : List ℕ) (o_is : o ≡ string_bytes option) (v_is : v ≡ string_bytes value)
      (judged : good ≡ (list_any (bytes_eq o) options && is_value v && is_none (value_behind o (texts_of (behind_two left))))) where
    by_judgement : are_pairs options (texts_of left) ≡ (good && are_pairs options (texts_of (behind_two left)))
    unfolding is_pair
    by_judgement = rw (judged, o_is, v_is) (step left option value two is also)

    pub are_pairs-other : good ≡ false → are_pairs options (texts_of left) ≡ false
    are_pairs-other bad = by_judgement ∙ rw bad refl

    pub are_pairs-next : good ≡ true → are_pairs options (texts_of left) ≡ are_pairs options (texts_of (behind_two left))
    are_pairs-next fine = by_judgement ∙ rw fine refl
