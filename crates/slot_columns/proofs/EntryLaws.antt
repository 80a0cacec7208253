-- Rows of numbers, of which one comes behind the others.
use Rattle.std.proofs.Common.{◌≡◌, ℕ, ◌+◌, ◌<◌, Bool, inl, inr, List, [], ◌∷◌, ◌++◌, length, get_or, slice_index, slice_index_or, slice_set, sym, ap, ◌∙◌, subst, arith}
use Rattle.std.proofs.Math.ListN.{get_or-append}
use Rattle.std.proofs.lemmas.Bool.{cases_lt}
use Rattle.std.proofs.lemmas.List.{get_or-set_other, get_or-set_same, get_or_push}
use Rattle.slot_columns.specs.Parts.{entry}

-- what holds of each number of the rows, and of each number of one more
pub each_more : (Is : ℕ → ℕ → ℕ → Type 0) (width : ℕ) (rows more : List (List ℕ)) (row : List ℕ) (n : ℕ) → length rows ≡ n → more ≡ rows ++ row ∷ []
    → ((i x : ℕ) → i < n → x < width → Is i x (entry rows i x)) → ((x : ℕ) → x < width → Is n x (slice_index row x))
    → (i x : ℕ) → i < n + 1 → x < width → Is i x (entry more i x)
each_more Is width rows more row n long is each last i x lt within = elim (cases_lt i n) [
  | inl early ↦ (
      let same : entry more i x ≡ entry rows i x =
      ap (λ (xs : List (List ℕ)). entry xs i x) is ∙ ap (λ (r : List ℕ). slice_index r x) (get_or-append rows (row ∷ []) [] i (omega (arith, early, long))) in
      subst (Is i x) (sym same) (each i x early within))
  | inr late ↦ (
      let there : i ≡ n = omega (arith, lt, late) in
      let same : entry more n x ≡ slice_index row x =
      ap (λ (xs : List (List ℕ)). entry xs n x) is ∙ ap (λ (r : List ℕ). slice_index r x) (get_or_push rows row [] n long) in
      subst (λ m. Is m x (entry more m x)) (sym there) (subst (Is n x) (sym same) (last x within)))
]

-- what holds of each row that has a flag, and of one more where that is given it
pub flagged_more : (Is : List ℕ → Type 0) (flag none given : Bool) (flags : List Bool) (rows more : List (List ℕ)) (row : List ℕ) (n : ℕ) → length rows ≡ n → n < length flags
    → more ≡ rows ++ row ∷ [] → ((i : ℕ) → i < n → get_or flags i none ≡ flag → Is (slice_index_or rows i [])) → (given ≡ flag → Is row)
    → (i : ℕ) → i < n + 1 → get_or (slice_set flags n given) i none ≡ flag → Is (slice_index_or more i [])
flagged_more Is flag none given flags rows more row n long room is each last i lt has = elim (cases_lt i n) [
  | inl early ↦ (
      let same : slice_index_or more i [] ≡ slice_index_or rows i [] =
      ap (λ (xs : List (List ℕ)). slice_index_or xs i []) is ∙ get_or-append rows (row ∷ []) [] i (omega (arith, early, long)) in
      subst Is (sym same) (each i early (sym (get_or-set_other flags n i given none (omega (arith, early))) ∙ has)))
  | inr late ↦ (
      let there : i ≡ n = omega (arith, lt, late) in
      let same : slice_index_or more i [] ≡ row =
      ap (λ (xs : List (List ℕ)). slice_index_or xs i []) is ∙ get_or_push rows row [] i (omega (arith, there, long)) in
      let its : given ≡ flag = sym (get_or-set_same flags n given none room) ∙ ap (λ j. get_or (slice_set flags n given) j none) (sym there) ∙ has in
      subst Is (sym same) (last its))
]
