-- Lists of blocks, from their first block on.
use Rattle.std.proofs.Common.{◌≡◌, ℕ, zero, suc, ◌+◌, ◌*◌, ◌/◌, ◌%◌, ◌-◌, ◌<◌, ◌≤◌, inl, inr, Bool, if◌then◌else◌, min, List, [], ◌∷◌, ◌++◌, length, append_assoc, append-nil, refl, sym, ap, ◌∙◌, arith}
use Rattle.std.specs.List.{range_with_len, flat_map}
use Rattle.std.proofs.lemmas.Bool.{cases_lt, lt-ltb, le-ltb}
use Rattle.definitions.specs.declared.block.Block.{Block}
use Rattle.definitions.specs.declared.block.Span.{Span}
use Rattle.definitions.specs.answers.Blocks.{span_end, block_from, blocks}

module _ (announced : Bool) (second : ℕ) (s : Span) where
  abbrev from_to : ℕ → ℕ → ℕ → List Block
  from_to n lo hi = blocks announced second s n lo hi

  -- there are none where none is asked for
  pub none_asked : (n lo hi : ℕ) → n ≡ 0 → from_to n lo hi ≡ []
  unfolding blocks
  none_asked n lo hi e = rw e refl

  -- there are none at the end
  pub none_left : (n lo hi : ℕ) → hi ≤ lo → from_to n lo hi ≡ []
  unfolding blocks
  none_left zero lo hi le = refl
  none_left (suc n) lo hi le = ap (λ t. if t then block_from announced second s lo hi ∷ from_to n (span_end s lo) hi else []) (le-ltb lo hi le)

  first_of_more : (n lo hi : ℕ) → lo < hi → from_to (suc n) lo hi ≡ block_from announced second s lo hi ∷ from_to n (span_end s lo) hi
  unfolding blocks
  first_of_more n lo hi lt = ap (λ t. if t then block_from announced second s lo hi ∷ from_to n (span_end s lo) hi else []) (lt-ltb lo hi lt)

  -- a beginning beyond the end is as good as the end
  cut : (n e hi : ℕ) → from_to n e hi ≡ from_to n (min e hi) hi
  cut n e hi = elim (cases_lt hi e) [
    | inl lt ↦ none_left n e hi (omega (arith, lt)) ∙ sym (none_left n (min e hi) hi (omega (arith, lt)))
    | inr le ↦ let same : e ≡ min e hi = omega (arith, le) in ap (λ m. from_to n m hi) same
  ]

  -- the first block, and those that begin where it ends
  pub first_then : (n lo hi end : ℕ) → 0 < n → lo < hi → end ≡ min (span_end s lo) hi
      → from_to n lo hi ≡ record { announced = announced; second = second; span = s; lo = lo; hi = end } ∷ from_to (n - 1) end hi
  first_then zero lo hi end some lt is = absurd (omega (arith, some))
  first_then (suc n) lo hi end some lt is =
      let one : suc n - 1 ≡ n = omega arith in
      rw (is, one) (first_of_more n lo hi lt ∙ ap (λ bs. block_from announced second s lo hi ∷ bs) (cut n (span_end s lo) hi))

-- nothing is left
pub finished : {A : Type 0} (done left whole : List A) → left ≡ [] → done ++ left ≡ whole → done ≡ whole
finished done left whole e is = sym (append-nil done) ∙ ap (λ xs. done ++ xs) (sym e) ∙ is

-- the first of what is left are done
pub moved : {A : Type 0} (done xs left all whole : List A) → all ≡ xs ++ left → done ++ all ≡ whole → (done ++ xs) ++ left ≡ whole
moved done xs left all whole e is = rw append_assoc (ap (λ ys. done ++ ys) (sym e) ∙ is)

-- the blocks of second i, and those of the seconds after it
pub second_then : (f : ℕ → List Block) (i n : ℕ) → i < n
    → flat_map f (range_with_len i (n - i)) ≡ f i ++ flat_map f (range_with_len (i + 1) (n - (i + 1)))
second_then f i n lt =
    let one : n - i ≡ suc (n - (i + 1)) = omega arith in
    rw one refl

pub second_then_more : (f : ℕ → List Block) (i n : ℕ) (later : List Block) → i < n
    → flat_map f (range_with_len i (n - i)) ++ later ≡ f i ++ (flat_map f (range_with_len (i + 1) (n - (i + 1))) ++ later)
second_then_more f i n later lt = rw (second_then f i n lt) (append_assoc (f i) (flat_map f (range_with_len (i + 1) (n - (i + 1)))) later)

-- where the minutes of a span are counted in `length`, the end is this far away
pub end_by_rest : (lo length hi most : ℕ) → 0 < length → hi ≤ most → min (min (lo + (length - lo % length)) most) hi ≡ min ((lo / length + 1) * length) hi
end_by_rest lo length hi most some le = omega arith

-- fewer are left after the first
pub fewer : (xs ys : List Block) (b : Block) → xs ≡ b ∷ ys → length ys < length xs
fewer xs ys b e = rw e (omega arith)
