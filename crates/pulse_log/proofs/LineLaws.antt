-- The first line of a text, and a line without its CR.
use Rattle.std.proofs.Common.{◌≡◌, ℕ, suc, ◌+◌, ◌-◌, ◌<◌, ◌≤◌, ◌==◌, not, cond, Bool, true, false, List, [], ◌∷◌, ◌++◌, length, take, drop, Some, None, nat_lt, refl, sym, ap, ◌∙◌, arith}
use Rattle.std.proofs.Math.Numerals.{one-add, add-one}
use Rattle.std.proofs.lemmas.Bool.{ltb-true, ltb-false, ne_eqb}
use Rattle.std.proofs.lemmas.List.{take_rest, drop_all}
use Rattle.std.specs.List.{prefix_len, position}
use Rattle.formats.specs.Bytes.{line_feed, carriage_return}
use Rattle.formats.specs.LogLines.{lines_of, onto_first, without_cr}

-- how many bytes stand before the first LF
abbrev pub before_end : List ℕ → ℕ
before_end text = prefix_len (λ b. not (b == line_feed)) text

pub lines_of-first : (text : List ℕ) → before_end text < length text → lines_of text ≡ take (before_end text) text ∷ lines_of (drop (suc (before_end text)) text)
lines_of-first [] h = absurd (omega arith)
lines_of-first (b ∷ bs) h = go (b == line_feed) h (lines_of-first bs)
  where
    go : (t : Bool) → cond (not t) (1 + before_end bs) 0 < suc (length bs) → (before_end bs < length bs → lines_of bs ≡ take (before_end bs) bs ∷ lines_of (drop (suc (before_end bs)) bs)) → cond t ([] ∷ lines_of bs) (onto_first b (lines_of bs)) ≡ take (cond (not t) (1 + before_end bs) 0) (b ∷ bs) ∷ lines_of (drop (suc (cond (not t) (1 + before_end bs) 0)) (b ∷ bs))
    go true h rest = refl
    go false h rest = rw (one-add, rest (omega arith))

pub lines_of-last : (text : List ℕ) → 0 < length text → length text ≤ before_end text → lines_of text ≡ text ∷ []
lines_of-last [] h k = absurd (omega arith)
lines_of-last (b ∷ []) h k = go (b == line_feed) k
  where
    go : (t : Bool) → 1 ≤ cond (not t) (1 + 0) 0 → cond t ([] ∷ []) ((b ∷ []) ∷ []) ≡ (b ∷ []) ∷ []
    go true k = absurd (omega arith)
    go false k = refl
lines_of-last (b ∷ c ∷ bs) h k = go (b == line_feed) k (lines_of-last (c ∷ bs) (omega arith))
  where
    go : (t : Bool) → suc (length (c ∷ bs)) ≤ cond (not t) (1 + before_end (c ∷ bs)) 0 → (length (c ∷ bs) ≤ before_end (c ∷ bs) → lines_of (c ∷ bs) ≡ (c ∷ bs) ∷ []) → cond t ([] ∷ lines_of (c ∷ bs)) (onto_first b (lines_of (c ∷ bs))) ≡ (b ∷ c ∷ bs) ∷ []
    go true k rest = absurd (omega arith)
    go false k rest = rw (rest (omega arith))

pub without_cr-push : (bs : List ℕ) (c : ℕ) → without_cr (bs ++ c ∷ []) ≡ cond (c == carriage_return) bs (bs ++ c ∷ [])
without_cr-push [] c = refl
without_cr-push (b ∷ []) c = go (c == carriage_return)
  where
    go : (t : Bool) → b ∷ cond t [] (c ∷ []) ≡ cond t (b ∷ []) (b ∷ c ∷ [])
    go true = refl
    go false = refl
without_cr-push (b ∷ d ∷ bs) c = go (c == carriage_return) (without_cr (d ∷ (bs ++ c ∷ []))) (without_cr-push (d ∷ bs) c)
  where
    go : (t : Bool) (front : List ℕ) → front ≡ cond t (d ∷ bs) (d ∷ (bs ++ c ∷ [])) → b ∷ front ≡ cond t (b ∷ d ∷ bs) (b ∷ d ∷ (bs ++ c ∷ []))
    go true front e = ap (λ l. b ∷ l) e
    go false front e = ap (λ l. b ∷ l) e

some_place : (n m end : ℕ) → Some end ≡ cond (nat_lt n m) (Some n) None → (n < m) × (end ≡ n)
some_place n m end e = go (nat_lt n m) refl e
  where
    go : (t : Bool) → nat_lt n m ≡ t → Some end ≡ cond t (Some n) None → (n < m) × (end ≡ n)
    go true t e = (ltb-true n m t, cc)
    go false t e = cc

no_place : (n m : ℕ) → None ≡ cond (nat_lt n m) (Some n) None → m ≤ n
no_place n m e = go (nat_lt n m) refl e
  where
    go : (t : Bool) → nat_lt n m ≡ t → None ≡ cond t (Some n) None → m ≤ n
    go true t e = cc
    go false t e = ltb-false n m t

-- what `position` answers, as the lines
pub lines_of-some : (text : List ℕ) (end : ℕ) → Some end ≡ position (λ b. b == line_feed) text → lines_of text ≡ take end text ∷ lines_of (drop (end + 1) text)
lines_of-some text end e =
    let (within, same) = some_place (before_end text) (length text) end e in
    rw (same, add-one) (lines_of-first text within)

pub lines_of-none : (text : List ℕ) → 0 < length text → None ≡ position (λ b. b == line_feed) text → lines_of text ≡ text ∷ []
lines_of-none text h e = lines_of-last text h (no_place (before_end text) (length text) e)

-- nothing is left after a whole text
pub nothing_left : (text : List ℕ) → take (length text - length text) (drop (length text) text) ≡ []
nothing_left text = take_rest text (length text) ∙ drop_all (length text) text (omega arith)

-- a line with its last byte apart
pub without_cr-yes : (line front : List ℕ) (last : ℕ) → line ≡ front ++ last ∷ [] → last ≡ carriage_return → front ≡ without_cr line
without_cr-yes line front last e cr = sym (ap without_cr e ∙ without_cr-push front last ∙ rw cr)

pub without_cr-no : (line front : List ℕ) (last : ℕ) → line ≡ front ++ last ∷ [] → (last ≡ carriage_return → ⊥) → line ≡ without_cr line
without_cr-no line front last e other =
    let kept : without_cr line ≡ front ++ last ∷ [] = ap without_cr e ∙ without_cr-push front last ∙ rw (ne_eqb last carriage_return other) in
    e ∙ sym kept
