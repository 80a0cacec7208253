-- The numbers so far, and one more.
use Rattle.std.proofs.Common.{◌≡◌, ℕ, ◌+◌, ◌-◌, ◌%◌, ◌<◌, ◌≤◌, ◌⊎◌, inl, inr, List, [], ◌∷◌, ◌++◌, length, get_or, sym, ap, ◌∙◌, arith}
use Rattle.std.proofs.Math.Nat.{add-mod_right}
use Rattle.std.proofs.lemmas.Bool.{cases_lt}
use Rattle.std.proofs.lemmas.List.{get_or_append_left, get_or_push, length_push}
use Rattle.atomic_table.proofs.Lists.{one_turn}
use Rattle.board_entries.specs.Board.{PlainEntry}
use Rattle.board_due.specs.BoardAnswers.{AreCounts}

-- the first n numbers are none above the most, and don't fall for one asker
pub record SoFar (many most n : ℕ) (counts : List ℕ) : Type 0 where
  pub each : length counts ≡ n
  pub bound : (k : ℕ) → k < n → get_or counts k 0 ≤ most
  pub rise : (i j : ℕ) → i ≤ j → j < n → i % many ≡ j % many → get_or counts i 0 ≤ get_or counts j 0

pub none_so_far : (many most : ℕ) (counts : List ℕ) → counts ≡ [] → SoFar many most 0 counts
none_so_far many most counts none = record {
  each = ap (λ (l : List ℕ). length l) none;
  bound = λ k h. absurd (omega (arith, h));
  rise = λ i j le h same. absurd (omega (arith, h));
}

-- the question of the same asker before
one_back : (n many : ℕ) → many ≤ n → (n - many) % many ≡ n % many
one_back n many le =
    let whole : n - many + many ≡ n = omega (arith, le) in
    sym (add-mod_right (n - many) many) ∙ ap (λ m. m % many) whole

module _ (many most n : ℕ) (counts : List ℕ) (count : ℕ) (some : 0 < many) (so_far : SoFar many most n counts) where
  there : (k : ℕ) → k < n → get_or (counts ++ count ∷ []) k 0 ≡ get_or counts k 0
  there k h = get_or_append_left counts (count ∷ []) 0 k (omega (arith, h, so_far.each))

  here : (k : ℕ) → k ≡ n → get_or (counts ++ count ∷ []) k 0 ≡ count
  here k e = get_or_push counts count 0 k (so_far.each ∙ sym e)

  module _ (below : count ≤ most) (after : many ≤ n → get_or counts (n - many) 0 ≤ count) where
    bound_more : (k : ℕ) → k < n + 1 → get_or (counts ++ count ∷ []) k 0 ≤ most
    bound_more k h = go (cases_lt k n)
      where
        go : (k < n) ⊎ (n ≤ k) → get_or (counts ++ count ∷ []) k 0 ≤ most
        go (inl lt) = omega (arith, there k lt, so_far.bound k lt)
        go (inr ge) = omega (arith, here k (omega (arith, ge, h)), below)

    -- a question of the same asker, before the last one
    earlier : (i : ℕ) → i < n → i % many ≡ n % many → get_or counts i 0 ≤ count
    earlier i lt same = go (cases_lt n (i + many))
      where
        go : (n < i + many) ⊎ (i + many ≤ n) → get_or counts i 0 ≤ count
        go (inl near) = absurd (omega (arith, lt, one_turn i n many (omega (arith, lt)) near same))
        go (inr far) =
            let back : many ≤ n = omega (arith, far) in
            let rises = so_far.rise i (n - many) (omega (arith, far)) (omega (arith, lt, some)) (same ∙ sym (one_back n many back)) in
            omega (arith, rises, after back)

    rise_more : (i j : ℕ) → i ≤ j → j < n + 1 → i % many ≡ j % many → get_or (counts ++ count ∷ []) i 0 ≤ get_or (counts ++ count ∷ []) j 0
    rise_more i j le h same = go (cases_lt j n)
      where
        last : j ≡ n → (i < n) ⊎ (n ≤ i) → get_or (counts ++ count ∷ []) i 0 ≤ get_or (counts ++ count ∷ []) j 0
        last e (inl lt) = omega (arith, there i lt, here j e, earlier i lt (same ∙ ap (λ m. m % many) e))
        last e (inr ge) = omega (arith, here i (omega (arith, le, e, ge)), here j e)

        go : (j < n) ⊎ (n ≤ j) → get_or (counts ++ count ∷ []) i 0 ≤ get_or (counts ++ count ∷ []) j 0
        go (inl lt) = omega (arith, there i (omega (arith, lt, le)), there j lt, so_far.rise i j le lt same)
        go (inr ge) = let e : j ≡ n = omega (arith, ge, h) in last e (cases_lt i n)

    pub so_far_more : SoFar many most (n + 1) (counts ++ count ∷ [])
    so_far_more = record { each = omega (arith, length_push counts count, so_far.each); bound = bound_more; rise = rise_more }

-- all of them
pub are_counts : (many n : ℕ) (entries : List PlainEntry) (queries counts : List ℕ) (most : ℕ) → most ≡ length entries → length queries ≡ n → SoFar many most n counts
    → AreCounts many entries queries counts
are_counts many n entries queries counts most all end so_far = record {
  each = so_far.each ∙ sym end;
  most = λ k h. omega (arith, so_far.bound k (omega (arith, h, so_far.each)), all);
  rise = λ i j le h same. so_far.rise i j le (omega (arith, h, so_far.each)) same;
}

-- what is known of the number before and of the one that is kept
module _ (many most n : ℕ) (counts seen : List ℕ) (said before count : ℕ) (some : 0 < many) (so_far : SoFar many most n counts) (same : seen ≡ counts) where
  pub one_count_more : said ≤ most → (length seen < many → before ≡ 0) → (many ≤ length seen → before ≡ get_or seen (length seen - many) 0)
      → before ≤ count → (count ≡ said) ⊎ (count ≡ before) → SoFar many most (n + 1) (counts ++ count ∷ [])
  one_count_more said_below none last le one = so_far_more many most n counts count some so_far (below one) after
    where
      long : length seen ≡ n
      long = ap (λ (l : List ℕ). length l) same ∙ so_far.each

      before_is : many ≤ n → before ≡ get_or counts (n - many) 0
      before_is back =
          last (omega (arith, back, long)) ∙ (ap (λ (l : List ℕ). get_or l (length seen - many) 0) same ∙ ap (λ k. get_or counts (k - many) 0) long)

      before_below : (many ≤ n) ⊎ (n < many) → before ≤ most
      before_below (inl back) = omega (arith, before_is back, so_far.bound (n - many) (omega (arith, back, some)))
      before_below (inr short) = omega (arith, none (omega (arith, short, long)))

      turn : (n < many) ⊎ (many ≤ n) → (many ≤ n) ⊎ (n < many)
      turn (inl a) = inr a
      turn (inr b) = inl b

      below : (count ≡ said) ⊎ (count ≡ before) → count ≤ most
      below (inl e) = omega (arith, e, said_below)
      below (inr e) = omega (arith, e, before_below (turn (cases_lt n many)))

      after : many ≤ n → get_or counts (n - many) 0 ≤ count
      after back = omega (arith, before_is back, le)
