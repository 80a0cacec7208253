-- What stands after all searches is the swept answer, with its window.
use Rattle.std.proofs.Common.{◌≡◌, ◌≢◌, ℕ, ◌<◌, ◌≤◌, ◌⊎◌, inl, inr, Bool, true, false, nat_le, nat_lt, if◌then◌else◌, List, Option, Some, None, option_map, ◌%◌, ◌^◌, ◌*◌, ◌+◌, refl, sym, ap, ◌∙◌, subst, arith}
use Rattle.std.specs.Option.{ForSome}
use Rattle.std.proofs.lemmas.Bool.{and_from, le-leb, lt-ltb}
use Rattle.signal_base.specs.declared.window.Window.{Window}
use Rattle.definitions.specs.declared.answer.Answer.{Answer}
use Rattle.definitions.specs.declared.sequence.Sequence.{Sequence}
use Rattle.definitions.specs.answers.Answers.{IsAdmitted, IsAnswer}
use Rattle.definitions.specs.answers.FirstTwo.{AreLeastTwo, IsKey, answer_after, answer_from}
use Rattle.definitions.specs.sequences.Keys.{cost_of, index_end, index_of, key_of, sequence_at, sequence_of}
use Rattle.definitions.specs.sequences.Walks.{IsLegal, IsSequence}
use Rattle.definitions.specs.time.Calendar.{century_minutes}
use Rattle.definitions.proofs.EndLaws.{answer_is}
use Rattle.definitions.proofs.KeyLaws.{index_bound, sequence_of-key_of}
use Rattle.due.specs.Banks.{Bank}
use Rattle.sweep_due.specs.declared.offsets.TheConstants.{OFFSET_REACH, OFFSET_STEP, PHASE_LIMIT}
use Rattle.sweep_due.specs.declared.standing.Placed.{Placed}
use Rattle.sweep_due.specs.declared.standing.Standing.{Standing}
use Rattle.sweep_due.specs.Phases.{IsSwept, window_at}
use Rattle.sweep_due.specs.Searches.{AreAllSwept, IsKeyAt, IsSearched}
use Rattle.sweep_due.specs.Standings.{answer_told, first_key, window_told, window_with}
use Rattle.sweep_due.specs.Swept.{IsOffsetOf, IsSweptAnswer, IsToldWindow, IsWindowOf, cost_at, swept_cost}
use Rattle.sweep_due.proofs.KeysLaws.{key_at, legal_sequence, names}
use Rattle.sweep_due.proofs.SearchLaws.{Known, searched_stands}
use Rattle.sweep_due.proofs.StandingLaws.{AreFirst, IsNotBefore, index_in}
use Rattle.sweep_due.proofs.SweptCostLaws.{swept_below, swept_is}

-- of one sequence the greater key has the greater cost
cost_le : (c d i n m : ℕ) → c * 2 ^ 33 + i ≡ n → d * 2 ^ 33 + i ≡ m → n ≤ m → c ≤ d
cost_le c d i n m e f le = omega (arith, e, f, le)

key_le : (c d i : ℕ) → c ≤ d → c * 2 ^ 33 + i ≤ d * 2 ^ 33 + i
key_le c d i le = omega (arith, le)

-- the middle offset is that of the decode's own phase
abbrev pub middle_offset : ℕ
middle_offset = 5

pub middle : (phase : ℕ) → phase < PHASE_LIMIT → IsSwept phase middle_offset
middle phase lt =
    let moved = phase + OFFSET_STEP * middle_offset in
    let reached : OFFSET_REACH ≤ phase + OFFSET_STEP * middle_offset = omega arith in
    let below : phase + OFFSET_STEP * middle_offset < PHASE_LIMIT + OFFSET_REACH = omega (arith, lt) in (
      omega arith,
      and_from (nat_le OFFSET_REACH moved) (nat_lt moved (PHASE_LIMIT + OFFSET_REACH)) (le-leb OFFSET_REACH moved reached) (lt-ltb moved (PHASE_LIMIT + OFFSET_REACH) below),
    )

same_some : (n m : ℕ) → ◌≡◌ {A = Option ℕ} (Some n) (Some m) → n ≡ m
same_some n m e = cc

same_placed : (p q : Placed) → ◌≡◌ {A = Option Placed} (Some p) (Some q) → p ≡ q
same_placed p q e = cc

some_is_not_none : (l : ℕ) → ◌≡◌ {A = Option ℕ} (Some l) None → ⊥
some_is_not_none l e = cc

-- a key has the index of its sequence
index_of_key : (c : ℕ) (q : Sequence) → IsSequence q → index_in (key_of c q) ≡ index_of q
index_of_key c q is = omega (arith, index_bound q is)

module _ (window : Window) (bank : Bank) (century : window.to ≤ century_minutes) (phase : window.phase < PHASE_LIMIT) (offsets : List ℕ) (all : AreAllSwept window.phase offsets) where
  abbrev admitted : Sequence → Type 0
  admitted q = IsAdmitted (IsLegal window) (swept_cost window bank) bank.ceiling q

  -- the keys in the order of the swept answer
  abbrev swept_key : ℕ → Type 0
  swept_key n = IsKey admitted (swept_cost window bank) n

  known : (n j : ℕ) → IsSwept window.phase j → IsKeyAt window bank bank.ceiling j n → Known window bank century offsets n j
  known n j swept key = (all.all j swept, key)

  -- the swept key of a sequence that has a key at a swept offset: it is a key at one, too, and no greater
  pub record Best (n : ℕ) : Type 0 where
    pub key : ℕ
    pub offset : ℕ
    pub is_known : Known window bank century offsets key offset
    pub swept : IsSwept window.phase offset
    pub index : index_in key ≡ index_in n
    pub not_above : key ≤ n
    pub is_swept : swept_key key

  best : (n j : ℕ) → Known window bank century offsets n j → Best n
  best n j is =
      let a = names window bank century bank.ceiling j n is.1 in
      let at_j = all.each j is.0 in
      let found = swept_is window bank a.q j at_j in
      let i = found.0 in
      let below = swept_below window bank a.q j at_j in
      let same = found.2 in
      let within : cost_at window bank a.q i ≤ bank.ceiling = omega (arith, same, below, a.admitted) in
      let key = key_at window bank century bank.ceiling i a.q a.legal within in
      let b = names window bank century bank.ceiling i (key_of (cost_at window bank a.q i) a.q) key in
      record {
        key = key_of (cost_at window bank a.q i) a.q;
        offset = i;
        is_known = known (key_of (cost_at window bank a.q i) a.q) i found.1 key;
        swept = found.1;
        index = index_of_key (cost_at window bank a.q i) a.q (legal_sequence window bank century a.q a.legal) ∙ sym a.index;
        not_above = subst (λ (m : ℕ). key_of (cost_at window bank a.q i) a.q ≤ m) a.is (key_le (cost_at window bank a.q i) (cost_at window bank a.q j) (index_of a.q) (omega (arith, same, below)));
        is_swept = (a.q, (a.legal, omega (arith, below, a.admitted)), ap (λ (c : ℕ). key_of c a.q) (sym same));
      }

  -- each swept key is a key at some offset
  swept_is_known : (n : ℕ) → swept_key n → (j : ℕ) × Known window bank century offsets n j
  swept_is_known n (q, is, e) =
      let found = swept_is window bank q middle_offset (middle window.phase phase) in
      let same = found.2 in
      let le = is.1 in
      let within : cost_at window bank q found.0 ≤ bank.ceiling = omega (arith, same, le) in (
        found.0,
        known n found.0 found.1
            (subst (λ (m : ℕ). IsKeyAt window bank bank.ceiling found.0 m) (ap (λ (c : ℕ). key_of c q) same ∙ e)
            (key_at window bank century bank.ceiling found.0 q is.0 within)),
      )

  -- a sequence has one swept key
  index_named : (n : ℕ) (k : swept_key n) → k.0 ≡ sequence_of n
  index_named n (q, is, e) = sym (sequence_of-key_of (swept_cost window bank q) q (legal_sequence window bank century q is.0)) ∙ ap sequence_of e

  same_swept : (n m : ℕ) → swept_key n → swept_key m → index_in n ≡ index_in m → n ≡ m
  same_swept n m k l same =
      let one : k.0 ≡ l.0 = index_named n k ∙ ap sequence_at same ∙ sym (index_named m l) in
      sym k.2 ∙ ap (λ (q : Sequence). key_of (swept_cost window bank q) q) one ∙ l.2

  -- the first two are the least two swept keys
  first_is_swept : (p : Placed) → Known window bank century offsets p.key p.offset
      → ((n j : ℕ) → Known window bank century offsets n j → p.key ≤ n) → swept_key p.key
  first_is_swept p is least =
      let b = best p.key p.offset is in
      let le = least b.key b.offset b.is_known in
      let same : b.key ≡ p.key = omega (arith, le, b.not_above) in
      subst swept_key same b.is_swept

  least_two : (first : Option Placed) (second : Option ℕ) → AreFirst (Known window bank century offsets) first second
      → AreLeastTwo swept_key (option_map (λ (p : Placed). p.key) first) second
  least_two None None is = λ n k. let found = swept_is_known n k in is.1 n found.0 found.1
  least_two None (Some l) is = absurd (some_is_not_none l is.0)
  least_two (Some p) None is =
      let swept = first_is_swept p is.0 (λ n j k. (is.1 n j k).0.0) in
      (swept, λ n k. let found = swept_is_known n k in same_swept n p.key k swept (is.1 n found.0 found.1).1)
  least_two (Some p) (Some l) is =
      let swept = first_is_swept p is.0 (λ n j k. (is.4 n j k).0.0) in
      let b = best l is.1.0 is.1.1 in
      let le : l ≤ b.key = elim (is.4 b.key b.offset b.is_known).1 [ inl e ↦ absurd (is.2 (sym b.index ∙ e)) | inr above ↦ above ] in
      let same : b.key ≡ l = omega (arith, le, b.not_above) in (
        swept,
        subst swept_key same b.is_swept,
        is.3,
        λ n k. let found = swept_is_known n k in elim (is.4 n found.0 found.1).1 [ inl e ↦ inl (same_swept n p.key k swept e) | inr above ↦ inr above ],
      )

  -- the first sequence has its least cost at its offset, and at none before it
  offset_of_first : (p : Placed) → Known window bank century offsets p.key p.offset
      → ((n j : ℕ) → Known window bank century offsets n j → IsNotBefore p n j) → IsOffsetOf window bank (sequence_of p.key) p.offset
  offset_of_first p is least =
      let a = names window bank century bank.ceiling p.offset p.key is.1 in
      let at = all.each p.offset is.0 in
      let below = swept_below window bank a.q p.offset at in
      let found = swept_is window bank a.q p.offset at in
      let same = found.2 in
      let within : cost_at window bank a.q found.0 ≤ bank.ceiling = omega (arith, same, below, a.admitted) in
      let key = key_at window bank century bank.ceiling found.0 a.q a.legal within in
      let le = (least (key_of (cost_at window bank a.q found.0) a.q) found.0 (known (key_of (cost_at window bank a.q found.0) a.q) found.0 found.1 key)).0 in
      let not_more : cost_at window bank a.q p.offset ≤ cost_at window bank a.q found.0 = cost_le (cost_at window bank a.q p.offset) (cost_at window bank a.q found.0) (index_of a.q) p.key (key_of (cost_at window bank a.q found.0) a.q) a.is refl le in
      let is_cost : cost_at window bank a.q p.offset ≡ swept_cost window bank a.q = omega (arith, not_more, same, below) in
      subst (λ (q : Sequence). IsOffsetOf window bank q p.offset) (sym a.named)
      (record {
        swept = at;
        cost = is_cost;
        least = λ j swept e.
            let also : cost_at window bank a.q p.offset ≡ cost_at window bank a.q j = is_cost ∙ sym e in
            let small : cost_at window bank a.q j ≤ bank.ceiling = omega (arith, also, a.admitted) in
            let n = key_of (cost_at window bank a.q j) a.q in
            (least n j (known n j swept (key_at window bank century bank.ceiling j a.q a.legal small))).1 (sym a.is ∙ ap (λ (c : ℕ). key_of c a.q) also);
      })

  told : (first : Option Placed) (second : Option ℕ) → AreFirst (Known window bank century offsets) first second
      → IsToldWindow window bank (answer_from (option_map (λ (p : Placed). p.key) first) second) (window_with window first)
  told None second is = refl
  told (Some p) None is = (p.offset, offset_of_first p is.0 (λ n j k. (is.1 n j k).0), refl)
  told (Some p) (Some l) is = by_cost (nat_lt (cost_of p.key) (cost_of l)) refl
    where
      window_is : IsWindowOf window bank (sequence_of p.key) (window_at window p.offset)
      window_is = (p.offset, offset_of_first p is.0 (λ n j k. (is.4 n j k).0), refl)

      by_cost : (b : Bool) → nat_lt (cost_of p.key) (cost_of l) ≡ b → IsToldWindow window bank (answer_after p.key l) (window_at window p.offset)
      by_cost true e = rw e window_is
      by_cost false e = rw e window_is

  -- what is known of the first two
  abbrev IsSmall : ℕ → Type 0
  IsSmall key = key % 2 ^ 33 < index_end

  small : (n j : ℕ) → Known window bank century offsets n j → IsSmall n
  small n j k = (names window bank century bank.ceiling j n k.1).small

  small_first : (first : Option Placed) (second : Option ℕ) → AreFirst (Known window bank century offsets) first second
      → ForSome (option_map (λ (p : Placed). p.key) first) IsSmall
  small_first None second is = λ x e. absurd cc
  small_first (Some p) None is = λ x e. subst IsSmall (same_some p.key x e) (small p.key p.offset is.0)
  small_first (Some p) (Some l) is = λ x e. subst IsSmall (same_some p.key x e) (small p.key p.offset is.0)

  small_second : (first : Option Placed) (second : Option ℕ) → AreFirst (Known window bank century offsets) first second → ForSome second IsSmall
  small_second first None is = λ x e. absurd cc
  small_second None (Some l) is = absurd (some_is_not_none l is.0)
  small_second (Some p) (Some l) is = λ x e. subst IsSmall (same_some l x e) (small l is.1.0 is.1.1)

  swept_first : (first : Option Placed) (second : Option ℕ) → AreFirst (Known window bank century offsets) first second
      → ForSome first (λ (p : Placed). IsSwept window.phase p.offset)
  swept_first None second is = λ x e. absurd cc
  swept_first (Some p) None is = λ x e. subst (λ (q : Placed). IsSwept window.phase q.offset) (same_placed p x e) (all.each p.offset is.0.0)
  swept_first (Some p) (Some l) is = λ x e. subst (λ (q : Placed). IsSwept window.phase q.offset) (same_placed p x e) (all.each p.offset is.0.0)

  module _ (s : Standing) (searched : IsSearched window bank offsets s) where
    pub swept_answer_is : IsSweptAnswer window bank (answer_told s)
    swept_answer_is =
        answer_is admitted (swept_cost window bank) (λ q a. legal_sequence window bank century q a.0) (first_key s) s.second
        (least_two s.first s.second (searched_stands window bank century offsets s searched))

    pub told_window_is : IsToldWindow window bank (answer_told s) (window_told window s)
    told_window_is = told s.first s.second (searched_stands window bank century offsets s searched)

    pub keys_are_small : ForSome (first_key s) (λ (key : ℕ). key % 2 ^ 33 < index_end) × ForSome s.second (λ (key : ℕ). key % 2 ^ 33 < index_end)
    keys_are_small =
        let stands = searched_stands window bank century offsets s searched in
        (small_first s.first s.second stands, small_second s.first s.second stands)

    pub offset_is_swept : ForSome s.first (λ (p : Placed). IsSwept window.phase p.offset)
    offset_is_swept = swept_first s.first s.second (searched_stands window bank century offsets s searched)
