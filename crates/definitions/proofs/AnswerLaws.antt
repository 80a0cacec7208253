-- There is at most one answer.
use Rattle.std.proofs.Common.{◌≡◌, ◌≢◌, ℕ, ◌<◌, ◌≤◌, ◌⊎◌, inl, inr, Bool, true, false, Option, Some, None, MatchOption, refl, sym, ap, ◌∙◌, ◌&&◌, if◌then◌else◌, arith}
use Rattle.std.proofs.lemmas.Bool.{cases_eq}
use Rattle.definitions.specs.declared.sequence.Sequence.{Sequence}
use Rattle.definitions.specs.declared.answer.Answer.{Answer}
use Rattle.definitions.specs.declared.answer.Answer.TheVariants.{Nothing, Decided, Undecided}
use Rattle.definitions.specs.time.Calendar.{century_minutes, is_leap_end}
use Rattle.signal_base.specs.declared.window.Window.{Window}
use Rattle.definitions.specs.sequences.Walks.{IsSequence, IsWalkable, IsLegal}
use Rattle.definitions.specs.sequences.Keys.{key_of}
use Rattle.definitions.specs.heard.Costs.{Costs, sequence_cost}
use Rattle.definitions.specs.answers.Answers.{IsAdmitted, IsAnswer, IsDecided, IsUndecided, IsNext, IsWindowAnswer}
use Rattle.definitions.proofs.KeyLaws.{same_sequence, cost_of-key_of, cost_of-le}

-- two Bools are one or they aren't
bool_cases : (a b : Bool) → (a ≡ b) ⊎ (a ≢ b)
bool_cases true true = inl refl
bool_cases true false = inr (λ e. cc)
bool_cases false true = inr (λ e. cc)
bool_cases false false = inl refl

-- two sequences are one or they aren't
pub same_or_other : (q r : Sequence) → (q ≡ r) ⊎ (q ≢ r)
same_or_other q r =
    elim (cases_eq q.first r.first) [
      | inr n ↦ inr (λ e. n (ap (λ (s : Sequence). s.first) e))
      | inl f ↦ elim (cases_eq q.second r.second) [
        | inr n ↦ inr (λ e. n (ap (λ (s : Sequence). s.second) e))
        | inl g ↦ elim (bool_cases q.announced r.announced) [
          | inr n ↦ inr (λ e. n (ap (λ (s : Sequence). s.announced) e))
          | inl h ↦ inl (same_sequence q r f g h)
        ]
      ]
    ]

-- sequences that can't be apart are one
one_by : (q r : Sequence) → (q ≢ r → ⊥) → q ≡ r
one_by q r never = elim (same_or_other q r) [ inl e ↦ e | inr n ↦ absurd (never n) ]

decided_same : (c d : ℕ) (q r : Sequence) (m n : Option ℕ) → c ≡ d → q ≡ r → m ≡ n → Decided c q m ≡ Decided d r n
decided_same c d q r m n e f g = cc

undecided_same : (c d : ℕ) (q r s t : Sequence) → c ≡ d → q ≡ r → s ≡ t → Undecided c q s ≡ Undecided d r t
undecided_same c d q r s t e f g = cc

same_cost : (cost : Sequence → ℕ) (c d : ℕ) (q r : Sequence) → c ≡ cost q → d ≡ cost r → q ≡ r → c ≡ d
same_cost cost c d q r e f g = e ∙ ap cost g ∙ sym f

module _ (admitted : Sequence → Type 0) (cost : Sequence → ℕ) (each : (q : Sequence) → admitted q → IsSequence q) where
  one_decided : (q r : Sequence) (m n : Option ℕ) → IsDecided admitted cost q m → IsDecided admitted cost r n → q ≡ r
  one_decided q r m n a b =
      one_by q r (λ apart.
      let lt = a.cheapest r b.is_admitted (λ e. apart (sym e)) in
      let gt = b.cheapest q a.is_admitted apart in
      absurd (omega arith))

  one_next : (q r : Sequence) → q ≡ r → (m n : Option ℕ)
      → MatchOption m ((s : Sequence) → admitted s → s ≡ q) (IsNext admitted cost q)
      → MatchOption n ((s : Sequence) → admitted s → s ≡ r) (IsNext admitted cost r) → m ≡ n
  one_next q r e None None a b = refl
  one_next q r e None (Some n) a b = absurd (b.some.2 (a b.some.0 b.some.1 ∙ e))
  one_next q r e (Some m) None a b = absurd (a.some.2 (b a.some.0 a.some.1 ∙ sym e))
  one_next q r e (Some m) (Some n) a b =
      let le = a.least b.some.0 b.some.1 (λ f. b.some.2 (f ∙ e)) in
      let ge = b.least a.some.0 a.some.1 (λ f. a.some.2 (f ∙ sym e)) in
      let last = a.some.3 in
      let also = b.some.3 in
      let same : m ≡ n = omega arith in
      ap Some same

  -- who comes first in order costs no more
  cheap : (q r : Sequence) → admitted q → admitted r → key_of (cost q) q < key_of (cost r) r → cost q ≤ cost r
  cheap q r a b lt =
      let le = cost_of-le (key_of (cost q) q) (key_of (cost r) r) (omega arith) in
      rw (cost_of-key_of (cost q) q (each q a), cost_of-key_of (cost r) r (each r b)) at le

  -- what is decided isn't undecided
  not_both : (q s t : Sequence) (n : Option ℕ) → IsDecided admitted cost q n → IsUndecided admitted cost s t → ⊥
  not_both q s t n d u =
      elim (same_or_other s q) [
        | inl e ↦
            let lt = d.cheapest t u.are_admitted.1 (λ f. u.other (f ∙ sym e)) in
            let same = ap cost e in
            let tie = u.tie in
            omega arith
        | inr other ↦
            let lt = d.cheapest s u.are_admitted.0 other in
            let tie = u.tie in
            elim (same_or_other t q) [
              | inl e ↦ let same = ap cost e in omega arith
              | inr another ↦
                  let le = cheap t q u.are_admitted.1 d.is_admitted (u.second q d.is_admitted (λ e. other (sym e)) (λ e. another (sym e))) in
                  omega arith
            ]
      ]

  one_first : (q r s t : Sequence) → IsUndecided admitted cost q r → IsUndecided admitted cost s t → q ≡ s
  one_first q r s t u v =
      one_by q s (λ apart.
      let lt = u.first s v.are_admitted.0 (λ e. apart (sym e)) in
      let gt = v.first q u.are_admitted.0 apart in
      absurd (omega (arith, lt, gt)))

  one_second : (q r s t : Sequence) → IsUndecided admitted cost q r → IsUndecided admitted cost s t → q ≡ s → r ≡ t
  one_second q r s t u v e =
      one_by r t (λ apart.
      let lt = u.second t v.are_admitted.1 (λ f. v.other (f ∙ e)) (λ f. apart (sym f)) in
      let gt = v.second r u.are_admitted.1 (λ f. u.other (f ∙ sym e)) apart in
      absurd (omega (arith, lt, gt)))

  -- two answers that both hold are one
  one_answer : (a b : Answer) → IsAnswer admitted cost a → IsAnswer admitted cost b → a ≡ b
  one_answer Nothing Nothing x y = refl
  one_answer Nothing (Decided d r n) x y = absurd (x r y.0.is_admitted)
  one_answer Nothing (Undecided d s t) x y = absurd (x s y.0.are_admitted.0)
  one_answer (Decided c q m) Nothing x y = absurd (y q x.0.is_admitted)
  one_answer (Decided c q m) (Decided d r n) x y =
      let same = one_decided q r m n x.0 y.0 in
      decided_same c d q r m n (same_cost cost c d q r x.1 y.1 same) same (one_next q r same m n x.0.is_next y.0.is_next)
  one_answer (Decided c q m) (Undecided d s t) x y = absurd (not_both q s t m x.0 y.0)
  one_answer (Undecided c q r) Nothing x y = absurd (y q x.0.are_admitted.0)
  one_answer (Undecided c q r) (Decided d s n) x y = absurd (not_both s q r n y.0 x.0)
  one_answer (Undecided c q r) (Undecided d s t) x y =
      let same = one_first q r s t x.0 y.0 in
      undecided_same c d q s r t (same_cost cost c d q s x.1 y.1 same) same (one_second q r s t x.0 y.0 same)

-- two answers that both hold are one, whatever is admitted and whatever it costs
pub answer_is_one : (admitted : Sequence → Type 0) (cost : Sequence → ℕ) → ((q : Sequence) → admitted q → IsSequence q)
    → (a b : Answer) → IsAnswer admitted cost a → IsAnswer admitted cost b → a ≡ b
answer_is_one admitted cost each a b x y = one_answer admitted cost each a b x y

length_bound : (b : Bool) → (if b then 61 else 60) ≤ 61
length_bound true = omega arith
length_bound false = omega arith

-- a walkable sequence has the numbers of one
pub walkable_sequence : (window : Window) (q : Sequence) → window.to ≤ century_minutes → IsWalkable window q → IsSequence q
walkable_sequence window q end is =
    let before = is.before_end in
    let short = is.second in
    record { first_minute = omega arith; first_second = omega (arith, short, length_bound (q.announced && is_leap_end q.first)) }

-- a window's answer is the only one
pub window_answer_is_one : (window : Window) (costs : Costs) (ceiling : ℕ) (a b : Answer) → window.to ≤ century_minutes
    → IsWindowAnswer window costs ceiling a → IsWindowAnswer window costs ceiling b → a ≡ b
window_answer_is_one window costs ceiling a b end x y =
    answer_is_one (IsAdmitted (IsLegal window) (sequence_cost costs window) ceiling) (sequence_cost costs window)
    (λ q is. walkable_sequence window q end is.0.0) a b x y
