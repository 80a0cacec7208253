-- A window has an answer: what is admitted can be decided, and of numbers that can be decided two are least.
use Rattle.std.proofs.Common.{◌≡◌, ◌≢◌, ℕ, zero, suc, ◌+◌, ◌*◌, ◌^◌, ◌<◌, ◌≤◌, max, ◌⊎◌, inl, inr, Bool, true, false, Option, Some, None, refl, sym, ap, ◌∙◌, subst, arith}
use Rattle.std.proofs.lemmas.Bool.{cases_order, cases_eq}
use Rattle.signal_base.specs.declared.station.Station.{Station}
use Rattle.signal_base.specs.declared.station.Station.TheVariants.{Dcf77, Msf, Wwvb, Jjy}
use Rattle.signal_base.specs.declared.station.Stations.{Stations}
use Rattle.signal_base.specs.declared.window.Window.{Window}
use Rattle.definitions.specs.declared.sequence.Sequence.{Sequence}
use Rattle.definitions.specs.declared.answer.Answer.{Answer}
use Rattle.definitions.specs.time.Calendar.{century_minutes, minute_length}
use Rattle.definitions.specs.codes.Allowed.{encoded_year, has_station, CanBeEncoded}
use Rattle.definitions.specs.sequences.Keys.{key_of}
use Rattle.definitions.specs.sequences.Walks.{place_at, set_at, unannounced, IsWalkable, ShowsLeap, IsLegal, IsSequence}
use Rattle.definitions.specs.heard.Costs.{Costs, sequence_cost}
use Rattle.definitions.specs.answers.Answers.{IsAdmitted, IsAnswer, IsWindowAnswer}
use Rattle.definitions.specs.answers.FirstTwo.{AreLeastTwo, IsKey, answer_from}
use Rattle.definitions.specs.sequences.Keys.{index_of, index_end, sequence_at, sequence_of}
use Rattle.definitions.proofs.KeyLaws.{sequence_of-key_of, sequence_at-index_of, index_bound}
use Rattle.definitions.proofs.EndLaws.{answer_is}
use Rattle.definitions.proofs.AnswerLaws.{walkable_sequence}

-- it holds or it doesn't
abbrev pub Decided : Type 0 → Type 0
Decided A = A ⊎ (¬ A)

pub decide_le : (m n : ℕ) → Decided (m ≤ n)
decide_le m n = elim (cases_order m n) [
  | inl e ↦ inl (omega arith)
  | inr apart ↦ elim apart [ inl lt ↦ inl (omega arith) | inr gt ↦ inr (λ le. omega (arith, gt, le)) ]
]

decide_eq : (m n : ℕ) → Decided (m ≡ n)
decide_eq m n = cases_eq m n

pub decide_true : (b : Bool) → Decided (b ≡ true)
decide_true true = inl refl
decide_true false = inr (λ e. cc)

pub decide_both : {A B : Type 0} → Decided A → Decided B → Decided (A × B)
decide_both (inl a) (inl b) = inl (a, b)
decide_both (inl a) (inr n) = inr (λ p. n p.1)
decide_both (inr n) b = inr (λ p. n p.0)

decide_either : {A B : Type 0} → Decided A → Decided B → Decided (A ⊎ B)
decide_either (inl a) b = inl (inl a)
decide_either (inr m) (inl b) = inl (inr b)
decide_either (inr m) (inr n) = inr (λ s. elim s [ inl a ↦ m a | inr b ↦ n b ])

decide_if : {A B : Type 0} → Decided A → Decided B → Decided (A → B)
decide_if a (inl b) = inl (λ _. b)
decide_if (inl a) (inr n) = inr (λ f. n (f a))
decide_if (inr m) (inr n) = inl (λ a. absurd (m a))

decide_not : {A : Type 0} → Decided A → Decided (¬ A)
decide_not (inl a) = inr (λ n. n a)
decide_not (inr n) = inl n

up_to : (P : ℕ → Type 0) (n : ℕ) → ((k : ℕ) → k < n → P k) → P n → (k : ℕ) → k < suc n → P k
up_to P n before here k lt = elim (cases_order k n) [
  | inl same ↦ subst P (sym same) here
  | inr apart ↦ elim apart [ inl lt ↦ before k lt | inr gt ↦ absurd (omega arith) ]
]

decide_each : (P : ℕ → Type 0) → ((k : ℕ) → Decided (P k)) → (n : ℕ) → Decided ((k : ℕ) → k < n → P k)
decide_each P each zero = inl (λ k lt. absurd (omega arith))
decide_each P each (suc n) = more (decide_each P each n) (each n)
  where
    more : Decided ((k : ℕ) → k < n → P k) → Decided (P n) → Decided ((k : ℕ) → k < suc n → P k)
    more (inl all) (inl here) = inl (up_to P n all here)
    more (inl all) (inr not) = inr (λ f. not (f n (omega arith)))
    more (inr not) here = inr (λ f. not (λ k lt. f k (omega arith)))

pub decide_some : (P : ℕ → Type 0) → ((k : ℕ) → Decided (P k)) → (n : ℕ) → Decided ((k : ℕ) × (k < n) × P k)
decide_some P each zero = inr (λ s. omega (arith, s.1))
decide_some P each (suc n) = more (decide_some P each n) (each n)
  where
    more : Decided ((k : ℕ) × (k < n) × P k) → Decided (P n) → Decided ((k : ℕ) × (k < suc n) × P k)
    more (inl s) here = inl (s.0, omega (arith, s.1), s.2)
    more (inr none) (inl here) = inl (n, omega arith, here)
    more (inr none) (inr not) = inr (λ s. elim (cases_order s.0 n) [
      | inl same ↦ not (subst P same s.2)
      | inr apart ↦ elim apart [ inl lt ↦ none (s.0, lt, s.2) | inr gt ↦ omega (arith, gt, s.1) ]
    ])

-- of decided numbers below a bound two are least
abbrev Least : (ℕ → Type 0) → Type 0
Least P = (first : Option ℕ) × (second : Option ℕ) × AreLeastTwo P first second

last : (n m : ℕ) → n < suc m → (n ≡ m) ⊎ (n < m)
last n m lt = elim (cases_order n m) [
  | inl same ↦ inl same
  | inr apart ↦ elim apart [ inl lt ↦ inr lt | inr gt ↦ absurd (omega arith) ]
]

module _ (P : ℕ → Type 0) (m : ℕ) where
  abbrev Below : ℕ → Type 0
  Below n = P n × (n < m)

  abbrev Up_to : ℕ → Type 0
  Up_to n = P n × (n < suc m)

  wider : (n : ℕ) → Below n → Up_to n
  wider n h = (h.0, omega (arith, h.1))

  narrower : ¬ (P m) → (n : ℕ) → Up_to n → Below n
  narrower not n h = elim (last n m h.1) [ inl same ↦ absurd (not (subst P same h.0)) | inr lt ↦ (h.0, lt) ]

  one_more : (first second : Option ℕ) → AreLeastTwo Below first second → Decided (P m) → Least Up_to
  one_more None None none (inl p) =
      (Some m, None, ((p, omega arith), λ n h. elim (last n m h.1) [ inl same ↦ same | inr lt ↦ absurd (none n (h.0, lt)) ]))
  one_more None None none (inr not) = (None, None, λ n h. none n (narrower not n h))
  one_more None (Some l) never here = absurd never
  one_more (Some k) None h (inl p) = (
    Some k,
    Some m,
    (wider k h.0, (p, omega arith), h.0.1, λ n g. elim (last n m g.1) [ inl same ↦ inr (omega (arith, same)) | inr lt ↦ inl (h.1 n (g.0, lt)) ]),
  )
  one_more (Some k) None h (inr not) = (Some k, None, (wider k h.0, λ n g. h.1 n (narrower not n g)))
  one_more (Some k) (Some l) h here = (
    Some k,
    Some l,
    (wider k h.0, wider l h.1, h.2, λ n g. elim (last n m g.1) [ inl same ↦ inr (omega (arith, same, h.1.1)) | inr lt ↦ h.3 n (g.0, lt) ]),
  )

least_below : (P : ℕ → Type 0) → ((n : ℕ) → Decided (P n)) → (m : ℕ) → Least (λ n. P n × (n < m))
least_below P each zero = (None, None, λ n h. omega (arith, h.1))
least_below P each (suc m) = let l = least_below P each m in one_more P m l.0 l.1 l.2 (each m)

-- the same where no number is beyond the bound
all_below : (P : ℕ → Type 0) (m : ℕ) → ((n : ℕ) → P n → n < m) → (first second : Option ℕ) → AreLeastTwo (λ n. P n × (n < m)) first second → AreLeastTwo P first second
all_below P m bound None None none = λ n p. none n (p, bound n p)
all_below P m bound None (Some l) never = never
all_below P m bound (Some k) None h = (h.0.0, λ n p. h.1 n (p, bound n p))
all_below P m bound (Some k) (Some l) h = (h.0.0, h.1.0, h.2, λ n p. h.3 n (p, bound n p))

-- what a window admits can be decided
decide_station : (P : Station → Type 0) → ((s : Station) → Decided (P s)) → Decided ((s : Station) → P s)
decide_station P each = all (decide_both (each Dcf77) (decide_both (each Msf) (decide_both (each Wwvb) (each Jjy))))
  where
    each_of : (P Dcf77 × (P Msf × (P Wwvb × P Jjy))) → (s : Station) → P s
    each_of h Dcf77 = h.0
    each_of h Msf = h.1.0
    each_of h Wwvb = h.1.1.0
    each_of h Jjy = h.1.1.1

    all : Decided (P Dcf77 × (P Msf × (P Wwvb × P Jjy))) → Decided ((s : Station) → P s)
    all (inl h) = inl (each_of h)
    all (inr not) = inr (λ f. not (f Dcf77, (f Msf, (f Wwvb, f Jjy))))

decide_some_station : (P : Station → Type 0) → ((s : Station) → Decided (P s)) → Decided ((s : Station) × P s)
decide_some_station P each = some (decide_either (each Dcf77) (decide_either (each Msf) (decide_either (each Wwvb) (each Jjy))))
  where
    never : ¬ (P Dcf77 ⊎ (P Msf ⊎ (P Wwvb ⊎ P Jjy))) → (s : Station) → P s → ⊥
    never not Dcf77 h = not (inl h)
    never not Msf h = not (inr (inl h))
    never not Wwvb h = not (inr (inr (inl h)))
    never not Jjy h = not (inr (inr (inr h)))

    some : Decided (P Dcf77 ⊎ (P Msf ⊎ (P Wwvb ⊎ P Jjy))) → Decided ((s : Station) × P s)
    some (inl (inl h)) = inl (Dcf77, h)
    some (inl (inr (inl h))) = inl (Msf, h)
    some (inl (inr (inr (inl h)))) = inl (Wwvb, h)
    some (inl (inr (inr (inr h)))) = inl (Jjy, h)
    some (inr not) = inr (λ h. never not h.0 h.1)

decide_sent : (stations : Stations) (t : ℕ) → Decided (CanBeEncoded stations t)
decide_sent stations t =
    decide_both (decide_le (suc t) century_minutes)
    (decide_station (λ s. has_station stations s ≡ true → encoded_year s t ≤ 2099) (λ s. decide_if (decide_true (has_station stations s)) (decide_le (encoded_year s t) 2099)))

module _ (window : Window) (q : Sequence) where
  pub decide_walkable : Decided (IsWalkable window q)
  decide_walkable =
      put (decide_both (decide_le window.from q.first) (decide_both (decide_le (suc q.first) window.to)
      (decide_both (decide_le (suc q.second) (minute_length q.announced q.first))
      (decide_each (λ k. CanBeEncoded window.stations (place_at q k).0) (λ k. decide_sent window.stations (place_at q k).0) window.seconds))))
    where
      put : Decided ((window.from ≤ q.first) × ((q.first < window.to) × ((q.second < minute_length q.announced q.first) × ((k : ℕ) → k < window.seconds → CanBeEncoded window.stations (place_at q k).0))))
          → Decided (IsWalkable window q)
      put (inl h) = inl (record { not_before = h.0; before_end = h.1.0; second = h.1.1.0; encoded = h.1.1.1 })
      put (inr not) = inr (λ is. not (is.not_before, (is.before_end, (is.second, is.encoded))))

  differs : Station → ℕ → Type 0
  differs station k = (has_station window.stations station ≡ true) × (set_at station q k ≢ set_at station (unannounced q) k)

  decide_shows : Decided (ShowsLeap window q)
  unfolding differs
  decide_shows =
      put (decide_some_station (λ s. (k : ℕ) × (k < window.seconds) × differs s k)
      (λ s. decide_some (differs s)
      (λ k. decide_both (decide_true (has_station window.stations s)) (decide_not (decide_eq (set_at s q k) (set_at s (unannounced q) k)))) window.seconds))
    where
      put : Decided ((s : Station) × ((k : ℕ) × (k < window.seconds) × differs s k)) → Decided (ShowsLeap window q)
      put (inl h) = inl (h.0, h.1.0, h.1.2.0, h.1.1, h.1.2.1)
      put (inr not) = inr (λ h. not (h.0, (h.1, h.3, (h.2, h.4))))

pub decide_legal : (window : Window) (q : Sequence) → Decided (IsLegal window q)
decide_legal window q =
    decide_both (decide_walkable window q)
    (decide_if (decide_true q.announced)
    (decide_either (decide_eq q.second 60) (decide_either (decide_not (decide_walkable window (unannounced q))) (decide_shows window q))))

-- Over sequences that can be decided and cost no more than a bound there is an answer.
module _ (admitted : Sequence → Type 0) (cost : Sequence → ℕ) (is_sequence : (q : Sequence) → admitted q → IsSequence q) (decide : (q : Sequence) → Decided (admitted q)) (most : ℕ) (within : (q : Sequence) → admitted q → cost q ≤ most) where
  abbrev is_key : ℕ → Type 0
  is_key n = IsKey admitted cost n

  -- a key is that of the sequence which it names
  decide_key : (n : ℕ) → Decided (is_key n)
  decide_key n = put (decide_both (decide (sequence_of n)) (decide_eq (key_of (cost (sequence_of n)) (sequence_of n)) n))
    where
      named : (h : is_key n) → h.0 ≡ sequence_of n
      named h = sym (sequence_of-key_of (cost h.0) h.0 (is_sequence h.0 h.1)) ∙ ap sequence_of h.2

      put : Decided (admitted (sequence_of n) × (key_of (cost (sequence_of n)) (sequence_of n) ≡ n)) → Decided (is_key n)
      put (inl h) = inl (sequence_of n, h.0, h.1)
      put (inr not) = inr (λ h. not (subst (λ q. admitted q × (key_of (cost q) q ≡ n)) (named h) (h.1, h.2)))

  bound : (n : ℕ) → is_key n → n < (most + 1) * 2 ^ 33
  bound n h = omega (arith, within h.0 h.1, h.2, index_bound h.0 (is_sequence h.0 h.1))

  pub answer_exists : (a : Answer) × IsAnswer admitted cost a
  answer_exists =
      let l = least_below is_key decide_key ((most + 1) * 2 ^ 33) in
      (answer_from l.0 l.1, answer_is admitted cost is_sequence l.0 l.1 (all_below is_key ((most + 1) * 2 ^ 33) bound l.0 l.1 l.2))

-- there is an answer for a window
pub an_answer : (window : Window) (costs : Costs) (ceiling : ℕ) → window.to ≤ century_minutes → (a : Answer) × IsWindowAnswer window costs ceiling a
an_answer window costs ceiling end =
    answer_exists (IsAdmitted (IsLegal window) (sequence_cost costs window) ceiling) (sequence_cost costs window)
    (λ q a. walkable_sequence window q end a.0.0)
    (λ q. decide_both (decide_legal window q) (decide_le (sequence_cost costs window q) ceiling)) ceiling (λ q a. a.1)

-- the greatest of the first n numbers
greatest : (ℕ → ℕ) → ℕ → ℕ
greatest f zero = 0
greatest f (suc n) = max (greatest f n) (f n)

greatest-above : (f : ℕ → ℕ) (n k : ℕ) → k < n → f k ≤ greatest f n
unfolding greatest
greatest-above f zero k lt = absurd (omega arith)
greatest-above f (suc n) k lt = elim (last k n lt) [
  | inl same ↦ omega (arith, ap f same)
  | inr below ↦ omega (arith, greatest-above f n k below)
]

-- whatever it costs, what can be decided has an answer
pub decided_has_answer : (admitted : Sequence → Type 0) (cost : Sequence → ℕ) → ((q : Sequence) → admitted q → IsSequence q)
    → ((q : Sequence) → Decided (admitted q)) → (a : Answer) × IsAnswer admitted cost a
decided_has_answer admitted cost is_sequence decide =
    answer_exists admitted cost is_sequence decide (greatest (λ n. cost (sequence_at n)) index_end)
    (λ q a. let e : cost (sequence_at (index_of q)) ≡ cost q = ap cost (sequence_at-index_of q (is_sequence q a)) in
    omega (arith, e, greatest-above (λ n. cost (sequence_at n)) index_end (index_of q) (index_bound q (is_sequence q a))))
