-- The keys of a window at an offset: each names its sequence, and a sequence has one there.
use Rattle.std.proofs.Common.{◌≡◌, ◌≢◌, ℕ, ◌+◌, ◌*◌, ◌%◌, ◌^◌, ◌<◌, ◌≤◌, ◌⊎◌, inl, inr, true, refl, sym, ap, ◌∙◌, subst, arith}
use Rattle.signal_base.specs.declared.window.Window.{Window}
use Rattle.definitions.specs.declared.sequence.Sequence.{Sequence}
use Rattle.definitions.specs.heard.Costs.{sequence_cost}
use Rattle.definitions.specs.sequences.Keys.{cost_of, index_end, index_of, key_of, sequence_at, sequence_of}
use Rattle.definitions.specs.sequences.Walks.{IsLegal, IsSequence, IsWalkable, unannounced}
use Rattle.definitions.specs.time.Calendar.{century_minutes}
use Rattle.definitions.proofs.AnswerLaws.{walkable_sequence}
use Rattle.definitions.proofs.KeyLaws.{cost_of-key_of, index_bound, key_index, sequence_of-key_of}
use Rattle.due.specs.Banks.{Bank, costs_in}
use Rattle.sweep_due.specs.Phases.{window_at}
use Rattle.sweep_due.specs.Searches.{IsKeyAt}
use Rattle.sweep_due.specs.Swept.{cost_at}
use Rattle.sweep_due.proofs.StandingLaws.{index_in}

-- Which phase a window has doesn't matter to what is legal in it.
to_walkable : (window : Window) (phase : ℕ) (q : Sequence) → IsWalkable window q → IsWalkable (record window { phase = phase }) q
to_walkable window phase q is = record { not_before = is.not_before; before_end = is.before_end; second = is.second; encoded = is.encoded }

from_walkable : (window : Window) (phase : ℕ) (q : Sequence) → IsWalkable (record window { phase = phase }) q → IsWalkable window q
from_walkable window phase q is = record { not_before = is.not_before; before_end = is.before_end; second = is.second; encoded = is.encoded }

pub to_legal : (window : Window) (phase : ℕ) (q : Sequence) → IsLegal window q → IsLegal (record window { phase = phase }) q
to_legal window phase q is = (
  to_walkable window phase q is.0,
  λ e. elim (is.1 e) [
    | inl sixty ↦ inl sixty
    | inr other ↦ elim other [
      | inl not ↦ inr (inl (λ w. not (from_walkable window phase (unannounced q) w)))
      | inr shows ↦ inr (inr shows)
    ]
  ],
)

pub from_legal : (window : Window) (phase : ℕ) (q : Sequence) → IsLegal (record window { phase = phase }) q → IsLegal window q
from_legal window phase q is = (
  from_walkable window phase q is.0,
  λ e. elim (is.1 e) [
    | inl sixty ↦ inl sixty
    | inr other ↦ elim other [
      | inl not ↦ inr (inl (λ w. not (to_walkable window phase (unannounced q) w)))
      | inr shows ↦ inr (inr shows)
    ]
  ],
)

index_part : (c i : ℕ) → i < index_end → (c * 2 ^ 33 + i) % 2 ^ 33 ≡ i
index_part c i small = omega arith

module _ (window : Window) (bank : Bank) (century : window.to ≤ century_minutes) where
  pub legal_sequence : (q : Sequence) → IsLegal window q → IsSequence q
  legal_sequence q is = walkable_sequence window q century is.0

  -- what a key at an offset is the key of
  pub record Names (ceiling i n : ℕ) : Type 0 where
    pub q : Sequence
    pub legal : IsLegal window q
    pub admitted : cost_at window bank q i ≤ ceiling
    pub is : key_of (cost_at window bank q i) q ≡ n
    pub named : sequence_of n ≡ q
    pub costs : cost_of n ≡ cost_at window bank q i
    pub index : index_in n ≡ index_of q
    pub small : n % 2 ^ 33 < index_end

  pub names : (ceiling i n : ℕ) → IsKeyAt window bank ceiling i n → Names ceiling i n
  names ceiling i n (q, is, e) =
      let legal = from_legal window (window_at window i).phase q is.0 in
      let seq = legal_sequence q legal in
      let cost = cost_at window bank q i in
      record {
        q = q;
        legal = legal;
        admitted = is.1;
        is = e;
        named = ap sequence_of (sym e) ∙ sequence_of-key_of cost q seq;
        costs = ap cost_of (sym e) ∙ cost_of-key_of cost q seq;
        index = ap index_in (sym e) ∙ index_part cost (index_of q) (index_bound q seq);
        small = subst (λ (k : ℕ). k % 2 ^ 33 < index_end) e (key_index cost q seq);
      }

  -- a key of a legal sequence
  pub key_at : (ceiling i : ℕ) (q : Sequence) → IsLegal window q → cost_at window bank q i ≤ ceiling → IsKeyAt window bank ceiling i (key_of (cost_at window bank q i) q)
  key_at ceiling i q legal le = (q, (to_legal window (window_at window i).phase q legal, le), refl)

  -- keys with one index name one sequence
  pub same_named : (c d i j n m : ℕ) (a : Names c i n) (b : Names d j m) → index_in n ≡ index_in m → a.q ≡ b.q
  same_named c d i j n m a b e = sym a.named ∙ ap sequence_at e ∙ b.named

  -- at one offset they are one key
  pub one_key : (c d i n m : ℕ) → IsKeyAt window bank c i n → IsKeyAt window bank d i m → index_in n ≡ index_in m → n ≡ m
  one_key c d i n m k l e =
      let a = names c i n k in
      let b = names d i m l in
      sym a.is ∙ ap (λ (q : Sequence). key_of (cost_at window bank q i) q) (same_named c d i i n m a b e) ∙ b.is

  -- under a lower ceiling there are fewer
  pub key_under : (c d i n : ℕ) → IsKeyAt window bank c i n → cost_of n ≤ d → IsKeyAt window bank d i n
  key_under c d i n k le =
      let a = names c i n k in
      (a.q, (to_legal window (window_at window i).phase a.q a.legal, omega (arith, le, a.costs)), a.is)

  pub key_over : (c d i n : ℕ) → IsKeyAt window bank c i n → c ≤ d → IsKeyAt window bank d i n
  key_over c d i n k le =
      let a = names c i n k in
      (a.q, (to_legal window (window_at window i).phase a.q a.legal, omega (arith, le, a.admitted)), a.is)

  pub key_cost : (c i n : ℕ) → IsKeyAt window bank c i n → cost_of n ≤ c
  key_cost c i n k = let a = names c i n k in omega (arith, a.costs, a.admitted)
