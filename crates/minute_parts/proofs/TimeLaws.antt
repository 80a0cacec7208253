-- Unions over the minutes of days without end.
use Rattle.std.proofs.Common.{◌≡◌, ℕ, ◌+◌, ◌*◌, ◌-◌, ◌/◌, ◌%◌, ◌<◌, ◌≤◌, ◌^◌, inl, inr, min, List, [], ◌∷◌, ◌++◌, length, bit_or, get_or, sym, ap, ◌∙◌, subst, arith, add-one}
use Rattle.std.proofs.Math.ListN.{get_or-append}
use Rattle.std.proofs.Math.Nat.{pow-suc}
use Rattle.std.proofs.Math.Seq.{get_or-append_seam}
use Rattle.std.proofs.lemmas.Bool.{cases_lt}
use Rattle.signal_base.specs.Mask.{has_bit}
use Rattle.minute_parts.specs.Unions.{IsUnionOf}
use Rattle.minute_parts.specs.Times.{IsLevelEntry, entry, time_at}
use Rattle.minute_parts.proofs.UnionLaws.{union_joined, union_moved, union_one}

-- minutes of the same minute of the day have the same set
pub same_time : (times : List (List ℕ)) (s i j : ℕ) → i % 1440 ≡ j % 1440 → time_at times s i ≡ time_at times s j
same_time times s i j e = ap (λ u. get_or (get_or times u []) s 0) e

-- a whole day has all that more minutes have
pub union_of_days : (times : List (List ℕ)) (s u n set : ℕ) → 1440 ≤ n → IsUnionOf (time_at times s) u (u + 1440) set → IsUnionOf (time_at times s) u (u + n) set
union_of_days times s u n set long is = record {
  byte = is.byte;
  each = λ x h.
      let t : ℕ = u + (h.0 - u) % 1440 in
      is.each x (t, omega arith, omega arith, ap (λ m. has_bit m x) (same_time times s t h.0 (omega (arith, h.1))) ∙ h.3);
  only = λ x has. let h = is.only x has in (h.0, h.1, omega (arith, h.2), h.3);
}

pub union_of_most : (times : List (List ℕ)) (s u n most set : ℕ) → most ≡ min n 1440 → IsUnionOf (time_at times s) u (u + most) set → IsUnionOf (time_at times s) u (u + n) set
union_of_most times s u n most set e is = elim (cases_lt n 1440) [
  | inl less ↦ (let all : most ≡ n = omega (arith, e, less) in subst (λ m. IsUnionOf (time_at times s) u (u + m) set) all is)
  | inr long ↦
      let day : most ≡ 1440 = omega (arith, e, long) in
      union_of_days times s u n set long (subst (λ m. IsUnionOf (time_at times s) u (u + m) set) day is)
]

module _ (times parts : List (List ℕ)) (s : ℕ) (within : s < 60) where
  -- an entry of a level, from any minute on that is its own minute of the day
  pub from_minute : (level u t : ℕ) → u < 1440 → t % 1440 ≡ u → IsLevelEntry times parts (level * 1440 + u)
      → IsUnionOf (time_at times s) t (t + 2 ^ level) (entry parts (level * 1440 + u) s)
  from_minute level u t lt e is =
      let n : ℕ = level * 1440 + u in
      let minute : n % 1440 ≡ u = omega arith in
      let height : n / 1440 ≡ level = omega arith in
      let at = subst (λ h. IsUnionOf (time_at times s) (n % 1440) (n % 1440 + 2 ^ h) (entry parts n s)) height (is s within) in
      union_moved (time_at times s) (time_at times s) (n % 1440) t (2 ^ level) (entry parts n s)
      (λ i in_range. same_time times s (n % 1440 + i) (t + i) (omega (arith, minute, e))) at

  -- two unions of half the minutes
  pub doubled : (level u next : ℕ) → u < 1440 → next ≡ (u + 2 ^ level) % 1440 → IsLevelEntry times parts (level * 1440 + u) → IsLevelEntry times parts (level * 1440 + next)
      → IsUnionOf (time_at times s) u (u + 2 ^ (level + 1)) (bit_or (entry parts (level * 1440 + u) s) (entry parts (level * 1440 + next) s))
  doubled level u next lt e one two =
      let half : ℕ = 2 ^ level in
      let both : u + half + half ≡ u + 2 ^ (level + 1) = omega (arith, pow-suc 2 level, ap (λ k. 2 ^ k) (add-one level)) in
      subst (λ end. IsUnionOf (time_at times s) u end (bit_or (entry parts (level * 1440 + u) s) (entry parts (level * 1440 + next) s))) both
      (union_joined (time_at times s) u (u + half) (u + half) (u + half + half) _ _ (omega arith) (omega arith) (omega arith)
      (from_minute level u u lt (omega arith) one) (from_minute level next (u + half) (omega (arith, e)) (omega (arith, e)) two))

  -- two unions that overlap, of the first and of the last of n minutes
  pub covered : (level u last n : ℕ) → u < 1440 → 2 ^ level ≤ n → n ≤ 2 * 2 ^ level → last ≡ (u + n - 2 ^ level) % 1440
      → IsLevelEntry times parts (level * 1440 + u) → IsLevelEntry times parts (level * 1440 + last)
      → IsUnionOf (time_at times s) u (u + n) (bit_or (entry parts (level * 1440 + u) s) (entry parts (level * 1440 + last) s))
  covered level u last n lt short long e one two =
      let width : ℕ = 2 ^ level in
      let begin : ℕ = u + n - width in
      let end : begin + width ≡ u + n = omega (arith, short) in
      union_joined (time_at times s) u (u + width) begin (u + n) _ _ (omega (arith, short)) (omega (arith, long)) (omega (arith, short))
      (from_minute level u u lt (omega arith) one)
      (subst (λ to. IsUnionOf (time_at times s) begin to (entry parts (level * 1440 + last) s)) end
      (from_minute level last begin (omega (arith, e)) (omega (arith, e)) two))

  -- one minute
  pub lowest : (n set : ℕ) → n < 1440 → set ≡ time_at times s n → set < 256 → IsUnionOf (time_at times s) (n % 1440) (n % 1440 + 2 ^ (n / 1440)) set
  lowest n set lt e byte =
      let minute : n ≡ n % 1440 = omega arith in
      let height : 0 ≡ n / 1440 = omega arith in
      let here : time_at times s n ≡ set = sym e in
      let one = union_one (time_at times s) n (omega (arith, here, byte)) in
      subst (λ h. IsUnionOf (time_at times s) (n % 1440) (n % 1440 + 2 ^ h) set) height
      (subst (λ u. IsUnionOf (time_at times s) u (u + 1) set) minute (subst (IsUnionOf (time_at times s) n (n + 1)) here one))

-- a part that is the union of an entry's minutes
abbrev IsEntry : List (List ℕ) → ℕ → List ℕ → Type 0
IsEntry times n part = (s : ℕ) → s < 60 → IsUnionOf (time_at times s) (n % 1440) (n % 1440 + 2 ^ (n / 1440)) (get_or part s 0)

-- one more entry
pub entries_more : (times table : List (List ℕ)) (part : List ℕ) (n : ℕ) → length table ≡ n → ((i : ℕ) → i < n → IsLevelEntry times table i)
    → IsEntry times n part → (i : ℕ) → i < n + 1 → IsLevelEntry times (table ++ part ∷ []) i
entries_more times table part n count each one i lt = elim (cases_lt i n) [
  | inl early ↦ subst (IsEntry times i) (sym (get_or-append table (part ∷ []) [] i (omega (arith, early, count)))) (each i early)
  | inr late ↦
      let last : length table ≡ i = omega (arith, lt, late, count) in
      let here : n ≡ i = omega (arith, lt, late) in
      let at = subst (λ m. get_or (table ++ part ∷ []) m [] ≡ part) last (get_or-append_seam table part [] []) in
      subst (IsEntry times i) (sym at) (subst (λ m. IsEntry times m part) here one)
]
