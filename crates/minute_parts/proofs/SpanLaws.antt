-- Unions over minutes of a run: what the time of day tells, with what the date tells.
use Rattle.std.proofs.Common.{◌≡◌, ◌≢◌, ℕ, ◌+◌, ◌-◌, ◌%◌, ◌<◌, ◌≤◌, ◌⊎◌, ◌==◌, ◌&&◌, ◌||◌, inl, inr, Bool, true, false, nat_lt, min, if◌then◌else◌, length, bit_or, get_or, refl, sym, ap, ◌∙◌, subst, arith, eqb-true, eq-eqb}
use Rattle.std.proofs.lemmas.Bool.{and_left, and_parts, cases_Bool, cases_eq, ltb-true, ne_eqb, or_cases, or_from}
use Rattle.signal_base.specs.declared.station.Station.{Station}
use Rattle.signal_base.specs.declared.station.Station.TheVariants.{Dcf77, Msf, Wwvb, Jjy}
use Rattle.signal_base.specs.Mask.{has_bit}
use Rattle.definitions.specs.time.Calendar.{minute_length}
use Rattle.definitions.specs.codes.Allowed.{allowed}
use Rattle.minute_parts.specs.declared.runs.Run.{Run}
use Rattle.minute_parts.specs.Overlay.{is_call_minute, is_given_up, is_time_second, overlay, tells_time}
use Rattle.minute_parts.specs.Parts.{IsInRun, IsPartTable, PartTable, local_time, part_where, set_in_run, times_at}
use Rattle.minute_parts.specs.Runs.{end_of_run, first_of, run_at}
use Rattle.minute_parts.specs.Times.{time_at}
use Rattle.minute_parts.specs.Unions.{IsUnionOf, IsUnionOver}
use Rattle.minute_parts.proofs.TimeLaws.{same_time}
use Rattle.minute_parts.proofs.UnionLaws.{has_or, of_or, none_has, union_joined, union_moved, union_one, union_same}

-- what is told of a second, by the time of day or else by the date
pub time_tells : (time date : ℕ) → (time ≡ 0 → ⊥) → overlay time date ≡ time
time_tells time date some = rw (ne_eqb time 0 some) refl

pub date_tells : (time date : ℕ) → time ≡ 0 → overlay time date ≡ date
date_tells time date none = rw (eq-eqb time 0 none) refl

pub is_of_either : (time date x : ℕ) → has_bit (overlay time date) x ≡ true → has_bit (bit_or time date) x ≡ true
is_of_either time date x has = elim (cases_eq time 0) [
  | inl none ↦ has_or time date x (inr (ap (λ m. has_bit m x) (sym (date_tells time date none)) ∙ has))
  | inr some ↦ has_or time date x (inl (ap (λ m. has_bit m x) (sym (time_tells time date some)) ∙ has))
]

-- where a date tells something, some minute leaves it to the date
pub union_overlaid : (g : ℕ → ℕ) (date lo hi time : ℕ) → bit_or time date < 256
    → (date ≢ 0 → (t : ℕ) × (lo ≤ t) × (t < hi) × (g t ≡ 0)) → IsUnionOf g lo hi time → IsUnionOf (λ t. overlay (g t) date) lo hi (bit_or time date)
union_overlaid g date lo hi time byte silent u = record {
  byte = byte;
  each = λ x h. elim (of_or (g h.0) date x (is_of_either (g h.0) date x h.3)) [
    | inl here ↦ has_or time date x (inl (u.each x (h.0, h.1, h.2, here)))
    | inr here ↦ has_or time date x (inr here)
  ];
  only = λ x has. elim (of_or time date x has) [
    | inl here ↦
        let h = u.only x here in
        let told = time_tells (g h.0) date (λ none. none_has x (ap (λ m. has_bit m x) (sym none) ∙ h.3)) in
        (h.0, h.1, h.2, ap (λ m. has_bit m x) told ∙ h.3)
    | inr here ↦
        let h = silent (λ none. none_has x (ap (λ m. has_bit m x) (sym none) ∙ here)) in
        (h.0, h.1, h.2, ap (λ m. has_bit m x) (date_tells (g h.0) date h.3) ∙ here)
  ];
}

-- the minutes in which JJY sends its call sign don't follow one another
not_both : (u v : ℕ) → v % 60 ≡ (u + 1) % 60 → ((u % 60 == 15) || (u % 60 == 45)) ≡ true → ((v % 60 == 15) || (v % 60 == 45)) ≡ false
not_both u v e is = elim (or_cases (u % 60 == 15) (u % 60 == 45) is) [
  | inl here ↦ (let q = eqb-true (u % 60) 15 here in or_from _ _ (ne_eqb (v % 60) 15 (λ a. omega (arith, e, q, a))) (ne_eqb (v % 60) 45 (λ a. omega (arith, e, q, a))))
  | inr here ↦ (let q = eqb-true (u % 60) 45 here in or_from _ _ (ne_eqb (v % 60) 15 (λ a. omega (arith, e, q, a))) (ne_eqb (v % 60) 45 (λ a. omega (arith, e, q, a))))
]

-- of two minutes one after the other, one leaves a second to the date that isn't always the time's
next_leaves : (station : Station) (u v s : ℕ) → v % 60 ≡ (u + 1) % 60 → is_time_second station s ≡ false → tells_time station u s ≡ true → tells_time station v s ≡ false
next_leaves Dcf77 u v s e other told = other
next_leaves Msf u v s e other told = other
next_leaves Wwvb u v s e other told = other
next_leaves Jjy u v s e other told = elim (or_cases (is_time_second Jjy s) (is_call_minute u && is_given_up Jjy s) told) [
  | inl always ↦ absurd cc
  | inr call ↦ or_from _ _ other (and_left _ _ (not_both u v e (and_parts _ _ call).0))
]

module _ (p : PartTable) (table : IsPartTable p) (announced : Bool) (i : ℕ) (is : i < length p.runs) (s : ℕ) (within : s < 60) where
  abbrev run : Run
  run = run_at p.runs i

  abbrev date : ℕ
  date = get_or (part_where announced run) s 0

  -- what the time of day tells of the second in a minute of the run
  abbrev time : ℕ → ℕ
  time t = get_or (times_at p (local_time run t)) s 0

  abbrev sets : ℕ → ℕ
  sets t = set_in_run p announced run t s

  pub over_one : (lo hi u set : ℕ) → hi ≡ lo + 1 → u ≡ (lo + run.shift) % 1440 → set ≡ overlay (get_or (times_at p u) s 0) date → set < 256 → IsUnionOf sets lo hi set
  over_one lo hi u set end minute e byte =
      let here : sets lo ≡ set = ap (λ v. overlay (get_or (times_at p v) s 0) date) (sym minute) ∙ sym e in
      let one = union_one sets lo (omega (arith, here, byte)) in
      subst (λ h. IsUnionOf sets lo h set) (sym end) (subst (IsUnionOf sets lo (lo + 1)) here one)

  -- where the date tells of the second, it does so in one of any two minutes on end
  pub leaves : (t : ℕ) → date ≢ 0 → (time t ≡ 0) ⊎ (time (t + 1) ≡ 0)
  leaves t some = elim (cases_Bool (is_time_second p.station s)) [
    | inl always ↦ absurd (some (table.date_alone announced i s is within always))
    | inr other ↦ elim (cases_Bool (tells_time p.station (local_time run t) s)) [
      | inr left ↦ inl (table.time_alone (local_time run t) s (omega arith) within left)
      | inl told ↦ inr (table.time_alone (local_time run (t + 1)) s (omega arith) within
          (next_leaves p.station (local_time run t) (local_time run (t + 1)) s (omega arith) other told))
    ]
  ]

  some_leaves : (lo hi : ℕ) → lo + 2 ≤ hi → date ≢ 0 → (t : ℕ) × (lo ≤ t) × (t < hi) × (time t ≡ 0)
  some_leaves lo hi two some = elim (leaves lo some) [
    | inl first ↦ (lo, omega arith, omega (arith, two), first)
    | inr second ↦ (lo + 1, omega arith, omega (arith, two), second)
  ]

  pub over_more : (lo hi u told set : ℕ) → lo + 2 ≤ hi → u ≡ (lo + run.shift) % 1440 → IsUnionOf (time_at p.times s) u (u + (hi - lo)) told
      → set ≡ bit_or told date → set < 256 → IsUnionOf sets lo hi set
  over_more lo hi u told set two minute union e byte =
      let n : ℕ = hi - lo in
      let end : lo + n ≡ hi = omega (arith, two) in
      let moved = union_moved (time_at p.times s) time u lo n told
      (λ j in_range. same_time p.times s (u + j) (lo + j + run.shift) (omega (arith, minute))) union in
      let here = subst (λ h. IsUnionOf time lo h told) end moved in
      subst (IsUnionOf sets lo hi) (sym e) (union_overlaid time date lo hi told (omega (arith, e, byte)) (some_leaves lo hi two) here)

-- where a run ends before the range does, another begins
module _ (p : PartTable) (table : IsPartTable p) (t hi i end : ℕ) (here : IsInRun p t i) (early : hi ≤ p.end) where
  ends_by : (last : Bool) → nat_lt (i + 1) (length p.runs) ≡ last → end ≡ min (if last then first_of p.runs (i + 1) else p.end) hi → (end ≡ hi → ⊥) → IsInRun p end (i + 1)
  ends_by true e is other =
      let more : i + 1 < length p.runs = ltb-true _ _ e in
      let first : end ≡ first_of p.runs (i + 1) = omega (arith, is, other) in
      record { is_run = more; begun = omega (arith, first); not_over = subst (λ m. m < end_of_run p.runs p.end (i + 1)) (sym first) (table.rise (i + 1) more) }
  ends_by false e is other = absurd (other (omega (arith, is, early)))

  pub next_run : end ≡ min (end_of_run p.runs p.end i) hi → (end ≡ hi → ⊥) → IsInRun p end (i + 1)
  next_run is other = ends_by (nat_lt (i + 1) (length p.runs)) refl is other

-- the union of the minutes of a run is that of what they carry
pub carried_in_run : (p : PartTable) → IsPartTable p → (announced : Bool) (i lo hi s set : ℕ) → i < length p.runs → first_of p.runs i ≤ lo → hi ≤ end_of_run p.runs p.end i
    → ((t : ℕ) → lo ≤ t → t < hi → minute_length announced t ≡ 60) → s < 60
    → IsUnionOf (λ t. set_in_run p announced (run_at p.runs i) t s) lo hi set → IsUnionOver p.station announced lo hi s set
carried_in_run p table announced i lo hi s set is begun ends short within u =
    union_same (λ t. set_in_run p announced (run_at p.runs i) t s) (λ t. allowed p.station announced (t, s)) lo hi set
    (λ t from to. sym (table.tells announced i t s (record { is_run = is; begun = omega (arith, begun, from); not_over = omega (arith, to, ends) }) (short t from to) within)) u

-- with the minutes of one more run
pub with_run : (p : PartTable) → IsPartTable p → (announced : Bool) (i lo t hi end s before piece set : ℕ) → IsInRun p t i → lo ≤ t → t < end → end ≤ hi → end ≤ end_of_run p.runs p.end i
    → ((u : ℕ) → lo ≤ u → u < hi → minute_length announced u ≡ 60) → s < 60
    → IsUnionOver p.station announced lo t s before → IsUnionOf (λ u. set_in_run p announced (run_at p.runs i) u s) t end piece
    → set ≡ bit_or before piece → IsUnionOver p.station announced lo end s set
with_run p table announced i lo t hi end s before piece set here begun some within_range within_run short within old new e =
    let carried = carried_in_run p table announced i t end s piece here.is_run here.begun within_run
    (λ u from to. short u (omega (arith, begun, from)) (omega (arith, to, within_range))) within new in
    subst (IsUnionOver p.station announced lo end s) (sym e)
    (union_joined (λ u. allowed p.station announced (u, s)) lo t t end before piece begun (omega arith) (omega (arith, some)) old carried)
