-- What a clean log tells at a millisecond.
use Rattle.std.proofs.Common.{◌≡◌, ℕ, zero, suc, ◌+◌, ◌-◌, ◌*◌, ◌<◌, ◌≤◌, Bool, true, false, ◌||◌, nat_le, nat_lt, if◌then◌else◌, [], ◌∷◌, ◌++◌, refl, ◌∙◌, ap, arith, add-suc, add-zero}
use Rattle.std.specs.List.{filter, list_any}
use Rattle.std.proofs.lemmas.Bool.{le-leb, lt-ltb, lt-leb}
use Rattle.std.proofs.lemmas.List.{append-nil}
use Rattle.std.proofs.lemmas.List.Elements.{filter-append}
use Rattle.signal_base.specs.declared.station.Station.{Station}
use Rattle.definitions.specs.declared.level.Level.{Level}
use Rattle.definitions.specs.declared.level.Level.TheVariants.{High, Low, Unknown}
use Rattle.definitions.specs.declared.sequence.Sequence.{Sequence}
use Rattle.definitions.specs.heard.Logs.{Records, last_level, level_at}
use Rattle.trial_log.specs.Clean.{changes, clean_level, clean_log, is_same_level, level_before, new_record}

-- the last of some records is the one at the end
last_push : (rs : Records) (m : ℕ) (l : Level) → last_level (rs ++ (m, l) ∷ []) ≡ l
last_push [] m l = refl
last_push (r ∷ []) m l = refl
last_push (r ∷ s ∷ rs) m l = last_push (s ∷ rs) m l

-- after a change, or none, the last level is the new one
after_new : (rs : Records) (m : ℕ) (before now : Level) → last_level rs ≡ before → last_level (rs ++ new_record m before now) ≡ now
after_new rs m High High e = ap last_level (append-nil rs) ∙ e
after_new rs m Low Low e = ap last_level (append-nil rs) ∙ e
after_new rs m Unknown Unknown e = ap last_level (append-nil rs) ∙ e
after_new rs m High Low e = last_push rs m Low
after_new rs m High Unknown e = last_push rs m Unknown
after_new rs m Low High e = last_push rs m High
after_new rs m Low Unknown e = last_push rs m Unknown
after_new rs m Unknown High e = last_push rs m High
after_new rs m Unknown Low e = last_push rs m Low

module _ (level : ℕ → Level) where
  -- the last level of the changes
  last_change : (n : ℕ) → last_level (changes level n) ≡ level_before level n
  unfolding changes
  last_change zero = refl
  last_change (suc n) = after_new (changes level n) n (level_before level n) (level n) (last_change n)

  -- a change up to a millisecond, and one after it
  kept_record : (m at : ℕ) (before now : Level) → at ≤ m → filter (λ (r : ℕ × Level). nat_le r.0 m) (new_record at before now) ≡ new_record at before now
  kept_record m at before now le = by_same (is_same_level before now)
    where
      by_same : (same : Bool) → filter (λ (r : ℕ × Level). nat_le r.0 m) (if same then [] else (at, now) ∷ []) ≡ (if same then [] else (at, now) ∷ [])
      by_same true = refl
      by_same false = rw (le-leb at m le) refl

  lost_record : (m at : ℕ) (before now : Level) → m < at → filter (λ (r : ℕ × Level). nat_le r.0 m) (new_record at before now) ≡ []
  lost_record m at before now lt = by_same (is_same_level before now)
    where
      by_same : (same : Bool) → filter (λ (r : ℕ × Level). nat_le r.0 m) (if same then [] else (at, now) ∷ []) ≡ []
      by_same true = refl
      by_same false = rw (lt-leb at m lt) refl

  -- the changes up to a millisecond
  kept : (m n : ℕ) → n ≤ suc m → filter (λ (r : ℕ × Level). nat_le r.0 m) (changes level n) ≡ changes level n
  unfolding changes
  kept m zero le = refl
  kept m (suc n) le =
      rw (
        filter-append (λ (r : ℕ × Level). nat_le r.0 m) (changes level n) (new_record n (level_before level n) (level n)),
        kept m n (omega arith),
        kept_record m n (level_before level n) (level n) (omega arith),
      ) refl

  up_to : (m k : ℕ) → filter (λ (r : ℕ × Level). nat_le r.0 m) (changes level (suc m + k)) ≡ changes level (suc m)
  unfolding changes
  up_to m zero = rw (add-zero (suc m)) (kept m (suc m) (omega arith))
  up_to m (suc k) =
      rw (
        add-suc (suc m) k,
        filter-append (λ (r : ℕ × Level). nat_le r.0 m) (changes level (suc m + k)) (new_record (suc m + k) (level_before level (suc m + k)) (level (suc m + k))),
        up_to m k,
        lost_record m (suc m + k) (level_before level (suc m + k)) (level (suc m + k)) (omega arith),
      ) (append-nil _)

-- the record that closes a log is later than each of its milliseconds
is_later : (rs : Records) (m at : ℕ) → m < at → list_any (λ (r : ℕ × Level). nat_lt m r.0) (rs ++ (at, High) ∷ []) ≡ true
is_later [] m at lt = rw (lt-ltb m at lt) refl
is_later (r ∷ rs) m at lt = either (nat_lt m r.0) (is_later rs m at lt)
  where
    either : (b : Bool) {c : Bool} → c ≡ true → (b || c) ≡ true
    either true e = refl
    either false e = e

-- at a millisecond before the closing record the last change up to it tells
told : (level : ℕ → Level) (m at k : ℕ) → m < at → at ≡ suc m + k → level_at (changes level at ++ (at, High) ∷ []) m ≡ level m
told level m at k lt e =
    let early : filter (λ (r : ℕ × Level). nat_le r.0 m) (changes level at) ≡ changes level (suc m) =
    ap (λ (n : ℕ). filter (λ (r : ℕ × Level). nat_le r.0 m) (changes level n)) e ∙ up_to level m k in
    rw (is_later (changes level at) m at lt, filter-append (λ (r : ℕ × Level). nat_le r.0 m) (changes level at) ((at, High) ∷ []), early, lt-leb at m lt)
    (ap last_level (append-nil (changes level (suc m))) ∙ last_change level (suc m))

pub tells : (station : Station) (q : Sequence) (n m : ℕ) → m < 1000 * n → level_at (clean_log station q n) m ≡ clean_level station q m
tells station q n m lt = told (clean_level station q) m (1000 * n) (1000 * n - suc m) lt (omega arith)
