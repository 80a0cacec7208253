-- The records of clean logs are apart, and stay in order where they are moved.
use Rattle.std.proofs.Common.{◌≡◌, ℕ, zero, suc, ◌+◌, ◌-◌, ◌*◌, ◌/◌, ◌%◌, ◌<◌, ◌≤◌, Bool, true, false, ◌==◌, if◌then◌else◌, [], ◌∷◌, ◌++◌, length, refl, sym, ap, subst, arith}
use Rattle.std.proofs.lemmas.List.{append-nil}
use Rattle.rand_pcg.specs.Lcg.{Lcg}
use Rattle.rand_pcg.specs.Pcg.{pcg32}
use Rattle.signal_base.specs.declared.station.Station.{Station}
use Rattle.definitions.specs.declared.level.Level.{Level}
use Rattle.definitions.specs.declared.level.Level.TheVariants.{High}
use Rattle.definitions.specs.declared.sequence.Sequence.{Sequence}
use Rattle.definitions.specs.heard.Logs.{Records}
use Rattle.trial_log.specs.Clean.{changes, clean_level, clean_log, is_same_level, new_record}
use Rattle.trial_log.specs.Trials.{moved, moved_inner, moved_time, stays}
use Rattle.trial_log.proofs.CleanLaws.{next_changes, steady_tenth}

-- The records begin at a time or later, each next one this much later at least, and so far before an end.
abbrev pub AreSpaced : ℕ → ℕ → ℕ → Records → Type 0
AreSpaced gap from until [] = from ≤ until
AreSpaced gap from until (r ∷ rs) = (from ≤ r.0) × AreSpaced gap (r.0 + gap) until rs

pub later_end : (gap from until more : ℕ) (rs : Records) → until ≤ more → AreSpaced gap from until rs → AreSpaced gap from more rs
later_end gap from until more [] le spaced = omega arith
later_end gap from until more (r ∷ rs) le spaced = (spaced.0, later_end gap (r.0 + gap) until more rs le spaced.1)

pub earlier_start : (gap from less until : ℕ) (rs : Records) → less ≤ from → AreSpaced gap from until rs → AreSpaced gap less until rs
earlier_start gap from less until [] le spaced = omega arith
earlier_start gap from less until (r ∷ rs) le spaced = (omega (arith, spaced.0), spaced.1)

-- there is room between a start and an end
pub start_before_end : (gap from until : ℕ) (rs : Records) → AreSpaced gap from until rs → from ≤ until
start_before_end gap from until [] spaced = spaced
start_before_end gap from until (r ∷ rs) spaced = omega (arith, spaced.0, start_before_end gap (r.0 + gap) until rs spaced.1)

-- records that are further apart
pub closer : (from until : ℕ) (rs : Records) → AreSpaced 100 from until rs → AreSpaced 1 from until rs
closer from until [] spaced = spaced
closer from until (r ∷ rs) spaced =
    (spaced.0, earlier_start 1 (r.0 + 100) (r.0 + 1) until rs (omega arith) (closer (r.0 + 100) until rs spaced.1))

-- one more record, at the end
pub spaced_push : (gap from until : ℕ) (l : Level) (rs : Records) → AreSpaced gap from until rs → AreSpaced gap from (until + gap) (rs ++ (until, l) ∷ [])
spaced_push gap from until l [] spaced = (spaced, omega arith)
spaced_push gap from until l (r ∷ rs) spaced = (spaced.0, spaced_push gap (r.0 + gap) until l rs spaced.1)

-- there aren't more records than there is room
pub few_records : (from until : ℕ) (rs : Records) → AreSpaced 100 from until rs → 100 * length rs + from ≤ until
few_records from until [] spaced = omega arith
few_records from until (r ∷ rs) spaced = omega (arith, few_records (r.0 + 100) until rs spaced.1, spaced.0)

-- one more record, or none
tenth_push : (until : ℕ) (before now : Level) (rs : Records) → AreSpaced 100 0 until rs → AreSpaced 100 0 (until + 100) (rs ++ new_record until before now)
tenth_push until before now rs spaced = by_level (is_same_level before now)
  where
    by_level : (same : Bool) → AreSpaced 100 0 (until + 100) (rs ++ (if same then [] else (until, now) ∷ []))
    by_level true = rw (append-nil rs) (later_end 100 0 until (until + 100) rs (omega arith) spaced)
    by_level false = spaced_push 100 0 until now rs spaced

-- the records of a clean log's tenths
module _ (station : Station) (q : Sequence) where
  steady : (t i : ℕ) → i < 100 → clean_level station q (100 * t + i) ≡ clean_level station q (100 * t)
  steady t i lt =
      let e : 1000 * (t / 10) + 100 * (t % 10) ≡ 100 * t = omega arith in
      subst (λ (m : ℕ). clean_level station q (m + i) ≡ clean_level station q m) e (steady_tenth station q (t / 10) (t % 10) (omega arith) i lt)

  tenths_spaced : (t : ℕ) → AreSpaced 100 0 (100 * t) (changes (clean_level station q) (100 * t))
  unfolding changes
  tenths_spaced zero = omega arith
  tenths_spaced (suc t) =
      let e : 100 * t + 100 ≡ 100 * suc t = omega arith in
      subst (λ (m : ℕ). AreSpaced 100 0 m (changes (clean_level station q) m)) e
      (subst (AreSpaced 100 0 (100 * t + 100)) (sym (next_changes (clean_level station q) (100 * t) (steady t)))
      (tenth_push (100 * t) _ _ _ (tenths_spaced t)))

pub clean_spaced : (station : Station) (q : Sequence) (n : ℕ) → AreSpaced 100 0 (1000 * n + 100) (clean_log station q n)
clean_spaced station q n =
    let e : 100 * (10 * n) ≡ 1000 * n = omega arith in
    spaced_push 100 0 (1000 * n) High _ (subst (λ (m : ℕ). AreSpaced 100 0 m (changes (clean_level station q) m)) e (tenths_spaced station q (10 * n)))

-- a record is moved by at most 20 ms
moved_near : (word time : ℕ) → (time - 20 ≤ moved_time word time) × (moved_time word time ≤ time + 20)
moved_near word time = (omega arith, omega arith)

inner_spaced : (noise : Lcg) (from until : ℕ) (rs : Records) → AreSpaced 100 from until rs → AreSpaced 1 (from - 20) (until + 20) (moved_inner noise rs)
inner_spaced noise from until [] spaced = omega arith
inner_spaced noise from until (r ∷ rs) spaced =
    by_staying (λ left. inner_spaced left (r.0 + 100) until rs spaced.1) (stays (length rs == 0) r.0)
  where
    rest : (left : Lcg) (time : ℕ) → time ≤ r.0 + 20 → AreSpaced 1 (r.0 + 100 - 20) (until + 20) (moved_inner left rs)
        → AreSpaced 1 (time + 1) (until + 20) (moved_inner left rs)
    rest left time near spaced = earlier_start 1 (r.0 + 100 - 20) (time + 1) (until + 20) (moved_inner left rs) (omega arith) spaced

    by_staying : ((left : Lcg) → AreSpaced 1 (r.0 + 100 - 20) (until + 20) (moved_inner left rs)) → (still : Bool)
        → AreSpaced 1 (from - 20) (until + 20)
        (if still then r ∷ moved_inner noise rs else (moved_time (pcg32 noise).0 r.0, r.1) ∷ moved_inner (pcg32 noise).1 rs)
    by_staying again true = (omega (arith, spaced.0), rest noise r.0 (omega arith) (again noise))
    by_staying again false =
        let near = moved_near (pcg32 noise).0 r.0 in
        (omega (arith, spaced.0, near.0), rest (pcg32 noise).1 (moved_time (pcg32 noise).0 r.0) near.1 (again (pcg32 noise).1))

pub moved_spaced : (noise : Lcg) (until : ℕ) (rs : Records) → AreSpaced 100 0 until rs → AreSpaced 1 0 (until + 20) (moved noise rs)
moved_spaced noise until [] spaced = omega arith
moved_spaced noise until (r ∷ rs) spaced =
    (omega arith, earlier_start 1 (r.0 + 100 - 20) (r.0 + 1) (until + 20) (moved_inner noise rs) (omega arith) (inner_spaced noise (r.0 + 100) until rs spaced.1))

-- no record is lost or added
inner_length : (noise : Lcg) (rs : Records) → length (moved_inner noise rs) ≡ length rs
inner_length noise [] = refl
inner_length noise (r ∷ rs) = by_staying (λ left. inner_length left rs) (stays (length rs == 0) r.0)
  where
    by_staying : ((left : Lcg) → length (moved_inner left rs) ≡ length rs) → (still : Bool)
        → length (if still then r ∷ moved_inner noise rs else (moved_time (pcg32 noise).0 r.0, r.1) ∷ moved_inner (pcg32 noise).1 rs) ≡ suc (length rs)
    by_staying again true = ap suc (again noise)
    by_staying again false = ap suc (again (pcg32 noise).1)

pub moved_length : (noise : Lcg) (rs : Records) → length (moved noise rs) ≡ length rs
moved_length noise [] = refl
moved_length noise (r ∷ rs) = ap suc (inner_length noise rs)
