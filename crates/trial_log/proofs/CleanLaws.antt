-- The records of a clean log, tenth by tenth.
use Rattle.std.proofs.Common.{◌≡◌, ℕ, zero, suc, ◌+◌, ◌*◌, ◌/◌, ◌%◌, ◌<◌, ◌≤◌, Bool, true, false, ◌&&◌, cond, [], ◌++◌, get_or, refl, sym, ◌∙◌, ap, arith, add-suc, add-zero}
use Rattle.std.proofs.lemmas.List.{append-nil}
use Rattle.signal_base.specs.declared.station.Station.{Station}
use Rattle.signal_base.specs.Waveform.{waveform}
use Rattle.definitions.specs.declared.level.Level.{Level}
use Rattle.definitions.specs.declared.level.Level.TheVariants.{High, Low, Unknown}
use Rattle.definitions.specs.declared.sequence.Sequence.{Sequence}
use Rattle.definitions.specs.time.Calendar.{minute_length, is_leap_end}
use Rattle.definitions.specs.heard.Logs.{Records}
use Rattle.definitions.specs.sequences.Walks.{place_at}
use Rattle.definitions.proofs.PlaceLaws.{within_minute}
use Rattle.trial_log.specs.Clean.{changes, clean_level, level_before, level_when, new_record, symbol_at}

-- a level that stays makes no record
same_level : (l : Level) (m : ℕ) → new_record m l l ≡ []
same_level High m = refl
same_level Low m = refl
same_level Unknown m = refl

-- Levels that stay over n + 1 milliseconds make a record at the first of them, or none.
module _ (level : ℕ → Level) (m : ℕ) where
  steady_changes : (n : ℕ) → ((i : ℕ) → i ≤ n → level (m + i) ≡ level m)
      → changes level (suc (m + n)) ≡ changes level m ++ new_record m (level_before level m) (level m)
  unfolding changes
  steady_changes zero steady = rw (add-zero m) refl
  steady_changes (suc n) steady =
      let here : level (suc (m + n)) ≡ level m = ap level (sym (add-suc m n)) ∙ steady (suc n) (omega arith) in
      rw (add-suc m n) (rw (steady_changes n (λ i le. steady i (omega arith)), steady n (omega arith), here, same_level (level m) (suc (m + n)))
      (append-nil _))

  pub next_changes : ((i : ℕ) → i < 100 → level (m + i) ≡ level m)
      → changes level (m + 100) ≡ changes level m ++ new_record m (level_before level m) (level m)
  next_changes steady =
      let e : m + 100 ≡ suc (m + 99) = omega arith in
      ap (changes level) e ∙ steady_changes 99 (λ i le. steady i (omega arith))

  pub next_before : ((i : ℕ) → i < 100 → level (m + i) ≡ level m) → level_before level (m + 100) ≡ level m
  next_before steady =
      let e : m + 100 ≡ suc (m + 99) = omega arith in
      ap (level_before level) e ∙ steady 99 (omega arith)

module _ (station : Station) (q : Sequence) (k j : ℕ) (early : j < 10) where
  -- the first millisecond of tenth j of slot k
  abbrev pub start : ℕ
  start = 1000 * k + 100 * j

  -- the level in a tenth of a slot
  abbrev pub level_in : ℕ → ℕ → Level
  level_in slot tenth = level_when (get_or (waveform station (symbol_at station q slot)) tenth false)

  -- the level stays over a tenth
  tenth_level : (i : ℕ) → i < 100 → clean_level station q (start + i) ≡ level_in k j
  tenth_level i lt =
      let slot : (start + i) / 1000 ≡ k = omega arith in
      let tenth : (start + i) % 1000 / 100 ≡ j = omega arith in
      ap (λ (s : ℕ). level_in s ((start + i) % 1000 / 100)) slot ∙ ap (level_in k) tenth

  pub steady_tenth : (i : ℕ) → i < 100 → clean_level station q (start + i) ≡ clean_level station q start
  steady_tenth i lt = tenth_level i lt ∙ sym (tenth_level 0 (omega arith)) ∙ ap (clean_level station q) (add-zero start)

  -- one more tenth
  pub next_tenth : (old new : Records) (before now : Level) → old ≡ changes (clean_level station q) start → before ≡ level_before (clean_level station q) start
      → now ≡ level_in k j → new ≡ old ++ new_record start before now
      → (new ≡ changes (clean_level station q) (start + 100)) × (now ≡ level_before (clean_level station q) (start + 100))
  next_tenth old new before now so_far was is more =
      let level = clean_level station q in
      let at_start : level start ≡ now = ap level (sym (add-zero start)) ∙ tenth_level 0 (omega arith) ∙ sym is in
      let steady : (i : ℕ) → i < 100 → level (start + i) ≡ level start = λ i lt. tenth_level i lt ∙ sym is ∙ sym at_start in
      (rw (next_changes level start steady, more, so_far, was, at_start) refl, sym at_start ∙ sym (next_before level start steady))

few_seconds : (b : Bool) (s : ℕ) → s < cond b 61 60 → s ≤ 60
few_seconds true s lt = omega arith
few_seconds false s lt = omega arith

-- a second of a walk is at most 60
pub small_second : (q : Sequence) → q.second < minute_length q.announced q.first → (k : ℕ) → (place_at q k).1 ≤ 60
small_second q lt k = few_seconds (q.announced && is_leap_end (place_at q k).0) _ (within_minute q lt k)
