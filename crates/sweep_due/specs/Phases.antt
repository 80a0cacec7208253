-- The phases that a sweep tries: eleven around the phase of a decode, ten milliseconds apart.
use Rattle.std.specs.Prelude.{ℕ, ◌≡◌, ◌+◌, ◌-◌, ◌*◌, ◌<◌, Bool, true, ◌&&◌, nat_le, nat_lt, List, filter}
use Rattle.std.specs.List.{range_with_len}
use Rattle.signal_base.specs.declared.window.Window.{Window}
use Rattle.sweep_due.specs.declared.offsets.TheConstants.{OFFSETS, OFFSET_REACH, OFFSET_STEP, PHASE_LIMIT}

-- The phase at an offset is a step after the one before, the first 50 ms before the phase of a decode. It is swept if it is from
-- 0 to 999: no phase is taken round the whole second, since there another second would begin.
abbrev pub is_swept : ℕ → ℕ → Bool
is_swept phase i = nat_le OFFSET_REACH (phase + OFFSET_STEP * i) && nat_lt (phase + OFFSET_STEP * i) (PHASE_LIMIT + OFFSET_REACH)

abbrev pub phase_at : ℕ → ℕ → ℕ
phase_at phase i = phase + OFFSET_STEP * i - OFFSET_REACH

abbrev pub IsSwept : ℕ → ℕ → Type 0
IsSwept phase i = (i < OFFSETS) × (is_swept phase i ≡ true)

-- those that are swept
abbrev pub swept_offsets : ℕ → List ℕ
swept_offsets phase = filter (is_swept phase) (range_with_len 0 OFFSETS)

-- the window of a decode, its seconds beginning at the phase of this offset
abbrev pub window_at : Window → ℕ → Window
window_at window i = record window { phase = phase_at window.phase i }
