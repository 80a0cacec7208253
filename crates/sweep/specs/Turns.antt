-- The order in which a sweep comes to its offsets.
use Rattle.std.specs.Prelude.{ℕ, zero, suc, get_or, ◌-◌, ◌==◌, nat_le, if◌then◌else◌, List, [], ◌∷◌}
use Rattle.signal_base.specs.declared.window.Window.{Window}
use Rattle.due.specs.Banks.{Bank}
use Rattle.sweep.specs.declared.turns.TheConstants.{MIDDLE}
use Rattle.sweep_due.specs.declared.standing.Standing.{Standing}
use Rattle.sweep_due.specs.Phases.{is_swept}
use Rattle.sweep_due.specs.Searches.{AreAllSwept, IsSearched}

-- The middle one comes first, which is the phase of a decode: where a log is clean its second cost is the lowest ceiling for all
-- others. They come in their order.
abbrev pub offset_at : ℕ → ℕ
offset_at turn = if turn == 0 then MIDDLE else if nat_le turn MIDDLE then turn - 1 else turn

-- the offsets so far, once one more is come to: it is left out where it isn't swept
abbrev pub with_offset : ℕ → ℕ → List ℕ → List ℕ
with_offset phase i earlier = if is_swept phase i then i ∷ earlier else earlier

-- those of so many turns, the latest first
abbrev pub offsets_of : ℕ → ℕ → List ℕ
offsets_of phase zero = []
offsets_of phase (suc turn) = with_offset phase (offset_at turn) (offsets_of phase turn)

-- the first so many of these, the latest first
abbrev pub latest_of : List ℕ → ℕ → List ℕ
latest_of offsets zero = []
latest_of offsets (suc n) = get_or offsets n 0 ∷ latest_of offsets n

-- this is known after searches at all offsets that are swept, in some order
abbrev pub IsSweptThrough : Window → Bank → Standing → Type 0
IsSweptThrough window bank s = (offsets : List ℕ) × AreAllSwept window.phase offsets × IsSearched window bank offsets s
