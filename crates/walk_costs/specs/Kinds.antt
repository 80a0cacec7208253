-- Kinds of walks, by what their dates tell in the seconds that are given up for the call sign and by when they may begin.
use Rattle.std.specs.Prelude.{ℕ, ◌≡◌, ◌+◌, ◌-◌, ◌/◌, ◌%◌, ◌<◌, ◌≤◌, ◌==◌, bit_or, Bool, true, if◌then◌else◌, List, [], ◌∷◌, ◌++◌, length, map, slice_index, slice_index_or}
use Rattle.std.specs.List.{range_with_len}
use Rattle.signal_base.specs.declared.station.Station.{Station}
use Rattle.definitions.specs.codes.Vocabulary.{unscored}
use Rattle.definitions.specs.time.Calendar.{minutes_per_day}
use Rattle.minute_parts.specs.declared.call.TheConstants.{CALL_BEGIN, CALL_END}
use Rattle.minute_parts.specs.Overlay.{is_given_up}
use Rattle.minute_parts.specs.Parts.{PartTable, local_time, part_where}
use Rattle.minute_parts.specs.Runs.{end_of_run, run_at}
use Rattle.minute_parts.specs.declared.runs.Run.{Run}
use Rattle.walk_costs.specs.declared.kinds.Kind.{Kind}
use Rattle.walk_costs.specs.declared.kinds.TheConstants.{SETS}

-- a set that costs no more than either of two: it has the symbols of both, and costs nothing where one of them isn't scored
abbrev pub either_set : ℕ → ℕ → ℕ
either_set a b = if a == unscored then 0 else if b == unscored then 0 else bit_or (a % SETS) (b % SETS)

unfoldable pub either_part : List ℕ → List ℕ → List ℕ
either_part a b = map (λ s. either_set (slice_index a s) (slice_index b s)) (range_with_len 0 60)

-- the run in which a walk ends that begins in the run i
abbrev pub end_in : Bool → ℕ → ℕ
end_in across i = if across then i + 1 else i

-- what the dates of the walks tell together
abbrev pub told_of : PartTable → Bool → Bool → ℕ → List ℕ
told_of parts across announced i =
    either_part (part_where announced (run_at parts.runs i)) (part_where announced (run_at parts.runs (end_in across i)))

-- the last minute of the local day in which they may begin
abbrev pub last_begin : PartTable → Bool → ℕ → ℕ
last_begin parts across i = if across then local_time (run_at parts.runs i) (end_of_run parts.runs parts.end i - 1) else minutes_per_day - 1

-- u is one of the last n minutes up to that one
abbrev pub IsBegin : ℕ → ℕ → ℕ → Type 0
IsBegin n last u = (j : ℕ) × (j < n) × (u ≡ (minutes_per_day + last - j) % minutes_per_day)

-- the kind of walks that begin in the run i
pub record IsKindOf (parts : PartTable) (station : Station) (across announced : Bool) (i : ℕ) (kind : Kind) : Type 0 where
  pub told : (s : ℕ) → end_in across i < length parts.runs → s < 60 → is_given_up station s ≡ true
      → slice_index kind.told s ≡ slice_index (told_of parts across announced i) s
  pub last : end_in across i < length parts.runs → kind.last ≡ last_begin parts across i

-- the date tells the same with the announcement of a leap second and without it
abbrev pub IsToldAlike : Run → Type 0
IsToldAlike run = run.unannounced ≡ run.announced

-- a kind of a list
abbrev pub no_kind : Kind
no_kind = record { told = []; last = 0 }

abbrev pub kind_at : List Kind → ℕ → Kind
kind_at kinds k = slice_index_or kinds k no_kind

-- two kinds are the same in the seconds of the call sign, and begin alike
pub record AreSame (a b : Kind) : Type 0 where
  pub told : (s : ℕ) → CALL_BEGIN ≤ s → s < CALL_END → slice_index a.told s ≡ slice_index b.told s
  pub last : a.last ≡ b.last

-- the kind stands there in the new list, which goes on where the old one ends
pub record IsPlaced (old new : List Kind) (kind : Kind) (place : ℕ) : Type 0 where
  pub within : place < length new
  pub same : AreSame (kind_at new place) kind
  pub longer : length old ≤ length new
  pub kept : (k : ℕ) → k < length old → kind_at new k ≡ kind_at old k

-- a kind that begins in this minute at the latest stands there
pub record IsPlacedBy (old new : List Kind) (last place : ℕ) : Type 0 where
  pub within : place < length new
  pub begins : (kind_at new place).last ≡ last
  pub longer : length old ≤ length new
  pub kept : (k : ℕ) → k < length old → kind_at new k ≡ kind_at old k

-- and the place stands behind the old places
pub record HasPlace (old new : List Kind) (places more : List ℕ) (kind : Kind) : Type 0 where
  pub place : ℕ
  pub placed : IsPlaced old new kind place
  pub added : more ≡ places ++ place ∷ []

-- the first n of two places for each run, of kinds of a list
pub record AreKindsOf (parts : PartTable) (station : Station) (across : Bool) (all : List Kind) (places : List ℕ) (n : ℕ) : Type 0 where
  pub count : length places ≡ n
  pub within : (q : ℕ) → q < n → slice_index places q < length all
  pub each : (q : ℕ) → q < n → IsKindOf parts station across (q % 2 == 1) (q / 2) (kind_at all (slice_index places q))
