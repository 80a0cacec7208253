-- Which slots show that a leap second is announced.
use Rattle.std.specs.Prelude.{ℕ, ◌≡◌, ◌≢◌, ◌+◌, ◌/◌, ◌%◌, ◌<◌, ◌≤◌, Bool, true, false, ◌==◌, ◌&&◌, not, slice_index}
use Rattle.signal_base.specs.declared.station.Station.{Station}
use Rattle.definitions.specs.time.Calendar.{minutes_per_day}
use Rattle.minute_parts.specs.declared.runs.Run.{Run}
use Rattle.minute_parts.specs.Parts.{PartTable, times_at}
use Rattle.slot_columns.specs.declared.limits.TheConstants.{SECONDS_PER_MINUTE}
use Rattle.minute_parts.specs.Overlay.{is_given_up}

-- slot k does, of a walk from second p of minute u of the local day: the time of day tells nothing of its second, and the
-- date another set than without the announcement
abbrev pub shows_in : PartTable → Run → ℕ → ℕ → ℕ → Bool
shows_in parts run u p k =
    (slice_index (times_at parts ((u + (p + k) / SECONDS_PER_MINUTE) % minutes_per_day)) ((p + k) % SECONDS_PER_MINUTE) == 0)
    && not (slice_index run.unannounced ((p + k) % SECONDS_PER_MINUTE) == slice_index run.announced ((p + k) % SECONDS_PER_MINUTE))

-- one of the slots from `from` up to, and without, `to` does
abbrev pub SomeSlotShows : PartTable → Run → ℕ → ℕ → ℕ → ℕ → Type 0
SomeSlotShows parts run u p from to = (k : ℕ) × (from ≤ k) × (k < to) × (shows_in parts run u p k ≡ true)

-- the date tells another set in a second that no call sign takes
abbrev pub DiffersElsewhere : Station → Run → Type 0
DiffersElsewhere station run =
    (s : ℕ) × (s < SECONDS_PER_MINUTE) × (is_given_up station s ≡ false) × (slice_index run.unannounced s ≢ slice_index run.announced s)
