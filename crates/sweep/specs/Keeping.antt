-- What is heard and kept of the offsets that are swept.
use Rattle.std.specs.Prelude.{ℕ, ◌≡◌, ◌<◌, true, List, All, filter, map, string_bytes}
use Rattle.std.specs.List.{range_with_len}
use Rattle.signal_base.specs.declared.window.Window.{Window}
use Rattle.definitions.specs.answers.FirstTwo.{AreLeastTwo, IsWindowKey}
use Rattle.definitions.specs.sequences.Windows.{IsWindow}
use Rattle.field_tables.specs.Grids.{AreGrids, HaveCosts}
use Rattle.field_tables.specs.Scored.{costs_of}
use Rattle.due.specs.Banks.{Bank, costs_in}
use Rattle.sweep_due.specs.declared.offsets.TheConstants.{OFFSETS}
use Rattle.sweep_due.specs.CertificateNames.{file_at}
use Rattle.sweep_due.specs.Phases.{is_swept, swept_offsets, window_at}
use Rattle.sweep.specs.declared.heard.Heard.{Heard}
use Rattle.sweep.specs.declared.kept.Kept.{Kept}

-- an offset that is swept, with the window there and what symbols cost in it
pub record IsHeardAt (window : Window) (bank : Bank) (h : Heard) : Type 0 where
  pub small : h.offset < OFFSETS
  pub swept : is_swept window.phase h.offset ≡ true
  pub window_is : h.window ≡ window_at window h.offset
  pub fits : IsWindow h.window
  pub grids : AreGrids h.window h.grids.items
  pub costs : HaveCosts h.window h.grids.items (costs_in h.window bank)

-- all offsets below n that are swept
pub record AreHeard (window : Window) (bank : Bank) (n : ℕ) (heard : List Heard) : Type 0 where
  pub offsets : map (λ h. h.offset) heard ≡ filter (is_swept window.phase) (range_with_len 0 n)
  pub each : All (IsHeardAt window bank) heard

-- An offset that is swept, with tables of the window there, and the head of its certificate: it names that window, the ceiling of the
-- bank and the first two keys under it.
pub record IsKeptAt (window : Window) (bank : Bank) (name : List ℕ) (k : Kept) : Type 0 where
  pub small : k.offset < OFFSETS
  pub swept : is_swept window.phase k.offset ≡ true
  pub name_is : string_bytes k.name ≡ file_at name k.offset
  pub window_is : k.head.window ≡ window_at window k.offset
  pub ceiling_is : k.head.ceiling ≡ bank.ceiling
  pub tables_are : k.tables.window ≡ k.head.window
  pub fits : IsWindow k.head.window
  pub grids : AreGrids k.head.window k.tables.grids
  pub costs : HaveCosts k.head.window k.tables.grids (costs_in k.head.window bank)
  pub named : AreLeastTwo (IsWindowKey k.head.window (costs_of k.tables) k.head.ceiling) k.head.first k.head.second

abbrev pub offsets_kept : List Kept → List ℕ
offsets_kept kept = map (λ k. k.offset) kept

-- all offsets that are swept, in their order
pub record AreKept (window : Window) (bank : Bank) (name : List ℕ) (kept : List Kept) : Type 0 where
  pub offsets : offsets_kept kept ≡ swept_offsets window.phase
  pub each : All (IsKeptAt window bank name) kept
