-- The searches of a sweep, one after the other.
use Rattle.std.specs.Prelude.{ℕ, ◌≡◌, ◌≤◌, List, [], ◌∷◌, Option}
use Rattle.signal_base.specs.declared.window.Window.{Window}
use Rattle.definitions.specs.answers.FirstTwo.{AreLeastTwo, IsWindowKey}
use Rattle.due.specs.Banks.{Bank, costs_in}
use Rattle.due.specs.Outputs.{SomeOf}
use Rattle.sweep_due.specs.declared.standing.Standing.{Standing}
use Rattle.sweep_due.specs.Phases.{IsSwept, window_at}
use Rattle.sweep_due.specs.Standings.{ceiling_after, nothing_yet, with_two}

-- a key of the window at an offset, under a ceiling
abbrev pub IsKeyAt : Window → Bank → ℕ → ℕ → ℕ → Type 0
IsKeyAt window bank ceiling i = IsWindowKey (window_at window i) (costs_in (window_at window i) bank) ceiling

-- At this offset the first two keys were found under a ceiling, and so much was known before and is known after it.
abbrev pub IsFoundAt : Window → Bank → ℕ → ℕ → Standing → Standing → Type 0
IsFoundAt window bank ceiling i before after =
    (first : Option ℕ) × (second : Option ℕ) × AreLeastTwo (IsKeyAt window bank ceiling i) first second × (after ≡ with_two before i first second)

-- A search may have any ceiling from the cost of the second so far up to that of the bank.
pub record IsSearchedAt (window : Window) (bank : Bank) (i : ℕ) (before after : Standing) : Type 0 where
  pub ceiling : ℕ
  pub not_below : ceiling_after bank.ceiling before ≤ ceiling
  pub not_above : ceiling ≤ bank.ceiling
  pub found : IsFoundAt window bank ceiling i before after

-- this is known after searches at these offsets, of which the latest stands first
abbrev pub IsSearched : Window → Bank → List ℕ → Standing → Type 0
IsSearched window bank [] s = s ≡ nothing_yet
IsSearched window bank (i ∷ earlier) s = (before : Standing) × IsSearched window bank earlier before × IsSearchedAt window bank i before s

-- a number is among these
abbrev pub IsAmong : List ℕ → ℕ → Type 0
IsAmong offsets i = SomeOf (λ (j : ℕ). j ≡ i) offsets

-- these are the swept offsets, in some order
pub record AreAllSwept (phase : ℕ) (offsets : List ℕ) : Type 0 where
  pub each : (i : ℕ) → IsAmong offsets i → IsSwept phase i
  pub all : (i : ℕ) → IsSwept phase i → IsAmong offsets i
