-- What contracts see of a race and of a seat.
use Rattle.std.specs.Prelude.{ℕ, ◌≤◌, All}
use Rattle.atomic_table.specs.Seated.{TableId}
use Rattle.race_words.specs.declared.view.View.{View}
use Rattle.race_words.specs.Events.{CarriesNothing}

-- A race: which one it is, which no other race shares, and its whole share
pub record RaceSeen : Type 0 where
  pub id : TableId
  pub workers : ℕ

-- A seat: which race it is of, and its view
pub record SeatSeen : Type 0 where
  pub race : TableId
  pub view : View

-- what the view of a seat keeps between calls
pub record IsAtRest (v : View) : Type 0 where
  pub share : 1 ≤ v.share
  pub nothing : CarriesNothing v
  pub reads : All (λ key. v.floor ≤ key) v.reads
