-- What can be told of a millisecond: a second of the century.
use Rattle.std.specs.Prelude.{◌<◌}
use Rattle.definitions.specs.time.Calendar.{century_minutes}
use Rattle.board_entries.specs.declared.told.Told.{Told}
use Rattle.board_entries.specs.declared.told.Told.TheVariants.{At, Unknown}

abbrev pub IsTold : Told → Type 0
IsTold Unknown = Unit {0}
IsTold (At minute second) = minute < century_minutes
