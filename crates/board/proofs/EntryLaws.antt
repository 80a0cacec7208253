-- The entry of a decided window keeps what an entry keeps.
use Rattle.std.proofs.Common.{ℕ, Option}
use Rattle.signal_base.specs.declared.window.Window.{Window}
use Rattle.definitions.specs.declared.answer.Answer.TheVariants.{Decided}
use Rattle.definitions.specs.declared.sequence.Sequence.{Sequence}
use Rattle.definitions.specs.sequences.Walks.{IsSequence}
use Rattle.board_entries.specs.Stays.{StaysInCentury}
use Rattle.texts.specs.Reportable.{IsReportable}

pub decided_stays : (window : Window) (cost : ℕ) (q : Sequence) (next : Option ℕ) → IsReportable window (Decided cost q next) → StaysInCentury q window.seconds
decided_stays window cost q next (start, seconds, sequence, walkable) k within = (walkable.encoded k within).0

pub decided_begins : (window : Window) (cost : ℕ) (q : Sequence) (next : Option ℕ) → IsReportable window (Decided cost q next) → IsSequence q
decided_begins window cost q next (start, seconds, sequence, walkable) = sequence
