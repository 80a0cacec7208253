use Rattle.clock_board.proofs.Ruling.{admits}
use Rattle.clock_board.proofs.tracker.Tracker.reader.Goals as goal

pub reader-requires : goal.reader-requires
reader-requires c = admits
