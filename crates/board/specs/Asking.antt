-- What is told of a file of queries, and what is due of a bank for it.
use Rattle.std.specs.Prelude.{◌≡◌, ◌⊎◌}
use Rattle.formats.specs.declared.option.OptionName.TheVariants.{Count}
use Rattle.formats.specs.declared.refusal.Refusal.TheVariants.{WordsBad}
use Rattle.bank_files.specs.Seen.{Seen}
use Rattle.due.specs.declared.due.Due.TheVariants.{Refused}
use Rattle.due.specs.Banks.{Bank}
use Rattle.board_due.specs.declared.board_due.BoardDue.{BoardDue}
use Rattle.board_due.specs.declared.board_due.BoardDue.TheVariants.{Told}
use Rattle.board_due.specs.BoardOrders.{BoardOrder}
use Rattle.board_due.specs.BoardRules.{IsAnswered, IsInTime, IsLate}
use Rattle.board_due.specs.Queries.{IsToldOf, QueriesTold}
use Rattle.board_due.specs.Queries.QueriesTold.{BadLine as TextBadLine, Read as TextRead, TooLarge as TextTooLarge}
use Rattle.bank.specs.Loading.{IsReadAs}
use Rattle.board.specs.declared.text.QueryText.{QueryText}
use Rattle.board.specs.declared.text.QueryText.TheVariants.{BadLine, Read, TooLarge}

-- what is told of a text, as the rules see it
abbrev pub told_seen : QueryText → QueriesTold
told_seen TooLarge = TextTooLarge
told_seen (BadLine line) = TextBadLine line
told_seen (Read queries) = TextRead queries

-- This is due of a bank: that the last window starts too late; or what comes of the queries, as they are read from their file.
abbrev pub IsBoardedBy : BoardOrder → Bank → Seen → BoardDue → Type 0
IsBoardedBy o bank old due =
    (IsLate o.follow bank × (due ≡ Told (Refused (WordsBad Count))))
    ⊎ (IsInTime o.follow bank × IsReadAs old o.queries (λ bytes. (t : QueriesTold) × IsToldOf bytes t × IsAnswered o bank t due))
