-- The rules of what `board` owes for its words and for the bytes that it reads; and which files it reads.
use Rattle.std.specs.Prelude.{ℕ, ◌≡◌, List, Err}
use Rattle.definitions.specs.heard.Logs.{Records}
use Rattle.formats.specs.declared.option.OptionName.TheVariants.{Count}
use Rattle.formats.specs.declared.refusal.Refusal.{Refusal}
use Rattle.formats.specs.declared.refusal.Refusal.TheVariants.{WordsBad}
use Rattle.formats.specs.declared.words.WordFault.{WordFault}
use Rattle.bank_config.specs.Configuration.{PlainConfig}
use Rattle.due.specs.declared.due.Due.TheVariants.{Refused}
use Rattle.due.specs.Banks.{Bank, bank_of}
use Rattle.due.specs.Inputs.{Contents, Input, QueriesText}
use Rattle.due.specs.Loads.{IsBankLoaded, IsBankRead, IsBankRefused}
use Rattle.due.specs.Orders.{word_refusal}
use Rattle.follow_due.specs.declared.window_report.WindowReport.{WindowReport}
use Rattle.follow_due.specs.FollowOrders.{FollowOrder, first_window, followed_windows}
use Rattle.follow_due.specs.Windows.{AreReportsOf, StartInTime, StartTooLate}
use Rattle.board_due.specs.declared.board_due.BoardDue.{BoardDue}
use Rattle.board_due.specs.declared.board_due.BoardDue.TheVariants as dues
use Rattle.board_due.specs.BoardAnswers.{AreCounts, entries_of}
use Rattle.board_due.specs.BoardOrders.{AsksBoard, BoardOrder, board_order_in}
use Rattle.board_due.specs.Queries.{IsToldOf, QueriesTold}
use Rattle.board_due.specs.Queries.QueriesTold.{BadLine, Read, TooLarge}

-- the last window starts too late, or early enough
abbrev pub IsLate : FollowOrder → Bank → Type 0
IsLate o bank = StartTooLate (first_window o bank) o.step o.count

abbrev pub IsInTime : FollowOrder → Bank → Type 0
IsInTime o bank = StartInTime (first_window o bank) o.step o.count

-- This is due of a bank by what is told of the queries: why they are refused; or their answers by the entries of the decided windows.
-- While entries were published each was answered by some of them: any counts will do that may be, so more than one text may be due.
abbrev pub IsAnswered : BoardOrder → Bank → QueriesTold → BoardDue → Type 0
IsAnswered o bank TooLarge due = due ≡ dues.TooLarge
IsAnswered o bank (BadLine number) due = due ≡ dues.BadLine number
IsAnswered o bank (Read queries) due =
    (reports : List WindowReport) × AreReportsOf bank (followed_windows o.follow bank) reports
    × ((counts : List ℕ) × AreCounts o.readers (entries_of reports) queries counts
    × (due ≡ dues.Answers (entries_of reports) queries counts))

-- This is due of a bank and of the bytes of its queries: that the last window starts too late, which is judged before the queries are
-- read; or what comes of the queries.
pub data IsBoarded (o : BoardOrder) (bank : Bank) (text : List ℕ) (due : BoardDue) : Type 0 where
  Bad_count : IsLate o.follow bank → due ≡ dues.Told (Refused (WordsBad Count)) → IsBoarded o bank text due
  Asked : IsInTime o.follow bank → (told : QueriesTold) → IsToldOf text told → IsAnswered o bank told due → IsBoarded o bank text due

-- This is due, by the first rule that fits: refused words; of a bank the refusal of its configuration or of the first bad log, and
-- what is due of it and of the queries.
pub data IsBoardDue (words : List (List ℕ)) (contents : Contents) (due : BoardDue) : Type 0 where
  Bad_words : (fault : WordFault) → board_order_in words ≡ Err fault → due ≡ dues.Told (Refused (word_refusal fault)) → IsBoardDue words contents due
  Bad_bank : (o : BoardOrder) → AsksBoard words o
      → (refusal : Refusal) → IsBankRefused contents refusal → due ≡ dues.Told (Refused refusal) → IsBoardDue words contents due
  Answered : (o : BoardOrder) → AsksBoard words o
      → (config : PlainConfig) → (records : List Records) → IsBankLoaded contents config records
      → IsBoarded o (bank_of config records) (contents QueriesText) due → IsBoardDue words contents due

-- The run reads this file as this input: one of a bank's; or the queries, where the bank is loaded and its windows start early enough.
pub data IsBoardRead (words : List (List ℕ)) (contents : Contents) (input : Input) (file : List ℕ) : Type 0 where
  Reads_bank : (o : BoardOrder) → AsksBoard words o → IsBankRead o.follow.config contents input file → IsBoardRead words contents input file
  Reads_queries : (o : BoardOrder) → AsksBoard words o
      → (config : PlainConfig) → (records : List Records) → IsBankLoaded contents config records → IsInTime o.follow (bank_of config records)
      → input ≡ QueriesText → file ≡ o.queries → IsBoardRead words contents input file
