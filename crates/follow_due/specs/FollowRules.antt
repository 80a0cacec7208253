-- The rules of what `follow` owes for its words and for the bytes that it reads; and which files it reads.
use Rattle.std.specs.Prelude.{ℕ, ◌≡◌, List, Err}
use Rattle.definitions.specs.heard.Logs.{Records}
use Rattle.formats.specs.declared.option.OptionName.TheVariants.{Count}
use Rattle.formats.specs.declared.refusal.Refusal.{Refusal}
use Rattle.formats.specs.declared.refusal.Refusal.TheVariants.{WordsBad}
use Rattle.formats.specs.declared.words.WordFault.{WordFault}
use Rattle.bank_config.specs.Configuration.{PlainConfig}
use Rattle.due.specs.declared.due.Due.TheVariants.{Refused}
use Rattle.due.specs.Banks.{Bank, bank_of}
use Rattle.due.specs.Inputs.{Contents, Input}
use Rattle.due.specs.Loads.{IsBankLoaded, IsBankRead, IsBankRefused}
use Rattle.due.specs.Orders.{word_refusal}
use Rattle.follow_due.specs.declared.follow_due.FollowDue.{FollowDue}
use Rattle.follow_due.specs.declared.follow_due.FollowDue.TheVariants.{Told, Windows}
use Rattle.follow_due.specs.declared.window_report.WindowReport.{WindowReport}
use Rattle.follow_due.specs.FollowOrders.{AsksFollow, FollowOrder, first_window, follow_order_in, followed_windows}
use Rattle.follow_due.specs.Windows.{AreReportsOf, StartInTime, StartTooLate}

-- This is told of a bank: that the last window starts too late, which only a log may tell, and so is judged behind the logs; or the
-- reports of all windows.
pub data IsFollowed (o : FollowOrder) (bank : Bank) (due : FollowDue) : Type 0 where
  Bad_count : StartTooLate (first_window o bank) o.step o.count → due ≡ Told (Refused (WordsBad Count)) → IsFollowed o bank due
  Reported : StartInTime (first_window o bank) o.step o.count
      → (reports : List WindowReport) → AreReportsOf bank (followed_windows o bank) reports → due ≡ Windows reports → IsFollowed o bank due

-- This is due, by the first rule that fits: refused words; of a bank the refusal of its configuration or of the first bad log, and
-- what is told of its windows.
pub data IsFollowDue (words : List (List ℕ)) (contents : Contents) (due : FollowDue) : Type 0 where
  Bad_words : (fault : WordFault) → follow_order_in words ≡ Err fault → due ≡ Told (Refused (word_refusal fault)) → IsFollowDue words contents due
  Bad_bank : (o : FollowOrder) → AsksFollow words o
      → (refusal : Refusal) → IsBankRefused contents refusal → due ≡ Told (Refused refusal) → IsFollowDue words contents due
  Answered : (o : FollowOrder) → AsksFollow words o
      → (config : PlainConfig) → (records : List Records) → IsBankLoaded contents config records
      → IsFollowed o (bank_of config records) due → IsFollowDue words contents due

-- the run reads this file as this input
abbrev pub IsFollowRead : List (List ℕ) → Contents → Input → List ℕ → Type 0
IsFollowRead words contents input file = (o : FollowOrder) × AsksFollow words o × IsBankRead o.config contents input file
