-- The rules of what `sweep` owes for its words and for the bytes that it reads; and which files it reads.
use Rattle.std.specs.Prelude.{ℕ, ◌≡◌, List, Err}
use Rattle.signal_base.specs.declared.window.Window.{Window}
use Rattle.definitions.specs.declared.answer.Answer.{Answer}
use Rattle.definitions.specs.heard.Logs.{Records}
use Rattle.formats.specs.declared.refusal.Refusal.{Refusal}
use Rattle.formats.specs.declared.words.WordFault.{WordFault}
use Rattle.bank_config.specs.Configuration.{PlainConfig}
use Rattle.due.specs.declared.due.Due.{Due}
use Rattle.due.specs.declared.due.Due.TheVariants.{Refused, Report}
use Rattle.due.specs.Banks.{Bank, bank_of, duts_of, window_of}
use Rattle.due.specs.Inputs.{Contents, Input}
use Rattle.due.specs.Loads.{IsBankLoaded, IsBankRead, IsBankRefused}
use Rattle.due.specs.Orders.{word_refusal}
use Rattle.sweep_due.specs.Swept.{IsSweptAnswer, IsToldWindow}
use Rattle.sweep_due.specs.SweepOrders.{AsksSweep, SweepOrder, sweep_order_in}

-- This is told of a window of a bank: the report of the swept answer, as of the window at the offset of its first sequence.
pub record IsSweepReport (window : Window) (bank : Bank) (due : Due) : Type 0 where
  pub answer : Answer
  pub told : Window
  pub answer_is : IsSweptAnswer window bank answer
  pub told_is : IsToldWindow window bank answer told
  pub is : due ≡ Report told answer (duts_of told bank answer)

-- this is told of a bank
abbrev pub IsBankSwept : SweepOrder → Bank → Due → Type 0
IsBankSwept o bank due = IsSweepReport (window_of o.asked bank.receivers) bank due

-- This is due, by the first rule that fits: refused words; of a bank the refusal of its configuration or of the first bad log, and
-- the report of the swept answer.
pub data IsSweepDue (words : List (List ℕ)) (contents : Contents) (due : Due) : Type 0 where
  Bad_words : (fault : WordFault) → sweep_order_in words ≡ Err fault → due ≡ Refused (word_refusal fault) → IsSweepDue words contents due
  Bad_bank : (o : SweepOrder) → AsksSweep words o
      → (refusal : Refusal) → IsBankRefused contents refusal → due ≡ Refused refusal → IsSweepDue words contents due
  Answered : (o : SweepOrder) → AsksSweep words o
      → (config : PlainConfig) → (records : List Records) → IsBankLoaded contents config records
      → IsBankSwept o (bank_of config records) due → IsSweepDue words contents due

-- the run reads this file as this input
abbrev pub IsSweepRead : List (List ℕ) → Contents → Input → List ℕ → Type 0
IsSweepRead words contents input file = (o : SweepOrder) × AsksSweep words o × IsBankRead o.config contents input file
