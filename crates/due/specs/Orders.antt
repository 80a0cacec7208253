-- What the words of a run ask for, and what is refused of them.
use Rattle.std.specs.Prelude.{ℕ, List, Option, Some, None, Ok, Err}
use Rattle.formats.specs.declared.words.Asked.{Asked}
use Rattle.formats.specs.declared.words.WordFault.{WordFault}
use Rattle.formats.specs.declared.words.WordFault.TheVariants.{Usage, BadNumber, BadMinute, EmptyRange}
use Rattle.formats.specs.declared.refusal.Refusal.{Refusal}
use Rattle.formats.specs.declared.refusal.Refusal.TheVariants.{WordsUsage, WordsBad, WordsEmptyRange}
use Rattle.formats.specs.Orders.{Order, Checked, ◌>>=◌, order_of}
use Rattle.formats.specs.Orders.Order.{Decode, Check, Feed}
use Rattle.formats.specs.Words.{run_commands}

-- Of the orders, those of a run. The check of a certificate is a command of its own, so that an order of one is refused here, as
-- words are that no command takes.
abbrev pub of_run : Order → Checked Order
of_run (Check config certificate asked) = Err Usage
of_run order = Ok order

-- what the words ask for, or why they are refused
abbrev pub order_in : List (List ℕ) → Checked Order
order_in words = order_of run_commands words >>= of_run

-- the line that a refused order gets
abbrev pub word_refusal : WordFault → Refusal
word_refusal Usage = WordsUsage
word_refusal (BadNumber option) = WordsBad option
word_refusal (BadMinute option) = WordsBad option
word_refusal EmptyRange = WordsEmptyRange

-- what is wanted of a bank: the report of its answer, with a certificate of this name or without, or the answer's sentences
pub data Wanted : Type 0 where
  Report : (certificate : Option (List ℕ)) → Wanted
  Sentences : Wanted

-- what is asked about the bank of a configuration: the configuration's file, the window, and what is wanted
pub record BankOrder : Type 0 where
  pub config : List ℕ
  pub asked : Asked
  pub wanted : Wanted

-- what an order asks about a bank, if it does; how many workers search doesn't matter
abbrev pub bank_order : Order → Option BankOrder
bank_order (Decode config asked workers certificate) = Some (record { config = config; asked = asked; wanted = Report certificate })
bank_order (Feed config asked workers) = Some (record { config = config; asked = asked; wanted = Sentences })
bank_order other = None
