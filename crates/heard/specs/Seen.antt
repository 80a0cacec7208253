-- What is kept, as the rules see it, and the plan of a run over what is kept.
use Rattle.std.specs.Prelude.{ℕ, ◌≡◌, List}
use Rattle.definitions.specs.declared.answer.Answer.{Answer}
use Rattle.formats.specs.declared.words.Asked.{Asked}
use Rattle.formats.specs.Heard.{Hearing as PlainHearing}
use Rattle.due.specs.declared.heard_due.HeardDue.{HeardDue}
use Rattle.due.specs.declared.heard_due.HeardDue.TheVariants.{Told, Heard}
use Rattle.due.specs.Banks.{Bank, IsBankAnswer, window_of}
use Rattle.due.specs.HeardRuns.{heard_plan, shown}
use Rattle.due.specs.Plans.{Plan}
use Rattle.bank.specs.Ending.{over}
use Rattle.bank.specs.Finding.{CanBeWritten}
use Rattle.heard.specs.declared.hearing.Hearing.{Hearing}
use Rattle.heard.specs.Kept.{hearing_in}

abbrev pub hearing_seen : Hearing → PlainHearing
hearing_seen h = hearing_in h.bank h.places.items h.window h.sequence h.next

abbrev pub due_seen : HeardDue Hearing → HeardDue PlainHearing
due_seen (Told due) = Told due
due_seen (Heard h) = Heard (hearing_seen h)

-- this is shown of a bank for what is asked
abbrev pub IsShownFor : Asked → Bank → HeardDue PlainHearing → Type 0
IsShownFor asked bank due =
    let window = window_of asked bank.receivers in
    (answer : Answer) × IsBankAnswer window bank answer × (due ≡ shown window bank answer)

-- what is told can be written
abbrev pub CanBeShown : HeardDue Hearing → Type 0
CanBeShown (Told due) = CanBeWritten due
CanBeShown (Heard h) = Unit {0}

-- the plan of a run over what is kept
abbrev pub kept_plan : List (List ℕ) → Plan (HeardDue Hearing)
kept_plan words = over due_seen (heard_plan words)
