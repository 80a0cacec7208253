-- What a function of the code gives, against the check that is due.
use Rattle.std.specs.Prelude.{◌≡◌, Result, Ok, Err}
use Rattle.formats.specs.declared.words.WordFault.{WordFault}
use Rattle.formats.specs.Orders.{Checked}

-- the result is what is due, with its value seen so
abbrev pub Gives : {A B : Type 0} → (A → B) → Result A WordFault → Checked B → Type 0
Gives seen (Ok x) due = due ≡ Ok (seen x)
Gives seen (Err fault) due = due ≡ Err fault
