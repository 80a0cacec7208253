-- How the program ends for its command line.
use Rattle.std.specs.Prelude.{ℕ, ◌≡◌, ◌⊎◌, List}
use Rattle.machine_files.specs.Disk.{Disk}
use Rattle.due.specs.declared.status.Status.TheVariants.{BadWords, NoMemory}
use Rattle.due.specs.Status.{code_of}
use Rattle.program.specs.CommandLine.{Given, AreWords, SomeIsNoText}
use Rattle.program.specs.Families.{plan_for}
use Rattle.program.specs.Runs.{HasRunOn}

-- A run for all the words of the command line ended with this status, by its plan for some numbers, which only a board has. Or a word wasn't text, or there was no memory for the words,
-- and the disk is as before.
abbrev pub Ends : Given → Disk → Disk → ℕ → ℕ → Type 0
Ends given old new failures status =
    ((words : List (List ℕ)) × AreWords given words × ((live : List ℕ) × HasRunOn (plan_for live words) old new failures status))
    ⊎ ((new ≡ old) × (((status ≡ code_of BadWords) × SomeIsNoText given) ⊎ (status ≡ code_of NoMemory)))
