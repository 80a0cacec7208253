-- Checks one after the other: a value, or the first fault.
use Rattle.std.specs.Prelude.{◌≡◌, ◌≢◌, Bool, if◌then◌else◌, Option, Some, None, Result, Ok, Err, ok_or}
use Rattle.bank_config.specs.declared.fault.Key.{Key}
use Rattle.bank_config.specs.declared.fault.ConfigFault.{ConfigFault}
use Rattle.bank_config.specs.declared.fault.ConfigFault.TheVariants.{Missing, OutOfRange, NoMemory}

-- what a check comes to
abbrev pub Checked : Type 0 → Type 0
Checked A = Result A ConfigFault

-- the next check, of what the check before it found
abbrev pub and_then : {A B : Type 0} → Checked A → (A → Checked B) → Checked B
and_then (Ok x) next = next x
and_then (Err fault) next = Err fault

infixl 10 ◌>>=◌
abbrev pub ◌>>=◌ : {A B : Type 0} → Checked A → (A → Checked B) → Checked B
check >>= next = and_then check next

-- what must stand at a key
abbrev pub required : {A : Type 0} → Key → Option A → Checked A
required key found = ok_or found (Missing key)

-- what may stand at a key, read so, else the default
abbrev pub optional : {A B : Type 0} → B → (A → Checked B) → Option A → Checked B
optional default read None = Ok default
optional default read (Some x) = read x

-- what may stand at a key, read so, if it is there
abbrev pub if_given : {A B : Type 0} → (A → Checked B) → Option A → Checked (Option B)
if_given read None = Ok None
if_given read (Some x) = read x >>= (λ y. Ok (Some y))

-- a value of the key's range
abbrev pub in_range : {A : Type 0} → Key → (A → Bool) → A → Checked A
in_range key fits x = if fits x then Ok x else Err (OutOfRange key)

-- the result is what is due, with its value seen so
abbrev pub Gives : {A B : Type 0} → (A → B) → Result A ConfigFault → Checked B → Type 0
Gives seen (Ok x) due = due ≡ Ok (seen x)
Gives seen (Err fault) due = due ≡ Err fault

-- the result is what is due, unless memory ran out
abbrev pub GivesOrNoMemory : {A B : Type 0} → (A → B) → Result A ConfigFault → Checked B → Type 0
GivesOrNoMemory seen (Ok x) due = due ≡ Ok (seen x)
GivesOrNoMemory seen (Err fault) due = fault ≢ NoMemory → due ≡ Err fault
