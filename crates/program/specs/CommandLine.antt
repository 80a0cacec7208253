-- What is told of a command line. Word 0 is the program's name.
use Rattle.std.specs.Prelude.{◌≡◌, ℕ, ◌+◌, ◌<◌, ◌≤◌, List, [], ◌++◌, length, drop, slice_index_or, Option, IfSome}
use Rattle.std.specs.Str.{IsUtf8}
use Rattle.due.specs.declared.status.Status.{Status}
use Rattle.due.specs.declared.status.Status.TheVariants.{BadWords}
use Rattle.due.specs.declared.status.Status.TheVariants as statuses
use Rattle.program.specs.declared.command_line.NoWords.{NoWords}
use Rattle.program.specs.declared.command_line.NoWords.TheVariants.{NotText, NoMemory}

-- the words of a command line, as far as they are told
abbrev pub Given : Type 0
Given = Option (List (List ℕ))

-- the word of this number has these bytes
abbrev pub IsWord : Given → ℕ → List ℕ → Type 0
IsWord given number bytes = IfSome given (λ all. (number < length all) × (slice_index_or all number [] ≡ bytes))

-- the word of this number has more bytes than this
abbrev pub IsLonger : Given → ℕ → ℕ → Type 0
IsLonger given number room = IfSome given (λ all. (number < length all) × (room < length (slice_index_or all number [])))

-- there is no word of this number, nor of any later one
abbrev pub EndsBefore : Given → ℕ → Type 0
EndsBefore given number = IfSome given (λ all. length all ≤ number)

-- these are all the words after the program's name, in their order
abbrev pub AreWords : Given → List (List ℕ) → Type 0
AreWords given texts = IfSome given (λ all. texts ≡ drop 1 all)

-- these are the first words after the program's name
abbrev pub AreFirstWords : Given → List (List ℕ) → Type 0
AreFirstWords given texts = IfSome given (λ all. texts ++ drop (length texts + 1) all ≡ drop 1 all)

-- the word of this number isn't text
abbrev pub IsNoText : Given → ℕ → Type 0
IsNoText given number = IfSome given (λ all. (number < length all) × (¬ (IsUtf8 (slice_index_or all number []))))

-- a word after the program's name isn't text
abbrev pub SomeIsNoText : Given → Type 0
SomeIsNoText given = (number : ℕ) × (0 < number) × IsNoText given number

-- a word that isn't text is refused as any other word that isn't in order
abbrev pub status_without_words : NoWords → Status
status_without_words NotText = BadWords
status_without_words NoMemory = statuses.NoMemory
