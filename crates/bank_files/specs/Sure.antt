-- What is seen of files that never fail: the files that were given, and a mark for each name that is set once it was written.
use Rattle.std.specs.Prelude.{◌≡◌, ◌≢◌, ℕ, Bool, true, false, ◌||◌, if◌then◌else◌, List, [], Option, None, Some, is_none}
use Rattle.std.specs.Option.{option_map, option_map_or}
use Rattle.std.specs.BTreeMap.{get_by_text}
use Rattle.bank_files.specs.declared.sure.GivenFile.{GivenFile}
use Rattle.bank_files.specs.declared.sure.SureFiles.{SureFiles}
use Rattle.bank_files.specs.Told.{Told, Untold, Holds, Missing, output_name}
use Rattle.bank_files.specs.Seen.{Seen}

-- a file that was given: what it reads as, and its mark
pub record Given : Type 0 where
  pub bytes : List ℕ
  pub marked : Bool

abbrev pub given_from : GivenFile → Given
given_from file = record { bytes = file.bytes.items; marked = file.marked }

-- the file of this name, if it was given
abbrev pub given_of : SureFiles → List ℕ → Option Given
given_of sure name = option_map given_from (get_by_text sure.given name)

-- the one mark of all names that weren't given
abbrev pub others_marked : SureFiles → Bool
others_marked sure = sure.others_marked

-- what a name reads as: an empty file where it wasn't given
abbrev pub reads_as : SureFiles → List ℕ → List ℕ
reads_as sure name = option_map_or (λ given. given.bytes) (given_of sure name) []

-- the mark of a name
abbrev pub mark_of : SureFiles → List ℕ → Bool
mark_of sure name = option_map_or (λ given. given.marked) (given_of sure name) (others_marked sure)

-- What a name reads as is told while its mark isn't set, and no count of faults ever rises.
abbrev pub seen_of_sure : SureFiles → Seen
seen_of_sure sure =
    record {
      told = λ name. if mark_of sure name then Untold else Holds (reads_as sure name);
      read_faults = λ _. 0;
      write_faults = λ _. 0;
    }

-- no file is missing
pub none_is_missing : (sure : SureFiles) → (seen_of_sure sure).told output_name ≢ Missing
none_is_missing sure = by_mark (mark_of sure output_name)
  where
    by_mark : (marked : Bool) → (if marked then Untold else Holds (reads_as sure output_name)) ≢ Missing
    by_mark true = λ h. cc
    by_mark false = λ h. cc

-- A given file is changed so. A name that wasn't given sets the mark of all that weren't.
pub record Changes (old new : SureFiles) (name : List ℕ) (change : Given → Given) : Type 0 where
  pub file : given_of new name ≡ option_map change (given_of old name)
  pub other_files : (other : List ℕ) → other ≢ name → given_of new other ≡ given_of old other
  pub mark_of_others : others_marked new ≡ (is_none (given_of old name) || others_marked old)

-- the mark is set
abbrev pub marked : Given → Given
marked given = record { bytes = given.bytes; marked = true }

-- the mark is set, and the file is empty
abbrev pub emptied_and_marked : Given → Given
emptied_and_marked given = record { bytes = []; marked = true }

-- no file was given, and no mark is set
pub record IsEmpty (sure : SureFiles) : Type 0 where
  pub files : (name : List ℕ) → given_of sure name ≡ None
  pub mark : others_marked sure ≡ false

-- this file was added, and nothing else changed
pub record Gives (old new : SureFiles) (name bytes : List ℕ) : Type 0 where
  pub file : given_of new name ≡ Some (record { bytes = bytes; marked = false })
  pub other_files : (other : List ℕ) → other ≢ name → given_of new other ≡ given_of old other
  pub mark_of_others : others_marked new ≡ others_marked old

-- all is as before
pub record SameSure (old new : SureFiles) : Type 0 where
  pub files : (name : List ℕ) → given_of new name ≡ given_of old name
  pub mark_of_others : others_marked new ≡ others_marked old
