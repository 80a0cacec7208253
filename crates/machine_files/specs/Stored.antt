-- Files in memory, which are numbered in the order in which they were made, as a disk.
use Rattle.std.specs.Prelude.{◌≡◌, ◌+◌, ◌<◌, ◌≤◌, ◌++◌, ◌∷◌, ℕ, Bool, true, false, nat_lt, ◌==◌, if◌then◌else◌, List, [], length, map, slice_index_or, slice_set, Option, None, Some, string_bytes, refl}
use Rattle.std.proofs.Common.{sym, ◌∙◌, ap, arith}
use Rattle.std.proofs.lemmas.Slice.Eq.{bytes_eq-Decides}
use Rattle.std.specs.Str.{bytes_eq}
use Rattle.std.specs.List.{find}
use Rattle.std.specs.Option.{option_map}
use Rattle.std.specs.declared.io.ErrorKind.{ErrorKind}
use Rattle.bank_files.specs.Told.{Told, Missing, Holds}
use Rattle.machine_files.specs.Disk.{Entry, Unknown, Absent, Inode, Disk}
use Rattle.machine_files.specs.declared.store.MemoryFile.{MemoryFile}

-- where a name leads, of files that have these names, of which the first has this number
abbrev pub entry_from : ℕ → List (List ℕ) → List ℕ → Entry
entry_from number [] name = Absent
entry_from number (first ∷ rest) name = if bytes_eq first name then Inode number else entry_from (number + 1) rest name

-- where a name leads whose file has this number
abbrev pub entry_of : Option ℕ → Entry
entry_of None = Absent
entry_of (Some number) = Inode number

-- what the file of this number holds
abbrev pub inode_in : List (List ℕ) → ℕ → Told
inode_in contents number = if nat_lt number (length contents) then Holds (slice_index_or contents number []) else Missing

-- the disk of files with these names and contents, and what was printed
abbrev pub disk_of : List (List ℕ) → List (List ℕ) → List ℕ → Disk
disk_of names contents printed = record { entry = entry_from 0 names; inode = inode_in contents; output = Holds printed }

-- the names of files
abbrev pub names_of : List MemoryFile → List (List ℕ)
names_of files = map (λ file. string_bytes file.name) files

-- what files hold
abbrev pub contents_of : List MemoryFile → List (List ℕ)
contents_of files = map (λ file. file.bytes.items) files

-- the kind of the failure that is planned for a call, if any is: that of the first plan for it
abbrev pub planned_in : List (ℕ × ErrorKind) → ℕ → Option ErrorKind
planned_in failing call = option_map (λ plan. plan.1) (find (λ plan. plan.0 == call) failing)

-- an empty file of this name was added
pub record AddsFile (old new : List MemoryFile) (name : List ℕ) : Type 0 where
  pub names : names_of new ≡ names_of old ++ name ∷ []
  pub contents : contents_of new ≡ contents_of old ++ [] ∷ []

-- the file of this number holds these bytes now
pub record Writes (old new : List MemoryFile) (number : ℕ) (bytes : List ℕ) : Type 0 where
  pub names : names_of new ≡ names_of old
  pub contents : contents_of new ≡ slice_set (contents_of old) number bytes

-- all files have the names that they had, and hold what they held
pub record SameFiles (old new : List MemoryFile) : Type 0 where
  pub names : names_of new ≡ names_of old
  pub contents : contents_of new ≡ contents_of old

-- the number of an inode
number_of : Entry → ℕ
number_of Unknown = 0
number_of Absent = 0
number_of (Inode number) = number

-- two inodes that are the same have one number
same_number : (k m : ℕ) → Inode k ≡ Inode m → k ≡ m
unfolding number_of
same_number k m is = ap number_of is

-- a name leads to one of the files
pub entry_within : (n : ℕ) (ns : List (List ℕ)) (name : List ℕ) (k : ℕ) → entry_from n ns name ≡ Inode k → (n ≤ k) × (k < n + length ns)
entry_within n [] name k is = cc
entry_within n (first ∷ rest) name k is = by_test (bytes_eq first name) (entry_within (n + 1) rest name k) is
  where
    by_test : (b : Bool) → (entry_from (n + 1) rest name ≡ Inode k → (n + 1 ≤ k) × (k < n + 1 + length rest))
        → (if b then Inode n else entry_from (n + 1) rest name) ≡ Inode k → (n ≤ k) × (k < n + length (first ∷ rest))
    by_test true more here = let same : n ≡ k = same_number n k here in (omega arith, omega arith)
    by_test false more later = let after : (n + 1 ≤ k) × (k < n + 1 + length rest) = more later in (omega arith, omega arith)

-- two names that lead to one file are the same
pub entry_apart : (n : ℕ) (ns : List (List ℕ)) (a b : List ℕ) (k : ℕ) → entry_from n ns a ≡ Inode k → entry_from n ns b ≡ Inode k → a ≡ b
entry_apart n [] a b k is also = cc
entry_apart n (first ∷ rest) a b k is also =
    by_test (bytes_eq first a) (bytes_eq first b) (bytes_eq-Decides first a).0 (bytes_eq-Decides first b).0
    (λ later. (entry_within (n + 1) rest a k later).0) (λ later. (entry_within (n + 1) rest b k later).0) (entry_apart (n + 1) rest a b k) is also
  where
    by_test : (s t : Bool) → (s ≡ true → first ≡ a) → (t ≡ true → first ≡ b) → (entry_from (n + 1) rest a ≡ Inode k → n + 1 ≤ k) → (entry_from (n + 1) rest b ≡ Inode k → n + 1 ≤ k)
        → (entry_from (n + 1) rest a ≡ Inode k → entry_from (n + 1) rest b ≡ Inode k → a ≡ b)
        → (if s then Inode n else entry_from (n + 1) rest a) ≡ Inode k → (if t then Inode n else entry_from (n + 1) rest b) ≡ Inode k → a ≡ b
    by_test true true f g after_a after_b more here there = sym (f refl) ∙ g refl
    by_test true false f g after_a after_b more here later = let same : n ≡ k = same_number n k here in let after : n + 1 ≤ k = after_b later in absurd (omega arith)
    by_test false true f g after_a after_b more later here = let same : n ≡ k = same_number n k here in let after : n + 1 ≤ k = after_a later in absurd (omega arith)
    by_test false false f g after_a after_b more later also = more later also
