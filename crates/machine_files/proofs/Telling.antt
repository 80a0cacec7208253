-- What is seen of files over a call of the machine, and that what is kept open stays what it is.
use Rattle.std.proofs.Common.{◌≡◌, ◌<◌, ◌≤◌, ◌⊎◌, ℕ, Bool, true, false, if◌then◌else◌, List, Option, string_bytes, Result, Ok, Err, IfOk, OnOk, OnErr, IsErr, is_err, take, refl, sym, ◌∙◌, ap, subst, inl, inr, ⊎_elim, arith}
use Rattle.std.proofs.lemmas.Bool.{false≢true}
use Rattle.std.specs.Option.{ForSome}
use Rattle.std.specs.Str.{bytes_eq}
use Rattle.bank_files.specs.Told.{Told, Untold, Tells, output_name}
use Rattle.bank_files.specs.Fault.{HasFault}
use Rattle.bank_files.specs.Seen.{OnlyWrites, SameCounts}
use Rattle.machine_files.specs.Disk.{Entry, Unknown, Absent, Inode, Disk, told_at}
use Rattle.machine_files.specs.Calls.{Counts, OnlyFile, Prints, Stays}
use Rattle.machine_files.specs.declared.opened.Opened.{Opened}
use Rattle.machine_files.specs.Opened.{IsOpen, IsOpenToRead, IsKeptToRead, IsKeptToAppend}
use Rattle.machine_files.specs.Seeing.{told_of, seen_of}
use Rattle.machine_files.proofs.Appending.{stays_start}

-- an open file that leads where its name led leads there still
open_stays : (a b : Disk) (leads : Entry) (name : List ℕ) → Stays a b → IsOpen a leads name → IsOpen b leads name
open_stays a b leads name h was = record {
  there = was.there;
  same = was.same ∙ sym (h.entries name (λ gone. was.there (was.same ∙ gone)));
}

-- what is kept open to be read stays what it is
pub reading_stays : {F : Type 0} (a b : Disk) (leads : F → Entry) (place : F → ℕ) (kept : Option (Opened F)) → Stays a b
    → ForSome kept (IsKeptToRead a leads place) → ForSome kept (IsKeptToRead b leads place)
reading_stays a b leads place kept h known opened is text named =
    let was : IsOpenToRead a leads place (string_bytes text) opened = known opened is text named in (
      open_stays a b (leads opened.file) (string_bytes text) h was.0,
      λ at here told. was.1 at here (λ none. told (subst (λ (e : Entry). told_at b e ≡ Untold) (sym was.0.same) (h.untold (string_bytes text) (subst (λ (e : Entry). told_at a e ≡ Untold) was.0.same none)))),
    )

-- what is kept open to be appended to stays what it is
pub writing_stays : {F : Type 0} (a b : Disk) (leads : F → Entry) (kept : Option (Opened F)) → Stays a b
    → ForSome kept (IsKeptToAppend a leads) → ForSome kept (IsKeptToAppend b leads)
writing_stays a b leads kept h known opened is text named = open_stays a b (leads opened.file) (string_bytes text) h (known opened is text named)

-- what is printed changes no file
prints_told : (a b : Disk) (piece name : List ℕ) → Prints a b piece → told_at b (b.entry name) ≡ told_at a (a.entry name)
prints_told a b piece name h = subst (λ (f : List ℕ → Entry). told_at b (f name) ≡ told_at a (a.entry name)) (sym h.entries) (by_entry (a.entry name))
  where
    by_entry : (e : Entry) → told_at b e ≡ told_at a e
    by_entry Unknown = refl
    by_entry Absent = refl
    by_entry (Inode number) = ap (λ (f : ℕ → Told). f number) h.inodes

-- what is there stays what it is where something is printed
pub prints_stays : (a b : Disk) (piece : List ℕ) → Prints a b piece → Stays a b
prints_stays a b piece h = record {
  entries = λ name there. ap (λ (f : List ℕ → Entry). f name) h.entries;
  untold = λ name none. subst (λ (f : List ℕ → Entry). told_at b (f name) ≡ Untold) h.entries (prints_told a b piece name h ∙ none);
}

-- what is told of standard output, or of a file, stays, or is told no more since files came into doubt
tells_still : (standard old_doubt new_doubt : Bool) (old_output new_output old_file new_file : Told) → (old_doubt ≡ true → new_doubt ≡ true)
    → (standard ≡ true → new_output ≡ old_output) → (new_doubt ≡ true) ⊎ (new_file ≡ old_file)
    → Tells (if standard then old_output else (if old_doubt then Untold else old_file)) (if standard then new_output else (if new_doubt then Untold else new_file))
tells_still true old_doubt new_doubt a b x y doubt output file = inl (output refl)
tells_still false true true a b x y doubt output file = inl refl
tells_still false true false a b x y doubt output file = absurd (false≢true (doubt refl))
tells_still false false true a b x y doubt output file = inr refl
tells_still false false false a b x y doubt output (inl h) = absurd (false≢true h)
tells_still false false false a b x y doubt output (inr h) = inl h

-- what is told of a file stays where nothing changed, or is told no more
pub told_unless : (a b : Disk) (d e : Bool) (name : List ℕ) → (d ≡ true → e ≡ true) → b.output ≡ a.output → (e ≡ true) ⊎ (b ≡ a) → Tells (told_of a d name) (told_of b e name)
told_unless a b d e name doubt output change =
    tells_still (bytes_eq name output_name) d e a.output b.output (told_at a (a.entry name)) (told_at b (b.entry name)) doubt (λ _. output)
    (elim change [ inl h ↦ inl h | inr h ↦ inr (ap (λ (disk : Disk). told_at disk (disk.entry name)) h) ])

-- a call that changes at most one file leaves all that is told of others, unless files came into doubt
pub writes_file : (a b : Disk) (d e : Bool) (f g : ℕ) (name : List ℕ) → OnlyFile a b name → (d ≡ true → e ≡ true) → f ≤ g
    → OnlyWrites name (seen_of a d f) (seen_of b e g)
writes_file a b d e f g name h doubt count = record {
  others = λ other ne. tells_still (bytes_eq other output_name) d e a.output b.output (told_at a (a.entry other)) (told_at b (b.entry other)) doubt (λ _. h.output)
      (inr (subst (λ (e : Entry). told_at b e ≡ told_at a (a.entry other)) (sym (h.entries other ne)) (h.files other ne)));
  counts = record { of_reads = λ _. count; of_writes = λ _. count };
}

-- the same, whether the call printed anything or failed
pub printed_stays : {E : Type 0} (a b : Disk) (bytes : List ℕ) (result : Result ℕ E) → IfOk result (λ n. Prints a b (take n bytes)) → OnErr result (b ≡ a) → Stays a b
printed_stays a b bytes (Ok n) prints same = prints_stays a b (take n bytes) prints
printed_stays a b bytes (Err e) prints same = subst (λ (d : Disk). Stays a d) (sym same) (stays_start a)

-- what is told of a file stays where a call on it failed, or is told no more
pub failed_tells : {T U E F : Type 0} (a b : Disk) (d e : Bool) (name : List ℕ) (answer : Result T E) (result : Result U F) → (d ≡ true → e ≡ true) → b.output ≡ a.output
    → OnErr answer ((e ≡ true) ⊎ (b ≡ a)) → OnErr result (IsErr answer) → OnErr result (Tells (told_of a d name) (told_of b e name))
failed_tells a b d e name answer (Ok value) doubt output change error = tt
failed_tells a b d e name (Ok value) (Err failed) doubt output change error = absurd (false≢true error)
failed_tells a b d e name (Err why) (Err failed) doubt output change error = told_unless a b d e name doubt output change

-- files that came into doubt did so by a fault that was counted
pub doubt_counted : {T E F : Type 0} (d e : Bool) (f g : ℕ) (answer : Result T E) (result : Result T F) → (d ≡ true → 0 < f) → f ≤ g
    → OnOk answer (e ≡ d) → IfOk result (λ value. answer ≡ Ok value) → OnErr result (HasFault f g) → e ≡ true → 0 < g
doubt_counted d e f g (Ok value) result was le same failed cause is = let counted : 0 < f = was (sym same ∙ is) in omega arith
doubt_counted d e f g (Err why) (Ok value) was le same failed cause is = cc
doubt_counted d e f g (Err why) (Err error) was le same failed cause is = ⊎_elim (λ rose. omega arith) (λ stands. omega arith) cause

-- a call's failure is a fault where no more faults were counted than there were failures
pub fault_counted : {T E : Type 0} (faults before after : ℕ) (answer : Result T E) → faults ≤ before → OnErr answer (HasFault before after) → OnErr answer (HasFault faults after)
fault_counted faults before after (Ok value) le failed = tt
fault_counted faults before after (Err e) le failed = ⊎_elim (λ rose. inl (omega arith)) (λ stands. inr stands) failed

-- the counts that are seen are as before where the one count is
pub counts_same : {T E : Type 0} (a b : Disk) (d e : Bool) (f g : ℕ) (result : Result T E) → OnOk result (g ≡ f) → OnOk result (SameCounts (seen_of a d f) (seen_of b e g))
counts_same a b d e f g (Ok value) same = let all : ℕ → List ℕ → ℕ = λ n name. n in record { of_reads = ap all same; of_writes = ap all same }
counts_same a b d e f g (Err error) same = tt

-- the same of a single call
pub failure_counted : {T E : Type 0} (faults before after : ℕ) (answer : Result T E) → faults ≤ before → Counts before after (is_err answer) → OnErr answer (HasFault faults after)
failure_counted faults before after (Ok value) le counts = tt
failure_counted {E = E} faults before after (Err e) le counts = fault_counted {T = ℕ} {E = E} faults before after (Err e) le (counts.failure refl)
