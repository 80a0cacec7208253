-- What a run over a machine that tells its files leaves as it was.
use Rattle.std.proofs.Common.{◌≡◌, ◌≢◌, ◌≤◌, ◌+◌, ◌-◌, ◌^◌, ℕ, false, List, [], ◌∷◌, ap, refl, sym, ◌∙◌, subst, inl, ⊎_elim, arith}
use Rattle.std.proofs.lemmas.Bool.{false≢true}
use Rattle.std.proofs.lemmas.Slice.Eq.{bytes_eq-Decides}
use Rattle.std.specs.Str.{bytes_eq}
use Rattle.bank_files.specs.Fault.{HasFault}
use Rattle.bank_files.specs.Seen.{Seen, WriteFails}
use Rattle.bank_files.specs.Told.{Told, Holds, Tells, output_name}
use Rattle.due.specs.Outputs.{EachOf, Output, SomeOf}
use Rattle.due.specs.Plans.{Plan}
use Rattle.machine_files.specs.Disk.{Disk, Entry, Unknown, Absent, Inode, told_at}
use Rattle.machine_files.specs.Examples.{disk_with}
use Rattle.machine_files.specs.Seeing.{seen_of, told_of}
use Rattle.machine_files.proofs.SeeingLaws.{seen_without_fault, told_of_a_file}
use Rattle.program.specs.Runs.{HasRunOn}

-- Without a fault, a file that no output is written to is as before.
pub leaves_others : {D : Type 0} (plan : Plan D) (old new : Disk) (failures status : ℕ) → HasRunOn plan old new failures status → status ≢ 6
    → (file : List ℕ) → file ≢ output_name → EachOf (λ name. file ≢ name) plan.files
    → Tells (told_at old (old.entry file)) (told_at new (new.entry file))
leaves_others plan old new failures status run other file named outside =
    let seen : Seen = run.0 in
    let none : seen.write_faults file ≡ 0 = ap (λ (counts : List ℕ → ℕ). counts file) (run.2.no_fault other).of_writes in
    let before : (seen_of old false 0).told file ≡ told_at old (old.entry file) = told_of_a_file old file named in
    let after : seen.told file ≡ told_at new (new.entry file) = seen_without_fault new failures seen file run.1 none named in
    subst (λ (told : Told). Tells told (told_at new (new.entry file))) before
    (subst (λ (told : Told). Tells ((seen_of old false 0).told file) told) after (run.2.only.others file outside))

-- some one of these has failed that can't have
none_of : {X : Type 0} (P : X → Type 0) → ((x : X) → P x → ⊥) → (xs : List X) → SomeOf P xs → ⊥
none_of P none [] some = some
none_of P none (x ∷ xs) some = ⊎_elim (none x) (none_of P none xs) some

-- a count that stands at 0 tells of no fault
no_fault : (count : ℕ) → count ≡ 0 → HasFault 0 count → ⊥
no_fault count is = ⊎_elim (λ rose. omega (arith, rose, is)) (λ full. let least : 2 ^ 64 - 1 ≤ count = full in omega (arith, least, is))

-- Where no call of the machine failed, none of a file did.
pub no_failure : {D : Type 0} (plan : Plan D) (old new : Disk) → HasRunOn plan old new 0 6 → ⊥
no_failure plan old new run =
    let seen : Seen = run.0 in
    let few : run.1.1 ≤ 0 = run.1.2 in
    let reads : (file : List ℕ) → seen.read_faults file ≡ 0 = λ file. let counted : seen.read_faults file ≡ run.1.1 = ap (λ (s : Seen). s.read_faults file) run.1.4 in omega (arith, few, counted) in
    let writes : (file : List ℕ) → seen.write_faults file ≡ 0 = λ file. let counted : seen.write_faults file ≡ run.1.1 = ap (λ (s : Seen). s.write_faults file) run.1.4 in omega (arith, few, counted) in
    ⊎_elim
    (λ write. none_of (λ (o : Output). WriteFails o.file (seen_of old false 0) seen) (λ o failed. no_fault (seen.write_faults o.file) (writes o.file) failed) (plan.outputs write.0) write.2)
    (λ read. no_fault (seen.read_faults read.2) (reads read.2) read.5)
    (run.2.failed refl)

-- What was printed is no part of what a disk tells of a file.
told_the_same : (bytes some other : List ℕ) (entry : Entry) → told_at (disk_with bytes some) entry ≡ told_at (disk_with bytes other) entry
told_the_same bytes some other Unknown = refl
told_the_same bytes some other Absent = refl
told_the_same bytes some other (Inode number) = refl

pub seen_the_same : (bytes some other file : List ℕ) → file ≢ output_name
    → Tells (told_of (disk_with bytes some) false file) (told_of (disk_with bytes other) false file)
seen_the_same bytes some other file named =
    let entry : Entry = (disk_with bytes some).entry file in
    inl (told_of_a_file (disk_with bytes other) file named ∙ told_the_same bytes other some entry ∙ sym (told_of_a_file (disk_with bytes some) file named))

-- a file that has a byte isn't empty
pub not_emptied : (first : ℕ) (rest : List ℕ) → Tells (Holds (first ∷ rest)) (Holds []) → ⊥
not_emptied first rest = ⊎_elim (λ same. absurd cc) (λ gone. absurd cc)

-- two names that are told apart by comparing them
pub names_differ : (a b : List ℕ) → bytes_eq a b ≡ false → a ≢ b
names_differ a b apart same = false≢true (sym apart ∙ (bytes_eq-Decides a b).1 same)
