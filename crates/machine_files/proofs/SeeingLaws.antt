-- Without a fault, files are seen as the disk tells them.
use Rattle.std.proofs.Common.{◌≡◌, ◌≢◌, ◌<◌, ℕ, Bool, true, false, if◌then◌else◌, List, refl, ◌∙◌, ap, arith}
use Rattle.std.proofs.lemmas.Bool.{false≢true}
use Rattle.std.proofs.lemmas.Slice.Eq.{bytes_eq-Decides}
use Rattle.std.specs.Str.{bytes_eq}
use Rattle.bank_files.specs.Seen.{Seen}
use Rattle.bank_files.specs.Told.{output_name}
use Rattle.machine_files.specs.Disk.{Disk, told_at}
use Rattle.machine_files.specs.Seeing.{IsSeenThrough, told_of}

-- no file is in doubt
told_without_doubt : (disk : Disk) (in_doubt : Bool) (name : List ℕ) → (in_doubt ≡ true → ⊥) → name ≢ output_name
    → told_of disk in_doubt name ≡ told_at disk (disk.entry name)
told_without_doubt disk true name doubt other = absurd (doubt refl)
told_without_doubt disk false name doubt other = by_name (bytes_eq name output_name) (bytes_eq-Decides name output_name).0
  where
    by_name : (b : Bool) → (b ≡ true → name ≡ output_name) → (if b then disk.output else told_at disk (disk.entry name)) ≡ told_at disk (disk.entry name)
    by_name true same = absurd (other (same refl))
    by_name false same = refl

-- so none is where no fault was counted
pub seen_without_fault : (disk : Disk) (failures : ℕ) (seen : Seen) (name : List ℕ) → IsSeenThrough disk failures seen
    → seen.write_faults name ≡ 0 → name ≢ output_name → seen.told name ≡ told_at disk (disk.entry name)
seen_without_fault disk failures seen name through none other =
    let counted : seen.write_faults name ≡ through.1 = ap (λ (s : Seen). s.write_faults name) through.4 in
    ap (λ (s : Seen). s.told name) through.4
    ∙ told_without_doubt disk through.0 name (λ doubt. let some : 0 < through.1 = through.3 doubt in omega (arith, some, none, counted)) other

-- a file of which nothing is in doubt is seen as the disk tells it
pub told_of_a_file : (disk : Disk) (name : List ℕ) → name ≢ output_name → told_of disk false name ≡ told_at disk (disk.entry name)
told_of_a_file disk name other = told_without_doubt disk false name (λ doubt. absurd (false≢true doubt)) other
