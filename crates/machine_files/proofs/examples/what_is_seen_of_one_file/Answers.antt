-- What was counted tells how often calls failed, and the file of its name what it holds.
use Rattle.std.proofs.Common.{◌≡◌, ◌≢◌, ◌≤◌, ℕ, List, [], ◌∷◌, codes, true, false, ap, refl, arith}
use Rattle.bank_files.specs.Seen.{Seen}
use Rattle.bank_files.specs.Told.{Holds, Untold, output_name}
use Rattle.machine_files.specs.Examples.{disk_with}
use Rattle.machine_files.specs.Seeing.{seen_of}
use Rattle.machine_files.proofs.SeeingLaws.{seen_without_fault}
use Rattle.machine_files.proofs.examples.what_is_seen_of_one_file.Goals as goal

first_byte : List ℕ → ℕ
first_byte [] = 0
first_byte (byte ∷ rest) = byte

no_output : codes "k.toml" ≢ output_name
unfolding first_byte
no_output same = let first : 107 ≡ 45 = ap first_byte same in omega (arith, first)

untold_holds : (bytes : List ℕ) → Untold ≡ Holds bytes → ⊥
untold_holds bytes same = absurd cc

pub returns-clause-doubt_without_a_fault : goal.returns-clause-doubt_without_a_fault
returns-clause-doubt_without_a_fault c failures through =
    untold_holds (codes "ab") (seen_without_fault (disk_with (codes "ab") []) failures (seen_of (disk_with (codes "ab") []) true 0) (codes "k.toml") through refl no_output)

pub returns-clause-a_fault_without_a_failure : goal.returns-clause-a_fault_without_a_failure
returns-clause-a_fault_without_a_failure c through =
    let counted : 1 ≡ through.1 = ap (λ (seen : Seen). seen.write_faults output_name) through.4 in
    let few : through.1 ≤ 0 = through.2 in
    omega (arith, counted, few)

two_letters_or_none : Holds (codes "ab") ≡ Holds [] → ⊥
two_letters_or_none same = absurd cc

pub returns-clause-emptied : goal.returns-clause-emptied
returns-clause-emptied c failures through =
    two_letters_or_none (seen_without_fault (disk_with [] []) failures (seen_of (disk_with (codes "ab") []) false 0) (codes "k.toml") through refl no_output)
