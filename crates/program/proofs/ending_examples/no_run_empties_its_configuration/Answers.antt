-- The configuration is no output, so it is as it was.
use Rattle.std.proofs.Common.{◌≡◌, ◌≢◌, ℕ, List, [], ◌∷◌, codes, ap, refl, subst, ⊎_elim}
use Rattle.bank_files.specs.Told.{Told, Holds}
use Rattle.due.specs.HeardRuns.{heard_plan}
use Rattle.formats.specs.WordExamples.{words_in}
use Rattle.machine_files.specs.Disk.{Disk, told_at}
use Rattle.machine_files.specs.Examples.{disk_with}
use Rattle.program.specs.Families.{plan_for}
use Rattle.program.specs.Runs.{HasRunOn}
use Rattle.program.proofs.RunLaws.{leaves_others, names_differ, not_emptied}
use Rattle.program.proofs.ending_examples.no_run_empties_its_configuration.Goals as goal

-- the disk before, and the disk with an empty configuration
before : Disk
before = disk_with (codes "x") []

after : Disk
after = disk_with [] []

no_decode : (live : List ℕ) (failures status : ℕ) → status ≢ 6 → HasRunOn (plan_for live (words_in (codes "decode k.toml"))) before after failures status → ⊥
unfolding before after
no_decode live failures status other run =
    not_emptied _ _ (leaves_others (plan_for live (words_in (codes "decode k.toml"))) before after failures status run other (codes "k.toml") (names_differ _ _ refl) (names_differ _ _ refl, tt))

no_hearing : (failures status : ℕ) → status ≢ 6 → HasRunOn (heard_plan (words_in (codes "k.toml"))) before after failures status → ⊥
unfolding before after
no_hearing failures status other run =
    not_emptied _ _ (leaves_others (heard_plan (words_in (codes "k.toml"))) before after failures status run other (codes "k.toml") (names_differ _ _ refl) (names_differ _ _ refl, tt))

two_disks : after ≡ before → ⊥
unfolding before after
two_disks same = let told : Holds [] ≡ Holds (codes "x") = ap (λ (disk : Disk). told_at disk (disk.entry (codes "k.toml"))) same in absurd cc

pub returns-clause-run : goal.returns-clause-run
unfolding before after
returns-clause-run c live failures status other run = no_decode live failures status other run

pub returns-clause-ended : goal.returns-clause-ended
unfolding before after
returns-clause-ended c failures status other =
    ⊎_elim
    (λ ran. no_decode ran.2.0 failures status other (subst (λ (words : List (List ℕ)). HasRunOn (plan_for ran.2.0 words) before after failures status) ran.1 ran.2.1))
    (λ none. two_disks none.0)

pub returns-clause-heard : goal.returns-clause-heard
unfolding before after
returns-clause-heard c failures status other run = no_hearing failures status other run

pub returns-clause-heard_ended : goal.returns-clause-heard_ended
unfolding before after
returns-clause-heard_ended c failures status other =
    ⊎_elim
    (λ ran. no_hearing failures status other (subst (λ (words : List (List ℕ)). HasRunOn (heard_plan words) before after failures status) ran.1 ran.2))
    (λ none. two_disks none.0)
