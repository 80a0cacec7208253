-- Words that are missing are refused by one text, for all contents of files.
use Rattle.std.proofs.Common.{◌≡◌, ◌≢◌, ◌≤◌, ℕ, List, [], ◌∷◌, codes, false, refl, subst, inl, arith}
use Rattle.bank_files.specs.Seen.{Seen}
use Rattle.due.specs.declared.due.Due.TheVariants.{Refused}
use Rattle.due.specs.CertificateRules.{Not_asked}
use Rattle.due.specs.Inputs.{Contents}
use Rattle.due.specs.Owed.{IsOwed, Owed, told_alone}
use Rattle.due.specs.Plans.{run_plan}
use Rattle.formats.specs.Bytes.{line}
use Rattle.formats.specs.declared.refusal.Refusal.TheVariants.{WordsUsage}
use Rattle.bank.specs.Ending.{Delivers, HasRun}
use Rattle.machine_files.specs.Examples.{disk_with}
use Rattle.machine_files.specs.Seeing.{seen_of}
use Rattle.program.specs.Families.{plan_for}
use Rattle.program.proofs.RunLaws.{leaves_others, names_differ, not_emptied, seen_the_same}
use Rattle.program.proofs.ending_examples.what_a_run_without_words_does.Goals as goal

-- what the refusal is, what is seen before it, and what behind it
usage : Owed
usage = told_alone (Refused WordsUsage)

old : Seen
old = seen_of (disk_with (codes "x") []) false 0

new : Seen
new = seen_of (disk_with (codes "x") (line (codes "words: usage"))) false 0

delivers : Delivers (run_plan []) old new usage 3
unfolding usage old new
delivers = (refl, (inl refl, tt), (λ file outside. seen_the_same _ _ _ file outside.0))

three : ◌≡◌ {A = ℕ} 3 6 → ⊥
three is = omega (arith, is)

not_seven : ◌≡◌ {A = ℕ} 3 7 → ⊥
not_seven is = omega (arith, is)

pub returns-clause-refused : goal.returns-clause-refused
unfolding usage old new
returns-clause-refused c =
    let owes : (contents : Contents) → IsOwed [] contents usage = λ contents. record { due_is = c.words_that_are_refused.ensures.none contents; certificate_is = Not_asked refl refl } in (
      new,
      (false, 0, omega arith, (λ doubt. absurd cc), refl),
      record {
        due = λ six seven. (usage, ((λ input. []), (λ input file reads. absurd cc), owes (λ input. [])), delivers);
        exactly = λ six seven contents told due owed. subst (λ (o : Owed). Delivers (run_plan []) old new o 3) (c.one_thing_is_owed.ensures.one [] contents usage due (owes contents) owed) delivers;
        failed = λ six. absurd (three six);
        no_fault = λ six. record { of_reads = refl; of_writes = refl };
        front = λ six. absurd (three six);
        memory = λ seven. absurd (not_seven seven);
        only = record {
          others = λ file outside. seen_the_same _ _ _ file outside.0;
          counts = record { of_reads = λ name. omega arith; of_writes = λ name. omega arith };
        };
      },
    )

pub returns-clause-emptied : goal.returns-clause-emptied
returns-clause-emptied c run =
    not_emptied _ _ (leaves_others (plan_for [] []) (disk_with (codes "x") []) (disk_with [] (line (codes "words: usage"))) 0 3 run three (codes "k.toml") (names_differ _ _ refl) (names_differ _ _ refl, tt))

pub returns-clause-not_by_its_output : goal.returns-clause-not_by_its_output
returns-clause-not_by_its_output c law =
    returns-clause-emptied c
    (law [] (disk_with (codes "x") []) (disk_with (codes "x") (line (codes "words: usage"))) (disk_with [] (line (codes "words: usage"))) 0 3 refl (returns-clause-refused c))
