-- A run of the words' own call is one by their plan.
use Rattle.std.proofs.Common.{ℕ, List, [], sym, ◌∙◌, subst}
use Rattle.bank_words.specs.Seen.{texts_of}
use Rattle.program.specs.declared.family.Family.{Family}
use Rattle.program.specs.Families.{family_plan}
use Rattle.program.specs.Runs.{HasRunOn}
use Rattle.program.proofs.running.run.Goals as goal

pub returns-in-Returns : goal.returns-in-Returns
returns-in-Returns g c = (
  [],
  subst (λ (family : Family). HasRunOn (family_plan family [] (texts_of c.args.words.now)) (g.M.Machine.disk c.args.machine) (g.M.Machine.disk c.run_returning.result.machine) (g.M.Machine.failures c.run_returning.result.machine) c.run_returning.result.status)
      (sym c.in-Returns.is ∙ c.family_of.ensures) c.run_returning.ensures,
)

pub returns-in-OfBoard : goal.returns-in-OfBoard
returns-in-OfBoard g c =
    subst (λ (family : Family). (live : List ℕ) × HasRunOn (family_plan family live (texts_of c.args.words.now)) (g.M.Machine.disk c.args.machine) (g.M.Machine.disk c.run_board.result.machine) (g.M.Machine.failures c.run_board.result.machine) c.run_board.result.status)
    (sym c.in-OfBoard.is ∙ c.family_of.ensures) c.run_board.ensures
