-- The first two keys by the grids are those by any costs that the grids have.
use Rattle.std.proofs.Common.{sym, subst}
use Rattle.definitions.specs.declared.answer.Answer.{Answer}
use Rattle.definitions.specs.declared.sequence.Sequence.{Sequence}
use Rattle.definitions.specs.answers.Answers.{IsWindowAnswer}
use Rattle.field_tables.specs.Grids.{grid_costs}
use Rattle.bank.proofs.DecodedLaws.{reportable, same_least}
use Rattle.bank.proofs.decoding.answer_for.Goals as goal

pub returns-clause-answer : goal.returns-clause-answer
returns-clause-answer c = λ costs have.
    let window = c.args.window.now in
    let grids = c.args.grids.now in
    let found = c.args.found in
    let same = λ (q : Sequence). c.agreeing_costs_cost_alike.ensures.cost window (grid_costs grids) costs q (c.grids_agree_with_their_costs.ensures window grids costs c.requires.grids have) in
    subst (λ (a : Answer). IsWindowAnswer window costs c.args.ceiling a) (sym c.answer_of.ensures)
    (c.the_least_two_are_the_answer.ensures window costs c.args.ceiling found.first found.second c.requires.window.century
    (same_least window (grid_costs grids) costs c.args.ceiling found.first found.second same c.requires.found))

pub returns-clause-reportable : goal.returns-clause-reportable
returns-clause-reportable c =
    let window = c.args.window.now in
    let costs = grid_costs c.args.grids.now in
    let found = c.args.found in
    reportable window costs c.args.ceiling c.answer_of.result c.requires.window
    (subst (λ (a : Answer). IsWindowAnswer window costs c.args.ceiling a) (sym c.answer_of.ensures)
    (c.the_least_two_are_the_answer.ensures window costs c.args.ceiling found.first found.second c.requires.window.century c.requires.found))
