-- The keys that a valid certificate names give the answer.
use Rattle.std.proofs.Common.{rules, ◌≡◌, ℕ, ◌%◌, ◌^◌, ◌<◌, Option, sym, subst}
use Rattle.std.specs.Option.{ForSome}
use Rattle.definitions.specs.sequences.Keys.{index_end}
use Rattle.field_tables.specs.Grids.{grid_costs}
use Rattle.due.specs.Banks.{costs_in}
use Rattle.bank.proofs.DecodedLaws.{reportable}
use Rattle.checks.proofs.ToldLaws.{good_told, named_answer, named_index}
use Rattle.checks.proofs.told.certified.Goals as goal

pub answer_of-answer-requires-clause-first : goal.answer_of-answer-requires-clause-first
answer_of-answer-requires-clause-first c =
    let good = c.requires.good.1 in
    named_index c.args.first good.certificate.head.first good.first_is good.valid.spelled.first

pub answer_of-answer-requires-clause-second : goal.answer_of-answer-requires-clause-second
answer_of-answer-requires-clause-second c =
    let good = c.requires.good.1 in
    named_index c.args.second good.certificate.head.second good.second_is good.valid.spelled.second

pub duts_of-duts-requires-clause-answer : goal.duts_of-duts-requires-clause-answer
duts_of-duts-requires-clause-answer c =
    let window = c.args.window.now in
    let costs = grid_costs c.args.grids.now in
    reportable window costs c.args.ceiling c.answer_of-answer.result c.requires.window
    (named_answer window costs c.args.ceiling c.requires.good.0 (c.valid_certificates_name_the_first_two.ensures.answer costs window c.args.ceiling)
    c.args.first c.args.second c.requires.good.1 c.answer_of-answer.result c.answer_of-answer.ensures)

pub returns-clause-checked : goal.returns-clause-checked
returns-clause-checked c = λ bank bytes same have good.
    let window = c.args.window.now in
    let costs = grid_costs c.args.grids.now in
    let agree = c.grids_agree_with_their_costs.ensures window c.args.grids.now (costs_in window bank) c.requires.grids have in
    good_told window costs c.args.ceiling bytes bank agree same c.args.first c.args.second c.answer_of-answer.result c.duts_of-duts.result c.answer_of-answer.ensures
    (c.duts_of-duts.ensures bank have) good

pub returns-clause-can_be_told : goal.returns-clause-can_be_told
returns-clause-can_be_told c =
    let window = c.args.window.now in
    let costs = grid_costs c.args.grids.now in (
      reportable window costs c.args.ceiling c.answer_of-answer.result c.requires.window
          (named_answer window costs c.args.ceiling c.requires.good.0 (c.valid_certificates_name_the_first_two.ensures.answer costs window c.args.ceiling)
          c.args.first c.args.second c.requires.good.1 c.answer_of-answer.result c.answer_of-answer.ensures),
      search rules,
    )
