-- What stands after all searches is the swept answer, and its window is that of its first sequence.
use Rattle.std.proofs.Common.{rules, ℕ, ◌%◌, ◌^◌, ◌<◌, List, Option, sym, ap, ◌∙◌, subst}
use Rattle.std.specs.Option.{ForSome}
use Rattle.definitions.specs.answers.FirstTwo.{answer_from}
use Rattle.definitions.specs.sequences.Keys.{index_end}
use Rattle.field_tables.specs.Grids.{AreGrids, HaveCosts}
use Rattle.symbol_cost.specs.Grid.{Grid}
use Rattle.due.specs.Banks.{costs_in}
use Rattle.bank.specs.Hearing.{bank_seen}
use Rattle.sweep.proofs.ReportLaws.{report_is, standing_can_be_reported}
use Rattle.sweep.proofs.find.report_of.Goals as goal

pub answer_of-answer-requires-clause-first : goal.answer_of-answer-requires-clause-first
answer_of-answer-requires-clause-first c =
    let window = c.args.window.now in
    let keys = c.searches_decide_a_sweep.ensures.keys window (bank_seen c.args.bank.now) c.requires.searched.0 c.args.standing c.requires.window.century c.requires.window.phase c.requires.searched.1 c.requires.searched.2 in
    subst (λ (o : Option ℕ). ForSome o (λ (key : ℕ). key % 2 ^ 33 < index_end)) (sym c.first_key.ensures) keys.0

pub answer_of-answer-requires-clause-second : goal.answer_of-answer-requires-clause-second
answer_of-answer-requires-clause-second c =
    let window = c.args.window.now in
    (c.searches_decide_a_sweep.ensures.keys window (bank_seen c.args.bank.now) c.requires.searched.0 c.args.standing c.requires.window.century c.requires.window.phase c.requires.searched.1 c.requires.searched.2).1

pub told_window-told-requires-clause-swept : goal.told_window-told-requires-clause-swept
told_window-told-requires-clause-swept c =
    let window = c.args.window.now in
    c.searches_decide_a_sweep.ensures.offset window (bank_seen c.args.bank.now) c.requires.searched.0 c.args.standing c.requires.window.century c.requires.window.phase c.requires.searched.1 c.requires.searched.2

pub duts_of-duts-requires-clause-grids : goal.duts_of-duts-requires-clause-grids
duts_of-duts-requires-clause-grids c =
    subst (λ (gs : List Grid). AreGrids c.told_window-told.result gs) (sym c.as_slice.ensures.value) c.in_ok-grids.ensures.grids

pub duts_of-duts-requires-clause-answer : goal.duts_of-duts-requires-clause-answer
duts_of-duts-requires-clause-answer c =
    let window = c.args.window.now in
    let bank = bank_seen c.args.bank.now in
    let offsets = c.requires.searched.0 in
    let s = c.args.standing in
    let law = c.searches_decide_a_sweep.ensures in
    let all = c.requires.searched.1 in
    let answer = c.answer_of-answer.ensures ∙ ap (λ (first : Option ℕ). answer_from first s.second) c.first_key.ensures in
    standing_can_be_reported window bank s c.answer_of-answer.result c.told_window-told.result c.requires.window answer c.told_window-told.ensures.window
    (law.answer window bank offsets s c.requires.window.century c.requires.window.phase all c.requires.searched.2)
    (law.told window bank offsets s c.requires.window.century c.requires.window.phase all c.requires.searched.2)

pub returns-clause-reported : goal.returns-clause-reported
returns-clause-reported c =
    let window = c.args.window.now in
    let bank = bank_seen c.args.bank.now in
    let offsets = c.requires.searched.0 in
    let s = c.args.standing in
    let law = c.searches_decide_a_sweep.ensures in
    let all = c.requires.searched.1 in
    let told = c.told_window-told.result in
    let answer = c.answer_of-answer.ensures ∙ ap (λ (first : Option ℕ). answer_from first s.second) c.first_key.ensures in
    let have = subst (λ (gs : List Grid). HaveCosts told gs (costs_in told bank)) (sym c.as_slice.ensures.value) c.in_ok-grids.ensures.costs in
    report_is window bank s c.answer_of-answer.result told c.duts_of-duts.result answer c.told_window-told.ensures.window
    (law.answer window bank offsets s c.requires.window.century c.requires.window.phase all c.requires.searched.2)
    (law.told window bank offsets s c.requires.window.century c.requires.window.phase all c.requires.searched.2) (c.duts_of-duts.ensures bank have)

pub returns-clause-can_be_written : goal.returns-clause-can_be_written
returns-clause-can_be_written c =
    let window = c.args.window.now in
    let bank = bank_seen c.args.bank.now in
    let offsets = c.requires.searched.0 in
    let s = c.args.standing in
    let law = c.searches_decide_a_sweep.ensures in
    let all = c.requires.searched.1 in
    let answer = c.answer_of-answer.ensures ∙ ap (λ (first : Option ℕ). answer_from first s.second) c.first_key.ensures in (
      standing_can_be_reported window bank s c.answer_of-answer.result c.told_window-told.result c.requires.window answer c.told_window-told.ensures.window
          (law.answer window bank offsets s c.requires.window.century c.requires.window.phase all c.requires.searched.2)
          (law.told window bank offsets s c.requires.window.century c.requires.window.phase all c.requires.searched.2),
      search rules,
    )
