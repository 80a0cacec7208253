-- What is found by the tables is found by their grids, and what is kept is of a search of their window's items.
use Rattle.std.proofs.Common.{List, IfOk, OnOk}
use Rattle.std.proofs.lemmas.Result.{IfOk-weaker, on_ok_weaker}
use Rattle.definitions.specs.declared.block.Block.{Block}
use Rattle.definitions.specs.answers.FirstTwo.{AreLeastTwo, IsWindowKey}
use Rattle.field_tables.specs.Grids.{grid_costs}
use Rattle.field_tables.specs.Scored.{costs_of}
use Rattle.race_words.specs.declared.view.View.{View}
use Rattle.workers.specs.declared.ending.Found.{Found}
use Rattle.workers.specs.Recorded.{HaveRecorded}
use Rattle.workers.specs.Searches.{AreItemsOf}
use Rattle.bank.proofs.FirstTwoLaws.{found_by, recorded_by}
use Rattle.bank.proofs.first_two.recorded_by.Goals as goal

pub returns-clause-found : goal.returns-clause-found
returns-clause-found g c =
    let t = c.in_ok-tables.tables in
    let window = c.args.window.now in
    IfOk-weaker c.decide_over.result (λ kept. IfOk kept (λ (f : Found). AreLeastTwo (IsWindowKey t.window (costs_of t) c.args.ceiling) f.first f.second))
    (λ kept. IfOk kept (λ (f : Found). AreLeastTwo (IsWindowKey window (grid_costs c.args.grids.now) c.args.ceiling) f.first f.second))
    (λ kept is.
    IfOk-weaker kept (λ (f : Found). AreLeastTwo (IsWindowKey t.window (costs_of t) c.args.ceiling) f.first f.second)
    (λ (f : Found). AreLeastTwo (IsWindowKey window (grid_costs c.args.grids.now) c.args.ceiling) f.first f.second)
    (λ f. found_by window c.args.grids.now t c.args.ceiling f.first f.second c.in_ok-tables.ensures.window c.in_ok-tables.ensures.grids) is)
    c.decide_over.ensures.found

pub returns-clause-recorded : goal.returns-clause-recorded
returns-clause-recorded g c =
    let t = c.in_ok-tables.tables in
    let window = c.args.window.now in
    let old = c.args.recorder.now in
    let new = c.decide_over.new.recorder in
    IfOk-weaker c.decide_over.result
    (λ kept. OnOk kept ((items : List Block) × (v : View) × AreItemsOf t.window items
    × HaveRecorded g.K.Recorder.told g.K.Recorder.parts g.K.Recorder.joins (costs_of t) t.window c.args.ceiling items c.args.workers v old new))
    (λ kept. OnOk kept ((items : List Block) × (v : View) × AreItemsOf window items
    × HaveRecorded g.K.Recorder.told g.K.Recorder.parts g.K.Recorder.joins (grid_costs c.args.grids.now) window c.args.ceiling items c.args.workers v old new))
    (λ kept. on_ok_weaker kept (λ found.
    let more = recorded_by g.K.Recorder.told g.K.Recorder.parts g.K.Recorder.joins window c.args.grids.now t c.args.ceiling found.0 c.args.workers found.1 old new
    c.in_ok-tables.ensures.window c.in_ok-tables.ensures.grids found.2 found.3 in
    (found.0, found.1, more.0, more.1)))
    c.decide_over.ensures.recorded
