-- What came of the file by the grids is found of it at the offset.
use Rattle.std.proofs.Common.{rules, ◌≡◌, ◌≢◌, ℕ, List, string_bytes, sym, ◌∙◌, subst}
use Rattle.signal_base.specs.declared.window.Window.{Window}
use Rattle.bank_files.specs.Told.{output_name}
use Rattle.field_tables.specs.Grids.{AreGrids, HaveCosts, grid_costs}
use Rattle.field_tables.specs.Scopes.{scopes_of}
use Rattle.symbol_cost.specs.Grid.{Grid}
use Rattle.due.specs.Banks.{costs_in}
use Rattle.bank.specs.Hearing.{bank_seen}
use Rattle.judges.proofs.FoundAtLaws.{found_at}
use Rattle.judges.proofs.TaskLaws.{no_output}
use Rattle.judges.proofs.judging.judge_at.Goals as goal

pub judge_window-requires-clause-parts : goal.judge_window-requires-clause-parts
judge_window-requires-clause-parts g c =
    subst (λ (w : Window). c.args.parts.now ≡ scopes_of w.stations w.seconds) (sym c.window_at-moved.ensures.window) c.requires.parts

pub judge_window-requires-clause-name : goal.judge_window-requires-clause-name
judge_window-requires-clause-name g c =
    let same : c.as_str.result.now ≡ string_bytes c.in_ok-file.file = search rules in
    subst (λ (n : List ℕ). n ≢ output_name) (sym (same ∙ c.in_ok-file.ensures)) (no_output c.args.name.now c.args.offset)

pub returns-clause-found : goal.returns-clause-found
returns-clause-found g c =
    let moved = c.window_at-moved.result in
    let bank = bank_seen c.args.bank.now in
    let grids = c.as_slice.result.now in
    let value = sym c.as_slice.ensures.value in
    let are = subst (λ (gs : List Grid). AreGrids moved gs) value c.in_ok-grids.ensures.grids in
    let have = subst (λ (gs : List Grid). HaveCosts moved gs (costs_in moved bank)) value c.in_ok-grids.ensures.costs in
    let agree = c.grids_agree_with_their_costs.ensures moved grids (costs_in moved bank) are have in
    let law = c.bytes_have_one_outcome.ensures in
    let same : c.as_str.result.now ≡ string_bytes c.in_ok-file.file = search rules in
    found_at (g.F.Files.view c.args.files.now) c.args.name.now c.args.window.now bank c.args.offset (grid_costs grids) c.in_ok-outcome.outcome law.bad law.good moved c.as_str.result.now c.found_of.result
    c.window_at-moved.ensures.window (same ∙ c.in_ok-file.ensures) agree c.in_ok-outcome.ensures.outcome c.found_of.ensures
