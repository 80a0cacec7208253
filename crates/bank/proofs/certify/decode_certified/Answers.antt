-- What is owed by the grids is owed for the bank.
use Rattle.std.proofs.Common.{List, refl, sym, subst}
use Rattle.signal_base.specs.declared.window.Window.{Window}
use Rattle.symbol_cost.specs.Grid.{Grid}
use Rattle.field_tables.specs.Grids.{HaveCosts}
use Rattle.due.specs.Banks.{costs_in}
use Rattle.bank.specs.Certifying.{Certifies}
use Rattle.bank.specs.Hearing.{bank_seen}
use Rattle.bank.proofs.certify.decode_certified.Goals as goal

pub returns-clause-ends : goal.returns-clause-ends
returns-clause-ends g c =
    let window = c.window_of-window.result in
    let bank = bank_seen c.args.bank.now in
    let o = c.args.certify.now in
    let have = subst (λ (gs : List Grid). HaveCosts window gs (costs_in window bank)) (sym c.as_slice.ensures.value) c.in_ok-grids.ensures.costs in
    subst (λ (w : Window). Certifies w bank o.workers o.name.now (g.F.Files.view c.args.files.now) (g.F.Files.view c.certify_window.new.files) c.certify_window.result)
    c.window_of-window.ensures.window (c.certify_window.ensures.ends bank refl have)
