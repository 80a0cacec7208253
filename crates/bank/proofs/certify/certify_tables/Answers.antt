-- The keys, the lines and the answer by the grids are those of any bank that heard what they say.
use Rattle.std.proofs.Common.{List, None, Ok, Err, sym, ap, ◌∙◌, subst}
use Rattle.std.proofs.lemmas.Result.{err_from_is_err_and}
use Rattle.signal_base.specs.declared.window.Window.{Window}
use Rattle.definitions.specs.declared.sequence.Sequence.{Sequence}
use Rattle.definitions.specs.answers.Answers.{IsWindowAnswer}
use Rattle.symbol_cost.specs.Grid.{Grid}
use Rattle.field_tables.specs.Grids.{grid_costs}
use Rattle.due.specs.Banks.{costs_in, duts_of}
use Rattle.due.specs.Orders.{Report}
use Rattle.due.specs.Rules.{reported}
use Rattle.bank.specs.Certifying.{DeliversCertified}
use Rattle.bank.proofs.CertifiedLaws.{delivered, not_delivered}
use Rattle.bank.proofs.FirstTwoLaws.{found_by}
use Rattle.bank.proofs.certify.certify_tables.Goals as goal

pub decoded_by-decoded-requires-clause-found : goal.decoded_by-decoded-requires-clause-found
decoded_by-decoded-requires-clause-found g c =
    let found = c.in_ok-found.found in
    found_by c.args.window.now c.args.grids.now c.args.tables.now c.args.ceiling found.first found.second c.requires.same c.requires.told c.in_ok-found.ensures

pub returns-in_err-deliver_certified-clause-ends : goal.returns-in_err-deliver_certified-clause-ends
returns-in_err-deliver_certified-clause-ends g c = λ bank is have.
    let window = c.args.window.now in
    let grids = c.args.grids.now in
    let others = costs_in window bank in
    let found = c.in_ok-found.found in
    let o = c.args.certify.now in
    let d = c.decoded_by-decoded.result in
    let old = g.F.Files.view c.args.files.now in
    let new = g.F.Files.view c.deliver_certified.new.files in
    let agree = c.grids_agree_with_their_costs.ensures window grids others c.requires.grids have in
    let same = λ (q : Sequence). c.agreeing_costs_cost_alike.ensures.cost window (grid_costs grids) others q agree in
    let named = found_by window grids c.args.tables.now c.args.ceiling found.first found.second c.requires.same c.requires.told c.in_ok-found.ensures in
    let answer_is = subst (λ n. IsWindowAnswer window others n d.answer) is (c.decoded_by-decoded.ensures.answer others have) in
    let due_is = c.reported-due.ensures.reported bank (c.decoded_by-decoded.ensures.duts bank have ∙ ap (λ (w : Window). duts_of w bank d.answer) (sym c.decoded_by-decoded.ensures.window))
    ∙ ap (λ (w : Window). reported (Report None) w bank d.answer) c.decoded_by-decoded.ensures.window in
    let p = err_from_is_err_and c.from_residual-in_err-deliver_certified.result c.from_residual-in_err-deliver_certified.ensures.1 in
    rw (p.1, p.2)
    (not_delivered window bank (grid_costs grids) c.args.ceiling o.workers found.first found.second c.requires.window.century is agree same named o.name.now c.reported-due.result d.answer answer_is due_is
    old new
    (subst (λ (gs : List Grid). DeliversCertified (grid_costs gs) (record { window = window; ceiling = c.args.ceiling; first = found.first; second = found.second }) o.workers o.name.now
    c.reported-due.result old new (Err c.in_err-deliver_certified.field-0.0)) c.requires.told c.in_err-deliver_certified.ensures.ends))

pub returns-clause-ends : goal.returns-clause-ends
returns-clause-ends g c = λ bank is have.
    let window = c.args.window.now in
    let grids = c.args.grids.now in
    let others = costs_in window bank in
    let found = c.in_ok-found.found in
    let o = c.args.certify.now in
    let d = c.decoded_by-decoded.result in
    let old = g.F.Files.view c.args.files.now in
    let new = g.F.Files.view c.deliver_certified.new.files in
    let agree = c.grids_agree_with_their_costs.ensures window grids others c.requires.grids have in
    let same = λ (q : Sequence). c.agreeing_costs_cost_alike.ensures.cost window (grid_costs grids) others q agree in
    let named = found_by window grids c.args.tables.now c.args.ceiling found.first found.second c.requires.same c.requires.told c.in_ok-found.ensures in
    let answer_is = subst (λ n. IsWindowAnswer window others n d.answer) is (c.decoded_by-decoded.ensures.answer others have) in
    let due_is = c.reported-due.ensures.reported bank (c.decoded_by-decoded.ensures.duts bank have ∙ ap (λ (w : Window). duts_of w bank d.answer) (sym c.decoded_by-decoded.ensures.window))
    ∙ ap (λ (w : Window). reported (Report None) w bank d.answer) c.decoded_by-decoded.ensures.window in
    delivered window bank (grid_costs grids) c.args.ceiling o.workers found.first found.second c.requires.window.century is agree same named o.name.now c.reported-due.result d.answer answer_is due_is
    old new c.status.result c.status.ensures
    (subst (λ (gs : List Grid). DeliversCertified {E = Unit {0}} (grid_costs gs) (record { window = window; ceiling = c.args.ceiling; first = found.first; second = found.second }) o.workers
    o.name.now c.reported-due.result old new (Ok tt)) c.requires.told c.in_ok-deliver_certified.ensures.ends)
