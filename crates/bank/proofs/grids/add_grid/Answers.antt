-- The grid of a station that the window has.
use Rattle.std.proofs.Common.{◌+◌, ◌-◌, ◌≤◌, drop, length, sym, take, ap, ◌∙◌, arith}
use Rattle.bank.specs.Hearing.{count_before, count_of}
use Rattle.signal_base.specs.declared.station.Station.{Station}
use Rattle.bank.proofs.GridLaws.{added}
use Rattle.bank.proofs.MovedLaws.{one_more_of_bank}
use Rattle.bank.proofs.PartLaws.{part_is, part_length}
use Rattle.bank.proofs.grids.add_grid.Goals as goal

pub returns-in_ok-push-clause-adds : goal.returns-in_ok-push-clause-adds
returns-in_ok-push-clause-adds c = λ costs stations n same are.
    let station = c.args.station in
    let bank = c.args.bank.now in
    let ss = bank.stations.items in
    let at = c.places_of-from in
    let first = at.ensures.first ∙ ap (count_before station) c.as_slice.ensures.value in
    let last = at.ensures.behind ∙ ap (λ l. count_before station l + count_of station l) c.as_slice.ensures.value in
    let tunings = part_is station ss bank.tunings.items c.part.result.now at.result.0 at.result.1 first last
    (c.part.ensures ∙ ap (λ xs. take (at.result.1 - at.result.0) (drop at.result.0 xs)) c.as_slice-then-has.ensures.value) in
    let logs = part_is station ss bank.logs.items c.part-then-has.result.now at.result.0 at.result.1 first last
    (c.part-then-has.ensures ∙ ap (λ xs. take (at.result.1 - at.result.0) (drop at.result.0 xs)) c.as_slice-then-has-2.ensures.value) in
    let long = ap length c.as_slice.ensures.value in
    let within : count_before station ss + count_of station ss ≤ length bank.tunings.items = omega (arith, at.ensures.within, last, long, c.requires.bank.tunings) in
    rw c.in_ok-push.ensures.items
    (added c.args.window.now costs stations n c.args.grids.now.items station _ c.in_ok-grid.grid (sym c.has.ensures ∙ c.if-has.true)
    (rw (same) (rw (tunings, logs) at c.in_ok-grid.ensures.costs))
    (c.in_ok-grid.ensures.receivers ∙ ap length tunings ∙ part_length station ss bank.tunings.items within) are)

pub returns-in_ok-push-clause-receivers : goal.returns-in_ok-push-clause-receivers
returns-in_ok-push-clause-receivers c = λ are.
    let station = c.args.station in
    let bank = c.args.bank.now in
    let ss = bank.stations.items in
    let grid = c.in_ok-grid.grid in
    let at = c.places_of-from in
    let first = at.ensures.first ∙ ap (count_before station) c.as_slice.ensures.value in
    let last = at.ensures.behind ∙ ap (λ l. count_before station l + count_of station l) c.as_slice.ensures.value in
    let tunings = part_is station ss bank.tunings.items c.part.result.now at.result.0 at.result.1 first last
    (c.part.ensures ∙ ap (λ xs. take (at.result.1 - at.result.0) (drop at.result.0 xs)) c.as_slice-then-has.ensures.value) in
    let long = ap length c.as_slice.ensures.value in
    let within : count_before station ss + count_of station ss ≤ length bank.tunings.items = omega (arith, at.ensures.within, last, long, c.requires.bank.tunings) in
    let many = c.in_ok-grid.ensures.receivers ∙ ap length tunings ∙ part_length station ss bank.tunings.items within in
    rw c.in_ok-push.ensures.items
    (one_more_of_bank bank c.args.grids.now.items grid (many ∙ ap (λ (s : Station). count_of s ss) (sym c.in_ok-grid.ensures.costs.of_station)) are)
