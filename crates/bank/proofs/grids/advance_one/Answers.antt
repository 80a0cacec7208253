-- The receivers of the grid's station are a part of the bank's.
use Rattle.std.proofs.Common.{◌+◌, ◌-◌, ◌≤◌, drop, length, sym, take, ap, ◌∙◌, arith}
use Rattle.bank.specs.Hearing.{count_before, count_of}
use Rattle.bank.proofs.MovedLaws.{moved_costs}
use Rattle.bank.proofs.PartLaws.{part_is, part_length}
use Rattle.bank.proofs.grids.advance_one.Goals as goal

pub advance-requires-clause-receivers : goal.advance-requires-clause-receivers
advance-requires-clause-receivers c =
    let station = c.args.grid.now.station in
    let bank = c.args.bank.now in
    let ss = bank.stations.items in
    let at = c.places_of-from in
    let first = at.ensures.first ∙ ap (count_before c.station.result) c.as_slice.ensures.value ∙ ap (λ s. count_before s ss) c.station.ensures in
    let last = at.ensures.behind ∙ ap (λ l. count_before c.station.result l + count_of c.station.result l) c.as_slice.ensures.value ∙ ap (λ s. count_before s ss + count_of s ss) c.station.ensures in
    let tunings = part_is station ss bank.tunings.items c.part.result.now at.result.0 at.result.1 first last
    (c.part.ensures ∙ ap (λ xs. take (at.result.1 - at.result.0) (drop at.result.0 xs)) c.as_slice-2.ensures.value) in
    let long = ap length c.as_slice.ensures.value in
    let within : count_before station ss + count_of station ss ≤ length bank.tunings.items = omega (arith, at.ensures.within, last, long, c.requires.bank.tunings) in
    c.requires.receivers ∙ sym (ap length tunings ∙ part_length station ss bank.tunings.items within)

pub returns : goal.returns
returns c =
    let station = c.args.grid.now.station in
    let bank = c.args.bank.now in
    let ss = bank.stations.items in
    let at = c.places_of-from in
    let first = at.ensures.first ∙ ap (count_before c.station.result) c.as_slice.ensures.value ∙ ap (λ s. count_before s ss) c.station.ensures in
    let last = at.ensures.behind ∙ ap (λ l. count_before c.station.result l + count_of c.station.result l) c.as_slice.ensures.value ∙ ap (λ s. count_before s ss + count_of s ss) c.station.ensures in
    let tunings = part_is station ss bank.tunings.items c.part.result.now at.result.0 at.result.1 first last
    (c.part.ensures ∙ ap (λ xs. take (at.result.1 - at.result.0) (drop at.result.0 xs)) c.as_slice-2.ensures.value) in
    let logs = part_is station ss bank.logs.items c.part-2.result.now at.result.0 at.result.1 first last
    (c.part-2.ensures ∙ ap (λ xs. take (at.result.1 - at.result.0) (drop at.result.0 xs)) c.as_slice-3.ensures.value) in
    record {
      station_is = c.advance.ensures.station;
      receivers_are = c.advance.ensures.receivers;
      slots_are = c.advance.ensures.seconds;
      costs_are = moved_costs bank c.requires.bank c.args.window.now c.args.by c.args.grid.now c.advance.new.self c.part.result.now c.part-2.result.now tunings logs c.advance.ensures.costs;
    }
