-- Station by station.
use Rattle.std.proofs.Common.{Ok, drop, ◌+◌, subst, arith, List}
use Rattle.std.proofs.lemmas.List.{take_all}
use Rattle.std.proofs.lemmas.Result.{err_from_is_err_and}
use Rattle.signal_base.specs.declared.station.Station.{Station}
use Rattle.bank_files.specs.declared.files.Failed.{Failed}
use Rattle.bank_files.specs.Seen.{Writes}
use Rattle.bank_files.specs.Told.{output_name}
use Rattle.bank_files.proofs.Chaining.{Writes-start}
use Rattle.heard.specs.Kept.{stations_lines}
use Rattle.heard.specs.declared.write.TheConstants.{STATIONS}
use Rattle.heard.specs.Seen.{hearing_seen}
use Rattle.heard.proofs.TextLaws.{goes_on, one_station_more, stations_behind, stops_short}
use Rattle.heard.proofs.hearing.Hearing.write_slot.Goals as goal

pub loop-i-init : goal.loop-i-init
loop-i-init g c = Writes-start {E = Failed} output_name (g.F.Files.view c.args.files.now) (g.met.F.Files.output_is_there c.args.files.now)

pub loop-i-preserved : goal.loop-i-preserved
loop-i-preserved g c =
    let h = hearing_seen c.args.self.now in
    let i = c.loop-i.i in
    goes_on {E = Failed} (g.F.Files.view c.args.files.now) (g.F.Files.view c.loop-i.files) (g.F.Files.view c.write_station.new.files) _ _ _ (Ok tt)
    (one_station_more h c.args.slot STATIONS i _ (omega arith)) c.loop-i.invariant c.in_ok-write_station.ensures

pub returns-in_err-write_station : goal.returns-in_err-write_station
returns-in_err-write_station g c =
    let h = hearing_seen c.args.self.now in
    let i = c.loop-i.i in
    let p = err_from_is_err_and c.from_residual.result c.from_residual.ensures.1 in
    rw (p.1, p.2)
    (stops_short {E = Failed} (g.F.Files.view c.args.files.now) (g.F.Files.view c.loop-i.files) (g.F.Files.view c.write_station.new.files) _ _ _ c.in_err-write_station.field-0.0
    (stations_lines h c.args.slot (drop (i + 1) STATIONS)) (stations_behind h c.args.slot STATIONS i _ (omega arith))
    c.loop-i.invariant c.in_err-write_station.ensures)

pub returns : goal.returns
returns g c =
    let h = hearing_seen c.args.self.now in
    subst (λ (ss : List Station). Writes {E = Failed} output_name (g.F.Files.view c.args.files.now) (g.F.Files.view c.loop-i.files) (stations_lines h c.args.slot ss) (Ok tt))
    (take_all c.loop-i.i STATIONS (omega arith)) c.loop-i.invariant
