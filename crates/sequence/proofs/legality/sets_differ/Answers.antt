use Rattle.signal_base.specs.declared.station.Station.TheVariants.{Msf, Wwvb}
use Rattle.sequence.proofs.Differing.{refuted, one_differs, last_decides}
use Rattle.sequence.proofs.legality.sets_differ.Goals as goal

pub returns-then-station_differs-2 : goal.returns-then-station_differs-2
returns-then-station_differs-2 c =
    one_differs c.args.stations c.args.announced c.args.place c.args.twin Msf _ c.if-station_differs-2.true c.station_differs-2.ensures

pub returns-then-station_differs-3 : goal.returns-then-station_differs-3
returns-then-station_differs-3 c =
    one_differs c.args.stations c.args.announced c.args.place c.args.twin Wwvb _ c.if-station_differs-3.true c.station_differs-3.ensures

pub returns : goal.returns
returns c =
    last_decides c.args.stations c.args.announced c.args.place c.args.twin _
    (refuted _ c.if-station_differs.false c.station_differs.ensures)
    (refuted _ c.if-station_differs-2.false c.station_differs-2.ensures)
    (refuted _ c.if-station_differs-3.false c.station_differs-3.ensures)
    c.station_differs-4.ensures
