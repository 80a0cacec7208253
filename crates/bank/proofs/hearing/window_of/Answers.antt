-- The window's parts are those that are asked for.
use Rattle.std.proofs.Common.{List, ap, ◌∙◌, unwrap_or}
use Rattle.definitions.specs.heard.Costs.{least}
use Rattle.definitions.specs.heard.Logs.{Records}
use Rattle.definitions.specs.heard.Receivers.{receptions}
use Rattle.align.specs.Receivers.{receivers}
use Rattle.bank.specs.Hearing.{stations_among, times_of}
use Rattle.bank.proofs.HearingLaws.{stations_are, time_is}
use Rattle.bank.proofs.WindowLaws.{at_most_four, phase_below, some_station, window_is}
use Rattle.bank.proofs.hearing.window_of.Goals as goal

pub returns-clause-window : goal.returns-clause-window
returns-clause-window c =
    let b = c.args.bank.now in
    let r = c.requires.bank in
    let rs = receivers b.stations.items (receptions b.tunings.items b.logs.items) in
    window_is c.args.asked.now rs c.stations_heard.result c.start_of-start.result c.phase.result
    (c.stations_heard.ensures ∙ ap stations_among c.as_slice-2.ensures.value ∙ stations_are b.stations.items b.tunings.items b.logs.items r.tunings r.logs)
    (c.start_of-start.ensures.start ∙ ap (λ (logs : List Records). unwrap_or c.args.asked.now.start (unwrap_or (least (times_of logs)) 0)) c.as_slice.ensures.value
    ∙ ap (λ t. unwrap_or c.args.asked.now.start t) (time_is b.stations.items b.tunings.items b.logs.items r.tunings r.logs))
    (rw (c.as_slice-3.ensures.value, c.as_slice-4.ensures.value, c.as_slice-5.ensures.value) at c.phase.ensures)

pub returns-clause-in_range : goal.returns-clause-in_range
returns-clause-in_range c =
    let stations = c.args.bank.now.stations.items in
    let b = c.args.bank.now in
    let rs = receivers b.stations.items (receptions b.tunings.items b.logs.items) in
    let heard = c.stations_heard.ensures ∙ ap stations_among c.as_slice-2.ensures.value in
    let some = some_station stations c.requires.bank.some_receiver in
    let most = at_most_four stations in
    record {
      some_station = rw heard some;
      stations = rw heard most;
      start = c.start_of-start.ensures.bound;
      phase = phase_below c.start_of-start.result c.args.asked.now.seconds rs c.phase.result
          (rw (c.as_slice-3.ensures.value, c.as_slice-4.ensures.value, c.as_slice-5.ensures.value) at c.phase.ensures);
      not_short = c.requires.asked.not_short;
      not_long = c.requires.asked.not_long;
      not_empty = c.requires.asked.not_empty;
      century = c.requires.asked.century;
    }
