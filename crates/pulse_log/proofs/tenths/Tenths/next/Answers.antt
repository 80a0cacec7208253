-- A count of 100 milliseconds is at most 100.
use Rattle.std.proofs.Common.{◌≡◌, ◌+◌, ◌-◌, ◌∙◌, ap, arith}
use Rattle.definitions.specs.heard.Logs.{low_count}
use Rattle.pulse_log.proofs.CountLaws.{counted_bound}
use Rattle.pulse_log.proofs.tenths.Tenths.next.Goals as goal

pub returns-clause-bound : goal.returns-clause-bound
returns-clause-bound c =
    let log = c.self.inside.records.now in
    let at = c.self.inside.at in
    let hundred : at + 100 - at ≡ 100 = omega arith in
    counted_bound log at 100 c.low_from-low.result.0 (c.low_from-low.ensures.low ∙ ap (low_count log at) hundred)
