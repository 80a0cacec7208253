use Rattle.std.proofs.Common.{◌≡◌, length, arith}
use Rattle.minute_parts.specs.Parts.{IsPartTable}
use Rattle.minute_parts.proofs.PartLaws.{is_table}
use Rattle.minute_parts.proofs.parts.Parts.make.Goals as goal

pub runs_of-requires-clause-encoded : goal.runs_of-requires-clause-encoded
runs_of-requires-clause-encoded c = λ t lt. (c.end_of-end.ensures.value t).0 lt

made : (c : goal.In_ok-runs) → IsPartTable (record { station = c.args.station; times = c.in_ok-times.times.items; runs = c.in_ok-runs.field-0.runs.items; end = c.end_of-end.result })
made c =
    let minutes : length c.in_ok-times.times.items ≡ 1440 = omega (arith, c.in_ok-times.ensures.count) in
    is_table c.args.station _ _ _ c.end_of-end.result minutes c.in_ok-times.ensures.each c.in_ok-runs.ensures.runs c.in_ok-runs.ensures.begun
    c.end_of-end.ensures.value

pub invariant_of-result : goal.invariant_of-result
invariant_of-result c = (made c, c.in_ok-runs.ensures.days)

pub returns-clause-table : goal.returns-clause-table
returns-clause-table c = made c
