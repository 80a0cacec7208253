use Rattle.std.proofs.Common.{ℕ, ◌+◌, ◌/◌, ◌%◌, ◌<◌, ap, arith}
use Rattle.slot_columns.specs.Parts.{entry}
use Rattle.slot_columns.specs.Rows.{cost_in_slot}
use Rattle.slot_columns.proofs.HourLaws.{unused}
use Rattle.slot_columns.proofs.walks.add_slot.Goals as goal

pub returns-then-not-is_used-clause-sum : goal.returns-then-not-is_used-clause-sum
returns-then-not-is_used-clause-sum c = λ u within.
    let s : ℕ = (c.args.p + c.args.k) % 60 in
    let m : ℕ = (c.args.p + c.args.k) / 60 in
    let reached : u + m < 1460 = omega (arith, within, c.requires.second, c.requires.few) in
    omega (arith, unused c.args.slots.now c.args.day.now s m c.args.k (c.is_used.ensures c.if-not-is_used.true) u reached)

pub returns-clause-sum : goal.returns-clause-sum
returns-clause-sum c = λ u within.
    let s : ℕ = (c.args.p + c.args.k) % 60 in
    let same = ap (λ (m : ℕ). cost_in_slot c.args.slots.now (entry c.args.day.now s (u + m)) c.args.k) c.turn_to.ensures.minute in
    omega (arith, c.turn_to.ensures.costs u within, c.add_in_minute.ensures.sum u within, same)
