use Rattle.std.proofs.Common.{◌≡◌, ◌+◌, ◌-◌, ◌*◌, ◌/◌, ◌%◌, ◌<◌, ℕ, slice_index, ap, arith}
use Rattle.slot_columns.proofs.HourLaws.{in_any_hour, in_its_hour, looked_up}
use Rattle.slot_columns.proofs.walks.add_in_minute.Goals as goal

pub add_in_hour-requires-clause-room : goal.add_in_hour-requires-clause-room
add_in_hour-requires-clause-room c = λ u within.
    let same : u % 60 ≡ u = omega (arith, within) in
    omega (arith, c.requires.room u (omega (arith, within)), ap (slice_index c.args.sums.now.hourly) same)

pub returns-then-is_hourly-clause-sum : goal.returns-then-is_hourly-clause-sum
returns-then-is_hourly-clause-sum c = λ u within.
    let grid = c.args.slots.now in
    let columns = c.args.day.now in
    let m : ℕ = c.args.sums.now.minute in
    let reached : u + m < 1460 = omega (arith, within, c.requires.minute) in
    let low : u % 60 + m < 1460 = omega (arith, reached) in
    let found = looked_up grid columns c.args.s m c.args.k c.row-row.result.now c.column-column.result.now c.row-row.ensures c.column-column.ensures.column
    c.column-column.ensures.bound (u % 60) low in
    omega (
      arith,
      c.add_in_hour.ensures (u % 60) (omega arith),
      found.0,
      in_any_hour grid columns c.args.s m c.args.k (c.is_hourly.ensures c.if-is_hourly.true) u reached,
    )

pub add_in_hours-requires-clause-room : goal.add_in_hours-requires-clause-room
add_in_hours-requires-clause-room c = λ h reached.
    let m : ℕ = c.args.sums.now.minute in
    let u : ℕ = 60 * h - m in
    let minute : u < 1440 = omega (arith, reached) in
    let hour : (u + m) / 60 ≡ h = omega (arith, reached, c.requires.minute) in
    omega (arith, c.requires.room u minute, ap (slice_index c.args.sums.now.by_hour) hour)

pub returns-then-is_steady-clause-sum : goal.returns-then-is_steady-clause-sum
returns-then-is_steady-clause-sum c = λ u within.
    let m : ℕ = c.args.sums.now.minute in
    let reached : u + m < 1460 = omega (arith, within, c.requires.minute) in
    let hour : 60 * ((u + m) / 60) < 1440 + m = omega (arith, within) in
    let found = in_its_hour c.args.slots.now c.args.day.now c.args.s m c.args.k c.row-row.result.now c.column-column.result.now c.row-row.ensures
    c.column-column.ensures.column c.column-column.ensures.bound (c.is_steady.ensures c.if-is_steady.true) u reached in
    omega (arith, c.add_in_hours.ensures ((u + m) / 60) hour, found.0)

pub returns-clause-sum : goal.returns-clause-sum
returns-clause-sum c = λ u within.
    let m : ℕ = c.args.sums.now.minute in
    let reached : u + m < 1460 = omega (arith, within, c.requires.minute) in
    let found = looked_up c.args.slots.now c.args.day.now c.args.s m c.args.k c.row-row.result.now c.column-column.result.now c.row-row.ensures
    c.column-column.ensures.column c.column-column.ensures.bound u reached in
    omega (arith, c.add_in_day.ensures u within, found.0)
