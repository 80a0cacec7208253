use Rattle.std.proofs.Common.{◌≡◌, ◌+◌, ◌-◌, true, subst, arith}
use Rattle.definitions.specs.time.Calendar.{is_leap_end}
use Rattle.leap_unions.proofs.KeptLaws.{kept_joined}
use Rattle.leap_unions.proofs.row_maker.Maker.half.Goals as goal

pub next_leap_end-leap-requires : goal.next_leap_end-leap-requires
next_leap_end-leap-requires c =
    let table = c.end-end.ensures.table in
    ((table.ends c.args.t).0 (omega (arith, c.if-t-end.false, c.end-end.ensures.value))).0

pub kept_tape-tape-requires-clause-leap : goal.kept_tape-tape-requires-clause-leap
kept_tape-tape-requires-clause-leap c =
    let table = c.end-end.ensures.table in
    let leap = c.next_leap_end-leap.result in
    let reach = c.row_reach-reach.result in
    let there : leap ≡ leap - reach + reach = omega (arith, c.if-leap-t.false) in
    subst (λ t. is_leap_end t ≡ true) there
    (c.next_leap_end-leap.ensures.leap ((table.ends leap).0 (omega (arith, c.if-end-leap.false, c.end-end.ensures.value))).0)

pub kept_tape-tape-requires-clause-century : goal.kept_tape-tape-requires-clause-century
kept_tape-tape-requires-clause-century c =
    let table = c.end-end.ensures.table in
    let leap = c.next_leap_end-leap.result in
    omega (arith, (table.ends leap).0 (omega (arith, c.if-end-leap.false, c.end-end.ensures.value)), c.if-leap-t.false)

pub near-near-requires-clause-century : goal.near-near-requires-clause-century
near-near-requires-clause-century c =
    let table = c.end-end.ensures.table in
    let leap = c.next_leap_end-leap.result in
    omega (arith, (table.ends leap).0 (omega (arith, c.if-end-leap.false, c.end-end.ensures.value)), c.if-leap-t.false, c.kept_tape-tape.ensures.ends)

pub returns-clause-all : goal.returns-clause-all
returns-clause-all c =
    let w = c.args.self.now in
    let regular = c.regular-regular in
    let near = c.near-near in
    kept_joined w.station w.seconds regular.result near.result c.joined-all.result w.few (omega (arith, regular.ensures.kept.some)) regular.ensures.kept.row near.ensures.kept
    (omega (arith, regular.ensures.ends, near.ensures.begins, c.kept_tape-tape.ensures.begins)) c.joined-all.ensures.lo c.joined-all.ensures.hi c.joined-all.ensures.row
