use Rattle.std.proofs.Common.{ℕ, ◌+◌, ◌-◌, ◌/◌, ◌<◌, ◌≤◌, sym, ◌∙◌, arith}
use Rattle.leap_unions.proofs.WalkLaws.{unannounced_sets}
use Rattle.leap_unions.proofs.walk.shows.Goals as goal

pub returns-clause-shown : goal.returns-clause-shown
returns-clause-shown c = λ is.
    let station = c.args.unions.now.station in
    let over = λ (m s : ℕ) (le : m ≤ (c.args.p + c.args.seconds - 1) / 60) (lt : s < 60). c.regular_row-row.ensures m s (omega (arith, le, c.later_minutes-reach.ensures.count)) lt in
    let unannounced = unannounced_sets station c.args.seconds c.args.p c.args.first c.regular_row-row.result c.requires.second over in
    let found = c.some_differ.ensures.differ is in
    (found.0, found.1, λ same. found.2 (same ∙ sym (unannounced found.0 found.1)))

pub returns-clause-hidden : goal.returns-clause-hidden
returns-clause-hidden c = λ is k lt.
    let station = c.args.unions.now.station in
    let over = λ (m s : ℕ) (le : m ≤ (c.args.p + c.args.seconds - 1) / 60) (lt : s < 60). c.regular_row-row.ensures m s (omega (arith, le, c.later_minutes-reach.ensures.count)) lt in
    let unannounced = unannounced_sets station c.args.seconds c.args.p c.args.first c.regular_row-row.result c.requires.second over in
    c.some_differ.ensures.same is k lt ∙ unannounced k lt
