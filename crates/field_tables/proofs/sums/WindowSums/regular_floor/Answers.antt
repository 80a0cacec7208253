-- A sequence of the block is that of its first minute, and an announced one is legal where it shows that.
use Rattle.std.proofs.Common.{◌≤◌, sym, subst}
use Rattle.definitions.specs.declared.sequence.Sequence.{Sequence}
use Rattle.definitions.specs.heard.Costs.{sequence_cost}
use Rattle.definitions.specs.sequences.Walks.{IsLegal}
use Rattle.field_tables.specs.Sums.{costs_by}
use Rattle.field_tables.proofs.FloorLaws.{at_first}
use Rattle.field_tables.proofs.MinuteLaws.{legal_where_shown}
use Rattle.field_tables.proofs.sums.WindowSums.regular_floor.Goals as goal

pub returns-then-never_shows-clause-floor : goal.returns-then-never_shows-clause-floor
returns-then-never_shows-clause-floor c = λ q inside legal.
    let sums = c.args.self.now in
    let b = c.args.block.now in
    let here = subst (IsLegal sums.window) (sym (at_first b q inside)) legal in
    let shown = (legal_where_shown sums c.end.ensures.sums b c.requires.block c.requires.walks c.requires.encoded q.first inside.not_before inside.before_end c.if-block.true).0 here in
    c.never_shows.ensures c.if-never_shows.true q.first inside.not_before inside.before_end shown

pub returns-clause-floor : goal.returns-clause-floor
returns-clause-floor c = λ q inside legal.
    let sums = c.args.self.now in
    subst (λ (x : Sequence). c.least_cost.result ≤ sequence_cost (costs_by sums) sums.window x) (at_first c.args.block.now q inside)
    (c.least_cost.ensures.floor q.first inside.not_before inside.before_end)
