-- One number after the other.
use Rattle.std.proofs.Common.{◌≡◌, ◌+◌, length, map, sym, subst, arith}
use Rattle.std.proofs.lemmas.List.{length-map}
use Rattle.board_entries.specs.Plain.{plain}
use Rattle.board.proofs.CountLaws.{SoFar, are_counts, none_so_far, one_count_more}
use Rattle.board.proofs.counts.counts_of.Goals as goal

pub loop-n-init : goal.loop-n-init
loop-n-init c = none_so_far c.args.many (length c.args.entries.now) c.in_ok-counts.counts.items c.in_ok-counts.ensures.items

pub loop-n-preserved : goal.loop-n-preserved
loop-n-preserved c =
    let many = c.args.many in
    let most = length c.args.entries.now in
    let n = c.loop-n.n in
    let counts = c.loop-n.counts.items in
    subst (λ l. SoFar many most (n + 1) l) (sym c.in_ok-push.ensures.items)
    (one_count_more many most n counts c.as_slice.result.now c.count_said-said.result c.before-before.result c.greater.result c.requires c.loop-n.invariant
    c.as_slice.ensures.value c.count_said-said.ensures c.before-before.ensures.none c.before-before.ensures.before c.greater.ensures.second c.greater.ensures.one)

pub returns-clause-counts : goal.returns-clause-counts
returns-clause-counts c =
    let all : length c.args.queries.now ≡ c.loop-n.n = omega arith in
    are_counts c.args.many c.loop-n.n (map plain c.args.entries.now) c.args.queries.now c.loop-n.counts.items (length c.args.entries.now)
    (sym (length-map c.args.entries.now plain)) all c.loop-n.invariant
