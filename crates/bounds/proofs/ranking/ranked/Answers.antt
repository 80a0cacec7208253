use Rattle.std.proofs.Common.{rules, map, subst}
use Rattle.std.specs.List.Sorted.{IsPermutation}
use Rattle.std.proofs.lemmas.List.Sorted.{All-permutation, IsNonDecreasingBy-from_sort_by_key, IsPermutation-map}
use Rattle.field_tables.specs.Scored.{costs_of}
use Rattle.bounds.specs.declared.ranking.Entry.{Entry}
use Rattle.bounds.specs.Ranking.{IsEntry}
use Rattle.bounds.proofs.RankLaws.{ranks_order}
use Rattle.bounds.proofs.ranking.ranked.Goals as goal

pub returns-clause-same : goal.returns-clause-same
returns-clause-same c =
    let block = λ (e : Entry). e.block in
    let moved = IsPermutation-map block _ _ c.sort_unstable_by_key.ensures.permutation in
    let list = map block c.sort_unstable_by_key.new.self.items in
    rw (c.in_ok-list.ensures, c.deref.ensures.value) (subst (λ blocks. IsPermutation blocks list) c.in_ok-entries.ensures.blocks_are moved)

pub returns-clause-in_order : goal.returns-clause-in_order
returns-clause-in_order c =
    let tables = c.args.tables.now in
    let each = All-permutation (IsEntry (costs_of tables) tables.window) _ _ c.sort_unstable_by_key.ensures.permutation c.in_ok-entries.ensures.each in
    let rise = IsNonDecreasingBy-from_sort_by_key (λ e. e.rank) _ c.sort_unstable_by_key.ensures.sorted (λ a r q k. search rules) in
    rw (c.in_ok-list.ensures, c.deref.ensures.value) (ranks_order (costs_of tables) tables.window _ each rise)
