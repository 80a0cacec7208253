use Rattle.std.proofs.Common.{sym, ◌∙◌}
use Rattle.bank_words.proofs.PairLaws.{value_behind-end, value_behind-next}
use Rattle.bank_words.proofs.grammar.value_behind.Goals as goal

pub returns : goal.returns
returns c = sym (c.loop-left.invariant ∙ value_behind-end c.args.option.now c.loop-left.left.now c.in_default.len_below)

pub loop-left-preserved : goal.loop-left-preserved
loop-left-preserved c =
    c.loop-left.invariant
    ∙ value_behind-next c.args.option.now c.loop-left.left.now c.word-item.result c.value-item.result c.in-len2-up.len_at_least c.word-item.is c.value-item.is
    _ _ c.as_str.ensures.value c.eq.ensures c.if-eq.false
