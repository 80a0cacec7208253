use Rattle.std.proofs.Common.{sym, ◌∙◌}
use Rattle.formats.specs.Words.{form_of}
use Rattle.bank_words.proofs.PairLaws.{are_pairs-end, are_pairs-next, are_pairs-other}
use Rattle.bank_words.proofs.grammar.are_pairs.Goals as goal

pub returns : goal.returns
returns c = c.is_empty.ensures ∙ sym (c.loop-left.invariant ∙ are_pairs-end (form_of c.args.command).options c.loop-left.left.now c.in_default.len_below)

pub returns-then-not-is_pair : goal.returns-then-not-is_pair
returns-then-not-is_pair c =
    sym (c.loop-left.invariant
    ∙ are_pairs-other (form_of c.args.command).options c.loop-left.left.now c.option-item.result c.value-item.result c.in-len2-up.len_at_least c.option-item.is c.value-item.is
    _ _ _ c.as_str.ensures.value c.as_str-in-len2-up.ensures.value c.is_pair.ensures c.if-not-is_pair.true)

pub loop-left-preserved : goal.loop-left-preserved
loop-left-preserved c =
    c.loop-left.invariant
    ∙ are_pairs-next (form_of c.args.command).options c.loop-left.left.now c.option-item.result c.value-item.result c.in-len2-up.len_at_least c.option-item.is c.value-item.is
    _ _ _ c.as_str.ensures.value c.as_str-in-len2-up.ensures.value c.is_pair.ensures c.if-not-is_pair.false
