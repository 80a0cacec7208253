use Rattle.std.proofs.Common.{option_map, sym, ap, ◌∙◌}
use Rattle.formats.specs.Words.{run_commands}
use Rattle.bank_words.specs.Seen.{order_seen, parts_seen, texts_of}
use Rattle.bank_words.proofs.OrderLaws.{order_of-line}
use Rattle.bank_words.proofs.read.read_words.Goals as goal

pub run_order-requires : goal.run_order-requires
run_order-requires c = c.words_keep_to_their_commands.ensures.run (texts_of c.args.words.now) (parts_seen c.in-Some.line) (sym c.in-Some.ensures)

pub returns-in-Some-run_order-clause-ranges : goal.returns-in-Some-run_order-clause-ranges
returns-in-Some-run_order-clause-ranges c =
    let words = texts_of c.args.words.now in
    let given = sym c.run_order.ensures ∙ ap (option_map order_seen) c.in-Some-run_order.is in
    c.orders_are_in_range.ensures run_commands words _
    (order_of-line run_commands words (parts_seen c.in-Some.line) c.in_ok-values.values _ c.in-Some.ensures c.in_ok-values.ensures given)
