use Rattle.std.proofs.Common.{sym}
use Rattle.formats.specs.Words.{reach_commands}
use Rattle.bank_words.specs.Seen.{parts_seen, texts_of}
use Rattle.bank_words.proofs.OrderLaws.{order_of-line}
use Rattle.bank_words.proofs.read.read_reach.Goals as goal

pub reach_order-requires : goal.reach_order-requires
reach_order-requires c = c.words_keep_to_their_commands.ensures.reach (texts_of c.args.words.now) (parts_seen c.in-Some.line) (sym c.in-Some.ensures)

pub returns-clause-ranges : goal.returns-clause-ranges
returns-clause-ranges c =
    let words = texts_of c.args.words.now in
    c.orders_are_in_range.ensures reach_commands words _
    (order_of-line reach_commands words (parts_seen c.in-Some.line) c.in_ok-values.values _ c.in-Some.ensures c.in_ok-values.ensures c.reach_order.ensures)
