use Rattle.formats.proofs.OrderRangeLaws.{order_in_range}
use Rattle.formats.proofs.word_law.orders_are_in_range.Goals as goal

pub returns : goal.returns
returns c = order_in_range
