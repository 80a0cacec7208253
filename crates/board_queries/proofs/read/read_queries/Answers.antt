-- The outcome of a text is one.
use Rattle.board_queries.proofs.ReadLaws.{fault_is_read, text_is_read}
use Rattle.board_queries.proofs.read.read_queries.Goals as goal

pub returns-clause-every_text : goal.returns-clause-every_text
returns-clause-every_text c = text_is_read c.args.bytes.now c.read_all.result c.read_all.ensures.accepted c.read_all.ensures.refused

pub returns-clause-every_fault : goal.returns-clause-every_fault
returns-clause-every_fault c = fault_is_read c.args.bytes.now c.read_all.result c.read_all.ensures.accepted c.read_all.ensures.refused
