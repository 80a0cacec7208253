use Rattle.std.proofs.Common.{rules}
use Rattle.jjy_code.proofs.LayLaws.{is_telegram}
use Rattle.jjy_code.proofs.coded_telegram.Goals as goal

pub returns : goal.returns
returns c = let whole = is_telegram c.args.facts.now c.requires.coded in search (rules)
