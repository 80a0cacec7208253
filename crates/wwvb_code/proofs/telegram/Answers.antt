use Rattle.std.proofs.Common.{rules}
use Rattle.wwvb_code.proofs.LayLaws.{is_telegram}
use Rattle.wwvb_code.proofs.telegram.Goals as goal

pub returns : goal.returns
returns c = let whole = is_telegram c.args.facts.now in search (rules)
