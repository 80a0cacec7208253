use Rattle.std.proofs.Common.{rules}
use Rattle.msf_code.proofs.LayLaws.{is_telegram}
use Rattle.msf_code.proofs.short_telegram.Goals as goal

pub returns : goal.returns
returns c = let whole = is_telegram c.args.facts.now c.requires.short in search (rules)
