use Rattle.std.proofs.Common.{arith}
use Rattle.trial_log.proofs.SymbolLaws.{least}
use Rattle.trial_log.proofs.symbol.least_symbol.Goals as goal

pub returns-clause-symbol : goal.returns-clause-symbol
returns-clause-symbol c = (least c.args.station c.args.set c.requires).place

pub returns-clause-known : goal.returns-clause-known
returns-clause-known c = let l = least c.args.station c.args.set c.requires in omega (arith, l.place, l.known)
