use Rattle.std.proofs.Common.{subst, sym, ap, arith}
use Rattle.civil.specs.declared.days.Entry.{Entry}
use Rattle.civil.specs.Days.{IsPlausible}
use Rattle.civil.proofs.Dates.{plausible}
use Rattle.civil.proofs.Civil.day.Goals as goal

pub returns-clause-ranges : goal.returns-clause-ranges
returns-clause-ranges c = subst IsPlausible (sym (ap (λ (e : Entry). e.day) c.entry.ensures)) (plausible c.args.n (omega arith))
