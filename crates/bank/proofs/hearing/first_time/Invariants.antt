use Rattle.std.proofs.Common.{◌≡◌, ◌<◌, take}
use Rattle.std.specs.Option.{ForSome}
use Rattle.definitions.specs.heard.Costs.{least}
use Rattle.formats.specs.declared.limits.TheConstants.{TIME_LIMIT}
use Rattle.bank.specs.Hearing.{times_of}
use Rattle.bank.proofs.hearing.first_time.Given as goal

abbrev pub invariant-loop-i : goal.invariant-loop-i
invariant-loop-i l = record {
  time : l.first ≡ least (times_of (take l.i l.logs));
  bound : ForSome l.first (λ time. time < TIME_LIMIT);
}
