use Rattle.std.proofs.Common.{◌≡◌, drop}
use Rattle.bank.specs.Hearing.{is_among}
use Rattle.bank.proofs.hearing.is_among.Given as goal

abbrev pub invariant-loop-i : goal.invariant-loop-i
invariant-loop-i l = is_among (drop l.i l.stations) l.station ≡ is_among l.stations l.station
