-- An interrupted write changes nothing, and is counted.
use Rattle.std.proofs.Common.{◌≡◌, ◌<◌, ◌≤◌}
use Rattle.bank_files.specs.Fault.{HasFault}
use Rattle.machine_files.proofs.tries.print_some.Given as goal

abbrev pub invariant-loop-turn : goal.invariant-loop-turn
invariant-loop-turn g l =
    let m = g.M.Machine in
    record {
      same : m.disk l.machine ≡ m.disk l.initial.machine;
      no_less : m.failures l.initial.machine ≤ m.failures l.machine;
      failure : 0 < l._turn → HasFault (m.failures l.initial.machine) (m.failures l.machine);
    }
