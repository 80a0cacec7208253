-- An interrupted read changes nothing, and is counted.
use Rattle.std.proofs.Common.{◌≡◌, ◌<◌, ◌≤◌}
use Rattle.bank_files.specs.Fault.{HasFault}
use Rattle.machine_files.specs.Disk.{told_at}
use Rattle.machine_files.specs.Calls.{StandsAt}
use Rattle.machine_files.proofs.tries.read_some.Given as goal

abbrev pub invariant-loop-turn : goal.invariant-loop-turn
invariant-loop-turn g l =
    let m = g.M.Machine in
    record {
      same : m.disk l.machine ≡ m.disk l.initial.machine;
      file : m.leads l.file ≡ m.leads l.initial.file;
      place : StandsAt (told_at (m.disk l.initial.machine) (m.leads l.initial.file)) (m.place l.file) (m.place l.initial.file);
      no_less : m.failures l.initial.machine ≤ m.failures l.machine;
      failure : 0 < l._turn → HasFault (m.failures l.initial.machine) (m.failures l.machine);
    }
