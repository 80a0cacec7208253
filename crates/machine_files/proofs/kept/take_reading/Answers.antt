use Rattle.machine_files.specs.Opened.{IsOpenToRead}
use Rattle.machine_files.proofs.Keeping.{found_by}
use Rattle.machine_files.proofs.kept.take_reading.Goals as goal

pub returns-in-Some-clause-open : goal.returns-in-Some-clause-open
returns-in-Some-clause-open g c =
    let m = g.M.Machine in
    found_by (IsOpenToRead (m.disk c.args.machine.now) m.leads m.place) c.args.kept.now c.in-Some.opened c.args.name.now c.requires c.in-Some.ensures.same c.in-Some.ensures.name
