use Rattle.std.proofs.Common.{arith}
use Rattle.machine_files.proofs.DiskLaws.{put_in_memory}
use Rattle.machine_files.proofs.memory.MemoryMachine.put.Goals as goal

pub returns-clause-ok : goal.returns-clause-ok
returns-clause-ok c =
    put_in_memory c.args.self.now.files.items c.make.new.self.files.items c.extend_file.new.self.files.items c.args.self.now.printed.items c.make.new.self.printed.items c.args.name.now
    c.in_ok-number.number c.args.bytes.now c.extend_file.new.self.printed.items (cc) (omega (arith, c.in_ok-number.ensures.within)) c.in_ok-number.ensures.emptied c.in_ok-number.ensures.number c.in_ok-number.ensures.empty c.in_ok-extend_file.ensures.ok
