use Rattle.std.proofs.Common.{arith}
use Rattle.machine_files.proofs.DiskLaws.{made_in_memory, opened_in_memory}
use Rattle.machine_files.proofs.memory.MemoryMachineMachine.open_to_append.Goals as goal

pub returns-in-Ok-clause-opened : goal.returns-in-Ok-clause-opened
returns-in-Ok-clause-opened c =
    opened_in_memory c.args.self.now.files.items c.begin.new.self.files.items c.add_file.new.files.items c.args.self.now.printed.items c.begin.new.self.printed.items c.args.name.now
    c.in-Ok.ensures.ok (cc (c.in_default.ensures.found, c.deref.ensures.value)) c.len-number.result (omega (arith, c.len-number.ensures))

pub returns-in-Ok-clause-made : goal.returns-in-Ok-clause-made
returns-in-Ok-clause-made c =
    made_in_memory c.args.self.now.files.items c.begin.new.self.files.items c.add_file.new.files.items c.args.self.now.printed.items c.begin.new.self.printed.items c.args.name.now
    (cc) (cc) c.in-Ok.ensures.ok (cc (c.in_default.ensures.found, c.deref.ensures.value))
