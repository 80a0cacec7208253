use Rattle.std.proofs.Common.{arith}
use Rattle.machine_files.proofs.DiskLaws.{emptied_in_memory, made_empty_in_memory, leads_to_made, made_is_empty, cleared_is_empty}
use Rattle.machine_files.proofs.memory.MemoryMachine.make.Goals as goal

pub returns-in-Some-clause-emptied : goal.returns-in-Some-clause-emptied
returns-in-Some-clause-emptied c =
    emptied_in_memory c.args.self.now.files.items c.args.self.now.files.items c.clear_file.new.self.files.items c.args.self.now.printed.items c.clear_file.new.self.printed.items c.args.name.now
    c.in-Some.number (omega (arith, c.in-Some.ensures.within, c.deref.ensures.len)) (cc) (cc) c.clear_file.ensures.files (cc (c.in-Some.ensures.found, c.deref.ensures.value))

pub returns-in-Some-clause-empty : goal.returns-in-Some-clause-empty
returns-in-Some-clause-empty c =
    cleared_is_empty c.args.self.now.files.items c.args.self.now.files.items c.clear_file.new.self.files.items c.args.self.now.printed.items c.clear_file.new.self.printed.items c.args.name.now
    c.in-Some.number (omega (arith, c.in-Some.ensures.within, c.deref.ensures.len)) c.clear_file.ensures.files

pub returns-clause-emptied : goal.returns-clause-emptied
returns-clause-emptied c =
    made_empty_in_memory c.args.self.now.files.items c.args.self.now.files.items c.add_file.new.files.items c.args.self.now.printed.items c.args.self.now.printed.items c.args.name.now
    (cc) (cc) c.in_ok-add_file.ensures.ok (cc (c.in_default.ensures.found, c.deref.ensures.value))

pub returns-clause-number : goal.returns-clause-number
returns-clause-number c =
    leads_to_made c.args.self.now.files.items c.args.self.now.files.items c.add_file.new.files.items c.args.self.now.printed.items c.args.self.now.printed.items c.args.name.now
    c.in_ok-add_file.ensures.ok (cc (c.in_default.ensures.found, c.deref.ensures.value)) c.len-number.result (omega (arith, c.len-number.ensures))

pub returns-clause-empty : goal.returns-clause-empty
returns-clause-empty c =
    made_is_empty c.args.self.now.files.items c.args.self.now.files.items c.add_file.new.files.items c.args.self.now.printed.items c.args.self.now.printed.items c.args.name.now
    c.in_ok-add_file.ensures.ok c.len-number.result (omega (arith, c.len-number.ensures))
