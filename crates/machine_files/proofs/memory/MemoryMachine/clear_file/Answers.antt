use Rattle.std.proofs.Common.{ap}
use Rattle.machine_files.specs.declared.store.MemoryFile.{MemoryFile}
use Rattle.machine_files.proofs.MemoryLaws.{writes}
use Rattle.machine_files.proofs.memory.MemoryMachine.clear_file.Goals as goal

pub returns-clause-files : goal.returns-clause-files
returns-clause-files c = writes c.args.self.now.files.items c.args.number _ _ _ (ap (λ (f : MemoryFile). f.name) c.index_mut-file.ensures.value) c.clear.ensures.items
