use Rattle.std.proofs.Common.{arith, refl}
use Rattle.machine_files.proofs.MemoryLaws.{extended}
use Rattle.machine_files.proofs.memory.MemoryMachine.extend_file.Goals as goal

pub returns-clause-ok : goal.returns-clause-ok
returns-clause-ok c =
    (extended c.args.self.now.files.items c.args.number _ c.index_mut-file.result.now _ c.args.bytes.now c.extend_from_slice.result (omega arith) c.index_mut-file.ensures.value refl c.extend_from_slice.ensures.items).0

pub returns-clause-err : goal.returns-clause-err
returns-clause-err c =
    (extended c.args.self.now.files.items c.args.number _ c.index_mut-file.result.now _ c.args.bytes.now c.extend_from_slice.result (omega arith) c.index_mut-file.ensures.value refl c.extend_from_slice.ensures.items).1
