use Rattle.machine_files.proofs.Telling.{failure_counted, counts_same}
use Rattle.machine_files.proofs.files.RealFilesFiles.create.Goals as goal

pub count_error-requires : goal.count_error-requires
count_error-requires g c =
    let m = g.M.Machine in
    failure_counted c.args.self.now.faults (m.failures c.args.self.now.machine) (m.failures c.make_empty-created.new.self) c.make_empty-created.result
    c.args.self.now.faults_are_failures c.make_empty-created.ensures.counted

pub returns-clause-same_counts : goal.returns-clause-same_counts
returns-clause-same_counts g c =
    let m = g.M.Machine in
    counts_same (m.disk c.args.self.now.machine) (m.disk c.count_error.new.self.machine) c.args.self.now.in_doubt c.count_error.new.self.in_doubt c.args.self.now.faults c.count_error.new.self.faults
    c.count_error.result c.count_error.ensures.same
