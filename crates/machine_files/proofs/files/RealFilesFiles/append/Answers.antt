use Rattle.machine_files.proofs.Telling.{reading_stays, writing_stays, printed_stays, failed_tells, writes_file, doubt_counted, fault_counted, counts_same}
use Rattle.machine_files.proofs.files.RealFilesFiles.append.Goals as goal

pub invariant_of-self-clause-reading_kept : goal.invariant_of-self-clause-reading_kept
invariant_of-self-clause-reading_kept g c =
    let m = g.M.Machine in
    let before = m.disk c.args.self.now.machine in
    let after = m.disk c.print_some-printed.new.machine in
    reading_stays before after m.leads m.place c.args.self.now.reading
    (printed_stays before after c.args.bytes.now c.print_some-printed.result c.print_some-printed.ensures.printed c.print_some-printed.ensures.same) c.args.self.now.reading_kept

pub invariant_of-self-clause-writing_kept : goal.invariant_of-self-clause-writing_kept
invariant_of-self-clause-writing_kept g c =
    let m = g.M.Machine in
    let before = m.disk c.args.self.now.machine in
    let after = m.disk c.print_some-printed.new.machine in
    writing_stays before after m.leads c.args.self.now.writing
    (printed_stays before after c.args.bytes.now c.print_some-printed.result c.print_some-printed.ensures.printed c.print_some-printed.ensures.same) c.args.self.now.writing_kept

pub invariant_of-self-2-clause-reading_kept : goal.invariant_of-self-2-clause-reading_kept
invariant_of-self-2-clause-reading_kept g c =
    let m = g.M.Machine in
    reading_stays (m.disk c.args.self.now.machine) (m.disk c.append_named-appended.new.machine) m.leads m.place c.args.self.now.reading c.append_named-appended.ensures.stays c.args.self.now.reading_kept

pub invariant_of-self-2-clause-writing_kept : goal.invariant_of-self-2-clause-writing_kept
invariant_of-self-2-clause-writing_kept g c = c.append_named-appended.ensures.kept

pub invariant_of-self-2-clause-doubt_is_a_fault : goal.invariant_of-self-2-clause-doubt_is_a_fault
invariant_of-self-2-clause-doubt_is_a_fault g c = c.args.self.now.doubt_is_a_fault

pub invariant_of-self-3-clause-faults_are_failures : goal.invariant_of-self-3-clause-faults_are_failures
invariant_of-self-3-clause-faults_are_failures g c = c.count_error-answer.new.self.faults_are_failures

pub invariant_of-self-3-clause-doubt_is_a_fault : goal.invariant_of-self-3-clause-doubt_is_a_fault
invariant_of-self-3-clause-doubt_is_a_fault g c =
    doubt_counted c.args.self.now.in_doubt c.append_named-appended.new.in_doubt c.args.self.now.faults c.count_error-answer.new.self.faults c.append_named-appended.result c.count_error-answer.result
    c.args.self.now.doubt_is_a_fault c.count_error-answer.ensures.no_less c.append_named-appended.ensures.no_doubt c.count_error-answer.ensures.value c.count_error-answer.ensures.cause

pub invariant_of-self-3-clause-reading_kept : goal.invariant_of-self-3-clause-reading_kept
invariant_of-self-3-clause-reading_kept g c = c.count_error-answer.new.self.reading_kept

pub invariant_of-self-3-clause-writing_kept : goal.invariant_of-self-3-clause-writing_kept
invariant_of-self-3-clause-writing_kept g c = c.count_error-answer.new.self.writing_kept

pub returns-clause-unchanged : goal.returns-clause-unchanged
returns-clause-unchanged g c =
    let before = g.M.Machine.disk c.args.self.now.machine in
    let after = g.M.Machine.disk c.append_named-appended.new.machine in
    let told = failed_tells before after c.args.self.now.in_doubt c.append_named-appended.new.in_doubt c.args.name.now c.append_named-appended.result c.count_error-answer.result
    c.append_named-appended.ensures.doubt c.append_named-appended.ensures.only.output c.append_named-appended.ensures.unchanged c.count_error-answer.ensures.error in
    rw (c.count_error-answer.ensures.machine) told

pub count_error-requires : goal.count_error-requires
count_error-requires g c =
    let m = g.M.Machine in
    fault_counted c.args.self.now.faults (m.failures c.args.self.now.machine) (m.failures c.print_some-printed.new.machine) c.print_some-printed.result
    c.args.self.now.faults_are_failures c.print_some-printed.ensures.tries.failure

pub count_error-answer-requires : goal.count_error-answer-requires
count_error-answer-requires g c =
    let m = g.M.Machine in
    fault_counted c.args.self.now.faults (m.failures c.args.self.now.machine) (m.failures c.append_named-appended.new.machine) c.append_named-appended.result
    c.args.self.now.faults_are_failures c.append_named-appended.ensures.tries.failure

pub returns-then-eq-clause-same_counts : goal.returns-then-eq-clause-same_counts
returns-then-eq-clause-same_counts g c =
    let m = g.M.Machine in
    counts_same (m.disk c.args.self.now.machine) (m.disk c.count_error.new.self.machine) c.args.self.now.in_doubt c.count_error.new.self.in_doubt c.args.self.now.faults c.count_error.new.self.faults
    c.count_error.result c.count_error.ensures.same

pub returns-clause-same_counts : goal.returns-clause-same_counts
returns-clause-same_counts g c =
    let m = g.M.Machine in
    counts_same (m.disk c.args.self.now.machine) (m.disk c.count_error-answer.new.self.machine) c.args.self.now.in_doubt c.append_named-appended.new.in_doubt c.args.self.now.faults c.count_error-answer.new.self.faults
    c.count_error-answer.result c.count_error-answer.ensures.same

pub returns-clause-only : goal.returns-clause-only
returns-clause-only g c =
    let before = g.M.Machine.disk c.args.self.now.machine in
    let after = g.M.Machine.disk c.append_named-appended.new.machine in
    let only = writes_file before after c.args.self.now.in_doubt c.append_named-appended.new.in_doubt c.args.self.now.faults c.count_error-answer.new.self.faults c.args.name.now
    c.append_named-appended.ensures.only c.append_named-appended.ensures.doubt c.count_error-answer.ensures.no_less in
    rw (c.count_error-answer.ensures.machine) only
