use Rattle.std.proofs.Common.{◌≡◌, ap, ◌∙◌}
use Rattle.machine_files.proofs.Keeping.{found_to_append, kept_found, kept_added, found_stays_named, stays_named, just_opened, not_open}
use Rattle.machine_files.proofs.Appending.{added, made_and_added, told_added, told_made_and_added, in_doubt_still, in_doubt_now}
use Rattle.machine_files.proofs.kept.append_named.Goals as goal

pub returns-in-Some-clause-appended : goal.returns-in-Some-clause-appended
returns-in-Some-clause-appended g c =
    let m = g.M.Machine in
    let was = found_to_append (m.disk c.args.machine.now) m.leads c.args.kept.now c.in-Some.opened c.args.name.now c.requires c.in-Some.ensures.same c.in-Some.ensures.name in
    told_added (m.disk c.args.machine.now) (m.disk c.append_opened.new.machine) c.args.name.now c.args.bytes.now (m.leads c.in-Some.opened.file) c.append_opened.result was.same c.append_opened.ensures.appended

pub returns-in-Some-clause-only : goal.returns-in-Some-clause-only
returns-in-Some-clause-only g c =
    let m = g.M.Machine in
    let was = found_to_append (m.disk c.args.machine.now) m.leads c.args.kept.now c.in-Some.opened c.args.name.now c.requires c.in-Some.ensures.same c.in-Some.ensures.name in
    (added (m.disk c.args.machine.now) (m.disk c.append_opened.new.machine) c.args.name.now c.args.bytes.now (m.leads c.in-Some.opened.file) c.append_opened.result
    (g.met.M.Machine.apart c.args.machine.now) was.same c.append_opened.ensures.appended c.append_opened.ensures.same).0

pub returns-in-Some-clause-stays : goal.returns-in-Some-clause-stays
returns-in-Some-clause-stays g c =
    let m = g.M.Machine in
    let was = found_to_append (m.disk c.args.machine.now) m.leads c.args.kept.now c.in-Some.opened c.args.name.now c.requires c.in-Some.ensures.same c.in-Some.ensures.name in
    (added (m.disk c.args.machine.now) (m.disk c.append_opened.new.machine) c.args.name.now c.args.bytes.now (m.leads c.in-Some.opened.file) c.append_opened.result
    (g.met.M.Machine.apart c.args.machine.now) was.same c.append_opened.ensures.appended c.append_opened.ensures.same).1

pub returns-in-Some-clause-kept : goal.returns-in-Some-clause-kept
returns-in-Some-clause-kept g c =
    let m = g.M.Machine in
    let was = found_to_append (m.disk c.args.machine.now) m.leads c.args.kept.now c.in-Some.opened c.args.name.now c.requires c.in-Some.ensures.same c.in-Some.ensures.name in
    kept_found (m.disk c.args.machine.now) (m.disk c.append_opened.new.machine) m.leads c.in-Some.opened c.take_named.new.kept c.append_opened.new.kept c.args.name.now c.args.bytes.now c.append_opened.result
    c.in-Some.ensures.name was c.append_opened.ensures.appended c.append_opened.ensures.kept c.in-Some.ensures.taken c.append_opened.ensures.closed

pub returns-in-Some-clause-stays_open : goal.returns-in-Some-clause-stays_open
returns-in-Some-clause-stays_open g c =
    found_stays_named g.M.Machine.leads c.in-Some.opened c.append_opened.new.kept c.args.name.now c.append_opened.result c.in-Some.ensures.name c.append_opened.ensures.kept

pub returns-clause-appended : goal.returns-clause-appended
returns-clause-appended g c =
    let m = g.M.Machine in
    told_made_and_added (m.disk c.args.machine.now) (m.disk c.open_to_append.new.self) (m.disk c.append_opened-appended.new.machine) c.args.name.now c.args.bytes.now (m.leads c.new.result.file) c.append_opened-appended.result
    (ap m.leads c.new.ensures.file ∙ c.in_ok-file.ensures.opened.same) c.in_ok-file.ensures.made c.append_opened-appended.ensures.appended

pub returns-clause-only : goal.returns-clause-only
returns-clause-only g c =
    let m = g.M.Machine in
    (made_and_added (m.disk c.args.machine.now) (m.disk c.open_to_append.new.self) (m.disk c.append_opened-appended.new.machine) c.args.name.now c.args.bytes.now (m.leads c.new.result.file) c.append_opened-appended.result
    (g.met.M.Machine.apart c.open_to_append.new.self) (ap m.leads c.new.ensures.file ∙ c.in_ok-file.ensures.opened.same) c.in_ok-file.ensures.made c.append_opened-appended.ensures.appended c.append_opened-appended.ensures.same).0

pub returns-clause-stays : goal.returns-clause-stays
returns-clause-stays g c =
    let m = g.M.Machine in
    (made_and_added (m.disk c.args.machine.now) (m.disk c.open_to_append.new.self) (m.disk c.append_opened-appended.new.machine) c.args.name.now c.args.bytes.now (m.leads c.new.result.file) c.append_opened-appended.result
    (g.met.M.Machine.apart c.open_to_append.new.self) (ap m.leads c.new.ensures.file ∙ c.in_ok-file.ensures.opened.same) c.in_ok-file.ensures.made c.append_opened-appended.ensures.appended c.append_opened-appended.ensures.same).1

pub returns-clause-kept : goal.returns-clause-kept
returns-clause-kept g c =
    let m = g.M.Machine in
    kept_added (m.disk c.open_to_append.new.self) (m.disk c.append_opened-appended.new.machine) m.leads c.new.result c.take_named.new.kept c.append_opened-appended.new.kept c.args.name.now c.args.bytes.now c.append_opened-appended.result
    c.new.ensures.name (just_opened (m.disk c.open_to_append.new.self) m.leads c.in_ok-file.file c.new.result.file c.args.name.now (m.place c.in_ok-file.file) c.new.ensures.file c.in_ok-file.ensures.opened)
    c.append_opened-appended.ensures.appended c.append_opened-appended.ensures.kept c.in_default.ensures.taken c.append_opened-appended.ensures.closed

pub returns-clause-stays_open : goal.returns-clause-stays_open
returns-clause-stays_open g c =
    stays_named g.M.Machine.leads c.new.result c.append_opened-appended.new.kept c.args.name.now c.append_opened-appended.result c.new.ensures.name c.append_opened-appended.ensures.kept

pub returns-clause-unchanged : goal.returns-clause-unchanged
returns-clause-unchanged g c = in_doubt_now (g.M.Machine.disk c.append_opened-appended.new.machine ≡ g.M.Machine.disk c.args.machine.now) c.args.in_doubt.now c.is_err.result c.append_opened-appended.result c.is_err.ensures.value

pub returns-clause-was_open : goal.returns-clause-was_open
returns-clause-was_open g c = λ open_there. absurd (not_open c.args.kept.now c.args.name.now (c.take_named.ensures.other c.in_default.is) open_there)

pub returns-clause-doubt : goal.returns-clause-doubt
returns-clause-doubt g c = in_doubt_still c.args.in_doubt.now _
