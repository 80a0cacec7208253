-- The file is made, and then the certificate is appended.
use Rattle.std.proofs.Common.{inr, rules}
use Rattle.bank_files.specs.Told.{emptied}
use Rattle.bank_files.proofs.Chaining.{HasFault-from, OnlyWrites-then, SameCounts-then}
use Rattle.bank_files.proofs.Telling.{Tells-appended_after}
use Rattle.certificates.specs.Texts.{certificate_text}
use Rattle.certificate_texts.specs.Layout.{in_first_part}
use Rattle.certificate_texts.proofs.SentLaws.{is_there}
use Rattle.field_tables.specs.Scored.{costs_of}
use Rattle.certificate_walks.specs.Written.{IsCutOff}
use Rattle.certificate_walks.proofs.CutLaws.{front_after}
use Rattle.certificate_walks.proofs.write.write_certificate.Goals as goal

pub append_certificate-requires-clause-there : goal.append_certificate-requires-clause-there
append_certificate-requires-clause-there g c =
    let name = c.args.name.now in
    is_there ((g.F.Files.view c.args.files.now).told name) ((g.F.Files.view c.create.new.self).told name) c.in_ok-create.ensures.emptied

pub returns-in_err-create-clause-failed : goal.returns-in_err-create-clause-failed
returns-in_err-create-clause-failed g c =
    let as_before = c.in_err-create.ensures.unchanged in
    search rules

pub returns-in_err-steps-clause-failed : goal.returns-in_err-steps-clause-failed
returns-in_err-steps-clause-failed g c =
    let name = c.args.name.now in
    let before = (g.F.Files.view c.args.files.now).told name in
    let now = (g.F.Files.view c.append_certificate.new.files).told name in
    let cut : IsCutOff (costs_of c.args.tables.now) c.args.head.now c.args.parts before now = λ lines are.
    inr
    (front_after (emptied before) ((g.F.Files.view c.create.new.self).told name) now (certificate_text (in_first_part c.args.head.now c.args.parts lines))
    c.in_ok-create.ensures.emptied (c.in_err-steps.ensures.failed.front lines are)) in
    search rules

pub returns-in_err-steps-clause-cause : goal.returns-in_err-steps-clause-cause
returns-in_err-steps-clause-cause g c =
    let name = c.args.name.now in
    let fails = HasFault-from ((g.F.Files.view c.args.files.now).write_faults name) ((g.F.Files.view c.create.new.self).write_faults name)
    ((g.F.Files.view c.append_certificate.new.files).write_faults name) (c.in_ok-create.ensures.only.counts.of_writes name) c.in_err-steps.ensures.failed.cause in
    search rules

pub returns-in_err-steps-clause-only : goal.returns-in_err-steps-clause-only
returns-in_err-steps-clause-only g c =
    OnlyWrites-then (g.F.Files.view c.args.files.now) (g.F.Files.view c.create.new.self) (g.F.Files.view c.append_certificate.new.files) c.args.name.now
    c.in_ok-create.ensures.only c.in_err-steps.ensures.failed.only

pub returns-clause-written : goal.returns-clause-written
returns-clause-written g c =
    let name = c.args.name.now in
    let is = c.in_ok-steps.ensures.written in record {
      lines = is.lines;
      walks = is.walks;
      text = Tells-appended_after (emptied ((g.F.Files.view c.args.files.now).told name)) ((g.F.Files.view c.create.new.self).told name) ((g.F.Files.view c.append_certificate.new.files).told name)
          (certificate_text (in_first_part c.args.head.now c.args.parts is.lines)) c.in_ok-create.ensures.emptied is.writes.whole;
      count = is.count;
    }

pub returns-clause-same_counts : goal.returns-clause-same_counts
returns-clause-same_counts g c =
    SameCounts-then (g.F.Files.view c.args.files.now) (g.F.Files.view c.create.new.self) (g.F.Files.view c.append_certificate.new.files) c.in_ok-create.ensures.same_counts
    c.in_ok-steps.ensures.written.writes.same_counts

pub returns-clause-only : goal.returns-clause-only
returns-clause-only g c =
    OnlyWrites-then (g.F.Files.view c.args.files.now) (g.F.Files.view c.create.new.self) (g.F.Files.view c.append_certificate.new.files) c.args.name.now
    c.in_ok-create.ensures.only c.in_ok-steps.ensures.written.writes.only
