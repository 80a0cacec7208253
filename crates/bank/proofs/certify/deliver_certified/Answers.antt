-- The certificate is written, and then what is told; or a front of either.
use Rattle.std.proofs.Common.{sym, subst}
use Rattle.std.proofs.lemmas.Result.{err_from_is_err_and}
use Rattle.certificates.specs.Texts.{certificate_text}
use Rattle.certificates.specs.Validity.{limit_named}
use Rattle.certificate_texts.specs.Layout.{in_first_part}
use Rattle.definitions.specs.answers.Blocks.{items}
use Rattle.field_tables.specs.Scored.{costs_of}
use Rattle.bank.specs.Certifying.{DeliversCertified}
use Rattle.bank.proofs.CertifiedLaws.{apart_from_output, cut_off, delivers_told, one_file, two_files}
use Rattle.bank.proofs.certify.deliver_certified.Goals as goal

pub returns-clause-ends : goal.returns-clause-ends
returns-clause-ends g c =
    let costs = costs_of c.args.tables.now in
    let head = c.args.head.now in
    let limit = limit_named head.ceiling head.second in
    delivers_told costs head c.args.certify.now.workers c.args.certify.now.name.now c.args.due.now (g.F.Files.view c.args.files.now) (g.F.Files.view c.write_certificate.new.files)
    (g.F.Files.view c.print.new.files) _ c.print.result (apart_from_output c.args.certify.now.name.now c.requires.certify.3)
    (λ ls ms one other. c.tight_walks_are_one.ensures.one costs head.window limit (items head.window) ls ms one.walks one.tight other.walks other.tight)
    c.in_ok-steps.ensures.written c.in_ok-steps.ensures.same_counts c.in_ok-steps.ensures.only c.print.ensures

pub returns-clause-only : goal.returns-clause-only
returns-clause-only g c =
    two_files c.args.certify.now.name.now (g.F.Files.view c.args.files.now) (g.F.Files.view c.write_certificate.new.files) (g.F.Files.view c.print.new.files)
    c.in_ok-steps.ensures.only c.print.ensures.only

pub returns-in_err-steps-clause-only : goal.returns-in_err-steps-clause-only
returns-in_err-steps-clause-only g c =
    one_file c.args.certify.now.name.now (g.F.Files.view c.args.files.now) (g.F.Files.view c.write_certificate.new.files) c.in_err-steps.ensures.only

pub returns-in_err-steps-clause-ends : goal.returns-in_err-steps-clause-ends
returns-in_err-steps-clause-ends g c =
    let costs = costs_of c.args.tables.now in
    let head = c.args.head.now in
    let name = c.args.certify.now.name.now in
    let old = g.F.Files.view c.args.files.now in
    let new = g.F.Files.view c.write_certificate.new.files in
    let failed = c.in_err-steps.ensures in
    let p = err_from_is_err_and c.from_residual.result c.from_residual.ensures.1 in
    subst (λ r. DeliversCertified costs head c.args.certify.now.workers name c.args.due.now old new r) (sym p.1) (λ lines are.
    cut_off {E = Unit {0}} name (certificate_text (in_first_part head c.args.certify.now.workers lines)) c.args.due.now (apart_from_output name c.requires.certify.3) old new tt
    (failed.failed lines are) failed.cause failed.only)
