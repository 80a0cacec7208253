-- The certificate wasn't written whole.
use Rattle.std.proofs.Common.{rules, ◌≡◌, ℕ, List, string_bytes, subst}
use Rattle.field_tables.specs.Scored.{costs_of}
use Rattle.bank_files.specs.Seen.{WriteFails}
use Rattle.certificate_walks.specs.Written.{IsCutOff}
use Rattle.sweep.specs.Certifying.{IsOneCutOff}
use Rattle.sweep.proofs.certify.write_kept.Goals as goal

pub returns-in_err-steps-clause-failed : goal.returns-in_err-steps-clause-failed
returns-in_err-steps-clause-failed g c =
    let k = c.args.kept.now in
    let old = g.F.Files.view c.args.files.now in
    let new = g.F.Files.view c.write_certificate.new.files in
    let e : c.as_str.result.now ≡ string_bytes k.name = search rules in
    let front : IsCutOff (costs_of k.tables) k.head c.args.workers (old.told (string_bytes k.name)) (new.told (string_bytes k.name)) =
    subst (λ (n : List ℕ). IsCutOff (costs_of k.tables) k.head c.args.workers (old.told n) (new.told n)) e c.in_err-steps.ensures.failed in
    let cause : WriteFails (string_bytes k.name) old new = subst (λ (n : List ℕ). WriteFails n old new) e c.in_err-steps.ensures.cause in
    let cut : IsOneCutOff k c.args.workers old new = record { front = front; cause = cause } in
    search rules
