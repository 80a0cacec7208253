-- A text that is refused.
use Rattle.std.proofs.Common.{◌≤◌, length, rules}
use Rattle.field_tables.specs.Scored.{costs_of}
use Rattle.certificates.specs.declared.limits.TheConstants.{CERTIFICATE_LIMIT}
use Rattle.certificate_judge.proofs.whole.outcome_of.Goals as goal

pub returns-in-Err-clause-outcome : goal.returns-in-Err-clause-outcome
returns-in-Err-clause-outcome c =
    let few : length c.args.bytes.now ≤ CERTIFICATE_LIMIT = search rules in
    c.refused.ensures.outcome (costs_of c.args.tables.now) c.args.tables.now.window c.args.ceiling c.args.bytes.now few c.in-Err.ensures.refused
