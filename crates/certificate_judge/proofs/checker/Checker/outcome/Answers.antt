-- The first bad line, or a verdict.
use Rattle.std.proofs.Common.{◌≡◌, ◌≤◌, ℕ, List, length, false, sym, ap, subst, arith, rules}
use Rattle.definitions.specs.heard.Costs.{Costs}
use Rattle.field_tables.specs.Scored.{Scored, costs_of}
use Rattle.certificates.specs.declared.limits.TheConstants.{CERTIFICATE_LIMIT}
use Rattle.certificates.specs.Verdicts.{IsVerdict}
use Rattle.certificate_judge.specs.declared.heading.Heading.{Heading}
use Rattle.certificate_judge.specs.declared.outcome.Outcome.{Outcome}
use Rattle.certificate_judge.specs.Outcomes.{IsOutcome}
use Rattle.certificate_judge.proofs.FollowLaws.{heading_whole, refused_followed, taken_few, whole_followed}
use Rattle.certificate_judge.proofs.checker.Checker.outcome.Goals as goal

pub returns-in-Some : goal.returns-in-Some
returns-in-Some c = λ tables ceiling bytes stands.
    let s = c.args.self.now in
    let small : s.large ≡ false = search rules in
    let taken = taken_few s.large s bytes small stands.taken in
    let few : length bytes ≤ CERTIFICATE_LIMIT = omega (arith, s.few_bytes, taken.0) in
    subst (λ (o : Outcome). IsOutcome (costs_of tables) tables.window ceiling bytes o) (sym c.refused.ensures)
    (few, refused_followed s.reader.bad s.reader s.heading s.judge bytes c.in-Some.bad.line c.in-Some.bad.fault taken.1 (λ read so. c.in-Some.ensures.bad bytes read so))

pub returns : goal.returns
returns c = λ tables ceiling bytes stands.
    let s = c.args.self.now in
    let small : s.large ≡ false = search rules in
    let taken = taken_few s.large s bytes small stands.taken in
    let few : length bytes ≤ CERTIFICATE_LIMIT = omega (arith, s.few_bytes, taken.0) in
    let whole = whole_followed s.reader.bad s.reader s.heading s.judge bytes taken.1 (λ read so. c.in_default.ensures.whole bytes read so) in
    let text = c.whole_texts_are_certificates.ensures bytes whole.read whole.whole in
    let told = heading_whole (costs_of tables) tables.window s.heading s.judge whole.read text.0 whole.followed text.2 in
    let is = c.verdict.ensures whole.read text.0 whole.followed text.2 text.1.few in (
      few,
      record {
        certificate = text.0;
        text = text.1;
        is = subst (λ (n : ℕ). IsVerdict (costs_of tables) tables.window n text.0 c.verdict.result) stands.ceiling_is
            (subst (λ (t : Scored). IsVerdict (costs_of t) t.window s.judge.ceiling text.0 c.verdict.result) stands.tables_are is);
        first_is = ap (λ (h : Heading). h.first) told;
        second_is = ap (λ (h : Heading). h.second) told;
      },
    )
