-- A line was wrong, something is left over, or the keys decide.
use Rattle.std.proofs.Common.{◌≡◌, false, IsTrue, None, rules}
use Rattle.certificates.specs.Validity.{limit_named}
use Rattle.certificate_judge.specs.Judging.{bench_of, kept_by}
use Rattle.certificate_judge.proofs.JudgeLaws.{all_of_ends, ended, ended_all, going, not_all}
use Rattle.certificate_judge.proofs.MarkLaws.{true_false}
use Rattle.certificate_judge.proofs.judge.Judge.finish.Goals as goal

pub returns-in-Some : goal.returns-in-Some
returns-in-Some c = λ ls few judged.
    let s = c.args.self.now in
    let b = bench_of s.due.tables.now s.ceiling (limit_named s.ceiling c.args.second) in
    ended_all b c.args.first c.args.second ls c.in-Some.verdict (ended b s.verdict c.in-Some.verdict (kept_by s) ls c.in-Some.is judged)

pub returns-then-not-is_over : goal.returns-then-not-is_over
returns-then-not-is_over c = λ ls few judged.
    let s = c.args.self.now in
    let b = bench_of s.due.tables.now s.ceiling (limit_named s.ceiling c.args.second) in
    let good : s.verdict ≡ None = search rules in
    let unset : c.is_over.result ≡ false = search rules in
    not_all b (kept_by s) ls (going b s.verdict (kept_by s) ls good judged) c.args.first c.args.second
    (λ begun are over. true_false c.is_over.result unset ((c.is_over.ensures begun are).1 over))

pub returns : goal.returns
returns c = λ ls few judged.
    let s = c.args.self.now in
    let b = bench_of s.due.tables.now s.ceiling (limit_named s.ceiling c.args.second) in
    let good : s.verdict ≡ None = search rules in
    let over : IsTrue c.is_over.result = search rules in
    all_of_ends b (kept_by s) ls (going b s.verdict (kept_by s) ls good judged) c.args.first c.args.second
    (λ begun are. (c.is_over.ensures begun are).0 over) c.of_ends.result c.of_ends.ensures
