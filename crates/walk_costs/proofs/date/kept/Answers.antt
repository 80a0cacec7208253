use Rattle.std.proofs.Common.{rules, inl, inr, if◌then◌else◌, get_or, refl, sym, ap, ◌∙◌, arith}
use Rattle.std.proofs.lemmas.Bool.{cases_lt}
use Rattle.signal_base.proofs.Made.{made_by}
use Rattle.walk_costs.specs.Dates.{kept, kept_set}
use Rattle.walk_costs.proofs.CallLaws.{not_early, not_late}
use Rattle.walk_costs.proofs.date.kept.Goals as goal

pub loop-s-init : goal.loop-s-init
loop-s-init c = record {
  long = search rules;
  done = λ s lt. sym (ap (λ b. if b then 0 else get_or c.args.part.now s 0) (not_early c.args.station s lt));
  rest = λ s le. refl;
}

pub returns : goal.returns
unfolding kept
returns c =
    let station = c.args.station in
    let part = c.args.part.now in
    let all = c.loop-s.invariant in
    made_by (kept_set station part) 60 c.loop-s.kept all.long (λ s lt.
    elim (cases_lt s c.loop-s.s) [
      | inl before ↦ all.done s before
      | inr after ↦ all.rest s after
          ∙ sym (ap (λ b. if b then 0 else get_or part s 0) (not_late station s (omega (arith, after, c.loop-s-test.false))))
    ])
