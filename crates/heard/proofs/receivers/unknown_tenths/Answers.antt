-- One tenth after the other.
use Rattle.std.proofs.Common.{◌≡◌, ◌+◌, ◌*◌, ◌∙◌, ℕ, if◌then◌else◌, Option, sym, ap, arith}
use Rattle.std.specs.Prelude.{is_none}
use Rattle.definitions.specs.heard.Logs.{Records, low_count}
use Rattle.definitions.proofs.CostLaws.{sum_below_more, sum_below_none}
use Rattle.heard.proofs.receivers.unknown_tenths.Goals as goal

pub loop-j-init : goal.loop-j-init
loop-j-init c = record {
  count = sym (sum_below_none _);
  few = omega arith;
  at = omega (arith, c.tenths-tenths.ensures.at);
  log = c.tenths-tenths.ensures.log;
}

pub loop-j-preserved : goal.loop-j-preserved
loop-j-preserved c =
    let j = c.loop-j._j in
    let before = c.loop-j.invariant in
    let log = c.args.log.now in
    let term = λ (k : ℕ). if is_none (low_count log (c.args.from + 100 * k) 100) then 1 else 0 in
    let low = c.next.ensures.low ∙ ap (λ (l : Records). low_count l c.loop-j.tenths.at 100) before.log ∙ ap (λ (at : ℕ). low_count log at 100) before.at in
    let here : c.is_unknown-unknown.result ≡ term j = c.is_unknown-unknown.ensures.is ∙ ap (λ (o : Option ℕ). if is_none o then 1 else 0) low in
    record {
      count = omega (arith, before.count, here, sum_below_more j term);
      few = omega (arith, before.few, c.is_unknown-unknown.ensures.bound);
      at = omega (arith, c.next.ensures.at, before.at);
      log = c.next.ensures.log ∙ before.log;
    }
