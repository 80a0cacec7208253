use Rattle.std.proofs.Common.{◌≡◌, ◌≢◌, ℕ, ◌-◌, ◌*◌, ◌<◌, inl, inr, length, set, get_or, get_or-set_other, get_or-set_same, sym, subst, arith}
use Rattle.std.proofs.lemmas.Bool.{cases_lt}
use Rattle.std.proofs.lemmas.List.{get_or_past}
use Rattle.definitions.specs.time.Calendar.{minutes_per_day}
use Rattle.field_tables.specs.Quiet.{NoneAnnounced}
use Rattle.field_tables.proofs.sums.WindowSums.fill.Goals as goal

pub loop-day-init : goal.loop-day-init
loop-day-init c = record {
  few = omega arith;
  next = λ q announced ge lt legal. absurd (omega (arith, ge, lt));
  each = λ day past q announced ge lt legal. absurd (omega (arith, lt, get_or_past c.args.loud.now day 0 (omega (arith, past, c.requires))));
}

pub loud_from-next-requires : goal.loud_from-next-requires
loud_from-next-requires c = omega (arith, c.loop-day.invariant.few, c.loop-day-test.true)

pub bounds-loud-day : goal.bounds-loud-day
bounds-loud-day c = omega (arith, c.loop-day.invariant.few, c.loop-day-test.true, c.loop-day.auto.loud, c.requires)

pub loop-day-preserved : goal.loop-day-preserved
loop-day-preserved c =
    let window = c.args.self.now.window in
    let before = c.loop-day.invariant in
    let some = c.loop-day-test.true in
    let here : ℕ = c.loop-day.day - 1 in
    let minute : ℕ = c.loud_from-next.result in
    let old = c.loop-day.loud in
    let inside : here < length old = omega (arith, before.few, some, c.loop-day.auto.loud, c.requires) in
    let known : NoneAnnounced window (here * minutes_per_day) minute =
    c.loud_from-next.ensures (λ q announced ge lt legal. before.next q announced (omega (arith, ge, some)) lt legal) in
    record {
      few = omega (arith, before.few);
      next = known;
      each = λ day ge. elim (cases_lt here day) [
        | inl later ↦ (
            let other : day ≢ here = omega (arith, later) in
            subst (λ n. NoneAnnounced window (day * minutes_per_day) n) (sym (get_or-set_other old here day minute 0 other)) (before.each day (omega (arith, later))))
        | inr no_later ↦ (
            let same : here ≡ day = omega (arith, ge, no_later) in
            subst (λ n. NoneAnnounced window (n * minutes_per_day) (get_or (set old here minute) n 0)) same
            (subst (λ n. NoneAnnounced window (here * minutes_per_day) n) (sym (get_or-set_same old here minute 0 inside)) known))
      ];
    }

pub returns-clause-quiet : goal.returns-clause-quiet
returns-clause-quiet c = λ day. c.loop-day.invariant.each day (omega (arith, c.loop-day-test.false))
