use Rattle.std.proofs.Common.{◌≡◌, ◌+◌, ◌*◌, ◌%◌, ◌==◌, ℕ, Bool, false, true, length, sym, ap, subst, arith}
use Rattle.walk_costs.specs.Kinds.{AreKindsOf, IsKindOf}
use Rattle.walk_costs.proofs.LeastLaws.{one_more_kind, place_is}
use Rattle.walk_costs.proofs.kinds.kinds_of.Goals as goal

pub loop-i-init : goal.loop-i-init
loop-i-init c = record {
  kinds = record {
    count = omega (arith, ap length c.in_ok-places.ensures.items);
    within = λ q lt. absurd (omega (arith, lt));
    each = λ q lt. absurd (omega (arith, lt));
  };
}

pub loop-i-preserved : goal.loop-i-preserved
loop-i-preserved c =
    let parts = c.args.parts.now in
    let station = c.args.station in
    let across = c.args.across in
    let i : ℕ = c.loop-i.i in
    let without = place_is false c.loop-i.i in
    let with_one = place_is true c.loop-i.i in
    let some = one_more_kind parts station across c.loop-i.all.items c.add_kind.new.all.items c.loop-i.places.items c.add_kind.new.places.items c.kind_of-without.result (2 * i)
    c.loop-i.invariant.kinds c.in_ok-add_kind.ensures
    (subst (λ (j : ℕ). IsKindOf parts station across (2 * i % 2 == 1) j c.kind_of-without.result) (sym without.1)
    (subst (λ (b : Bool). IsKindOf parts station across b i c.kind_of-without.result) (sym without.0) c.kind_of-without.ensures)) in
    let all = one_more_kind parts station across c.add_kind.new.all.items c.add_kind-in-loop-i.new.all.items c.add_kind.new.places.items c.add_kind-in-loop-i.new.places.items
    c.announced_kind-announced.result (2 * i + 1) some c.in_ok-add_kind-2.ensures
    (subst (λ (j : ℕ). IsKindOf parts station across ((2 * i + 1) % 2 == 1) j c.announced_kind-announced.result) (sym with_one.1)
    (subst (λ (b : Bool). IsKindOf parts station across b i c.announced_kind-announced.result) (sym with_one.0) c.announced_kind-announced.ensures)) in
    let more : 2 * i + 1 + 1 ≡ 2 * (c.loop-i.i + 1) = omega arith in
    record { kinds = subst (λ (n : ℕ). AreKindsOf parts station across c.add_kind-in-loop-i.new.all.items c.add_kind-in-loop-i.new.places.items n) more all }
