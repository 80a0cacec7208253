use Rattle.std.proofs.Common.{◌≡◌, ◌+◌, ◌*◌, ◌%◌, ◌<◌, ◌==◌, ℕ, Bool, true, false, List, length, refl, sym, ap, ◌∙◌, subst, arith}
use Rattle.signal_base.specs.declared.station.Station.{Station}
use Rattle.minute_parts.specs.Overlay.{is_given_up}
use Rattle.minute_parts.specs.Parts.{PartTable}
use Rattle.walk_costs.specs.declared.kinds.Kind.{Kind}
use Rattle.walk_costs.specs.Kinds.{AreKindsOf, IsKindOf, IsPlaced, IsPlacedBy, kind_at, last_begin}
use Rattle.walk_costs.proofs.LeastLaws.{one_more_kind, place_is}
use Rattle.walk_costs.proofs.kinds.kinds_by_end.Goals as goal

pub loop-i-init : goal.loop-i-init
loop-i-init c = record {
  kinds = record {
    count = omega (arith, ap length c.in_ok-places.ensures.items);
    within = λ q lt. absurd (omega (arith, lt));
    each = λ q lt. absurd (omega (arith, lt));
  };
}

never : (gives : Bool) → gives ≡ false → gives ≡ true → ⊥
never true keeps gives = absurd cc
never false keeps gives = absurd cc

-- a kind that begins there is that of a run whose walks do, where nothing is given up
by_end : (parts : PartTable) (station : Station) (across announced : Bool) (i : ℕ) (kind : Kind) → ((s : ℕ) → is_given_up station s ≡ false)
    → kind.last ≡ last_begin parts across i → IsKindOf parts station across announced i kind
by_end parts station across announced i kind keeps begins = record {
  told = λ s within lt gives. absurd (never (is_given_up station s) (keeps s) gives);
  last = λ within. begins;
}

placed : (old new : List Kind) (last place : ℕ) → IsPlacedBy old new last place → IsPlaced old new (kind_at new place) place
placed old new last place is = record {
  within = is.within;
  same = record { told = λ s ge lt. refl; last = refl };
  longer = is.longer;
  kept = is.kept;
}

again : (all : List Kind) (place : ℕ) → place < length all → IsPlaced all all (kind_at all place) place
again all place within = record {
  within = within;
  same = record { told = λ s ge lt. refl; last = refl };
  longer = omega arith;
  kept = λ k lt. refl;
}

pub loop-i-preserved : goal.loop-i-preserved
loop-i-preserved c =
    let parts = c.args.parts.now in
    let station = c.args.station in
    let across = c.args.across in
    let i : ℕ = c.loop-i.i in
    let old = c.loop-i.all.items in
    let new = c.place_by_end.new.all.items in
    let place = c.in_ok-place.place in
    let is = c.in_ok-place.ensures in
    let kind = kind_at new place in
    let begins = is.begins ∙ c.last_begin.ensures in
    let without = place_is false i in
    let with_one = place_is true i in
    let some = one_more_kind parts station across old new c.loop-i.places.items c.push.new.self.items kind (2 * i) c.loop-i.invariant.kinds
    (record { place = place; placed = placed old new c.last_begin.result place is; added = c.in_ok-push.ensures.items })
    (subst (λ (j : ℕ). IsKindOf parts station across (2 * i % 2 == 1) j kind) (sym without.1)
    (subst (λ (b : Bool). IsKindOf parts station across b i kind) (sym without.0) (by_end parts station across false i kind c.requires.keeps begins))) in
    let all = one_more_kind parts station across new new c.push.new.self.items c.push-in-loop-i.new.self.items kind (2 * i + 1) some
    (record { place = place; placed = again new place is.within; added = c.in_ok-push-2.ensures.items })
    (subst (λ (j : ℕ). IsKindOf parts station across ((2 * i + 1) % 2 == 1) j kind) (sym with_one.1)
    (subst (λ (b : Bool). IsKindOf parts station across b i kind) (sym with_one.0) (by_end parts station across true i kind c.requires.keeps begins))) in
    let more : 2 * i + 1 + 1 ≡ 2 * (c.loop-i.i + 1) = omega arith in
    record { kinds = subst (λ (n : ℕ). AreKindsOf parts station across new c.push-in-loop-i.new.self.items n) more all }
