-- What the seat with the whole share knows: no other seat has done anything, so the words are those of its own keys and numbers.
use Rattle.std.proofs.Common.{◌≡◌, ℕ, zero, suc, ◌≤◌, List, [], ◌∷◌, ◌++◌, length, min, max, get_or, sym, refl, ap, ◌∙◌, subst, arith}
use mathlib.Core.Option.{some, some-injective, some-ne-none}
use lib.ListN.{get_elem?}
use Rattle.std.specs.List.{sum_by, All}
use Rattle.std.proofs.lemmas.List.{append-nil}
use Rattle.std.proofs.lemmas.List.Sums.{sum_by-cons}
use Rattle.std.proofs.lemmas.List.Elements.{All-weaker}
use Rattle.atomic_table.specs.Table.{Final, Seen}
use Rattle.race_words.specs.declared.view.View.{View}
use Rattle.race_words.specs.Keys.{no_key, with_key, two_least}
use Rattle.race_words.specs.Views.{blank_view}
use Rattle.race_words.specs.Events.{RaceState, CarriesNothing}
use Rattle.race_words.specs.Sound.{times, once_below, HasEachOnce, all_offered, IsSound}
use Rattle.race_words.specs.Shared.{race_of, IsRunning}
use Rattle.race_words.proofs.LeastTwo.{with_no_key}
use Rattle.race_words.proofs.Gathered.{least_carried}
use Rattle.race_words.proofs.Totals.{at-le-sum_by}
use Rattle.race_words.proofs.Steps.{running_is_sound}

read_at : (xs : List ℕ) (i x : ℕ) → get_elem? xs i ≡ some x → get_or xs i 0 ≡ x
read_at [] i x e = absurd (some-ne-none x (sym e))
read_at (y ∷ ys) zero x e = some-injective y x e
read_at (y ∷ ys) (suc i) x e = read_at ys i x e

abbrev EachBlank : List View → Type 0
EachBlank vs = (i : ℕ) (v : View) → get_elem? vs i ≡ some v → v.share ≡ 0 → v ≡ blank_view

abbrev shares_of : List View → ℕ
shares_of vs = sum_by (λ (v : View). v.share) vs

-- the views have these offers, carry nothing, and add up as one view does
record IsAsOne (vs : List View) (v : View) : Type 0 where
  pub offers : all_offered vs ≡ v.offered
  pub carries : least_carried vs ≡ two_least []
  pub sums : (f : View → ℕ) → f blank_view ≡ 0 → sum_by f vs ≡ f v

none_has_share : (vs : List View) → EachBlank vs → shares_of vs ≡ 0 → IsAsOne vs blank_view
none_has_share [] each none = record { offers = refl; carries = refl; sums = λ f zero_at. sym zero_at }
none_has_share (x ∷ xs) each none =
    let split = sum_by-cons (λ (v : View). v.share) x xs in
    let is : x ≡ blank_view = each zero x refl (omega arith) in
    let rest : IsAsOne xs blank_view = none_has_share xs (λ i v e. each (suc i) v e) (omega arith) in record {
      offers = ap (λ (v : View). v.offered ++ all_offered xs) is ∙ rest.offers;
      carries = ap (λ (v : View). with_key v.carried (least_carried xs)) is ∙ (ap (with_key no_key) rest.carries ∙ with_no_key []);
      sums = λ f zero_at. let here : f x ≡ f blank_view = ap f is in omega (arith, sum_by-cons f x xs, rest.sums f zero_at);
    }

-- the seat has the whole share, so the views are as its own
whole_is_one : (vs : List View) (i : ℕ) (v : View) → get_elem? vs i ≡ some v → EachBlank vs → shares_of vs ≡ v.share → CarriesNothing v → IsAsOne vs v
whole_is_one [] i v e each whole empty = absurd (some-ne-none v (sym e))
whole_is_one (x ∷ xs) zero v e each whole empty =
    let is : x ≡ v = some-injective x v e in
    let same : x.share ≡ v.share = ap (λ (u : View). u.share) is in
    let split = sum_by-cons (λ (u : View). u.share) x xs in
    let rest : IsAsOne xs blank_view = none_has_share xs (λ i u e. each (suc i) u e) (omega arith) in record {
      offers = ap (λ (u : View). u.offered ++ all_offered xs) is ∙ (ap (λ ks. v.offered ++ ks) rest.offers ∙ append-nil v.offered);
      carries = ap (λ (u : View). with_key u.carried (least_carried xs)) is ∙ (ap (λ k. with_key k (least_carried xs)) empty ∙ (ap (with_key no_key) rest.carries ∙ with_no_key []));
      sums = λ f zero_at. let here : f x ≡ f v = ap f is in omega (arith, sum_by-cons f x xs, rest.sums f zero_at);
    }
whole_is_one (x ∷ xs) (suc i) v e each whole empty =
    let split = sum_by-cons (λ (u : View). u.share) x xs in
    let most = at-le-sum_by (λ (u : View). u.share) xs i v e in
    let is : x ≡ blank_view = each zero x refl (omega arith) in
    let rest : IsAsOne xs v = whole_is_one xs i v e (λ j u e. each (suc j) u e) (omega arith) empty in record {
      offers = ap (λ (u : View). u.offered ++ all_offered xs) is ∙ rest.offers;
      carries = ap (λ (u : View). with_key u.carried (least_carried xs)) is ∙ (ap (with_key no_key) rest.carries ∙ with_no_key []);
      sums = λ f zero_at. let here : f x ≡ f blank_view = ap f is in omega (arith, sum_by-cons f x xs, rest.sums f zero_at);
    }

-- two keys in order are their own two least
two_in_order : (l s : ℕ) → l ≤ s → s ≤ no_key → with_key l (with_key s (two_least [])) ≡ record { least = l; second = s }
two_in_order l s low small = λ i. record { least = first i; second = last i }
  where
    first : min l (min s no_key) ≡ l
    first = omega arith

    last : min (max l (min s no_key)) (min (max s no_key) no_key) ≡ s
    last = omega arith

module _ (workers : ℕ) (r : RaceState) (sound : IsSound workers r) (seat : ℕ) (v : View) (at : get_elem? r.views seat ≡ some v) (whole : v.share ≡ workers) (empty : CarriesNothing v) where
  as_one : IsAsOne r.views v
  as_one = whole_is_one r.views seat v at sound.shares.1 (sound.shares.0 ∙ sym whole) empty

  ends_are : two_least v.offered ≡ record { least = r.least; second = r.second }
  ends_are = ap two_least (sym as_one.offers) ∙ (sound.least_two ∙ (ap (λ p. with_key r.least (with_key r.second p)) as_one.carries
      ∙ two_in_order r.least r.second sound.ordered.0 sound.ordered.1))

  drawn_each_once : HasEachOnce v.drawn
  drawn_each_once x =
      let amount : length v.drawn ≡ r.drawn = sym (as_one.sums (λ u. length u.drawn) refl) ∙ sound.drawn.1 in
      sym (as_one.sums (λ u. times x u.drawn) refl) ∙ (sound.drawn.0 x ∙ ap (once_below x) (sym amount))

  second-le-floor : r.second ≤ v.floor
  second-le-floor = let floor = sound.floors seat v at in let order = sound.ordered in omega arith

-- the same of a table that was closed with the seat, of which two words were read
module _ (workers id : ℕ) (v : View) (ws : List ℕ) (xs : List (Unit {0})) (last : Final (Seen (IsRunning workers) id v) ws xs) (whole : v.share ≡ workers) (empty : CarriesNothing v)
    (least second : ℕ) (least_is : get_elem? ws 1 ≡ some least) (second_is : get_elem? ws 2 ≡ some second) where
  ended : IsSound workers (race_of last.0)
  ended = running_is_sound workers last.0 last.1.0

  word_is : (i x : ℕ) → get_elem? ws i ≡ some x → get_or last.0.words i 0 ≡ x
  word_is i x e = ap (λ us. get_or us i 0) last.2 ∙ read_at ws i x e

  pub close_ends : two_least v.offered ≡ record { least = least; second = second }
  close_ends = ends_are workers (race_of last.0) ended id v last.1.1 whole empty
      ∙ (λ i. record { least = word_is 1 least least_is i; second = word_is 2 second second_is i })

  pub close_drawn : HasEachOnce v.drawn
  close_drawn = drawn_each_once workers (race_of last.0) ended id v last.1.1 whole empty

  pub close_floor : second ≤ v.floor
  close_floor = subst (λ x. x ≤ v.floor) (word_is 2 second second_is) (second-le-floor workers (race_of last.0) ended id v last.1.1 whole empty)

  pub close_reads : All (λ key. v.floor ≤ key) v.reads → All (λ key. second ≤ key) v.reads
  close_reads reads = All-weaker (λ key. v.floor ≤ key) (λ key. second ≤ key) (λ key over. let under = close_floor in omega arith) v.reads reads
