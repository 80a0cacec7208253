-- The start is sound, and each event keeps a sound race sound.
use Rattle.std.proofs.Common.{◌≡◌, ◌≢◌, ℕ, zero, suc, ◌+◌, ◌-◌, ◌<◌, ◌≤◌, List, [], ◌∷◌, length, min, max, set, sym, refl, ap, ◌∙◌, subst, arith, length-append}
use mathlib.Core.Option.{some, some-ne-none}
use lib.ListN.{get_elem?}
use Rattle.std.specs.List.{sum_by}
use Rattle.std.proofs.lemmas.List.Sums.{sum_by-cons, sum_by_push}
use Rattle.std.proofs.lemmas.Bool.Decides.{nat_tests}
use Rattle.atomic_table.proofs.Lists.{set_else}
use Rattle.race_words.specs.declared.ends.Ends.{Ends}
use Rattle.race_words.specs.declared.view.View.{View}
use Rattle.race_words.specs.Keys.{no_key, with_key}
use Rattle.race_words.specs.Views.{fresh_view, blank_view, after_draw, after_first_part, after_second_part, after_limit, after_split, new_view, after_join}
use Rattle.race_words.specs.Events.{RaceState, Event, start, HasView, CarriesNothing, most_drawn, race_after_draw, race_after_first_part, race_after_second_part, race_after_limit, race_after_split, race_after_join, Happens, Leads, draws, offers, settles, looks, splits, joins}
use Rattle.race_words.specs.Sound.{times, IsSound}
use Rattle.race_words.specs.Law.{StaysSound}
use Rattle.race_words.proofs.Totals.{sum_by_changed, each_changed, each_snoc, times_push, times-append, once_below_more}
use Rattle.race_words.proofs.Gathered.{offered_more, offered_same, offered_new, offered_joined, carried_same, carried_new, carried_joined, kept_more, kept_less}

-- the facts of one view that soundness has
abbrev IsLow : RaceState → View → Type 0
IsLow r v = (r.least ≤ v.carried) × (r.least ≤ v.low)

abbrev IsFloored : RaceState → View → Type 0
IsFloored r v = min r.second v.carried ≤ v.floor

abbrev IsWithin : View → Type 0
IsWithin v = length v.drawn ≤ most_drawn v.share

abbrev IsBlankOrHasShare : View → Type 0
IsBlankOrHasShare v = v.share ≡ 0 → v ≡ blank_view

each_one : (P : View → Type 0) (w : View) → P w → (j : ℕ) (x : View) → get_elem? (w ∷ []) j ≡ some x → P x
each_one P w here = each_snoc P [] w here (λ j x e. absurd (some-ne-none x (sym e)))

start_is_sound : (workers : ℕ) → IsSound workers (start workers)
start_is_sound workers = record {
  shares = (
    omega arith,
    each_one IsBlankOrHasShare (fresh_view workers) (λ none. ap fresh_view none),
  );
  drawn = (
    λ x. grind (arith, nat_tests),
    refl,
  );
  ordered = (
    omega arith,
    omega arith,
    each_one (IsLow (start workers)) (fresh_view workers) (omega arith, omega arith),
  );
  least_two = refl;
  floors = each_one (IsFloored (start workers)) (fresh_view workers) (omega arith);
  counts = each_one IsWithin (fresh_view workers) (omega arith);
}

-- the floor of a view that carries nothing, once it carries a key and knows it
floor_kept : (second carried floor key : ℕ) → second ≤ no_key → carried ≡ no_key → min second carried ≤ floor → min second key ≤ min floor key
floor_kept second carried floor key low none under = let known : second ≤ floor = omega arith in omega arith

floor_joined : (second carried carried' floor floor' : ℕ) → second ≤ no_key → carried ≡ no_key → carried' ≡ no_key → min second carried ≤ floor → min second carried' ≤ floor' → min second carried ≤ min floor floor'
floor_joined second carried carried' floor floor' low none nothing under under' =
    let known : second ≤ floor = omega arith in let known' : second ≤ floor' = omega arith in omega arith

-- the two least that are kept: those of the two words and of what is carried
abbrev kept : ℕ → ℕ → Ends → Ends
kept l s p = with_key l (with_key s p)

module _ (workers : ℕ) (r : RaceState) (sound : IsSound workers r) (seat : ℕ) (v : View) (has : HasView r seat v) where
  abbrev changed_sum : (View → ℕ) → View → Type 0
  changed_sum f w = sum_by f (set r.views seat w) + f v ≡ sum_by f r.views + f w

  summed : (f : View → ℕ) (w : View) → changed_sum f w
  summed f w = sum_by_changed f r.views seat v w has.0

  summed_same : (f : View → ℕ) (w : View) → f w ≡ f v → sum_by f (set r.views seat w) ≡ sum_by f r.views
  summed_same f w same = let change = summed f w in omega arith

  each_same : (P : View → Type 0) (w : View) → P w → ((j : ℕ) (x : View) → get_elem? r.views j ≡ some x → P x)
      → (j : ℕ) (x : View) → get_elem? (set r.views seat w) j ≡ some x → P x
  each_same P w = each_changed P P r.views seat w (λ x h. h)

  blanks_set : (w : View) → 1 ≤ w.share → (j : ℕ) (x : View) → get_elem? (set r.views seat w) j ≡ some x → IsBlankOrHasShare x
  blanks_set w some_share = each_same IsBlankOrHasShare w (λ none. absurd (omega arith)) sound.shares.1

  drawn_is_sound : length v.drawn < most_drawn v.share → IsSound workers (race_after_draw r seat v)
  drawn_is_sound room = let w : View = after_draw r.drawn v in record {
    shares = (
      summed_same (λ x. x.share) w refl ∙ sound.shares.0,
      blanks_set w has.1,
    );
    drawn = (
      λ x. let change = summed (λ u. times x u.drawn) w in
          omega (arith, sound.drawn.0 x, times_push x r.drawn v.drawn, once_below_more x r.drawn),
      let change = summed (λ u. length u.drawn) w in omega (arith, sound.drawn.1, length-append v.drawn (r.drawn ∷ [])),
    );
    ordered = (
      sound.ordered.0,
      sound.ordered.1,
      each_same (IsLow r) w (sound.ordered.2 seat v has.0) sound.ordered.2,
    );
    least_two = offered_same r.views seat v w has.0 refl ∙ (sound.least_two ∙ ap (kept r.least r.second) (sym (carried_same r.views seat v w has.0 refl)));
    floors = each_same (IsFloored r) w (sound.floors seat v has.0) sound.floors;
    counts = each_same IsWithin w (omega (arith, length-append v.drawn (r.drawn ∷ []))) sound.counts;
  }

  offered_is_sound : (key : ℕ) → CarriesNothing v → key < no_key → IsSound workers (race_after_first_part r seat key v)
  offered_is_sound key none is_key = let w : View = after_first_part key r.least v in let low = sound.ordered.2 seat v has.0 in let floor = sound.floors seat v has.0 in record {
    shares = (
      summed_same (λ x. x.share) w refl ∙ sound.shares.0,
      blanks_set w has.1,
    );
    drawn = (
      λ x. summed_same (λ u. times x u.drawn) w refl ∙ sound.drawn.0 x,
      summed_same (λ u. length u.drawn) w refl ∙ sound.drawn.1,
    );
    ordered = let order = sound.ordered in (
      omega arith,
      sound.ordered.1,
      each_changed (IsLow r) (IsLow (race_after_first_part r seat key v)) r.views seat w (λ x h. (omega arith, omega arith)) (omega arith, omega arith) sound.ordered.2,
    );
    least_two = offered_more r.views seat v w key has.0 refl ∙ (ap (with_key key) sound.least_two ∙ sym (kept_more r.least r.second key r.views seat v w has.0 none refl));
    floors = each_same (IsFloored r) w (floor_kept r.second v.carried v.floor (max key r.least) sound.ordered.1 none floor) sound.floors;
    counts = each_same IsWithin w (sound.counts seat v has.0) sound.counts;
  }

  settled_is_sound : IsSound workers (race_after_second_part r seat v)
  settled_is_sound = let w : View = after_second_part v in let low = sound.ordered.2 seat v has.0 in let floor = sound.floors seat v has.0 in record {
    shares = (
      summed_same (λ x. x.share) w refl ∙ sound.shares.0,
      blanks_set w has.1,
    );
    drawn = (
      λ x. summed_same (λ u. times x u.drawn) w refl ∙ sound.drawn.0 x,
      summed_same (λ u. length u.drawn) w refl ∙ sound.drawn.1,
    );
    ordered = let order = sound.ordered in (
      omega arith,
      omega arith,
      let order = sound.ordered in each_same (IsLow r) w (omega arith, omega arith) sound.ordered.2,
    );
    least_two = offered_same r.views seat v w has.0 refl ∙ (sound.least_two ∙ sym (kept_less r.least r.second r.views seat v w has.0 refl sound.ordered.0 low.0));
    floors = each_changed (IsFloored r) (IsFloored (race_after_second_part r seat v)) r.views seat w (λ x h. omega arith) (omega arith) sound.floors;
    counts = each_same IsWithin w (sound.counts seat v has.0) sound.counts;
  }

  looked_is_sound : IsSound workers (race_after_limit r seat v)
  looked_is_sound = let w : View = after_limit r.second v in let floor = sound.floors seat v has.0 in record {
    shares = (
      summed_same (λ x. x.share) w refl ∙ sound.shares.0,
      blanks_set w has.1,
    );
    drawn = (
      λ x. summed_same (λ u. times x u.drawn) w refl ∙ sound.drawn.0 x,
      summed_same (λ u. length u.drawn) w refl ∙ sound.drawn.1,
    );
    ordered = (
      sound.ordered.0,
      sound.ordered.1,
      each_same (IsLow r) w (sound.ordered.2 seat v has.0) sound.ordered.2,
    );
    least_two = offered_same r.views seat v w has.0 refl ∙ (sound.least_two ∙ ap (kept r.least r.second) (sym (carried_same r.views seat v w has.0 refl)));
    floors = each_same (IsFloored r) w (omega arith) sound.floors;
    counts = each_same IsWithin w (sound.counts seat v has.0) sound.counts;
  }

  split_is_sound : (share : ℕ) → CarriesNothing v → 1 ≤ share → share < v.share → length v.drawn ≤ most_drawn (v.share - share) → IsSound workers (race_after_split r seat share v)
  split_is_sound share none positive less room = let w : View = after_split share v in let z : View = new_view share v in let low = sound.ordered.2 seat v has.0 in let floor = sound.floors seat v has.0 in record {
    shares = (
      let change = summed (λ x. x.share) w in omega (arith, sound.shares.0, sum_by_push (λ (x : View). x.share) (set r.views seat w) z),
      each_snoc IsBlankOrHasShare (set r.views seat w) z (λ zero_share. absurd (omega arith)) (blanks_set w (omega arith)),
    );
    drawn = (
      λ x. let same = summed_same (λ u. times x u.drawn) w refl in omega (arith, sound.drawn.0 x, sum_by_push (λ (u : View). times x u.drawn) (set r.views seat w) z),
      let same = summed_same (λ u. length u.drawn) w refl in omega (arith, sound.drawn.1, sum_by_push (λ (u : View). length u.drawn) (set r.views seat w) z),
    );
    ordered = (
      sound.ordered.0,
      sound.ordered.1,
      let order = sound.ordered in each_snoc (IsLow r) (set r.views seat w) z (omega arith, low.1) (each_same (IsLow r) w low sound.ordered.2),
    );
    least_two = offered_new (set r.views seat w) z refl ∙ (offered_same r.views seat v w has.0 refl ∙ (sound.least_two
        ∙ ap (kept r.least r.second) (sym (carried_new (set r.views seat w) z refl ∙ carried_same r.views seat v w has.0 refl))));
    floors = each_snoc (IsFloored r) (set r.views seat w) z (subst (λ c. min r.second c ≤ v.floor) none floor) (each_same (IsFloored r) w floor sound.floors);
    counts = each_snoc IsWithin (set r.views seat w) z (omega arith) (each_same IsWithin w room sound.counts);
  }

  module _ (other : ℕ) (w : View) (taken : HasView r other w) (apart : other ≢ seat) (none : CarriesNothing v) (nothing : CarriesNothing w) where
    abbrev both : View
    both = after_join v w

    there : get_elem? (set r.views seat both) other ≡ some w
    there = set_else r.views seat other both apart ∙ taken.0

    summed_joined : (f : View → ℕ) → f both ≡ f v + f w → f blank_view ≡ 0 → sum_by f (set (set r.views seat both) other blank_view) ≡ sum_by f r.views
    summed_joined f added gone =
        let first = summed f both in let second = sum_by_changed f (set r.views seat both) other w blank_view there in omega arith

    each_joined : (P : View → Type 0) → P both → P blank_view → ((j : ℕ) (x : View) → get_elem? r.views j ≡ some x → P x)
        → (j : ℕ) (x : View) → get_elem? (set (set r.views seat both) other blank_view) j ≡ some x → P x
    each_joined P here gone each = each_changed P P (set r.views seat both) other blank_view (λ x h. h) gone (each_same P both here each)

    joined_is_sound : IsSound workers (race_after_join r seat other v w)
    joined_is_sound = let low = sound.ordered.2 seat v has.0 in let floor = sound.floors seat v has.0 in let low' = sound.ordered.2 other w taken.0 in let floor' = sound.floors other w taken.0 in
        let within = sound.counts seat v has.0 in let within' = sound.counts other w taken.0 in let order = sound.ordered in record {
          shares = (
            summed_joined (λ x. x.share) refl refl ∙ sound.shares.0,
            each_joined IsBlankOrHasShare (λ zero_share. absurd (omega arith)) (λ zero_share. refl) sound.shares.1,
          );
          drawn = (
            λ x. summed_joined (λ u. times x u.drawn) (times-append x v.drawn w.drawn) refl ∙ sound.drawn.0 x,
            summed_joined (λ u. length u.drawn) (length-append v.drawn w.drawn) refl ∙ sound.drawn.1,
          );
          ordered = (
            sound.ordered.0,
            sound.ordered.1,
            each_joined (IsLow r) (low.0, omega arith) (omega arith, omega arith) sound.ordered.2,
          );
          least_two = offered_joined r.views seat other v w both has.0 taken.0 apart refl ∙ (sound.least_two
              ∙ ap (kept r.least r.second) (sym (carried_joined r.views seat other v w both has.0 taken.0 apart refl nothing)));
          floors = each_joined (IsFloored r) (floor_joined r.second v.carried w.carried v.floor w.floor order.1 none nothing floor floor') (omega arith) sound.floors;
          counts = each_joined IsWithin (omega (arith, length-append v.drawn w.drawn)) (omega arith) sound.counts;
        }

-- each event keeps a sound race sound
pub happens_is_sound : (workers : ℕ) (e : Event) (r r' : RaceState) → IsSound workers r → Happens e r r' → IsSound workers r'
happens_is_sound workers (draws seat) r r' sound (v, has, room, is) = subst (IsSound workers) (sym is) (drawn_is_sound workers r sound seat v has room)
happens_is_sound workers (offers seat key) r r' sound (v, has, none, is_key, is) = subst (IsSound workers) (sym is) (offered_is_sound workers r sound seat v has key none is_key)
happens_is_sound workers (settles seat) r r' sound (v, has, is) = subst (IsSound workers) (sym is) (settled_is_sound workers r sound seat v has)
happens_is_sound workers (looks seat) r r' sound (v, has, is) = subst (IsSound workers) (sym is) (looked_is_sound workers r sound seat v has)
happens_is_sound workers (splits seat share) r r' sound (v, has, none, positive, less, room, is) =
    subst (IsSound workers) (sym is) (split_is_sound workers r sound seat v has share none positive less room)
happens_is_sound workers (joins seat other) r r' sound (v, w, has, taken, apart, none, nothing, is) =
    subst (IsSound workers) (sym is) (joined_is_sound workers r sound seat v has other w taken apart none nothing)

-- so whatever led here, the race is sound
pub leads_is_sound : (workers : ℕ) (es : List Event) (r : RaceState) → Leads workers es r → IsSound workers r
leads_is_sound workers [] r is = subst (IsSound workers) (sym is) (start_is_sound workers)
leads_is_sound workers (e ∷ es) r' (r, led, happens) = happens_is_sound workers e r r' (leads_is_sound workers es r led) happens

-- together the views drew no more than their shares allow
drawn-le-most : (vs : List View) → ((i : ℕ) (v : View) → get_elem? vs i ≡ some v → length v.drawn ≤ most_drawn v.share)
    → sum_by (λ (v : View). length v.drawn) vs ≤ most_drawn (sum_by (λ (v : View). v.share) vs)
drawn-le-most [] each = omega arith
drawn-le-most (x ∷ xs) each = let rest = drawn-le-most xs (λ i v e. each (suc i) v e) in let first = each zero x refl in
    omega (arith, sum_by-cons (λ (v : View). length v.drawn) x xs, sum_by-cons (λ (v : View). v.share) x xs)

pub drawn_small : (workers : ℕ) (r : RaceState) → IsSound workers r → r.drawn ≤ most_drawn workers
drawn_small workers r sound = let most = drawn-le-most r.views sound.counts in omega (arith, sound.drawn.1, sound.shares.0, ap most_drawn sound.shares.0)

pub stays_sound : (workers : ℕ) → StaysSound workers
stays_sound workers = record {
  begins = start_is_sound workers;
  steps = happens_is_sound workers;
  always = leads_is_sound workers;
  bounded = drawn_small workers;
}
