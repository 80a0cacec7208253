-- Each atomic step of the running words is an event, so it keeps the rule; and what it tells its seat.
use Rattle.std.proofs.Common.{◌≡◌, ℕ, ◌+◌, ◌-◌, ◌%◌, ◌^◌, ◌<◌, ◌≤◌, List, [], ◌∷◌, length, min, set, sym, refl, ap, ◌∙◌, cond, eqb, arith, length-set, get_or-set_same, get_or-set_other}
use mathlib.Core.Option.{none, some}
use lib.ListN.{get_elem?}
use Rattle.std.specs.List.{All}
use Rattle.std.proofs.lemmas.List.Sums.{sum_by-cons}
use Rattle.std.proofs.lemmas.List.Elements.{All-cons, All-nil}
use Rattle.std.proofs.lemmas.Bool.Decides.{nat_tests}
use Rattle.atomic_table.specs.Table.{step, keeps, stepped, Allows, Splits, Joins}
use Rattle.atomic_table.proofs.Lists.{set_else}
use Rattle.race_words.specs.declared.view.View.{View}
use Rattle.race_words.specs.Keys.{no_key}
use Rattle.race_words.specs.Views.{blank_view, after_draw, after_first_part, after_second_part, after_limit, after_split, new_view, after_join}
use Rattle.race_words.specs.Events.{RaceState, CarriesNothing, most_drawn, race_after_draw, race_after_first_part, race_after_second_part, race_after_limit, draws, offers, settles, looks, splits, joins}
use Rattle.race_words.specs.Sound.{times, once_below, IsSound}
use Rattle.race_words.specs.Shared.{Words, Mine, race_of, IsRunning, Draws, Offers, Settles, Looks}
use Rattle.race_words.proofs.Totals.{at-le-sum_by}
use Rattle.race_words.proofs.Soundness.{leads_is_sound, drawn_small}

pub running_is_sound : (workers : ℕ) (s : Words) → IsRunning workers s → IsSound workers (race_of s)
running_is_sound workers s running = leads_is_sound workers running.1.0 (race_of s) running.1.1

times-cons : (x y : ℕ) (ys : List ℕ) → times x (y ∷ ys) ≡ cond (eqb y x) 1 0 + times x ys
times-cons x y ys = sum_by-cons (λ z. cond (eqb z x) 1 0) y ys

-- what stands in a list at most as often as `once_below` says is below n
once_is_below : (n : ℕ) (xs : List ℕ) → ((x : ℕ) → times x xs ≤ once_below x n) → All (λ x. x < n) xs
once_is_below n [] few = All-nil (λ x. x < n)
once_is_below n (y ∷ ys) few = All-cons (λ x. x < n) y ys
    (let here = few y in let is = times-cons y y ys in grind (arith, nat_tests))
    (once_is_below n ys (λ x. let there = few x in let is = times-cons x y ys in omega arith))

pub drawn_is_below : (workers : ℕ) (r : RaceState) (seat : ℕ) (v : View) → IsSound workers r → get_elem? r.views seat ≡ some v → All (λ x. x < r.drawn) v.drawn
drawn_is_below workers r seat v sound at =
    once_is_below r.drawn v.drawn (λ x. let most = at-le-sum_by (λ (u : View). times x u.drawn) r.views seat v at in omega (arith, sound.drawn.0 x))

-- the race that the words are once one of them has changed
module _ (s : Words) (three : length s.words ≡ 3) (n : ℕ) (vs : List View) where
  first_changed : race_of record { words = set s.words 0 n; homes = s.homes; views = vs } ≡ record (race_of s) { drawn = n; views = vs }
  first_changed = λ i. record {
    drawn = get_or-set_same s.words 0 n 0 (omega arith) i;
    least = get_or-set_other s.words 0 1 n 0 (λ e. omega arith) i;
    second = get_or-set_other s.words 0 2 n 0 (λ e. omega arith) i;
    views = vs;
  }

  second_changed : race_of record { words = set s.words 1 n; homes = s.homes; views = vs } ≡ record (race_of s) { least = n; views = vs }
  second_changed = λ i. record {
    drawn = get_or-set_other s.words 1 0 n 0 (λ e. omega arith) i;
    least = get_or-set_same s.words 1 n 0 (omega arith) i;
    second = get_or-set_other s.words 1 2 n 0 (λ e. omega arith) i;
    views = vs;
  }

  pub third_changed : race_of record { words = set s.words 2 n; homes = s.homes; views = vs } ≡ record (race_of s) { second = n; views = vs }
  third_changed = λ i. record {
    drawn = get_or-set_other s.words 2 0 n 0 (λ e. omega arith) i;
    least = get_or-set_other s.words 2 1 n 0 (λ e. omega arith) i;
    second = get_or-set_same s.words 2 n 0 (omega arith) i;
    views = vs;
  }

module _ (workers slots id : ℕ) (me : Mine) (share : 1 ≤ me.0.share) where
  pub draws_step : workers ≤ 8 → length me.0.drawn < most_drawn me.0.share
      → Allows (IsRunning workers) slots id me 0 (λ n. (n + 1) % 2 ^ 64) (Draws (step slots 0 1 0 none) me)
  draws_step small room s running _ at _ =
      let r : RaceState = race_of s in let sound : IsSound workers r = running_is_sound workers s running in let w : View = after_draw r.drawn me.0 in
      let fits : (r.drawn + 1) % 2 ^ 64 ≡ r.drawn + 1 = omega (arith, drawn_small workers r sound) in
      let is : race_of (stepped s 0 ((r.drawn + 1) % 2 ^ 64) id me.1 w keeps) ≡ race_after_draw r id me.0 =
      first_changed s running.0 ((r.drawn + 1) % 2 ^ 64) (set s.views id w) ∙ ap (λ n. record r { drawn = n; views = set s.views id w }) fits in (
        w,
        keeps,
        tt,
        (length-set s.words 0 ((r.drawn + 1) % 2 ^ 64) ∙ running.0, (draws id ∷ running.1.0, (r, running.1.1, (me.0, (at, share), room, is)))),
        (refl, refl, drawn_is_below workers r id me.0 sound at),
      )

  pub offers_step : (key : ℕ) → CarriesNothing me.0 → key < no_key
      → Allows (IsRunning workers) slots id me 1 (λ n. min n key) (Offers (step slots 1 key 0 none) me)
  offers_step key empty is_key s running _ at _ =
      let r : RaceState = race_of s in let sound : IsSound workers r = running_is_sound workers s running in let w : View = after_first_part key r.least me.0 in
      let is : race_of (stepped s 1 (min r.least key) id me.1 w keeps) ≡ race_after_first_part r id key me.0 = second_changed s running.0 (min r.least key) (set s.views id w) in (
        w,
        keeps,
        tt,
        (length-set s.words 1 (min r.least key) ∙ running.0, (offers id key ∷ running.1.0, (r, running.1.1, (me.0, (at, share), empty, is_key, is)))),
        (refl, refl, (sound.ordered.2 id me.0 at).1),
      )

  pub settles_step : (carried : ℕ) → carried ≡ me.0.carried
      → Allows (IsRunning workers) slots id me 2 (λ n. min n carried) (Settles (step slots 2 carried 0 none) me)
  settles_step carried same s running _ at _ =
      let r : RaceState = race_of s in let w : View = after_second_part me.0 in
      let is : race_of (stepped s 2 (min r.second carried) id me.1 w keeps) ≡ race_after_second_part r id me.0 =
      third_changed s running.0 (min r.second carried) (set s.views id w) ∙ ap (λ c. record r { second = min r.second c; views = set s.views id w }) same in (
        w,
        keeps,
        tt,
        (length-set s.words 2 (min r.second carried) ∙ running.0, (settles id ∷ running.1.0, (r, running.1.1, (me.0, (at, share), is)))),
        (refl, refl),
      )

  pub looks_step : CarriesNothing me.0 → Allows (IsRunning workers) slots id me 2 (λ n. n) (Looks (step slots 2 0 0 none) me)
  looks_step empty s running _ at _ =
      let r : RaceState = race_of s in let sound : IsSound workers r = running_is_sound workers s running in let w : View = after_limit r.second me.0 in
      let is : race_of (stepped s 2 r.second id me.1 w keeps) ≡ race_after_limit r id me.0 = third_changed s running.0 r.second (set s.views id w) in
      let floor = sound.floors id me.0 at in let order = sound.ordered in (
        w,
        keeps,
        tt,
        (length-set s.words 2 r.second ∙ running.0, (looks id ∷ running.1.0, (r, running.1.1, (me.0, (at, share), is)))),
        (refl, refl, omega arith),
      )

module _ (workers id : ℕ) (v : View) (share : 1 ≤ v.share) (empty : CarriesNothing v) where
  pub splits_step : (n : ℕ) → 1 ≤ n → n < v.share → length v.drawn ≤ most_drawn (v.share - n) → Splits (IsRunning workers) id v (after_split n v) (new_view n v)
  splits_step n positive less room s running at =
      (running.0, (splits id n ∷ running.1.0, (race_of s, running.1.1, (v, (at, share), empty, positive, less, room, refl))))

  pub joins_step : (other : ℕ) (w : View) → 1 ≤ w.share → CarriesNothing w → Joins (IsRunning workers) id v other w (after_join v w) blank_view
  joins_step other w taken nothing s running at apart there =
      let at' : get_elem? s.views other ≡ some w = sym (set_else s.views id other (after_join v w) apart) ∙ there in
      (running.0, (joins id other ∷ running.1.0, (race_of s, running.1.1, (v, w, (at, share), (at', taken), apart, empty, nothing, refl))))
