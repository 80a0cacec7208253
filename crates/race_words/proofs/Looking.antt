-- One read that counts as several looks: they are events in a row, and leave a seat at rest as one does.
use Rattle.std.proofs.Common.{◌≡◌, ℕ, zero, suc, ◌≤◌, List, ◌∷◌, min, set, sym, refl, ap, ◌∙◌, subst, arith, length-set}
use mathlib.Core.Option.{none, some}
use lib.ListN.{get_elem?}
use Rattle.std.proofs.lemmas.List.Elements.{All-push, All-weaker}
use Rattle.atomic_table.specs.Table.{step, keeps, stepped, Allows}
use Rattle.race_words.specs.declared.view.View.{View}
use Rattle.race_words.specs.Views.{after_limit, after_limits}
use Rattle.race_words.specs.Events.{RaceState, Event, CarriesNothing, HasView, Leads, race_after_limit, looks}
use Rattle.race_words.specs.Held.{IsAtRest}
use Rattle.race_words.specs.Sound.{IsSound}
use Rattle.race_words.specs.Shared.{Mine, race_of, IsRunning, LooksOften}
use Rattle.race_words.proofs.Steps.{running_is_sound, third_changed}
use Rattle.race_words.proofs.Totals.{set_at, set_twice}

-- the share stays
same_share : (n key : ℕ) (v : View) → (after_limits n key v).share ≡ v.share
same_share zero key v = refl
same_share (suc n) key v = same_share n key v

-- the race once a seat has looked so many times more
abbrev looked : ℕ → RaceState → ℕ → View → RaceState
looked n r seat v = record r { views = set r.views seat (after_limits n r.second v) }

-- these are looks in a row
looks_lead : (workers n : ℕ) (es : List Event) (r : RaceState) (seat : ℕ) (v : View) → Leads workers es r → HasView r seat v
    → (fs : List Event) × Leads workers fs (looked n r seat v)
looks_lead workers zero es r seat v leads has = (looks seat ∷ es, (r, leads, (v, has, refl)))
looks_lead workers (suc n) es r seat v leads has =
    let before = looks_lead workers n es r seat v leads has in
    let w : View = after_limits n r.second v in
    let at : get_elem? (set r.views seat w) seat ≡ some w = set_at r.views seat v w has.0 in
    let share : 1 ≤ w.share = subst (λ s. 1 ≤ s) (sym (same_share n r.second v)) has.1 in
    let is : looked (suc n) r seat v ≡ race_after_limit (looked n r seat v) seat w =
    ap (λ vs. record r { views = vs }) (sym (set_twice r.views seat w (after_limit r.second w))) in
    (looks seat ∷ before.0, (looked n r seat v, before.1, (w, (at, share), is)))

module _ (workers slots id : ℕ) (me : Mine) (share : 1 ≤ me.0.share) where
  pub looks_often_step : (often : ℕ → ℕ) → CarriesNothing me.0 → Allows (IsRunning workers) slots id me 2 (λ n. n) (LooksOften often (step slots 2 0 0 none) me)
  looks_often_step often empty s running _ at _ =
      let r : RaceState = race_of s in let sound : IsSound workers r = running_is_sound workers s running in
      let w : View = after_limits (often r.second) r.second me.0 in
      let is : race_of (stepped s 2 r.second id me.1 w keeps) ≡ looked (often r.second) r id me.0 = third_changed s running.0 r.second (set s.views id w) in
      let there = looks_lead workers (often r.second) running.1.0 r id me.0 running.1.1 (at, share) in
      let floor = sound.floors id me.0 at in let order = sound.ordered in (
        w,
        keeps,
        tt,
        (length-set s.words 2 r.second ∙ running.0, (there.0, subst (Leads workers there.0) (sym is) there.1)),
        (refl, refl, omega arith),
      )

at_rest_once : (key : ℕ) (v : View) → IsAtRest v → IsAtRest (after_limit key v)
at_rest_once key v rest = record {
  share = rest.share;
  nothing = rest.nothing;
  reads = All-push (λ k. min v.floor key ≤ k) v.reads key
      (All-weaker (λ k. v.floor ≤ k) (λ k. min v.floor key ≤ k) (λ k le. omega (arith, le)) v.reads rest.reads) (omega arith);
}

pub at_rest_often : (n key : ℕ) (v : View) → IsAtRest v → IsAtRest (after_limits n key v)
at_rest_often zero key v rest = at_rest_once key v rest
at_rest_often (suc n) key v rest = at_rest_once key (after_limits n key v) (at_rest_often n key v rest)
