-- How the visits of several workers are put together.
use Rattle.std.proofs.Common.{◌≡◌, ℕ, ◌≤◌, List, [], ◌∷◌, ◌++◌, slice_get, append_assoc, sym, ap, ◌∙◌, subst, arith}
use Rattle.std.specs.List.{All}
use Rattle.std.proofs.lemmas.List.Elements.{All-append, All-from_recursion, All-weaker, Contains-append_left, filter_map-append}
use Rattle.signal_base.specs.declared.window.Window.{Window}
use Rattle.definitions.specs.declared.block.Block.{Block}
use Rattle.definitions.specs.heard.Costs.{Costs}
use Rattle.race_words.specs.declared.view.View.{View}
use Rattle.race_words.specs.Held.{RaceSeen, SeatSeen}
use Rattle.race_words.specs.Keys.{no_key}
use Rattle.race_words.specs.Views.{after_join}
use Rattle.block_visits.specs.Visits.{limit_at, items_at, offered_under, opened_under, AreVisits}
use Rattle.workers.specs.Steps.{Step, keys_of, reads_of}
use Rattle.workers.specs.Workers.{AreUsedUp, HasShared, HasWorked, IsIdle, but_drawn}
use Rattle.workers.proofs.Taking.{floors_steps, gained_steps, steps_visit}

module _ (costs : Costs) (window : Window) (ceiling : ℕ) where
  visits_then : (reads more : List ℕ) (bs cs : List Block) (keys others : List ℕ) → AreVisits costs window ceiling bs reads keys
      → AreVisits costs window ceiling cs more others → AreVisits costs window ceiling (bs ++ cs) (reads ++ more) (keys ++ others)
  visits_then [] more [] cs keys others a b = subst (λ ks. AreVisits costs window ceiling cs more (ks ++ others)) (sym a) b
  visits_then [] more (x ∷ bs) cs keys others a b = absurd a
  visits_then (seen ∷ reads) more [] cs keys others a b = absurd a
  visits_then (seen ∷ reads) more (x ∷ bs) cs keys others a b =
      let own = offered_under (limit_at ceiling seen) x a.0 in
      let opened = opened_under (limit_at ceiling seen) x a.0 in (
        a.0,
        a.1 ++ others,
        a.2,
        ap (λ ks. ks ++ others) a.3 ∙ append_assoc own a.1 others,
        subst (λ bs. AreVisits costs window ceiling bs (reads ++ more) (a.1 ++ others)) (append_assoc opened bs cs)
            (visits_then reads more (opened ++ bs) cs a.1 others a.4 b),
      )

  module _ (r : RaceSeen) (items : List Block) where
    -- one worker alone
    pub one_shared : {P : Type 0} (told : P → Step → P → Type 0) (s t : SeatSeen) (p q : P) → IsIdle s.view → t.race ≡ r.id
        → HasWorked told costs window ceiling items s.view t.view p q → HasShared r costs window ceiling items t
    one_shared told s t p q idle race worked =
        let gained = gained_steps ceiling worked.steps s.view (but_drawn s.view.drawn t.view) worked.view in
        let reads : t.view.reads ≡ reads_of worked.steps = gained.read ∙ ap (λ rs. rs ++ reads_of worked.steps) idle.reads in
        let keys : t.view.offered ≡ keys_of ceiling worked.steps = gained.offered ∙ ap (λ ks. ks ++ keys_of ceiling worked.steps) idle.offered in
        let visits = steps_visit costs window ceiling worked.steps (items_at items t.view.drawn) worked.are in
        let floors = All-from_recursion (λ seen. (t.view.floor ≤ seen) × (seen ≤ s.view.floor)) (reads_of worked.steps)
        (floors_steps ceiling worked.steps s.view (but_drawn s.view.drawn t.view) worked.view) in record {
          race = race;
          driven = subst (λ rs. AreVisits costs window ceiling (items_at items t.view.drawn) rs t.view.offered) (sym reads)
              (subst (AreVisits costs window ceiling (items_at items t.view.drawn) (reads_of worked.steps)) (sym keys) visits);
          floors = subst (All (λ seen. (t.view.floor ≤ seen) × (seen ≤ no_key))) (sym reads)
              (All-weaker (λ seen. (t.view.floor ≤ seen) × (seen ≤ s.view.floor)) (λ seen. (t.view.floor ≤ seen) × (seen ≤ no_key))
              (λ seen both. (both.0, let least = both.1 in omega (arith, least, idle.floor))) (reads_of worked.steps) floors);
          used_up = worked.used_up;
        }

    -- two halves, of which the one took the other's seat in
    pub both_shared : (s t u : SeatSeen) → HasShared r costs window ceiling items s → HasShared r costs window ceiling items t
        → u.race ≡ s.race → u.view ≡ after_join s.view t.view → HasShared r costs window ceiling items u
    both_shared s t u a b race joined =
        let at : (P : View → Type 0) → P (after_join s.view t.view) → P u.view = λ P. subst P (sym joined) in record {
          race = race ∙ a.race;
          driven = at (λ v. AreVisits costs window ceiling (items_at items v.drawn) v.reads v.offered)
              (subst (λ bs. AreVisits costs window ceiling bs (s.view.reads ++ t.view.reads) (s.view.offered ++ t.view.offered))
              (sym (filter_map-append (slice_get items) s.view.drawn t.view.drawn))
              (visits_then s.view.reads t.view.reads (items_at items s.view.drawn) (items_at items t.view.drawn) s.view.offered t.view.offered a.driven b.driven));
          floors = at (λ v. All (λ seen. (v.floor ≤ seen) × (seen ≤ no_key)) v.reads)
              (All-append (λ seen. ((after_join s.view t.view).floor ≤ seen) × (seen ≤ no_key)) s.view.reads t.view.reads
              (lower s.view.reads s.view.floor (omega arith) a.floors) (lower t.view.reads t.view.floor (omega arith) b.floors));
          used_up = at (λ v. AreUsedUp items v.drawn)
              (a.used_up.0, Contains-append_left s.view.drawn t.view.drawn a.used_up.0 a.used_up.1, a.used_up.2);
        }
      where
        lower : (reads : List ℕ) (floor : ℕ) → (after_join s.view t.view).floor ≤ floor → All (λ seen. (floor ≤ seen) × (seen ≤ no_key)) reads
            → All (λ seen. ((after_join s.view t.view).floor ≤ seen) × (seen ≤ no_key)) reads
        lower reads floor le all =
            All-weaker (λ seen. (floor ≤ seen) × (seen ≤ no_key)) (λ seen. ((after_join s.view t.view).floor ≤ seen) × (seen ≤ no_key))
            (λ seen both. (let least = both.0 in omega (arith, least, le), both.1)) reads all
