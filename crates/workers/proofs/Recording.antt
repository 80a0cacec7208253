-- What keeps the steps of a search was told of them, one worker after another.
use Rattle.std.proofs.Common.{◌≡◌, ℕ, ◌+◌, List, ◌++◌, length-append, slice_get, refl, sym, ap, ◌∙◌, subst, arith}
use Rattle.std.proofs.lemmas.Grind.{flat_map-append}
use Rattle.std.proofs.lemmas.List.{map-append}
use Rattle.std.proofs.lemmas.List.Elements.{filter_map-append}
use Rattle.signal_base.specs.declared.window.Window.{Window}
use Rattle.definitions.specs.declared.block.Block.{Block}
use Rattle.definitions.specs.heard.Costs.{Costs}
use Rattle.race_words.specs.declared.view.View.{View}
use Rattle.race_words.specs.Held.{RaceSeen, SeatSeen}
use Rattle.race_words.specs.Views.{after_join}
use Rattle.block_visits.specs.Visits.{items_at}
use Rattle.workers.specs.Steps.{Step, keys_of, offered_at, reads_of, AreSteps}
use Rattle.workers.specs.Workers.{HasWorked, IsIdle, but_drawn}
use Rattle.workers.specs.Recorded.{alone, halves, lists_of, steps_of, AreTaken, HaveShared}
use Rattle.block_visits.proofs.Covering.{all_then}
use Rattle.workers.proofs.Joining.{both_shared, one_shared}
use Rattle.workers.proofs.Taking.{gained_steps}
use Rattle.workers.proofs.Walking.{steps_then}

module _ {P : Type 0} (told : P → Step → P → Type 0) (parts joins : P → P → P → Type 0) (r : RaceSeen) (costs : Costs) (window : Window) (ceiling : ℕ) (items : List Block) where
  -- one worker alone
  pub one_recorded : (s t : SeatSeen) (p q : P) → IsIdle s.view → t.race ≡ r.id → HasWorked told costs window ceiling items s.view t.view p q
      → HaveShared told parts joins r costs window ceiling items 1 t p q
  one_recorded s t p q idle race worked =
      let gained = gained_steps ceiling worked.steps s.view (but_drawn s.view.drawn t.view) worked.view in record {
        shared = one_shared costs window ceiling r items told s t p q idle race worked;
        recorded = record {
          shares = alone worked.steps;
          as_many = refl;
          are = worked.are;
          read = gained.read ∙ ap (λ rs. rs ++ reads_of worked.steps) idle.reads;
          offered = gained.offered ∙ ap (λ ks. ks ++ keys_of ceiling worked.steps) idle.offered;
          each = ((s.view, but_drawn s.view.drawn t.view, idle, worked.view), tt);
          kept = worked.kept;
        };
      }

  -- two halves, of which the one took the other's seat and part in
  pub both_recorded : (m n : ℕ) (s t u : SeatSeen) (p k l k' l' q : P) → HaveShared told parts joins r costs window ceiling items m s k k'
      → HaveShared told parts joins r costs window ceiling items n t l l' → parts p k l → joins k' l' q → u.race ≡ s.race → u.view ≡ after_join s.view t.view
      → HaveShared told parts joins r costs window ceiling items (m + n) u p q
  both_recorded m n s t u p k l k' l' q a b parted joined race is =
      let near = a.recorded in
      let far = b.recorded in
      let at : (Q : View → Type 0) → Q (after_join s.view t.view) → Q u.view = λ Q. subst Q (sym is) in record {
        shared = both_shared costs window ceiling r items s t u a.shared b.shared race is;
        recorded = record {
          shares = halves near.shares far.shares;
          as_many = omega (arith, length-append (lists_of near.shares) (lists_of far.shares), near.as_many, far.as_many);
          are = at (λ v. AreSteps costs window ceiling (items_at items v.drawn) (steps_of near.shares ++ steps_of far.shares))
              (subst (λ bs. AreSteps costs window ceiling bs (steps_of near.shares ++ steps_of far.shares)) (sym (filter_map-append (slice_get items) s.view.drawn t.view.drawn))
              (steps_then costs window ceiling (steps_of near.shares) (steps_of far.shares) (items_at items s.view.drawn) (items_at items t.view.drawn) near.are far.are));
          read = ap (λ (v : View). v.reads) is ∙ (ap (λ rs. rs ++ t.view.reads) near.read ∙ (ap (λ rs. reads_of (steps_of near.shares) ++ rs) far.read
              ∙ sym (map-append (λ (x : Step). x.seen) (steps_of near.shares) (steps_of far.shares))));
          offered = ap (λ (v : View). v.offered) is ∙ (ap (λ ks. ks ++ t.view.offered) near.offered ∙ (ap (λ ks. keys_of ceiling (steps_of near.shares) ++ ks) far.offered
              ∙ sym (flat_map-append (offered_at ceiling) (steps_of near.shares) (steps_of far.shares))));
          each = all_then (AreTaken ceiling) (lists_of near.shares) (lists_of far.shares) near.each far.each;
          kept = (k, l, k', l', parted, near.kept, far.kept, joined);
        };
      }
