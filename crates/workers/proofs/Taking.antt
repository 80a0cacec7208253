-- What the steps of a visit leave of a seat's view.
use Rattle.std.proofs.Common.{◌≡◌, ℕ, ◌≤◌, List, [], ◌∷◌, ◌++◌, append_assoc, refl, sym, ap, ◌∙◌, subst, inl, inr, ⊎_elim, arith}
use Rattle.std.specs.List.{All, AllByRecursion, FoldsTo}
use Rattle.std.proofs.lemmas.List.{append-nil}
use Rattle.std.proofs.lemmas.List.Elements.{All-from_recursion, Contains-append_right}
use Rattle.signal_base.specs.declared.window.Window.{Window}
use Rattle.definitions.specs.declared.block.Block.{Block}
use Rattle.definitions.specs.heard.Costs.{Costs}
use Rattle.definitions.specs.answers.Blocks.{IsBlock}
use Rattle.race_words.specs.declared.view.View.{View}
use Rattle.race_words.specs.Views.{after_limit, after_offer}
use Rattle.block_visits.specs.Facts.{Facts}
use Rattle.block_visits.specs.Visits.{limit_at, offered_under, opened_under, AreVisits, IsCovered}
use Rattle.workers.specs.Searches.{HasVisited}
use Rattle.block_visits.proofs.Covering.{all_weaker, visit_covers, visit_admitted}
use Rattle.block_visits.proofs.Counting.{visit_once}
use Rattle.workers.specs.Steps.{Step, keys_of, offered_at, reads_of, AreSteps, HasWalked, Offers, Takes}

-- a view that read and offered these, behind what it had, and is otherwise as it was but that the two keys known may have fallen
pub record HasGained (v w : View) (reads keys : List ℕ) : Type 0 where
  pub read : w.reads ≡ v.reads ++ reads
  pub offered : w.offered ≡ v.offered ++ keys
  pub share : w.share ≡ v.share
  pub drawn : w.drawn ≡ v.drawn
  pub low : w.low ≤ v.low
  pub floor : w.floor ≤ v.floor

gained_both : (v u w : View) (reads more keys others : List ℕ) → HasGained v u reads keys → HasGained u w more others
    → HasGained v w (reads ++ more) (keys ++ others)
gained_both v u w reads more keys others a b = record {
  read = b.read ∙ (ap (λ rs. rs ++ more) a.read ∙ append_assoc v.reads reads more);
  offered = b.offered ∙ (ap (λ ks. ks ++ others) a.offered ∙ append_assoc v.offered keys others);
  share = b.share ∙ a.share;
  drawn = b.drawn ∙ a.drawn;
  low = omega (arith, a.low, b.low);
  floor = omega (arith, a.floor, b.floor);
}

gained_nothing : (v w : View) → w ≡ v → HasGained v w [] []
gained_nothing v w is = record {
  read = ap (λ (u : View). u.reads) is ∙ sym (append-nil v.reads);
  offered = ap (λ (u : View). u.offered) is ∙ sym (append-nil v.offered);
  share = ap (λ (u : View). u.share) is;
  drawn = ap (λ (u : View). u.drawn) is;
  low = omega (arith, ap (λ (u : View). u.low) is);
  floor = omega (arith, ap (λ (u : View). u.floor) is);
}

gained_offer : (key least : ℕ) (v : View) → HasGained v (after_offer key least v) [] (key ∷ [])
gained_offer key least v = record {
  read = sym (append-nil v.reads);
  offered = refl;
  share = refl;
  drawn = refl;
  low = omega arith;
  floor = omega arith;
}

gained_limit : (seen : ℕ) (v : View) → HasGained v (after_limit seen v) (seen ∷ []) []
gained_limit seen v = record {
  read = refl;
  offered = sym (append-nil v.offered);
  share = refl;
  drawn = refl;
  low = omega arith;
  floor = omega arith;
}

gained_offers : (keys : List ℕ) (v w : View) → Offers keys v w → HasGained v w [] keys
gained_offers [] v w is = gained_nothing v w is
gained_offers (key ∷ keys) v w offers =
    gained_both v (after_offer key offers.0 v) w [] [] (key ∷ []) keys (gained_offer key offers.0 v) (gained_offers keys (after_offer key offers.0 v) w offers.2)

pub gained_steps : (ceiling : ℕ) (steps : List Step) (v w : View) → FoldsTo (Takes ceiling) v steps w → HasGained v w (reads_of steps) (keys_of ceiling steps)
gained_steps ceiling [] v w is = gained_nothing v w (sym is)
gained_steps ceiling (s ∷ ss) v w takes =
    gained_both v takes.0 w (s.seen ∷ []) (reads_of ss) (offered_at ceiling s) (keys_of ceiling ss)
    (gained_both v (after_limit s.seen v) takes.0 (s.seen ∷ []) [] [] (offered_at ceiling s) (gained_limit s.seen v)
    (gained_offers (offered_at ceiling s) (after_limit s.seen v) takes.0 takes.1.1))
    (gained_steps ceiling ss takes.0 w takes.2)

-- nothing that was read is below the floor afterwards, nor above the floor before
pub floors_steps : (ceiling : ℕ) (steps : List Step) (v w : View) → FoldsTo (Takes ceiling) v steps w
    → AllByRecursion (λ seen. (w.floor ≤ seen) × (seen ≤ v.floor)) (reads_of steps)
floors_steps ceiling [] v w is = tt
floors_steps ceiling (s ∷ ss) v w takes =
    let after = gained_offers (offered_at ceiling s) (after_limit s.seen v) takes.0 takes.1.1 in
    let rest = gained_steps ceiling ss takes.0 w takes.2 in (
      (omega (arith, after.floor, rest.floor), takes.1.0),
      lower (reads_of ss) takes.0.floor (omega (arith, after.floor)) (floors_steps ceiling ss takes.0 w takes.2),
    )
  where
    lower : (reads : List ℕ) (top : ℕ) → top ≤ v.floor → AllByRecursion (λ seen. (w.floor ≤ seen) × (seen ≤ top)) reads
        → AllByRecursion (λ seen. (w.floor ≤ seen) × (seen ≤ v.floor)) reads
    lower [] top le all = tt
    lower (seen ∷ reads) top le all = ((all.0.0, omega (arith, all.0.1)), lower reads top le all.1)

-- the steps of visits are visits by what they read
pub steps_visit : (costs : Costs) (window : Window) (ceiling : ℕ) (steps : List Step) (bs : List Block) → AreSteps costs window ceiling bs steps
    → AreVisits costs window ceiling bs (reads_of steps) (keys_of ceiling steps)
steps_visit costs window ceiling [] [] are = refl
steps_visit costs window ceiling [] (b ∷ bs) are = absurd are
steps_visit costs window ceiling (s ∷ ss) [] are = absurd are
steps_visit costs window ceiling (s ∷ ss) (b ∷ bs) are = (
  s.bound,
  keys_of ceiling ss,
  are.1,
  ap (λ b. offered_under (limit_at ceiling s.seen) b s.bound ++ keys_of ceiling ss) are.0,
  steps_visit costs window ceiling ss (opened_under (limit_at ceiling s.seen) b s.bound ++ bs) are.2,
)

-- what was covered by some keys and a floor stays so with more keys, and a floor that is no higher
pub covered_further : (costs : Costs) (window : Window) (ceiling : ℕ) (b : Block) (keys before : List ℕ) (floor : ℕ)
    → IsCovered costs window ceiling b keys floor → IsCovered costs window ceiling b (before ++ keys) floor
covered_further costs window ceiling b keys before floor covered key is =
    ⊎_elim (λ has. inl (Contains-append_right before keys key has)) inr (covered key is)

-- a block that was visited step by step was visited
pub visited : (costs : Costs) (window : Window) (ceiling : ℕ) (facts : Facts costs window ceiling) {P : Type 0} (told : P → Step → P → Type 0)
    (b : Block) (v w : View) (p q : P) → IsBlock window b → HasWalked told costs window ceiling b v w p q → HasVisited costs window ceiling b v w
visited costs window ceiling facts told b v w p q block walked =
    let gained = gained_steps ceiling walked.steps v w walked.view in
    let reads = reads_of walked.steps in
    let keys = keys_of ceiling walked.steps in
    let visit = steps_visit costs window ceiling walked.steps (b ∷ []) walked.are in
    let floors : All (λ seen. w.floor ≤ seen) reads =
    All-from_recursion (λ seen. w.floor ≤ seen) reads
    (all_weaker costs window ceiling facts (λ seen. (w.floor ≤ seen) × (seen ≤ v.floor)) (λ seen. w.floor ≤ seen) (λ seen both. both.0) reads
    (floors_steps ceiling walked.steps v w walked.view)) in
    let covered = covered_further costs window ceiling b keys v.offered w.floor (visit_covers costs window ceiling facts b reads keys w.floor block visit floors) in record {
      reads = reads;
      keys = keys;
      read = gained.read;
      offered = gained.offered;
      visit = visit;
      admitted = visit_admitted costs window ceiling facts b reads keys block visit;
      once = visit_once costs window ceiling facts b reads keys block visit;
      covered = subst (λ ks. IsCovered costs window ceiling b ks w.floor) (sym gained.offered) covered;
      share = gained.share;
      drawn = gained.drawn;
      low = gained.low;
      floor = gained.floor;
    }
