-- What is read keeps to the keys that were known and offered, and what is known in the end to what was read and offered.
use Rattle.std.proofs.Common.{◌≡◌, ℕ, ◌≤◌, min, max, List, [], ◌∷◌, ◌++◌, refl, sym, ap, subst, arith}
use Rattle.std.specs.List.{AllByRecursion, FoldsTo}
use Rattle.race_words.specs.declared.view.View.{View}
use Rattle.race_words.specs.Keys.{no_key, two_least}
use Rattle.race_words.specs.Views.{after_limit, after_offer}
use Rattle.workers.specs.Recorded.{AreTaken}
use Rattle.workers.specs.Steps.{Step, keys_of, offered_at, reads_of, Offers, Takes}
use Rattle.workers.proofs.Taking.{floors_steps, gained_steps}
use Rattle.kept_steps.specs.OfWorkers.{IsOfWorker, IsWithin, KeepTo, with_keys}

-- the two keys that a view knows aren't above the two least of these, nor its second above what is known
pub record Knows (known : ℕ) (keys : List ℕ) (v : View) : Type 0 where
  pub floor : v.floor ≤ known
  pub least : min v.low no_key ≤ (two_least keys).least
  pub second : min v.floor no_key ≤ (two_least keys).second

knows_offer : (known key old : ℕ) (keys : List ℕ) (v : View) → old ≤ v.low → Knows known keys v → Knows known (key ∷ keys) (after_offer key old v)
knows_offer known key old keys v under k = record {
  floor = omega (arith, k.floor);
  least = omega (arith, k.least);
  second = omega (arith, k.second, k.least, under);
}

knows_offers : (known : ℕ) (more keys : List ℕ) (v w : View) → Offers more v w → Knows known keys v → Knows known (with_keys keys more) w
knows_offers known [] keys v w is k = subst (λ (u : View). Knows known keys u) (sym is) k
knows_offers known (key ∷ more) keys v w offers k =
    knows_offers known more (key ∷ keys) (after_offer key offers.0 v) w offers.2 (knows_offer known key offers.0 keys v offers.1 k)

-- who took a step knows what was read there, and the keys that it offered
knows_step : (ceiling : ℕ) (s : Step) (known : ℕ) (keys : List ℕ) (v w : View) → Takes ceiling v s w → Knows known keys v
    → Knows s.seen (with_keys keys (offered_at ceiling s)) w
knows_step ceiling s known keys v w takes k =
    let read : Knows s.seen keys (after_limit s.seen v) = record {
      floor = omega arith;
      least = k.least;
      second = omega (arith, k.second, takes.0);
    } in
    knows_offers s.seen (offered_at ceiling s) keys (after_limit s.seen v) w takes.1 read

pub keeps : (ceiling : ℕ) (steps : List Step) (known : ℕ) (keys : List ℕ) (v w : View) → FoldsTo (Takes ceiling) v steps w → Knows known keys v
    → KeepTo ceiling known keys steps
keeps ceiling [] known keys v w takes k = tt
keeps ceiling (s ∷ ss) known keys v w takes k = (
  omega (arith, takes.1.0, k.floor),
  omega (arith, takes.1.0, k.second),
  keeps ceiling ss s.seen (with_keys keys (offered_at ceiling s)) takes.0 w takes.2 (knows_step ceiling s known keys v takes.0 takes.1 k),
)

with_more : (keys more others : List ℕ) → with_keys keys (more ++ others) ≡ with_keys (with_keys keys more) others
with_more keys [] others = refl
with_more keys (key ∷ more) others = with_more (key ∷ keys) more others

-- the floor in the end isn't above the second-least of all these keys
knows_steps : (ceiling : ℕ) (steps : List Step) (known : ℕ) (keys : List ℕ) (v w : View) → FoldsTo (Takes ceiling) v steps w → Knows known keys v
    → IsWithin (with_keys keys (keys_of ceiling steps)) w.floor
knows_steps ceiling [] known keys v w is k = subst (λ (u : View). IsWithin keys u.floor) is k.second
knows_steps ceiling (s ∷ ss) known keys v w takes k =
    subst (λ ks. IsWithin ks w.floor) (sym (with_more keys (offered_at ceiling s) (keys_of ceiling ss)))
    (knows_steps ceiling ss s.seen (with_keys keys (offered_at ceiling s)) takes.0 w takes.2 (knows_step ceiling s known keys v takes.0 takes.1 k))

-- after these were offered, and others under whose keys a view came to lie no higher, all lie above it
both_above : (keys more : List ℕ) (low top : ℕ) → low ≤ top → AllByRecursion (λ key. top ≤ key) keys → AllByRecursion (λ key. low ≤ key) more
    → AllByRecursion (λ key. low ≤ key) (keys ++ more)
both_above [] more low top under all rest = rest
both_above (key ∷ keys) more low top under all rest = (omega (arith, under, all.0), both_above keys more low top under all.1 rest)

lower_offers : (keys : List ℕ) (v w : View) → Offers keys v w → w.low ≤ v.low
lower_offers [] v w is = omega (arith, ap (λ (u : View). u.low) is)
lower_offers (key ∷ keys) v w offers = omega (arith, lower_offers keys (after_offer key offers.0 v) w offers.2)

all_offers_above : (keys : List ℕ) (v w : View) → Offers keys v w → AllByRecursion (λ key. w.low ≤ key) keys
all_offers_above [] v w is = tt
all_offers_above (key ∷ keys) v w offers =
    (omega (arith, lower_offers keys (after_offer key offers.0 v) w offers.2), all_offers_above keys (after_offer key offers.0 v) w offers.2)

-- the least key that is known in the end isn't above one that was offered
pub all_offered_above : (ceiling : ℕ) (steps : List Step) (v w : View) → FoldsTo (Takes ceiling) v steps w
    → AllByRecursion (λ key. w.low ≤ key) (keys_of ceiling steps)
all_offered_above ceiling [] v w is = tt
all_offered_above ceiling (s ∷ ss) v w takes =
    let rest = gained_steps ceiling ss takes.0 w takes.2 in
    both_above (offered_at ceiling s) (keys_of ceiling ss) w.low takes.0.low rest.low
    (all_offers_above (offered_at ceiling s) (after_limit s.seen v) takes.0 takes.1.1)
    (all_offered_above ceiling ss takes.0 w takes.2)

-- the floor in the end isn't above one that was read
pub all_read_above : (ceiling : ℕ) (steps : List Step) (v w : View) → FoldsTo (Takes ceiling) v steps w
    → AllByRecursion (λ seen. w.floor ≤ seen) (reads_of steps)
all_read_above ceiling steps v w takes = first (reads_of steps) (floors_steps ceiling steps v w takes)
  where
    first : (reads : List ℕ) → AllByRecursion (λ seen. (w.floor ≤ seen) × (seen ≤ v.floor)) reads → AllByRecursion (λ seen. w.floor ≤ seen) reads
    first [] all = tt
    first (seen ∷ reads) all = (all.0.0, first reads all.1)

pub of_worker : (ceiling : ℕ) (steps : List Step) → AreTaken ceiling steps → IsOfWorker ceiling steps
of_worker ceiling steps taken = keeps ceiling steps no_key [] taken.0 taken.1 taken.3 (record {
  floor = taken.2.floor;
  least = omega arith;
  second = omega arith;
})

-- who has a floor knows that, and the key below which the least isn't
visitor_knows : (v : View) → Knows v.floor (v.low ∷ []) v
visitor_knows v = record {
  floor = omega arith;
  least = omega arith;
  second = omega arith;
}

pub visitor_keeps : (ceiling : ℕ) (steps : List Step) (v w : View) → FoldsTo (Takes ceiling) v steps w → KeepTo ceiling v.floor (v.low ∷ []) steps
visitor_keeps ceiling steps v w takes = keeps ceiling steps v.floor (v.low ∷ []) v w takes (visitor_knows v)

pub visitor_within : (ceiling : ℕ) (steps : List Step) (v w : View) → FoldsTo (Takes ceiling) v steps w
    → IsWithin (with_keys (v.low ∷ []) (keys_of ceiling steps)) w.floor
visitor_within ceiling steps v w takes = knows_steps ceiling steps v.floor (v.low ∷ []) v w takes (visitor_knows v)
