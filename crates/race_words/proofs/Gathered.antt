-- The two least of the keys of all views, once a view changes.
use Rattle.std.proofs.Common.{◌≡◌, ◌≢◌, ℕ, zero, suc, ◌≤◌, List, [], ◌∷◌, ◌++◌, map, min, max, set, sym, refl, ap, ◌∙◌}
use mathlib.Core.Option.{some, some-ne-none}
use lib.ListN.{get_elem?}
use Rattle.atomic_table.proofs.Lists.{set_else, set_again}
use Rattle.race_words.specs.declared.ends.Ends.{Ends}
use Rattle.race_words.specs.declared.view.View.{View}
use Rattle.race_words.specs.Keys.{no_key, with_key, two_least}
use Rattle.race_words.specs.Views.{blank_view}
use Rattle.race_words.specs.Sound.{all_offered}
use Rattle.race_words.proofs.Totals.{set_apart}
use Rattle.race_words.proofs.LeastTwo.{with_key_swap, with_no_key, pair_sorted, greater_goes}

-- the two least once all these keys are added
abbrev pub with_keys : List ℕ → Ends → Ends
with_keys [] p = p
with_keys (x ∷ xs) p = with_key x (with_keys xs p)

pub two_least-append : (xs ys : List ℕ) → two_least (xs ++ ys) ≡ with_keys xs (two_least ys)
two_least-append [] ys = refl
two_least-append (x ∷ xs) ys = ap (with_key x) (two_least-append xs ys)

pub with_keys-append : (xs ys : List ℕ) (p : Ends) → with_keys (xs ++ ys) p ≡ with_keys xs (with_keys ys p)
with_keys-append [] ys p = refl
with_keys-append (x ∷ xs) ys p = ap (with_key x) (with_keys-append xs ys p)

pub with_keys-with_key : (xs : List ℕ) (k : ℕ) (p : Ends) → with_keys xs (with_key k p) ≡ with_key k (with_keys xs p)
with_keys-with_key [] k p = refl
with_keys-with_key (x ∷ xs) k p = ap (with_key x) (with_keys-with_key xs k p) ∙ with_key_swap x k (with_keys xs p)

pub with_keys_swap : (xs ys : List ℕ) (p : Ends) → with_keys xs (with_keys ys p) ≡ with_keys ys (with_keys xs p)
with_keys_swap [] ys p = refl
with_keys_swap (x ∷ xs) ys p = ap (with_key x) (with_keys_swap xs ys p) ∙ sym (with_keys-with_key ys x (with_keys xs p))

abbrev pub least_offered : List View → Ends
least_offered vs = two_least (all_offered vs)

abbrev pub least_carried : List View → Ends
least_carried vs = two_least (map (λ (v : View). v.carried) vs)

-- the keys of one view are added to those of the others
pub offered_apart : (vs : List View) (i : ℕ) (v w : View) → get_elem? vs i ≡ some v → least_offered (set vs i w) ≡ with_keys w.offered (least_offered (set vs i blank_view))
offered_apart [] i v w e = absurd (some-ne-none v (sym e))
offered_apart (x ∷ xs) zero v w e = two_least-append w.offered (all_offered xs)
offered_apart (x ∷ xs) (suc i) v w e =
    two_least-append x.offered (all_offered (set xs i w)) ∙ (ap (with_keys x.offered) (offered_apart xs i v w e)
    ∙ (with_keys_swap x.offered w.offered (least_offered (set xs i blank_view)) ∙ ap (with_keys w.offered) (sym (two_least-append x.offered (all_offered (set xs i blank_view))))))

pub offered_of : (vs : List View) (i : ℕ) (v : View) → get_elem? vs i ≡ some v → least_offered vs ≡ with_keys v.offered (least_offered (set vs i blank_view))
offered_of vs i v e = ap least_offered (sym (set_again vs i v e)) ∙ offered_apart vs i v v e

pub carried_apart : (vs : List View) (i : ℕ) (v w : View) → get_elem? vs i ≡ some v → least_carried (set vs i w) ≡ with_key w.carried (least_carried (set vs i blank_view))
carried_apart [] i v w e = absurd (some-ne-none v (sym e))
carried_apart (x ∷ xs) zero v w e = ap (with_key w.carried) (sym (with_no_key (map (λ (u : View). u.carried) xs)))
carried_apart (x ∷ xs) (suc i) v w e = ap (with_key x.carried) (carried_apart xs i v w e) ∙ with_key_swap x.carried w.carried (least_carried (set xs i blank_view))

pub carried_of : (vs : List View) (i : ℕ) (v : View) → get_elem? vs i ≡ some v → least_carried vs ≡ with_key v.carried (least_carried (set vs i blank_view))
carried_of vs i v e = ap least_carried (sym (set_again vs i v e)) ∙ carried_apart vs i v v e

-- one more key is offered
pub offered_more : (vs : List View) (i : ℕ) (v w : View) (k : ℕ) → get_elem? vs i ≡ some v → w.offered ≡ v.offered ++ k ∷ [] → least_offered (set vs i w) ≡ with_key k (least_offered vs)
offered_more vs i v w k e more = let rest : Ends = least_offered (set vs i blank_view) in
    offered_apart vs i v w e ∙ (ap (λ ks. with_keys ks rest) more ∙ (with_keys-append v.offered (k ∷ []) rest
    ∙ (with_keys-with_key v.offered k rest ∙ ap (with_key k) (sym (offered_of vs i v e)))))

-- the keys stay as they are
pub offered_same : (vs : List View) (i : ℕ) (v w : View) → get_elem? vs i ≡ some v → w.offered ≡ v.offered → least_offered (set vs i w) ≡ least_offered vs
offered_same vs i v w e same = offered_apart vs i v w e ∙ (ap (λ ks. with_keys ks (least_offered (set vs i blank_view))) same ∙ sym (offered_of vs i v e))

pub carried_same : (vs : List View) (i : ℕ) (v w : View) → get_elem? vs i ≡ some v → w.carried ≡ v.carried → least_carried (set vs i w) ≡ least_carried vs
carried_same vs i v w e same = carried_apart vs i v w e ∙ (ap (λ k. with_key k (least_carried (set vs i blank_view))) same ∙ sym (carried_of vs i v e))

-- a new view that offered and carries nothing
pub offered_new : (vs : List View) (w : View) → w.offered ≡ [] → least_offered (vs ++ w ∷ []) ≡ least_offered vs
offered_new [] w none = ap (λ ks. two_least (ks ++ [])) none
offered_new (x ∷ xs) w none =
    two_least-append x.offered (all_offered (xs ++ w ∷ [])) ∙ (ap (with_keys x.offered) (offered_new xs w none) ∙ sym (two_least-append x.offered (all_offered xs)))

pub carried_new : (vs : List View) (w : View) → w.carried ≡ no_key → least_carried (vs ++ w ∷ []) ≡ least_carried vs
carried_new [] w none = ap (λ k. with_key k (two_least [])) none ∙ with_no_key []
carried_new (x ∷ xs) w none = ap (with_key x.carried) (carried_new xs w none)

-- one view takes another's keys
module _ (vs : List View) (i j : ℕ) (v w u : View) (here : get_elem? vs i ≡ some v) (there : get_elem? vs j ≡ some w) (apart : j ≢ i) where
  at_first : get_elem? (set vs j blank_view) i ≡ some v
  at_first = set_else vs j i blank_view (λ e. apart (sym e)) ∙ here

  turned : set (set vs i u) j blank_view ≡ set (set vs j blank_view) i u
  turned = set_apart vs i j u blank_view (λ e. apart (sym e))

  pub offered_joined : u.offered ≡ v.offered ++ w.offered → least_offered (set (set vs i u) j blank_view) ≡ least_offered vs
  offered_joined both = let rest : Ends = least_offered (set (set vs j blank_view) i blank_view) in
      ap least_offered turned ∙ (offered_apart (set vs j blank_view) i v u at_first ∙ (ap (λ ks. with_keys ks rest) both
      ∙ (with_keys-append v.offered w.offered rest ∙ (with_keys_swap v.offered w.offered rest
      ∙ (ap (with_keys w.offered) (sym (offered_of (set vs j blank_view) i v at_first)) ∙ sym (offered_of vs j w there))))))

  pub carried_joined : u.carried ≡ v.carried → w.carried ≡ no_key → least_carried (set (set vs i u) j blank_view) ≡ least_carried vs
  carried_joined same none = ap least_carried turned ∙ (carried_same (set vs j blank_view) i v u at_first same ∙ carried_same vs j w blank_view there (sym none))

-- the first part of an offer puts the key into what is kept
pub kept_more : (l s k : ℕ) (vs : List View) (i : ℕ) (v w : View) → get_elem? vs i ≡ some v → v.carried ≡ no_key → w.carried ≡ max k l
    → with_key (min l k) (with_key s (least_carried (set vs i w))) ≡ with_key k (with_key l (with_key s (least_carried vs)))
kept_more l s k vs i v w e none takes =
    let others : least_carried (set vs i blank_view) ≡ least_carried vs = carried_same vs i v blank_view e (sym none) in
    let after : least_carried (set vs i w) ≡ with_key (max k l) (least_carried vs) = carried_apart vs i v w e ∙ (ap (λ c. with_key c (least_carried (set vs i blank_view))) takes ∙ ap (with_key (max k l)) others) in
    ap (λ p. with_key (min l k) (with_key s p)) after ∙ (ap (with_key (min l k)) (with_key_swap s (max k l) (least_carried vs)) ∙ pair_sorted k l (with_key s (least_carried vs)))

-- the second part drops a key that two others do not exceed
pub kept_less : (l s : ℕ) (vs : List View) (i : ℕ) (v w : View) → get_elem? vs i ≡ some v → w.carried ≡ no_key → l ≤ s → l ≤ v.carried
    → with_key l (with_key (min s v.carried) (least_carried (set vs i w))) ≡ with_key l (with_key s (least_carried vs))
kept_less l s vs i v w e none low lower =
    let others : Ends = least_carried (set vs i blank_view) in
    let after : least_carried (set vs i w) ≡ others =
    carried_apart vs i v w e ∙ (ap (λ c. with_key c others) none ∙ with_no_key (map (λ (u : View). u.carried) (set vs i blank_view))) in
    ap (λ p. with_key l (with_key (min s v.carried) p)) after ∙ (greater_goes l s v.carried others low lower ∙ ap (λ p. with_key l (with_key s p)) (sym (carried_of vs i v e)))
