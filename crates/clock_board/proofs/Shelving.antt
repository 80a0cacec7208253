-- What a shelf shows: after an entry is added, and of an entry that was added.
use Rattle.std.proofs.Common.{◌≡◌, ◌≢◌, ◌⊎◌, ℕ, zero, suc, ◌+◌, ◌%◌, ◌<◌, ◌≤◌, if◌then◌else◌, Option, None, Some, List, [], ◌∷◌, ◌++◌, length, set, sym, refl, ap, subst, ◌∙◌, inl, inr, ⊎_elim, arith}
use mathlib.Core.Option.{some, some-injective, some-ne-none}
use lib.ListN.{get_elem?}
use Rattle.std.proofs.lemmas.Bool.{lt-ltb}
use Rattle.std.proofs.lemmas.List.{length-append}
use Rattle.atomic_table.proofs.Lists.{at_last, set_else, set_here, one_turn}
use Rattle.board_entries.specs.declared.entry.Entry.{Entry}
use Rattle.clock_board.specs.declared.shelf.Shelf.{Shelf}
use Rattle.clock_board.specs.declared.shelf.TheConstants.{MOST_ENTRIES}
use Rattle.clock_board.specs.Shelves.{after_entry, with_entry}
use Rattle.clock_board.specs.Shown.{Shows}
use Rattle.clock_board.specs.Views.{StartsWith}

module _ {A : Type 0} where
  -- what stands in a list with one item more: what stood there, or the item, at the end
  pub at_end : (l : List A) (a b : A) (j : ℕ) → get_elem? (l ++ a ∷ []) j ≡ some b
      → ((j < length l) × (get_elem? l j ≡ some b)) ⊎ ((j ≡ length l) × (a ≡ b))
  at_end [] a b zero e = inr (refl, some-injective a b e)
  at_end [] a b (suc j) e = absurd (some-ne-none b (sym e))
  at_end (x ∷ xs) a b zero e = inl (omega arith, e)
  at_end (x ∷ xs) a b (suc j) e = ⊎_elim (λ t. let lt = t.0 in inl (omega arith, t.1)) (λ t. inr (ap suc t.0, t.1)) (at_end xs a b j e)

  pub there : (l : List A) (n : ℕ) → n < length l → (a : A) × (get_elem? l n ≡ some a)
  there [] n h = absurd (omega arith)
  there (x ∷ xs) zero h = (x, refl)
  there (x ∷ xs) (suc n) h = there xs n (omega arith)

  pub one_more : (l : List A) (a : A) → length (l ++ a ∷ []) ≡ length l + 1
  one_more l a = length-append l (a ∷ [])

  pub length_set : (l : List A) (i : ℕ) (a : A) → length (set l i a) ≡ length l
  length_set [] i a = refl
  length_set (x ∷ xs) zero a = refl
  length_set (x ∷ xs) (suc i) a = ap suc (length_set xs i a)

-- no two of the last 64 numbers lie in one place
other_place : (n m : ℕ) → n < m → m + 1 ≤ n + 64 → n % 64 ≢ m % 64
other_place n m lt near same = let a : n ≡ m = one_turn n m 64 (omega arith) (omega arith) same in omega arith

pub below_most : (s : Shelf) (e : Entry) → s.count < MOST_ENTRIES → after_entry s e ≡ with_entry s e
below_most s e lt = ap (λ b. if b then with_entry s e else s) (lt-ltb s.count MOST_ENTRIES lt)

laid_more : (s : Shelf) (list : List Entry) (e : Entry) → Shows s list → (n : ℕ) (x : Entry) → get_elem? (list ++ e ∷ []) n ≡ some x
    → length (list ++ e ∷ []) ≤ n + 64 → get_elem? (set s.entries (s.count % 64) (Some e)) (n % 64) ≡ some (Some x)
laid_more s list e shows n x at near =
    let longer = one_more list e in
    let number = shows.number in
    ⊎_elim
    (λ (old : (n < length list) × (get_elem? list n ≡ some x)).
    let lt = old.0 in
    set_else s.entries (s.count % 64) (n % 64) (Some e) (other_place n s.count (omega arith) (omega arith))
    ∙ shows.laid n x old.1 (omega arith))
    (λ (new : (n ≡ length list) × (e ≡ x)).
    let here : n ≡ s.count = new.0 ∙ sym number in
    ap (λ k. get_elem? (set s.entries (s.count % 64) (Some e)) (k % 64)) here
    ∙ set_here s.entries (s.count % 64) (Some e) (omega (arith, shows.places))
    ∙ ap (λ y. some (Some y)) new.1)
    (at_end list e x n at)

-- a shelf with one entry more shows the list with it
pub shows_more : (s : Shelf) (list : List Entry) (e : Entry) → s.count < MOST_ENTRIES → Shows s list → Shows (after_entry s e) (list ++ e ∷ [])
shows_more s list e lt shows =
    subst (λ t. Shows t (list ++ e ∷ [])) (sym (below_most s e lt)) record {
      number = ap (λ k. k + 1) shows.number ∙ sym (one_more list e);
      places = length_set s.entries (s.count % 64) (Some e) ∙ shows.places;
      laid = laid_more s list e shows;
    }

abbrev or_this : {A : Type 0} → A → Option A → A
or_this x None = x
or_this x (Some y) = y

some_is : {A : Type 0} (x y : A) → ◌≡◌ {A = Option A} (Some x) (Some y) → x ≡ y
some_is x y e = ap (or_this x) e

lone : {A : Type 0} (l : List A) → length l ≡ 1 → (a : A) × (l ≡ a ∷ [])
lone [] e = absurd (omega arith)
lone (x ∷ []) e = (x, refl)
lone (x ∷ y ∷ ys) e = absurd (omega arith)

-- where the shelf with one entry more shows a list that goes on from what it showed, that is the list with the entry
pub added : (s : Shelf) (seen whole : List Entry) (e : Entry) → s.count < MOST_ENTRIES → Shows s seen → Shows (after_entry s e) whole → StartsWith whole seen
    → whole ≡ seen ++ e ∷ []
added s seen whole e lt shows after start =
    let now : Shows (with_entry s e) whole = subst (λ z. Shows z whole) (below_most s e lt) after in
    let number : s.count + 1 ≡ length whole = now.number in
    let before : s.count ≡ length seen = shows.number in
    let long : length whole ≡ length seen + length start.0 = ap length start.1 ∙ length-append seen start.0 in
    let last = lone start.0 (omega arith) in
    let is : whole ≡ seen ++ last.0 ∷ [] = start.1 ∙ ap (λ l. seen ++ l) last.1 in
    let at : get_elem? whole s.count ≡ some last.0 = ap (λ l. get_elem? l s.count) is ∙ at_last seen last.0 s.count (sym before) in
    let laid : get_elem? (set s.entries (s.count % 64) (Some e)) (s.count % 64) ≡ some (Some last.0) = now.laid s.count last.0 at (omega arith) in
    let places : length s.entries ≡ 64 = shows.places in
    let here : get_elem? (set s.entries (s.count % 64) (Some e)) (s.count % 64) ≡ some (Some e) = set_here s.entries (s.count % 64) (Some e) (omega arith) in
    let same : e ≡ last.0 = some_is e last.0 (some-injective (Some e) (Some last.0) (sym here ∙ laid)) in
    is ∙ ap (λ x. seen ++ x ∷ []) (sym same)
