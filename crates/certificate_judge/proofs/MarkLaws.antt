-- Items with a mark for each that was begun.
use Rattle.std.proofs.Common.{◌≡◌, ◌≢◌, ℕ, zero, suc, ◌+◌, ◌<◌, ◌≤◌, ◌↔◌, ◌⊎◌, inl, inr, Bool, true, false, List, [], ◌∷◌, length, get_or, slice_set, replicate, refl, sym, ◌∙◌, ap, subst, arith, ⊎_elim}
use Rattle.std.specs.List.{AllByRecursion}
use Rattle.std.proofs.lemmas.Bool.{cases_eq, cases_lt}
use Rattle.std.proofs.lemmas.List.{get_or-replicate, get_or-set_same, get_or-set_other, length-replicate, length-set}
use Rattle.definitions.specs.declared.block.Block.{Block}
use Rattle.definitions.specs.declared.block.Span.TheVariants.{Year}
use Rattle.certificates.specs.Validity.{IsOneOf, NoneTwice}
use Rattle.certificate_judge.specs.Marks.{AreMarked, HaveOwnPlaces}

pub true_false : (b : Bool) → b ≡ false → b ≡ true → ⊥
true_false b unset set = absurd cc

some_block : Block
some_block = record { announced = false; second = 0; span = Year; lo = 0; hi = 0 }

-- no item was begun
pub none_marked : (bs : List Block) (n : ℕ) (marks : List Bool) → marks ≡ replicate n false → length bs ≤ n → AreMarked bs marks []
none_marked bs n marks e few = record {
  room = omega (arith, few, ap (λ (ms : List Bool). length ms) e, length-replicate n false);
  each = λ k d within.
      let unset : get_or marks k false ≡ false = ap (λ (ms : List Bool). get_or ms k false) e ∙ get_or-replicate n k false false (omega (arith, within, few)) in
      (λ is. true_false (get_or marks k false) unset is, λ is. absurd is);
}

-- an item is one of them, and each of them is one
pub at_is_one : (bs : List Block) (k : ℕ) (d : Block) → k < length bs → IsOneOf bs (get_or bs k d)
at_is_one [] k d within = absurd (omega (arith, within))
at_is_one (b ∷ bs) zero d within = inl refl
at_is_one (b ∷ bs) (suc k) d within = inr (at_is_one bs k d (omega (arith, within)))

pub record IsAt (bs : List Block) (b : Block) : Type 0 where
  pub place : ℕ
  pub within : place < length bs
  pub is : (d : Block) → get_or bs place d ≡ b

pub place_of_one : (bs : List Block) (b : Block) → IsOneOf bs b → IsAt bs b
place_of_one [] b is = absurd is
place_of_one (c ∷ cs) b (inl e) = record { place = 0; within = omega arith; is = λ d. e }
place_of_one (c ∷ cs) b (inr is) =
    let found = place_of_one cs b is in record { place = suc found.place; within = omega (arith, found.within); is = λ d. found.is d }

pub never_one : (bs : List Block) (b : Block) → ((k : ℕ) (d : Block) → k < length bs → get_or bs k d ≢ b) → IsOneOf bs b → ⊥
never_one bs b never is = let found = place_of_one bs b is in never found.place b found.within (found.is b)

pub is_item : (bs : List Block) (k : ℕ) (b : Block) → k < length bs → ((d : Block) → get_or bs k d ≡ b) → IsOneOf bs b
is_item bs k b within is = subst (IsOneOf bs) (is b) (at_is_one bs k b within)

-- blocks of which none stands twice
pub own_places : (bs : List Block) → NoneTwice bs → HaveOwnPlaces bs
own_places [] once j k d less within same = omega (arith, within)
own_places (b ∷ bs) once zero zero d less within same = omega (arith, less)
own_places (b ∷ bs) once zero (suc k) d less within same = once.0 (subst (IsOneOf bs) (sym same) (at_is_one bs k d (omega (arith, within))))
own_places (b ∷ bs) once (suc j) zero d less within same = omega (arith, less)
own_places (b ∷ bs) once (suc j) (suc k) d less within same = own_places bs once.1 j k d (omega (arith, less)) (omega (arith, within)) same

other_place : (bs : List Block) → HaveOwnPlaces bs → (j k : ℕ) (d : Block) → j ≢ k → j < length bs → k < length bs → get_or bs j d ≢ get_or bs k d
other_place bs own j k d other a b same =
    ⊎_elim (λ less. own j k d less b same) (λ le. own k j d (omega (arith, le, other)) a (sym same)) (cases_lt j k)

module _ (bs : List Block) (marks : List Bool) (begun : List Block) (are : AreMarked bs marks begun) (place : ℕ) (b : Block)
    (within : place < length bs) (is : (d : Block) → get_or bs place d ≡ b) where
  -- an item that has no mark wasn't begun, and one that has it was
  pub not_marked : get_or marks place false ≡ false → IsOneOf begun b → ⊥
  not_marked unset one = true_false (get_or marks place false) unset ((are.each place b within).1 (subst (IsOneOf begun) (sym (is b)) one))

  pub was_marked : get_or marks place false ≡ true → IsOneOf begun b
  was_marked set = subst (IsOneOf begun) (is b) ((are.each place b within).0 set)

  -- it is marked
  pub marked_more : HaveOwnPlaces bs → AreMarked bs (slice_set marks place true) (b ∷ begun)
  marked_more own = record {
    room = omega (arith, are.room, length-set marks place true);
    each = λ k d inside.
        ⊎_elim
        (λ here. (
          λ set. inl (sym (is d) ∙ ap (λ (j : ℕ). get_or bs j d) (sym here)),
          λ one. ap (λ (j : ℕ). get_or (slice_set marks place true) j false) here ∙ get_or-set_same marks place true false (omega (arith, within, are.room)),
        ))
        (λ other. (
          λ set. inr ((are.each k d inside).0 (sym (get_or-set_other marks place k true false other) ∙ set)),
          λ one. ⊎_elim
              (λ e. absurd (other_place bs own k place d other inside within (sym e ∙ sym (is d))))
              (λ before. get_or-set_other marks place k true false other ∙ (are.each k d inside).1 before) one,
        ))
        (cases_eq k place);
  }

-- all items have what each place has
pub all_by_places : (P : Block → Type 0) (bs : List Block) → ((k : ℕ) (d : Block) → k < length bs → P (get_or bs k d)) → AllByRecursion P bs
all_by_places P [] each = tt
all_by_places P (b ∷ bs) each = (each 0 b (omega arith), all_by_places P bs (λ k d within. each (suc k) d (omega (arith, within))))

pub place_has : (P : Block → Type 0) (bs : List Block) (k : ℕ) (d : Block) → AllByRecursion P bs → k < length bs → P (get_or bs k d)
place_has P [] k d all within = absurd (omega (arith, within))
place_has P (b ∷ bs) zero d all within = all.0
place_has P (b ∷ bs) (suc k) d all within = place_has P bs k d all.1 (omega (arith, within))

module _ (bs : List Block) (marks : List Bool) where
  -- each item has a mark
  pub all_begun : ((k : ℕ) → k < length bs → get_or marks k false ≡ true) → (begun : List Block) → AreMarked bs marks begun → AllByRecursion (IsOneOf begun) bs
  all_begun each begun are = all_by_places (IsOneOf begun) bs (λ k d within. (are.each k d within).0 (each k within))

  -- one has none
  pub not_all_begun : (k : ℕ) → k < length bs → get_or marks k false ≡ false → (begun : List Block) → AreMarked bs marks begun → AllByRecursion (IsOneOf begun) bs → ⊥
  not_all_begun k within unset begun are all =
      true_false (get_or marks k false) unset ((are.each k some_block within).1 (place_has (IsOneOf begun) bs k some_block all within))
