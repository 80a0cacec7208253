-- Good lines are walks of all items, each once, and such walks are good.
use Rattle.std.proofs.Common.{◌≡◌, ℕ, ◌⊎◌, inl, inr, List, [], ◌∷◌, ◌++◌, refl, sym, ◌∙◌, subst, append_assoc, arith, ⊎_elim}
use Rattle.std.specs.List.{AllByRecursion}
use Rattle.std.proofs.lemmas.List.{append-nil}
use Rattle.signal_base.specs.declared.window.Window.{Window}
use Rattle.definitions.specs.declared.block.Block.{Block}
use Rattle.definitions.specs.heard.Costs.{Costs}
use Rattle.definitions.specs.answers.Blocks.{IsBlock, IsIn, IsInOne, first_of, items}
use Rattle.block_visits.specs.Facts.{Facts}
use Rattle.certificates.specs.declared.certificate.Line.{Line}
use Rattle.certificates.specs.Validity.{AreEachOnce, AreWalks, IsOneOf, IsSaid, NoneTwice, opened_by}
use Rattle.certificates.specs.Verdicts.{AreGood, AreOver, IsDue}
use Rattle.certificates.proofs.FoundLaws.{not_in, one_has}

each_weaker : (P Q : Block → Type 0) → ((b : Block) → P b → Q b) → (bs : List Block) → AllByRecursion P bs → AllByRecursion Q bs
each_weaker P Q to [] all = tt
each_weaker P Q to (b ∷ bs) all = (to b all.0, each_weaker P Q to bs all.1)

module _ (costs : Costs) (window : Window) (limit : ℕ) where
  abbrev WalksOf : List Block → List Line → Type 0
  WalksOf = AreWalks costs window limit

  -- The lines are walks of what is due and then of these blocks, which are all items that weren't begun, each once.
  pub record AreWalked (due begun : List Block) (ls : List Line) : Type 0 where
    pub blocks : List Block
    pub walks : AreWalks costs window limit (due ++ blocks) ls
    pub only : AllByRecursion (IsOneOf (items window)) blocks
    pub fresh : AllByRecursion (λ b. ¬ (IsOneOf begun b)) blocks
    pub all : AllByRecursion (λ b. IsOneOf begun b ⊎ IsOneOf blocks b) (items window)
    pub once : NoneTwice blocks

  at_end : (due begun : List Block) → AreOver window due begun → AreWalked due begun []
  at_end due begun over = record {
    blocks = [];
    walks = subst (λ bs. WalksOf (bs ++ []) []) (sym over.0) tt;
    only = tt;
    fresh = tt;
    all = each_weaker (IsOneOf begun) (λ b. IsOneOf begun b ⊎ IsOneOf [] b) (λ b is. inl is) (items window) over.1;
    once = tt;
  }

  one_item : (begun : List Block) (l : Line) (ls : List Line) → IsDue window [] begun l.block → IsSaid costs window limit l
      → AreWalked (opened_by l ++ []) (l.block ∷ begun) ls → AreWalked [] begun (l ∷ ls)
  one_item begun l ls is_due said rest = record {
    blocks = l.block ∷ rest.blocks;
    walks = (refl, said, subst (λ bs. WalksOf (bs ++ rest.blocks) ls) (append-nil (opened_by l)) rest.walks);
    only = (is_due.0, rest.only);
    fresh = (is_due.1, each_weaker (λ b. ¬ (IsOneOf (l.block ∷ begun) b)) (λ b. ¬ (IsOneOf begun b)) (λ b never is. never (inr is)) rest.blocks rest.fresh);
    all = each_weaker (λ b. IsOneOf (l.block ∷ begun) b ⊎ IsOneOf rest.blocks b) (λ b. IsOneOf begun b ⊎ IsOneOf (l.block ∷ rest.blocks) b) moved (items window) rest.all;
    once = ((λ is. one_has (λ b. ¬ (IsOneOf (l.block ∷ begun) b)) rest.blocks l.block rest.fresh is (inl refl)), rest.once);
  }
    where
      moved : (b : Block) → IsOneOf (l.block ∷ begun) b ⊎ IsOneOf rest.blocks b → IsOneOf begun b ⊎ IsOneOf (l.block ∷ rest.blocks) b
      moved b (inl (inl e)) = inr (inl e)
      moved b (inl (inr is)) = inl is
      moved b (inr is) = inr (inr is)

  one_child : (b : Block) (due begun : List Block) (l : Line) (ls : List Line) → l.block ≡ b → IsSaid costs window limit l
      → AreWalked (opened_by l ++ due) begun ls → AreWalked (b ∷ due) begun (l ∷ ls)
  one_child b due begun l ls same said rest = record {
    blocks = rest.blocks;
    walks = (same, said, subst (λ bs. WalksOf bs ls) (append_assoc (opened_by l) due rest.blocks) rest.walks);
    only = rest.only;
    fresh = rest.fresh;
    all = rest.all;
    once = rest.once;
  }

  walked : (due begun : List Block) (ls : List Line) → AreGood costs window limit due begun ls → AreWalked due begun ls
  walked due begun [] over = at_end due begun over
  walked [] begun (l ∷ ls) good = one_item begun l ls good.0 good.1 (walked (opened_by l ++ []) (l.block ∷ begun) ls good.2)
  walked (b ∷ due) begun (l ∷ ls) good = one_child b due begun l ls good.0 good.1 (walked (opened_by l ++ due) begun ls good.2)

  pub good_are_walks : (ls : List Line) → AreGood costs window limit [] [] ls
      → (blocks : List Block) × AreEachOnce (items window) blocks × AreWalks costs window limit blocks ls
  good_are_walks ls good =
      let is = walked [] [] ls good in
      (is.blocks, record { only = is.only; all = each_weaker (λ b. IsOneOf [] b ⊎ IsOneOf is.blocks b) (IsOneOf is.blocks) (λ b has. ⊎_elim (λ none. absurd none) (λ one. one) has) (items window) is.all; once = is.once }, is.walks)

  -- the other way round
  fresh_still : (block b : Block) (begun bs : List Block) → block ≡ b → ¬ (IsOneOf bs b) → AllByRecursion (λ c. ¬ (IsOneOf begun c)) bs
      → AllByRecursion (λ c. ¬ (IsOneOf (block ∷ begun) c)) bs
  fresh_still block b begun [] same never fresh = tt
  fresh_still block b begun (c ∷ cs) same never fresh =
      ((λ is. ⊎_elim (λ e. never (inl (sym e ∙ same))) fresh.0 is), fresh_still block b begun cs same (λ is. never (inr is)) fresh.1)

  good_from : (ls : List Line) (due blocks begun : List Block) → AreWalks costs window limit (due ++ blocks) ls → AllByRecursion (IsOneOf (items window)) blocks
      → AllByRecursion (λ b. ¬ (IsOneOf begun b)) blocks → NoneTwice blocks → AllByRecursion (λ b. IsOneOf begun b ⊎ IsOneOf blocks b) (items window)
      → AreGood costs window limit due begun ls
  good_from [] [] [] begun walks only fresh once all =
      (refl, each_weaker (λ b. IsOneOf begun b ⊎ IsOneOf [] b) (IsOneOf begun) (λ b has. ⊎_elim (λ one. one) (λ none. absurd none) has) (items window) all)
  good_from [] [] (b ∷ bs) begun walks only fresh once all = absurd walks
  good_from [] (d ∷ due) blocks begun walks only fresh once all = absurd walks
  good_from (l ∷ ls) [] [] begun walks only fresh once all = absurd walks
  good_from (l ∷ ls) [] (b ∷ bs) begun walks only fresh once all = (
    (subst (IsOneOf (items window)) (sym walks.0) only.0, subst (λ c. ¬ (IsOneOf begun c)) (sym walks.0) fresh.0),
    walks.1,
    good_from ls (opened_by l ++ []) bs (l.block ∷ begun) (subst (λ os. WalksOf (os ++ bs) ls) (sym (append-nil (opened_by l))) walks.2) only.1
        (fresh_still l.block b begun bs walks.0 once.0 fresh.1) once.1
        (each_weaker (λ c. IsOneOf begun c ⊎ IsOneOf (b ∷ bs) c) (λ c. IsOneOf (l.block ∷ begun) c ⊎ IsOneOf bs c) moved (items window) all),
  )
    where
      moved : (c : Block) → IsOneOf begun c ⊎ IsOneOf (b ∷ bs) c → IsOneOf (l.block ∷ begun) c ⊎ IsOneOf bs c
      moved c (inl is) = inl (inr is)
      moved c (inr (inl e)) = inl (inl (walks.0 ∙ e))
      moved c (inr (inr is)) = inr is
  good_from (l ∷ ls) (d ∷ due) blocks begun walks only fresh once all =
      (walks.0, walks.1, good_from ls (opened_by l ++ due) blocks begun (subst (λ bs. WalksOf bs ls) (sym (append_assoc (opened_by l) due blocks)) walks.2) only fresh once all)

  none_begun : (bs : List Block) → AllByRecursion (λ b. ¬ (IsOneOf [] b)) bs
  none_begun [] = tt
  none_begun (b ∷ bs) = ((λ is. is), none_begun bs)

  pub walks_are_good : (blocks : List Block) (ls : List Line) → AreEachOnce (items window) blocks → AreWalks costs window limit blocks ls
      → AreGood costs window limit [] [] ls
  walks_are_good blocks ls each walks =
      good_from ls [] blocks [] walks each.only (none_begun blocks) each.once
      (each_weaker (IsOneOf blocks) (λ b. IsOneOf [] b ⊎ IsOneOf blocks b) (λ b is. inr is) (items window) each.all)

-- the items of a window are its items, each once
pub themselves : (cs bs : List Block) → ((b : Block) → IsOneOf bs b → IsOneOf cs b) → AllByRecursion (IsOneOf cs) bs
themselves cs [] to = tt
themselves cs (b ∷ bs) to = (to b (inl refl), themselves cs bs (λ c is. to c (inr is)))

none_twice : (bs : List Block) → ((b : Block) → IsOneOf bs b → IsIn b (first_of b)) → ((b : Block) → IsOneOf bs b → IsInOne bs (first_of b)) → NoneTwice bs
none_twice [] in_it one = tt
none_twice (c ∷ cs) in_it one = (
  (λ again. ⊎_elim (λ here. not_in cs c (first_of c) here.1 again (in_it c (inl refl))) (λ other. other.0 (in_it c (inl refl))) (one c (inl refl))),
  none_twice cs (λ b is. in_it b (inr is))
      (λ b is. ⊎_elim (λ here. absurd (not_in cs b (first_of b) here.1 is (in_it b (inr is)))) (λ rest. rest.1) (one b (inr is))),
)

module _ (costs : Costs) (window : Window) (ceiling : ℕ) (facts : Facts costs window ceiling) where
  block_of : (b : Block) → IsOneOf (items window) b → IsBlock window b
  block_of b is = one_has (IsBlock window) (items window) b facts.items_are is

  first_in : (b : Block) → IsBlock window b → IsIn b (first_of b)
  first_in b block = record { announced = refl; second = refl; not_before = omega arith; before_end = block.not_empty }

  pub items_each_once : AreEachOnce (items window) (items window)
  items_each_once = record {
    only = themselves (items window) (items window) (λ b is. is);
    all = themselves (items window) (items window) (λ b is. is);
    once = none_twice (items window) (λ b is. first_in b (block_of b is))
        (λ b is. let block = block_of b is in facts.one_item (first_of b) block.not_before (omega (arith, block.not_empty, block.ends)) block.second);
  }
