-- Walks of all items leave nothing out: each legal sequence lies in a leaf, or in a block that was pruned.
use Rattle.std.proofs.Common.{◌≡◌, ℕ, ◌⊎◌, inl, inr, List, [], ◌∷◌, ◌++◌, refl, sym, subst, ⊎_elim}
use Rattle.std.specs.List.{AllByRecursion, Contains}
use Rattle.std.proofs.lemmas.List.Elements.{Contains-append_left, Contains-append_right, Contains-push}
use Rattle.signal_base.specs.declared.limits.TheConstants.{GREATEST_COST}
use Rattle.signal_base.specs.declared.window.Window.{Window}
use Rattle.definitions.specs.declared.sequence.Sequence.{Sequence}
use Rattle.definitions.specs.declared.block.Block.{Block}
use Rattle.definitions.specs.sequences.Walks.{IsLegal}
use Rattle.definitions.specs.heard.Costs.{Costs}
use Rattle.definitions.specs.answers.Blocks.{IsBlock, IsBound, IsIn, children, items}
use Rattle.block_visits.specs.Facts.{Facts}
use Rattle.block_visits.proofs.Covering.{IsInSome, all_then, in_some_from_one, in_some_then, then_in_some}
use Rattle.certificates.specs.declared.certificate.Kind.{Kind}
use Rattle.certificates.specs.declared.certificate.Kind.TheVariants.{Opened, Pruned, Empty, Leaf}
use Rattle.certificates.specs.declared.certificate.Line.{Line}
use Rattle.certificates.specs.Certificates.{IsShaped}
use Rattle.certificates.specs.Validity.{AreEachOnce, AreWalks, opened_as, opened_by}
use Rattle.certificates.proofs.FoundLaws.{each_has, in_one_item, in_some_of}
use Rattle.certificates.proofs.WalkLaws.{opened_blocks}

module _ (costs : Costs) (window : Window) (facts : Facts costs window GREATEST_COST) (limit : ℕ) (q : Sequence) (legal : IsLegal window q) where
  -- it lies in the block of one of these lines, which is a leaf or was pruned
  abbrev pub LiesIn : List Line → Type 0
  LiesIn ls = (l : Line) × Contains ls l × IsIn l.block q × ((l.kind ≡ Leaf) ⊎ (l.kind ≡ Pruned))

  first : (l : Line) (ls : List Line) → IsIn l.block q → (l.kind ≡ Leaf) ⊎ (l.kind ≡ Pruned) → LiesIn (l ∷ ls)
  first l ls in_it kind = (l, Contains-append_left (l ∷ []) ls l (Contains-push [] l), in_it, kind)

  later : (l : Line) (ls : List Line) → LiesIn ls → LiesIn (l ∷ ls)
  later l ls lies = (lies.0, Contains-append_right (l ∷ []) ls lies.0 lies.1, lies.2, lies.3)

  -- where it is in the block of a line, what becomes of it goes by the line's kind
  by_kind : (kind : Kind) (l : Line) (bs : List Block) (ls : List Line) → l.kind ≡ kind → IsBlock window l.block → IsShaped kind l.block.span l.bound
      → IsBound costs window l.block l.bound → IsIn l.block q → (IsInSome (opened_as kind l.block ++ bs) q → LiesIn ls) → LiesIn (l ∷ ls)
  by_kind Opened l bs ls is block shape bound in_it go_on =
      let child = in_some_from_one (children l.block) q (facts.one l.block q block shape.0 in_it) in
      later l ls (go_on (in_some_then (children l.block) bs q child))
  by_kind Pruned l bs ls is block shape bound in_it go_on = first l ls in_it (inr is)
  by_kind Empty l bs ls is block shape bound in_it go_on = absurd (facts.none l.block q block (subst (IsBound costs window l.block) shape bound) in_it legal)
  by_kind Leaf l bs ls is block shape bound in_it go_on = first l ls in_it (inl is)

  lies : (bs : List Block) (ls : List Line) → AllByRecursion (IsBlock window) bs → AreWalks costs window limit bs ls → IsInSome bs q → LiesIn ls
  lies [] ls blocks walks is = absurd is
  lies (b ∷ bs) [] blocks walks is = absurd walks
  lies (b ∷ bs) (l ∷ ls) blocks walks is =
      let block : IsBlock window l.block = subst (IsBlock window) (sym walks.0) blocks.0 in
      let all = all_then (IsBlock window) (opened_by l) bs (opened_blocks costs window facts limit l.kind l.block block) blocks.1 in
      let rest : IsInSome (opened_by l ++ bs) q → LiesIn ls = lies (opened_by l ++ bs) ls all walks.2 in
      let here : IsIn b q → LiesIn (l ∷ ls) =
      λ in_it. by_kind l.kind l bs ls refl block walks.1.shape walks.1.bound (subst (λ c. IsIn c q) (sym walks.0) in_it) rest in
      ⊎_elim here (λ more. later l ls (rest (then_in_some (opened_by l) bs q more))) is

  pub lies_in_walks : (blocks : List Block) (ls : List Line) → AreEachOnce (items window) blocks → AreWalks costs window limit blocks ls → LiesIn ls
  lies_in_walks blocks ls each walks =
      lies blocks ls (each_has (IsBlock window) (items window) blocks facts.items_are each.only) walks
      (in_some_of (items window) blocks q each.all (in_some_from_one (items window) q (in_one_item costs window facts q legal)))
