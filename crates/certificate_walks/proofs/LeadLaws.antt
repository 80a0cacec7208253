-- Walks so far: a line more, and what any walks of the same blocks begin with.
use Rattle.std.proofs.Common.{◌≡◌, ℕ, List, [], ◌∷◌, ◌++◌, Option, refl, sym, ◌∙◌, subst}
use Rattle.signal_base.specs.declared.window.Window.{Window}
use Rattle.definitions.specs.declared.block.Block.{Block}
use Rattle.definitions.specs.heard.Costs.{Costs}
use Rattle.definitions.specs.answers.Blocks.{IsBound}
use Rattle.certificates.specs.declared.certificate.Line.{Line}
use Rattle.certificates.specs.Validity.{AreTight, AreWalks, IsSaid, KeepsTo, opened_by}
use Rattle.certificates.proofs.TightWalkLaws.{same_line}
use Rattle.certificate_walks.specs.Walking.{LeadTo}

module _ (costs : Costs) (window : Window) (limit : ℕ) where
  abbrev Leads : List Block → List Line → List Block → Type 0
  Leads = LeadTo costs window limit

  -- a line more
  pub one_more : (blocks : List Block) (ls : List Line) (b : Block) (due : List Block) (l : Line) → Leads blocks ls (b ∷ due) → l.block ≡ b
      → IsSaid costs window limit l → KeepsTo limit l.kind l.block l.bound → Leads blocks (ls ++ l ∷ []) (opened_by l ++ due)
  one_more blocks [] b due l lead same said keeps = subst (λ (bs : List Block). Leads bs (l ∷ []) (opened_by l ++ due)) (sym lead) (same, said, keeps, refl)
  one_more [] (m ∷ ms) b due l lead same said keeps = absurd lead
  one_more (c ∷ cs) (m ∷ ms) b due l lead same said keeps =
      (lead.0, lead.1, lead.2, one_more (opened_by m ++ cs) ms b due l lead.3 same said keeps)

  -- nothing is due any more
  pub all_walked : (blocks : List Block) (ls : List Line) → Leads blocks ls [] → AreWalks costs window limit blocks ls
  all_walked blocks [] lead = subst (λ (bs : List Block). AreWalks costs window limit bs []) (sym lead) tt
  all_walked [] (l ∷ ls) lead = absurd lead
  all_walked (b ∷ bs) (l ∷ ls) lead = (lead.0, lead.1, all_walked (opened_by l ++ bs) ls lead.3)

  pub all_tight : (blocks : List Block) (ls : List Line) (due : List Block) → Leads blocks ls due → AreTight limit ls
  all_tight blocks [] due lead = tt
  all_tight [] (l ∷ ls) due lead = absurd lead
  all_tight (b ∷ bs) (l ∷ ls) due lead = (lead.2, all_tight (opened_by l ++ bs) ls due lead.3)

  -- Whatever walks there are of these blocks, none of them needless, they begin with these lines.
  module _ (one_bound : (b : Block) (m n : Option ℕ) → IsBound costs window b m → IsBound costs window b n → m ≡ n) where
    pub begin_with : (blocks : List Block) (ls : List Line) (due : List Block) (whole : List Line) → Leads blocks ls due → AreWalks costs window limit blocks whole
        → AreTight limit whole → (rest : List Line) × (ls ++ rest ≡ whole)
    begin_with blocks [] due whole lead walks tight = (whole, refl)
    begin_with [] (l ∷ ls) due whole lead walks tight = absurd lead
    begin_with (b ∷ bs) (l ∷ ls) due [] lead walks tight = absurd walks
    begin_with (b ∷ bs) (l ∷ ls) due (m ∷ ms) lead walks tight =
        let first = same_line costs window limit one_bound l m (lead.0 ∙ sym walks.0) lead.1 lead.2 walks.1 tight.0 in
        let later = begin_with (opened_by l ++ bs) ls due ms lead.3 (subst (λ (k : Line). AreWalks costs window limit (opened_by k ++ bs) ms) (sym first) walks.2) tight.1 in
        (later.0, λ i. first i ∷ later.1 i)
