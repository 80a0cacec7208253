-- The certificate that is owed for a window: there is one, it is valid, and what it prunes isn't cheaper than the answer.
use Rattle.std.proofs.Common.{◌≡◌, ℕ, zero, suc, ◌-◌, ◌%◌, ◌^◌, ◌<◌, ◌≤◌, Bool, true, false, if◌then◌else◌, List, [], ◌∷◌, ◌++◌, length, flat_map, replicate, nat_lt, Option, Some, None, refl, sym, ap, ◌∙◌, subst, arith, append-nil}
use Rattle.std.specs.List.{AllByRecursion, Contains}
use Rattle.signal_base.specs.declared.limits.TheConstants.{GREATEST_COST}
use Rattle.signal_base.specs.declared.window.Window.{Window}
use Rattle.definitions.specs.declared.answer.Answer.TheVariants.{Decided, Undecided}
use Rattle.definitions.specs.declared.block.Block.{Block}
use Rattle.definitions.specs.heard.Costs.{Costs, sequence_cost}
use Rattle.definitions.specs.sequences.Keys.{cost_of, index_end, sequence_of}
use Rattle.definitions.specs.sequences.Windows.{IsWindow}
use Rattle.definitions.specs.answers.Blocks.{IsBlock, IsBound, children, items}
use Rattle.definitions.specs.answers.FirstTwo.{AreLeastTwo, IsWindowKey, answer_from}
use Rattle.definitions.proofs.AnswerLaws.{walkable_sequence}
use Rattle.definitions.proofs.BoundExistLaws.{a_bound}
use Rattle.definitions.proofs.BoundLaws.{bounds_one}
use Rattle.definitions.proofs.KeyLaws.{cost_of-key_of, key_index}
use Rattle.block_visits.specs.Facts.{Facts}
use Rattle.block_visits.proofs.Covering.{all_then}
use Rattle.race_words.specs.Keys.{two_least}
use Rattle.certificates.specs.declared.certificate.Kind.{Kind}
use Rattle.certificates.specs.declared.certificate.Kind.TheVariants.{Opened, Pruned, Empty, Leaf}
use Rattle.certificates.specs.declared.certificate.Line.{Line}
use Rattle.certificates.specs.declared.limits.TheConstants.{MOST_PARTS, MOST_STEPS}
use Rattle.certificates.specs.Certificates.{CanBeNamed, Certificate, IsLine, IsShaped, lines_of}
use Rattle.certificates.specs.Judged.{IsGoodCertificate}
use Rattle.certificates.specs.Texts.{certificate_text}
use Rattle.certificates.specs.Validity.{AreTight, AreWalks, IsValid, KeepsTo, Show, leaf_keys, limit_named, opened_as, opened_by}
use Rattle.certificates.proofs.FoundLaws.{least_two_once, walks_show}
use Rattle.certificates.proofs.GoodLaws.{items_each_once}
use Rattle.certificates.proofs.TightLaws.{ceiling_below, first_not_above, keeps_to_leaves, second_not_above}
use Rattle.certificates.proofs.TightWalkLaws.{one_walks, tight_walks}
use Rattle.due.specs.CertificateRules.{IsCertificateFor, IsNotCheaper, certificate_with, parts_for}
use Rattle.due.proofs.CertificateSizeLaws.{certificate_fits}
use Rattle.due.proofs.KeyExistLaws.{window_keys}

-- all lines stand in the first part
none_behind : (n : ℕ) → flat_map (λ (part : List Line). part) (replicate n []) ≡ []
none_behind zero = refl
none_behind (suc n) = none_behind n

abbrev none_of : ℕ → List (List Line)
none_of n = replicate n []

none_counted : (n : ℕ) → length (none_of n) ≡ n
none_counted zero = refl
none_counted (suc n) = ap suc (none_counted n)

pub lines_are : (workers : ℕ) (ls : List Line) → flat_map (λ (part : List Line). part) (parts_for workers ls) ≡ ls
lines_are workers ls = ap (λ (ms : List Line). ls ++ ms) (none_behind (workers - 1)) ∙ append-nil ls

-- there is one
module _ (costs : Costs) (window : Window) (ceiling workers : ℕ) where
  abbrev IsOwed : Certificate → Type 0
  IsOwed = IsCertificateFor costs window ceiling workers

  same_lines : (s t : Option ℕ) (ls ms : List Line) → s ≡ t → AreWalks costs window (limit_named ceiling s) (items window) ls → AreTight (limit_named ceiling s) ls
      → AreWalks costs window (limit_named ceiling t) (items window) ms → AreTight (limit_named ceiling t) ms → ls ≡ ms
  same_lines s t ls ms same walks tight also too =
      one_walks costs window (limit_named ceiling t) (λ b. bounds_one costs window b) ls ms (items window)
      (subst (λ r. AreWalks costs window (limit_named ceiling r) (items window) ls) same walks) (subst (λ r. AreTight (limit_named ceiling r) ls) same tight) also too

  pub one_certificate : (c d : Certificate) → IsOwed c → IsOwed d → c ≡ d
  one_certificate c d h k =
      let keys = least_two_once (IsWindowKey window costs ceiling) h.first h.second k.first k.second h.named k.named in
      let lines = same_lines h.second k.second h.lines k.lines keys.1 h.walks h.tight k.walks k.tight in
      h.is ∙ ((λ i. certificate_with window ceiling workers (keys.0 i) (keys.1 i) (lines i)) ∙ sym k.is)

  module _ (facts : Facts costs window 0) (small : (b : Block) (n : ℕ) → IsBound costs window b (Some n) → n ≤ GREATEST_COST) where
    pub some_certificate : (c : Certificate) × IsOwed c
    some_certificate =
        let keys = window_keys window costs ceiling facts.century in
        let found = tight_walks costs window (limit_named ceiling keys.1) facts (λ b. a_bound costs window b) (λ b n block bound. small b n bound) (items window) facts.items_are in (
          certificate_with window ceiling workers keys.0 keys.1 found.0,
          record { first = keys.0; second = keys.1; lines = found.0; named = keys.2; walks = found.1; tight = found.2; is = refl },
        )

-- its lines can be written
fits : (s : ℕ) (announced : Bool) → s < (if announced then 61 else 60) → s ≤ 60
fits s true lt = omega (arith, lt)
fits s false lt = omega (arith, lt)

module _ (costs : Costs) (window : Window) (facts : Facts costs window 0) (limit : ℕ) where
  line_fits : (l : Line) → IsBlock window l.block → IsShaped l.kind l.block.span l.bound → IsLine l
  line_fits l block shape = record {
    second = fits l.block.second l.block.announced block.second;
    not_empty = block.not_empty;
    century = omega (arith, block.ends, facts.century);
    shape = shape;
  }

  opened_blocks : (kind : Kind) (b : Block) (bs : List Block) → IsBlock window b → AllByRecursion (IsBlock window) bs → AllByRecursion (IsBlock window) (opened_as kind b ++ bs)
  opened_blocks Opened b bs block all = all_then (IsBlock window) (children b) bs (facts.blocks b block) all
  opened_blocks Pruned b bs block all = all
  opened_blocks Empty b bs block all = all
  opened_blocks Leaf b bs block all = all

  lines_fit : (ls : List Line) (bs : List Block) → AllByRecursion (IsBlock window) bs → AreWalks costs window limit bs ls → AllByRecursion IsLine ls
  lines_fit [] bs all walks = tt
  lines_fit (l ∷ ls) [] all walks = absurd walks
  lines_fit (l ∷ ls) (b ∷ bs) all walks =
      let block : IsBlock window l.block = subst (IsBlock window) (sym walks.0) all.0 in
      (line_fits l block walks.1.shape, lines_fit ls (opened_by l ++ bs) (opened_blocks l.kind l.block bs block all.1) walks.2)

-- the costs that the named keys have
after : (k l ceiling n : ℕ) → cost_of k ≤ n → cost_of l ≤ n → (less : Bool)
    → IsNotCheaper ceiling n (if less then Decided (cost_of k) (sequence_of k) (Some (cost_of l)) else Undecided (cost_of k) (sequence_of k) (sequence_of l))
after k l ceiling n one two true = (one, two)
after k l ceiling n one two false = one

named_cost : (P : ℕ → Type 0) (first second : Option ℕ) (ceiling n : ℕ) → AreLeastTwo P first second → ((k : ℕ) → first ≡ Some k → cost_of k ≤ n)
    → ((k : ℕ) → second ≡ Some k → cost_of k ≤ n) → (second ≡ None → ceiling < n) → IsNotCheaper ceiling n (answer_from first second)
named_cost P None None ceiling n least one two beyond = beyond refl
named_cost P None (Some l) ceiling n least one two beyond = absurd least
named_cost P (Some k) None ceiling n least one two beyond = (one k refl, beyond refl)
named_cost P (Some k) (Some l) ceiling n least one two beyond = after k l ceiling n (one k refl) (two l refl) (nat_lt (cost_of k) (cost_of l))

-- it is valid
module _ (costs : Costs) (window : Window) (ceiling workers : ℕ) (facts : (n : ℕ) → Facts costs window n) (in_range : IsWindow window) (low : ceiling ≤ GREATEST_COST)
    (some_worker : 1 ≤ workers) (few_workers : workers ≤ MOST_PARTS) where
  can_be_named : (k : ℕ) → IsWindowKey window costs ceiling k → (k % 2 ^ 33 < index_end) × (cost_of k ≤ GREATEST_COST)
  can_be_named k is =
      let q = is.0 in
      let sequence = walkable_sequence window q in_range.century is.1.0.0 in (
        subst (λ m. m % 2 ^ 33 < index_end) is.2 (key_index (sequence_cost costs window q) q sequence),
        subst (λ m. cost_of m ≤ GREATEST_COST) is.2 (omega (arith, cost_of-key_of (sequence_cost costs window q) q sequence, is.1.1, low)),
      )

  both_named : (f s : Option ℕ) → AreLeastTwo (IsWindowKey window costs ceiling) f s → CanBeNamed f × CanBeNamed s
  both_named None None least = (tt, tt)
  both_named None (Some l) least = absurd least
  both_named (Some k) None least = (can_be_named k least.0, tt)
  both_named (Some k) (Some l) least = (can_be_named k least.0, can_be_named l least.1)

  with_lines : (first second : Option ℕ) (ls : List Line) → AreLeastTwo (IsWindowKey window costs ceiling) first second
      → AreWalks costs window (limit_named ceiling second) (items window) ls → IsValid costs window ceiling (certificate_with window ceiling workers first second ls)
  with_lines first second ls named walks =
      let can = both_named first second named in
      let back = sym (lines_are workers ls) in
      record {
        spelled = record {
          window = in_range;
          ceiling = low;
          first = can.0;
          second = can.1;
          some_part = omega arith;
          few_parts = omega (arith, none_counted (workers - 1), some_worker, few_workers);
          lines = subst (AllByRecursion IsLine) back (lines_fit costs window (facts 0) (limit_named ceiling second) ls (items window) (facts 0).items_are walks);
        };
        window_is = refl;
        ceiling_is = refl;
        shows = subst (Show costs window ceiling first second) back
            (walks_show costs window ceiling (facts GREATEST_COST) (facts ceiling) low first second (items window) ls named (items_each_once costs window 0 (facts 0)) walks);
      }

  module _ (c : Certificate) (owed : IsCertificateFor costs window ceiling workers c) where
    pub is_valid : IsValid costs window ceiling c
    is_valid = subst (IsValid costs window ceiling) (sym owed.is) (with_lines owed.first owed.second owed.lines owed.named owed.walks)

    first_is : c.head.first ≡ owed.first
    first_is = ap (λ (d : Certificate). d.head.first) owed.is

    second_is : c.head.second ≡ owed.second
    second_is = ap (λ (d : Certificate). d.head.second) owed.is

    pub named : AreLeastTwo (IsWindowKey window costs ceiling) c.head.first c.head.second
    named =
        subst (λ f. AreLeastTwo (IsWindowKey window costs ceiling) f c.head.second) (sym first_is)
        (subst (λ s. AreLeastTwo (IsWindowKey window costs ceiling) owed.first s) (sym second_is) owed.named)

    -- so its text is certified, if it isn't too long
    pub is_good : length (lines_of c) ≤ MOST_STEPS → IsGoodCertificate costs window ceiling (certificate_text c) c.head.first c.head.second
    is_good few = record {
      certificate = c;
      few = certificate_fits c is_valid.spelled few;
      text = record { spelled = is_valid.spelled; few = few; same = refl };
      valid = is_valid;
      first_is = refl;
      second_is = refl;
    }

    -- what is pruned isn't cheaper than what is named
    pub not_cheaper : (l : Line) (n : ℕ) → Contains (lines_of c) l → l.kind ≡ Pruned → l.bound ≡ Some n → IsNotCheaper ceiling n (answer_from c.head.first c.head.second)
    not_cheaper l n has kind bound =
        named_cost (IsWindowKey window costs ceiling) c.head.first c.head.second ceiling n named
        (first_not_above costs window ceiling (facts GREATEST_COST) (facts ceiling) c is_valid l n has kind bound)
        (second_not_above costs window ceiling (facts GREATEST_COST) (facts ceiling) c is_valid l n has kind bound)
        (ceiling_below costs window ceiling (facts GREATEST_COST) (facts ceiling) c is_valid l n has kind bound)

    -- no block is opened or reached whose key is above the second-least of the leaves before it
    all_lines : lines_of c ≡ owed.lines
    all_lines = ap lines_of owed.is ∙ lines_are workers owed.lines

    pub keeps : (front back : List Line) (l : Line) → lines_of c ≡ front ++ l ∷ back → KeepsTo (two_least (leaf_keys front)).second l.kind l.block l.bound
    keeps front back l parts =
        let here : owed.lines ≡ front ++ l ∷ back = sym all_lines ∙ parts in
        let shows : Show costs window ceiling owed.first owed.second owed.lines =
        walks_show costs window ceiling (facts GREATEST_COST) (facts ceiling) low owed.first owed.second (items window) owed.lines owed.named (items_each_once costs window 0 (facts 0)) owed.walks in
        keeps_to_leaves costs window ceiling (facts GREATEST_COST) (facts ceiling) low owed.first owed.second front back l
        (subst (Show costs window ceiling owed.first owed.second) here shows) (subst (AreTight (limit_named ceiling owed.second)) here owed.tight)
