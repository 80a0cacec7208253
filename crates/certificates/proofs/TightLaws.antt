-- Where each line keeps to the limit of the named keys, it keeps to what the leaves before it tell. What was pruned is not
-- cheaper than what is named.
use Rattle.std.proofs.Common.{◌≡◌, ℕ, ◌+◌, ◌<◌, ◌≤◌, ◌⊎◌, inl, inr, ◌==◌, List, [], ◌∷◌, ◌++◌, Option, Some, None, ap, ◌∙◌, subst, ⊎_elim, arith}
use Rattle.std.specs.List.{AllByRecursion, Contains}
use Rattle.std.proofs.lemmas.Bool.{cases_lt}
use Rattle.std.proofs.lemmas.List.Concat.{flat_map-append}
use Rattle.std.proofs.lemmas.List.Elements.{All-contains, All-from_recursion}
use Rattle.std.proofs.lemmas.List.Sums.{sum_by-append}
use Rattle.signal_base.specs.declared.limits.TheConstants.{GREATEST_COST}
use Rattle.signal_base.specs.declared.window.Window.{Window}
use Rattle.definitions.specs.declared.block.Block.{Block}
use Rattle.definitions.specs.sequences.Keys.{ceiling_key, cost_of}
use Rattle.definitions.specs.sequences.Walks.{IsSequence}
use Rattle.definitions.specs.heard.Costs.{Costs}
use Rattle.definitions.specs.answers.Blocks.{block_key, first_of}
use Rattle.definitions.specs.answers.FirstTwo.{AreLeastTwo, IsWindowKey}
use Rattle.definitions.proofs.KeyLaws.{cost_of-key_of, cost_of-le, index_bound}
use Rattle.race_words.specs.Keys.{no_key, two_least}
use Rattle.race_words.specs.Sound.{times}
use Rattle.block_visits.specs.Apart.{AreApart}
use Rattle.block_visits.specs.Facts.{Facts}
use Rattle.block_visits.proofs.Covering.{legal_is_sequence}
use Rattle.block_visits.proofs.Counting.{one_if}
use Rattle.block_visits.proofs.TwoLeast.{AreEnds, ends_are}
use Rattle.certificates.specs.declared.certificate.Kind.{Kind}
use Rattle.certificates.specs.declared.certificate.Kind.TheVariants.{Opened, Pruned, Empty, Leaf}
use Rattle.certificates.specs.declared.certificate.Line.{Line}
use Rattle.certificates.specs.Certificates.{Certificate, IsLine, lines_of}
use Rattle.certificates.specs.Validity.{AreTight, AreWalks, IsAbove, IsSaid, IsValid, KeepsTo, Show, key_or_none, leaf_as, leaf_key, leaf_keys, limit_named, opened_by}
use Rattle.certificates.proofs.ListLaws.{all_first, all_middle, all_with}
use Rattle.certificates.proofs.FoundLaws.{keys_below, leaves_admitted, leaves_apart, limit_low, shown_are_first, within_ceiling}

-- what keeps to a limit keeps to one that isn't less
keeps_wider : (m n : ℕ) (kind : Kind) (b : Block) (bound : Option ℕ) → m ≤ n → KeepsTo m kind b bound → KeepsTo n kind b bound
keeps_wider m n kind b None le keeps = tt
keeps_wider m n Opened b (Some k) le keeps = omega (arith, le, keeps)
keeps_wider m n Pruned b (Some k) le keeps = tt
keeps_wider m n Empty b (Some k) le keeps = tt
keeps_wider m n Leaf b (Some k) le keeps = omega (arith, le, keeps)

-- the leaves' keys keep to it
one_leaf : (limit : ℕ) (kind : Kind) (b : Block) (bound : Option ℕ) (ks : List ℕ) → KeepsTo limit kind b bound → AllByRecursion (λ k. k ≤ limit) ks
    → AllByRecursion (λ k. k ≤ limit) (leaf_as kind b bound ++ ks)
one_leaf limit Opened b bound ks keeps all = all
one_leaf limit Pruned b bound ks keeps all = all
one_leaf limit Empty b bound ks keeps all = all
one_leaf limit Leaf b None ks keeps all = all
one_leaf limit Leaf b (Some n) ks keeps all = (keeps, all)

leaves_keep : (limit : ℕ) (ls : List Line) → AreTight limit ls → AllByRecursion (λ k. k ≤ limit) (leaf_keys ls)
leaves_keep limit [] tight = tt
leaves_keep limit (l ∷ ls) tight = one_leaf limit l.kind l.block l.bound (leaf_keys ls) tight.0 (leaves_keep limit ls tight.1)

module _ (costs : Costs) (window : Window) (ceiling : ℕ) (facts : Facts costs window GREATEST_COST) (own : Facts costs window ceiling) (small : ceiling ≤ GREATEST_COST)
    (first second : Option ℕ) where
  abbrev P : ℕ → Type 0
  P = IsWindowKey window costs ceiling

  abbrev the_limit : ℕ
  the_limit = limit_named ceiling second

  module _ (front back : List Line) (l : Line) (shows : Show costs window ceiling first second (front ++ l ∷ back)) (tight : AreTight (limit_named ceiling second) (front ++ l ∷ back)) where
    abbrev all_lines : List Line
    all_lines = front ++ l ∷ back

    abbrev before : List ℕ
    before = leaf_keys front

    parted : leaf_keys all_lines ≡ before ++ leaf_keys (l ∷ back)
    parted = flat_map-append leaf_key front (l ∷ back)

    before_admitted : AllByRecursion P before
    before_admitted =
        all_with (IsWindowKey window costs GREATEST_COST) (λ k. k ≤ limit_named ceiling second) P
        (λ k is le. within_ceiling costs window ceiling facts own small the_limit (limit_low costs window ceiling facts own small second) shows.blocks shows.each all_lines shows.walks k is (omega (arith, le)))
        before
        (all_first (IsWindowKey window costs GREATEST_COST) before (leaf_keys (l ∷ back))
        (subst (AllByRecursion (IsWindowKey window costs GREATEST_COST)) parted
        (leaves_admitted costs window ceiling facts own small the_limit (limit_low costs window ceiling facts own small second) shows.blocks shows.each all_lines shows.walks)))
        (leaves_keep the_limit front (all_first (λ l. KeepsTo (limit_named ceiling second) l.kind l.block l.bound) front (l ∷ back) tight))

    before_apart : AreApart before
    before_apart k =
        let all : times k (leaf_keys all_lines) ≤ 1 =
        leaves_apart costs window ceiling facts own small the_limit (limit_low costs window ceiling facts own small second) shows.blocks shows.each all_lines shows.walks k in
        let parts : times k (leaf_keys all_lines) ≡ times k before + times k (leaf_keys (l ∷ back)) =
        ap (times k) parted ∙ sum_by-append (λ y. one_if (y == k)) before (leaf_keys (l ∷ back)) in
        omega (arith, all, parts)

    below : (k : ℕ) → P k → k ≤ ceiling_key ceiling
    below k is = keys_below costs window ceiling facts own small the_limit (limit_low costs window ceiling facts own small second) shows.blocks shows.each all_lines shows.walks k is

    weaker : (ks : List ℕ) → AllByRecursion P ks → AllByRecursion (λ k. k ≤ no_key) ks
    weaker [] all = tt
    weaker (k ∷ ks) all = (omega (arith, below k all.0, small), weaker ks all.1)

    are : AreEnds before (two_least before)
    are = ends_are before (weaker before before_admitted)

    -- of two admitted keys the greater isn't below the second of all
    second_le : (f s : Option ℕ) → AreLeastTwo P f s → (m n : ℕ) → P m → P n → m < n → key_or_none s ≤ n
    second_le None None none m n p q less = absurd (none m p)
    second_le None (Some s) never m n p q less = absurd never
    second_le (Some f) None one m n p q less = absurd (omega (arith, less, one.1 m p, one.1 n q))
    second_le (Some f) (Some s) two m n p q less =
        ⊎_elim (λ e. ⊎_elim (λ d. absurd (omega (arith, less, e, d))) (λ over. absurd (omega (arith, over, two.2, less, e))) (two.3 m p)) (λ over. over) (two.3 n q)

    limit_le : limit_named ceiling second ≤ (two_least before).second
    limit_le =
        ⊎_elim (λ none. omega (arith, none, limit_low costs window ceiling facts own small second))
        (λ has. ⊎_elim (λ none. omega (arith, none, are.order, limit_low costs window ceiling facts own small second))
        (λ also. by_order has also (cases_lt (two_least before).least (two_least before).second)) are.least)
        are.second
      where
        P_of : (k : ℕ) → Contains before k → P k
        P_of k has = All-contains P before k (All-from_recursion P before before_admitted) has

        by_order : Contains before (two_least before).second → Contains before (two_least before).least
            → ((two_least before).least < (two_least before).second) ⊎ ((two_least before).second ≤ (two_least before).least) → limit_named ceiling second ≤ (two_least before).second
        by_order has also (inl less) =
            let over = second_le first second (shown_are_first costs window ceiling facts own small first second all_lines shows) (two_least before).least (two_least before).second (P_of _ also) (P_of _ has) less in
            omega (arith, over)
        by_order has also (inr le) =
            let same : (two_least before).least ≡ (two_least before).second = omega (arith, le, are.order) in
            ⊎_elim (λ none. omega (arith, none, same, limit_low costs window ceiling facts own small second))
            (λ two. let one = before_apart (two_least before).least in absurd (omega (arith, one, two))) (are.twice same)

    pub keeps_to_leaves : KeepsTo (two_least (leaf_keys front)).second l.kind l.block l.bound
    keeps_to_leaves =
        keeps_wider (limit_named ceiling second) (two_least before).second l.kind l.block l.bound limit_le
        (all_middle (λ l. KeepsTo (limit_named ceiling second) l.kind l.block l.bound) front l back tight)

-- what the lines of walks say is so
all_said : (costs : Costs) (window : Window) (limit : ℕ) (bs : List Block) (ls : List Line) → AreWalks costs window limit bs ls → AllByRecursion (IsSaid costs window limit) ls
all_said costs window limit [] [] walks = tt
all_said costs window limit [] (l ∷ ls) walks = absurd walks
all_said costs window limit (b ∷ bs) [] walks = absurd walks
all_said costs window limit (b ∷ bs) (l ∷ ls) walks = (walks.1, all_said costs window limit (opened_by l ++ bs) ls walks.2)

line_sequence : (l : Line) → IsLine l → IsSequence (first_of l.block)
line_sequence l is = record { first_minute = omega (arith, is.not_empty, is.century); first_second = is.second }

over_limit : (limit : ℕ) (l : Line) (n : ℕ) → l.kind ≡ Pruned → l.bound ≡ Some n → IsAbove limit l.kind l.block l.bound → limit < block_key n l.block
over_limit limit l n kind bound above = subst (λ v. IsAbove limit Pruned l.block v) bound (subst (λ k. IsAbove limit k l.block l.bound) kind above)

module _ (costs : Costs) (window : Window) (ceiling : ℕ) (facts : Facts costs window GREATEST_COST) (own : Facts costs window ceiling) (c : Certificate) (valid : IsValid costs window ceiling c)
    (l : Line) (n : ℕ) (has : Contains (lines_of c) l) (kind : l.kind ≡ Pruned) (bound : l.bound ≡ Some n) where
  is_line : IsLine l
  is_line = All-contains IsLine (lines_of c) l (All-from_recursion IsLine (lines_of c) valid.spelled.lines) has

  low : ceiling ≤ GREATEST_COST
  low = omega (arith, valid.ceiling_is, valid.spelled.ceiling)

  said : IsSaid costs window (limit_named ceiling c.head.second) l
  said =
      All-contains (IsSaid costs window (limit_named ceiling c.head.second)) (lines_of c) l
      (All-from_recursion (IsSaid costs window (limit_named ceiling c.head.second)) (lines_of c)
      (all_said costs window (limit_named ceiling c.head.second) valid.shows.blocks (lines_of c) valid.shows.walks)) has

  over : limit_named ceiling c.head.second < block_key n l.block
  over = over_limit (limit_named ceiling c.head.second) l n kind bound said.above

  least : AreLeastTwo (IsWindowKey window costs ceiling) c.head.first c.head.second
  least = shown_are_first costs window ceiling facts own low c.head.first c.head.second (lines_of c) valid.shows

  key_below : (k : ℕ) → IsWindowKey window costs ceiling k → k ≤ ceiling_key ceiling
  key_below k is =
      let most = own.keys_within _ is.0 (legal_is_sequence costs window ceiling own is.0 is.1.0) is.1.1 in
      omega (arith, most, is.2)

  -- a key that isn't above the block's doesn't cost more than its bound
  no_dearer : (k : ℕ) → k ≤ block_key n l.block → cost_of k ≤ n
  no_dearer k le =
      let more = cost_of-le k (block_key n l.block) le in
      omega (arith, more, cost_of-key_of n (first_of l.block) (line_sequence l is_line))

  -- the named keys aren't above the block's
  firsts : (f s : Option ℕ) → AreLeastTwo (IsWindowKey window costs ceiling) f s → limit_named ceiling s < block_key n l.block → (k : ℕ) → f ≡ Some k → k ≤ block_key n l.block
  firsts None s two above k e = absurd cc
  firsts (Some f) None two above k e = let same : f ≡ k = cc in omega (arith, above, same, key_below f two.0, low)
  firsts (Some f) (Some s) two above k e = let same : f ≡ k = cc in omega (arith, above, same, two.2, key_below s two.1)

  seconds : (f s : Option ℕ) → AreLeastTwo (IsWindowKey window costs ceiling) f s → limit_named ceiling s < block_key n l.block → (k : ℕ) → s ≡ Some k → k ≤ block_key n l.block
  seconds f None two above k e = absurd cc
  seconds None (Some s) two above k e = absurd two
  seconds (Some f) (Some s) two above k e = let same : s ≡ k = cc in omega (arith, above, same, key_below s two.1)

  pub first_not_above : (k : ℕ) → c.head.first ≡ Some k → cost_of k ≤ n
  first_not_above k e = no_dearer k (firsts c.head.first c.head.second least over k e)

  pub second_not_above : (k : ℕ) → c.head.second ≡ Some k → cost_of k ≤ n
  second_not_above k e = no_dearer k (seconds c.head.first c.head.second least over k e)

  pub ceiling_below : c.head.second ≡ None → ceiling < n
  ceiling_below none =
      let above : limit_named ceiling None < block_key n l.block = subst (λ s. limit_named ceiling s < block_key n l.block) none over in
      omega (arith, above, low, index_bound (first_of l.block) (line_sequence l is_line))
