-- What walks of all items show: their leaves' keys are those of the sequences that can be admitted up to the limit, each once.
use Rattle.std.proofs.Common.{◌≡◌, ℕ, ◌<◌, ◌≤◌, ◌⊎◌, inl, inr, Bool, true, false, ◌&&◌, ◌==◌, nat_le, cond, if◌then◌else◌, List, [], ◌∷◌, Option, Some, None, refl, sym, ap, ◌∙◌, subst, ⊎_elim, arith}
use Rattle.std.specs.List.{AllByRecursion, Contains}
use Rattle.std.proofs.lemmas.Bool.{cases_lt, le-leb, leb-true}
use Rattle.std.proofs.lemmas.List.Elements.{All-contains, All-from_recursion}
use Rattle.std.proofs.lemmas.List.Sums.{sum_by-cons}
use Rattle.signal_base.specs.declared.limits.TheConstants.{GREATEST_COST}
use Rattle.signal_base.specs.declared.window.Window.{Window}
use Rattle.definitions.specs.declared.sequence.Sequence.{Sequence}
use Rattle.definitions.specs.declared.block.Block.{Block}
use Rattle.definitions.specs.time.Calendar.{is_leap_end}
use Rattle.definitions.specs.sequences.Keys.{ceiling_key}
use Rattle.definitions.specs.sequences.Walks.{IsLegal}
use Rattle.definitions.specs.heard.Costs.{Costs, sequence_cost}
use Rattle.definitions.specs.answers.Blocks.{IsBlock, IsIn, IsInNone, IsInOne, items}
use Rattle.definitions.specs.answers.FirstTwo.{AreLeastTwo, IsWindowKey}
use Rattle.race_words.specs.Keys.{no_key, two_least}
use Rattle.race_words.specs.Sound.{times}
use Rattle.block_visits.specs.Apart.{AreApart, key_if_any}
use Rattle.block_visits.specs.Facts.{Facts}
use Rattle.block_visits.specs.Visits.{AreVisits}
use Rattle.block_visits.proofs.Covering.{IsInSome, all_weaker, covers, in_some_from_one, legal_is_sequence, offers_admitted}
use Rattle.block_visits.proofs.Counting.{count_in, is_in, no_times, offers_no_more, one_if, one_in, true_is_in}
use Rattle.block_visits.proofs.TwoLeast.{AreEnds, contains_cases, contains_here, contains_later, ends_are, least_two}
use Rattle.certificates.specs.declared.certificate.Line.{Line}
use Rattle.certificates.specs.Validity.{AreEachOnce, AreWalks, IsOneOf, NoneTwice, Show, leaf_ends, leaf_keys, limit_named, up_to}
use Rattle.certificates.proofs.WalkLaws.{as_visits, reads_above, reads_of}

second_of : (s : ℕ) (announced ends : Bool) → s < (if announced && ends then 61 else 60) → s < (if announced then 61 else 60)
second_of s true true lt = lt
second_of s true false lt = omega arith
second_of s false ends lt = lt

-- a legal sequence is in exactly one item
pub in_one_item : (costs : Costs) (window : Window) {ceiling : ℕ} → Facts costs window ceiling → (q : Sequence) → IsLegal window q → IsInOne (items window) q
in_one_item costs window facts q legal =
    facts.one_item q legal.0.not_before legal.0.before_end (second_of q.second q.announced (is_leap_end q.first) legal.0.second)

-- what each block of a list has, one of them has
pub one_has : (P : Block → Type 0) (cs : List Block) (b : Block) → AllByRecursion P cs → IsOneOf cs b → P b
one_has P [] b all is = absurd is
one_has P (c ∷ cs) b all (inl is) = subst P is all.0
one_has P (c ∷ cs) b all (inr is) = one_has P cs b all.1 is

pub each_has : (P : Block → Type 0) (cs bs : List Block) → AllByRecursion P cs → AllByRecursion (IsOneOf cs) bs → AllByRecursion P bs
each_has P cs [] all are = tt
each_has P cs (b ∷ bs) all are = (one_has P cs b all are.0, each_has P cs bs all are.1)

-- a sequence is in some block, so it is where that block is one
in_one_of : (bs : List Block) (b : Block) (q : Sequence) → IsOneOf bs b → IsIn b q → IsInSome bs q
in_one_of [] b q is in_it = absurd is
in_one_of (c ∷ cs) b q (inl is) in_it = inl (subst (λ c. IsIn c q) (sym is) in_it)
in_one_of (c ∷ cs) b q (inr is) in_it = inr (in_one_of cs b q is in_it)

pub in_some_of : (cs bs : List Block) (q : Sequence) → AllByRecursion (IsOneOf bs) cs → IsInSome cs q → IsInSome bs q
in_some_of [] bs q all some = absurd some
in_some_of (c ∷ cs) bs q all (inl in_it) = in_one_of bs c q all.0 in_it
in_some_of (c ∷ cs) bs q all (inr some) = in_some_of cs bs q all.1 some

-- of blocks that share a sequence there is one
pub not_in : (cs : List Block) (b : Block) (q : Sequence) → IsInNone cs q → IsOneOf cs b → IsIn b q → ⊥
not_in [] b q none is in_it = is
not_in (c ∷ cs) b q none (inl is) in_it = none.0 (subst (λ c. IsIn c q) (sym is) in_it)
not_in (c ∷ cs) b q none (inr is) in_it = not_in cs b q none.1 is in_it

same_block : (cs : List Block) (a b : Block) (q : Sequence) → IsInOne cs q → IsOneOf cs a → IsOneOf cs b → IsIn a q → IsIn b q → a ≡ b
same_block [] a b q one is also in_it too = absurd one
same_block (c ∷ cs) a b q (inl one) (inl is) (inl also) in_it too = sym is ∙ also
same_block (c ∷ cs) a b q (inl one) (inl is) (inr also) in_it too = absurd (not_in cs b q one.1 also too)
same_block (c ∷ cs) a b q (inl one) (inr is) also in_it too = absurd (not_in cs a q one.1 is in_it)
same_block (c ∷ cs) a b q (inr one) (inl is) also in_it too = absurd (one.0 (subst (λ c. IsIn c q) (sym is) in_it))
same_block (c ∷ cs) a b q (inr one) (inr is) (inl also) in_it too = absurd (one.0 (subst (λ c. IsIn c q) (sym also) too))
same_block (c ∷ cs) a b q (inr one) (inr is) (inr also) in_it too = same_block cs a b q one.1 is also in_it too

-- a sequence is in one block at most of those, each of which stands once
none_counts : (cs bs : List Block) (a : Block) (q : Sequence) → IsInOne cs q → IsOneOf cs a → IsIn a q → AllByRecursion (IsOneOf cs) bs → ¬ (IsOneOf bs a) → count_in q bs ≡ 0
none_counts cs [] a q one is in_it are never = refl
none_counts cs (b ∷ bs) a q one is in_it are never =
    let rest = none_counts cs bs a q one is in_it are.1 (λ later. never (inr later)) in
    let here : one_in q b ≡ 0 = by_test (is_in q b) refl in
    omega (arith, sum_by-cons (one_in q) b bs, rest, here)
  where
    by_test : (t : Bool) → is_in q b ≡ t → one_if t ≡ 0
    by_test true e = absurd (never (inl (sym (same_block cs a b q one is are.0 in_it (true_is_in q b e)))))
    by_test false e = refl

more_counts : (cs bs : List Block) (b : Block) (q : Sequence) → IsInOne cs q → AllByRecursion (IsOneOf cs) (b ∷ bs) → ¬ (IsOneOf bs b) → count_in q bs ≤ 1 → count_in q (b ∷ bs) ≤ 1
more_counts cs bs b q one are never rest = by_test (is_in q b) refl
  where
    by_test : (t : Bool) → is_in q b ≡ t → count_in q (b ∷ bs) ≤ 1
    by_test true e =
        let one_here : one_in q b ≡ 1 = ap one_if e in
        omega (arith, sum_by-cons (one_in q) b bs, one_here, none_counts cs bs b q one are.0 (true_is_in q b e) are.1 never)
    by_test false e = let none_here : one_in q b ≡ 0 = ap one_if e in omega (arith, sum_by-cons (one_in q) b bs, none_here, rest)

counts_once : (cs bs : List Block) (q : Sequence) → IsInOne cs q → AllByRecursion (IsOneOf cs) bs → NoneTwice bs → count_in q bs ≤ 1
counts_once cs [] q one are once = omega arith
counts_once cs (b ∷ bs) q one are once = more_counts cs bs b q one are once.0 (counts_once cs bs q one are.1 once.1)

-- the keys up to a limit
module _ (limit : ℕ) where
  one_all : (P Q : ℕ → Type 0) → ((k : ℕ) → P k → k ≤ limit → Q k) → (k : ℕ) (ks : List ℕ) → P k → AllByRecursion Q (up_to limit ks) → AllByRecursion Q (up_to limit (k ∷ ks))
  one_all P Q to k ks here rest = by_test (nat_le k limit) refl
    where
      by_test : (t : Bool) → nat_le k limit ≡ t → AllByRecursion Q (cond t (k ∷ up_to limit ks) (up_to limit ks))
      by_test true e = (to k here (leb-true k limit e), rest)
      by_test false e = rest

  all_up_to : (P Q : ℕ → Type 0) → ((k : ℕ) → P k → k ≤ limit → Q k) → (ks : List ℕ) → AllByRecursion P ks → AllByRecursion Q (up_to limit ks)
  all_up_to P Q to [] all = tt
  all_up_to P Q to (k ∷ ks) all = one_all P Q to k ks all.0 (all_up_to P Q to ks all.1)

  one_fewer : (n k : ℕ) (ks : List ℕ) → times n (up_to limit ks) ≤ times n ks → times n (up_to limit (k ∷ ks)) ≤ times n (k ∷ ks)
  one_fewer n k ks rest = by_test (nat_le k limit)
    where
      by_test : (t : Bool) → times n (cond t (k ∷ up_to limit ks) (up_to limit ks)) ≤ times n (k ∷ ks)
      by_test true = omega (arith, rest, sum_by-cons (λ y. one_if (y == n)) k ks, sum_by-cons (λ y. one_if (y == n)) k (up_to limit ks))
      by_test false = omega (arith, rest, sum_by-cons (λ y. one_if (y == n)) k ks)

  fewer_up_to : (n : ℕ) (ks : List ℕ) → times n (up_to limit ks) ≤ times n ks
  fewer_up_to n [] = omega arith
  fewer_up_to n (k ∷ ks) = one_fewer n k ks (fewer_up_to n ks)

  one_contained : (n k : ℕ) (ks : List ℕ) → n ≤ limit → (Contains ks n → Contains (up_to limit ks) n) → Contains (k ∷ ks) n → Contains (up_to limit (k ∷ ks)) n
  one_contained n k ks le go_on has = ⊎_elim here (λ more. by_test (nat_le k limit) (go_on more)) (contains_cases k n ks has)
    where
      by_test : (t : Bool) → Contains (up_to limit ks) n → Contains (cond t (k ∷ up_to limit ks) (up_to limit ks)) n
      by_test true more = contains_later k n (up_to limit ks) more
      by_test false more = more

      here : k ≡ n → Contains (up_to limit (k ∷ ks)) n
      here same =
          let passes : nat_le k limit ≡ true = le-leb k limit (omega (arith, le, same)) in
          subst (λ t. Contains (cond t (k ∷ up_to limit ks) (up_to limit ks)) n) (sym passes)
          (subst (λ m. Contains (k ∷ up_to limit ks) m) same (contains_here k (up_to limit ks)))

  contains_up_to : (n : ℕ) (ks : List ℕ) → n ≤ limit → Contains ks n → Contains (up_to limit ks) n
  contains_up_to n [] le has = absurd (omega (arith, has.1))
  contains_up_to n (k ∷ ks) le has = one_contained n k ks le (λ more. contains_up_to n ks le more) has

module _ (costs : Costs) (window : Window) (ceiling : ℕ) (facts : Facts costs window GREATEST_COST) (own : Facts costs window ceiling) (small : ceiling ≤ GREATEST_COST)
    (limit : ℕ) (low : limit ≤ no_key) (blocks : List Block) (each : AreEachOnce (items window) blocks) (ls : List Line) (walks : AreWalks costs window limit blocks ls) where
  abbrev P : ℕ → Type 0
  P = IsWindowKey window costs ceiling

  abbrev keys : List ℕ
  keys = up_to (ceiling_key ceiling) (leaf_keys ls)

  are_blocks : AllByRecursion (IsBlock window) blocks
  are_blocks = each_has (IsBlock window) (items window) blocks facts.items_are each.only

  visits_are : AreVisits costs window GREATEST_COST blocks (reads_of limit ls) (leaf_keys ls)
  visits_are = as_visits costs window facts limit blocks ls are_blocks walks

  -- the leaves' keys are of sequences that can be admitted
  pub leaves_admitted : AllByRecursion (IsWindowKey window costs GREATEST_COST) (leaf_keys ls)
  leaves_admitted =
      all_weaker costs window GREATEST_COST facts _ (IsWindowKey window costs GREATEST_COST) (λ k is. (is.0, is.2, is.3)) (leaf_keys ls)
      (offers_admitted costs window GREATEST_COST facts (reads_of limit ls) blocks (leaf_keys ls) are_blocks visits_are)

  pub within_ceiling : (k : ℕ) → IsWindowKey window costs GREATEST_COST k → k ≤ ceiling_key ceiling → P k
  within_ceiling k is le = (
    is.0,
    (
      is.1.0,
      ⊎_elim
          (λ over. let beyond = own.keys_beyond (sequence_cost costs window is.0) is.0 (legal_is_sequence costs window ceiling own is.0 is.1.0) over in absurd (omega (arith, beyond, is.2, le)))
          (λ under. under) (cases_lt ceiling (sequence_cost costs window is.0)),
    ),
    is.2,
  )

  pub all_admitted : AllByRecursion P keys
  all_admitted = all_up_to (ceiling_key ceiling) (IsWindowKey window costs GREATEST_COST) P within_ceiling (leaf_keys ls) leaves_admitted

  pub keys_below : (n : ℕ) → P n → n ≤ ceiling_key ceiling
  keys_below n is =
      let most = own.keys_within (sequence_cost costs window is.0) is.0 (legal_is_sequence costs window ceiling own is.0 is.1.0) is.1.1 in
      omega (arith, most, is.2)

  pub keys_known : (n : ℕ) → P n → n < no_key
  keys_known n is = omega (arith, keys_below n is, small)

  pub leaves_apart : AreApart (leaf_keys ls)
  leaves_apart k =
      ⊎_elim (λ none. omega (arith, none))
      (λ has.
      let is = All-contains (IsWindowKey window costs GREATEST_COST) (leaf_keys ls) k (All-from_recursion (IsWindowKey window costs GREATEST_COST) (leaf_keys ls) leaves_admitted) has in
      let most = offers_no_more costs window GREATEST_COST facts (reads_of limit ls) blocks (leaf_keys ls) (sequence_cost costs window is.0) is.0 are_blocks visits_are
      (legal_is_sequence costs window GREATEST_COST facts is.0 is.1.0) in
      let once = counts_once (items window) blocks is.0 (in_one_item costs window facts is.0 is.1.0) each.only each.once in
      subst (λ x. times x (leaf_keys ls) ≤ 1) is.2 (omega (arith, most, once)))
      (no_times k (leaf_keys ls))

  pub all_apart : AreApart keys
  all_apart k = omega (arith, leaves_apart k, fewer_up_to (ceiling_key ceiling) k (leaf_keys ls))

  -- each admitted key is among those of the leaves, or above the limit
  pub met : (n : ℕ) → P n → Contains keys n ⊎ (limit < n)
  met n is =
      let wider : sequence_cost costs window is.0 ≤ GREATEST_COST = omega (arith, is.1.1, small) in
      let some : IsInSome blocks is.0 = in_some_of (items window) blocks is.0 each.all (in_some_from_one (items window) is.0 (in_one_item costs window facts is.0 is.1.0)) in
      ⊎_elim
      (λ has. inl (contains_up_to (ceiling_key ceiling) n (leaf_keys ls) (keys_below n is) (subst (λ k. Contains (leaf_keys ls) k) is.2 has)))
      (λ over. inr (omega (arith, over, is.2)))
      (covers costs window GREATEST_COST facts (reads_of limit ls) blocks (leaf_keys ls) limit are_blocks visits_are
      (All-from_recursion (λ seen. limit ≤ seen) (reads_of limit ls) (reads_above costs window facts limit low ls)) is.0 (is.1.0, wider) some)

  -- the two least are the first two, where the second isn't above what the walks passed over
  pub two_are_first : ((n : ℕ) → P n → limit < n → (two_least keys).second < n)
      → AreLeastTwo P (key_if_any (two_least keys).least) (key_if_any (two_least keys).second)
  two_are_first over =
      least_two P keys keys_known all_admitted all_apart (λ n is. ⊎_elim inl (λ above. inr (over n is above)) (met n is))

-- the two least numbers are one pair
pub least_two_once : (P : ℕ → Type 0) (a b c d : Option ℕ) → AreLeastTwo P a b → AreLeastTwo P c d → (a ≡ c) × (b ≡ d)
least_two_once P None None None None h k = (refl, refl)
least_two_once P None None None (Some d) h k = absurd k
least_two_once P None None (Some c) None h k = absurd (h c k.0)
least_two_once P None None (Some c) (Some d) h k = absurd (h c k.0)
least_two_once P None (Some b) c d h k = absurd h
least_two_once P (Some a) None None None h k = absurd (k a h.0)
least_two_once P (Some a) None None (Some d) h k = absurd k
least_two_once P (Some a) None (Some c) None h k = (ap Some (k.1 a h.0), refl)
least_two_once P (Some a) None (Some c) (Some d) h k = absurd (omega (arith, k.2, h.1 c k.0, h.1 d k.1))
least_two_once P (Some a) (Some b) None None h k = absurd (k a h.0)
least_two_once P (Some a) (Some b) None (Some d) h k = absurd k
least_two_once P (Some a) (Some b) (Some c) None h k = absurd (omega (arith, h.2, k.1 a h.0, k.1 b h.1))
least_two_once P (Some a) (Some b) (Some c) (Some d) h k =
    let firsts : a ≡ c = ⊎_elim (λ e. e) (λ le. ⊎_elim (λ e. sym e) (λ other. absurd (omega (arith, h.2, k.2, le, other))) (h.3 c k.0)) (k.3 a h.0) in
    let seconds : b ≡ d =
    ⊎_elim (λ e. absurd (omega (arith, h.2, firsts, e)))
    (λ le. ⊎_elim (λ e. absurd (omega (arith, k.2, firsts, e))) (λ other. omega (arith, le, other)) (h.3 d k.1)) (k.3 b h.1) in
    (ap Some firsts, ap Some seconds)

-- a key that is named is the one that is found
some_named : (x key : ℕ) → Some key ≡ key_if_any x → x ≡ key
some_named x key e = by_test (x == no_key) e
  where
    by_test : (t : Bool) → Some key ≡ (if t then None else Some x) → x ≡ key
    by_test true e = absurd cc
    by_test false e = cc

module _ (costs : Costs) (window : Window) (ceiling : ℕ) (facts : Facts costs window GREATEST_COST) (own : Facts costs window ceiling) (small : ceiling ≤ GREATEST_COST) where
  abbrev Q : ℕ → Type 0
  Q = IsWindowKey window costs ceiling

  pub limit_low : (second : Option ℕ) → limit_named ceiling second ≤ no_key
  limit_low second = omega (arith, small)

  -- whoever made the lines: the keys that they show are those of the first two admitted sequences
  pub shown_are_first : (first second : Option ℕ) (ls : List Line) → Show costs window ceiling first second ls → AreLeastTwo Q first second
  shown_are_first first second ls shows =
      subst (λ k. AreLeastTwo Q k second) (sym shows.first_is)
      (subst (λ k. AreLeastTwo Q (key_if_any (leaf_ends ceiling ls).least) k) (sym shows.second_is)
      (two_are_first costs window ceiling facts own small (limit_named ceiling second) (limit_low second) shows.blocks shows.each ls shows.walks (over second shows.second_is)))
    where
      over : (s : Option ℕ) → s ≡ key_if_any (leaf_ends ceiling ls).second → (n : ℕ) → Q n → limit_named ceiling s < n → (leaf_ends ceiling ls).second < n
      over None e n is above =
          let most = own.keys_within (sequence_cost costs window is.0) is.0 (legal_is_sequence costs window ceiling own is.0 is.1.0) is.1.1 in
          absurd (omega (arith, above, most, is.2, small))
      over (Some key) e n is above =
          let most = own.keys_within (sequence_cost costs window is.0) is.0 (legal_is_sequence costs window ceiling own is.0 is.1.0) is.1.1 in
          omega (arith, above, most, is.2, some_named (leaf_ends ceiling ls).second key e)

  module _ (second : Option ℕ) (blocks : List Block) (ls : List Line) (each : AreEachOnce (items window) blocks) (walks : AreWalks costs window (limit_named ceiling second) blocks ls) where
    abbrev shown : List ℕ
    shown = up_to (ceiling_key ceiling) (leaf_keys ls)

    is_met : (n : ℕ) → Q n → Contains shown n ⊎ (limit_named ceiling second < n)
    is_met = met costs window ceiling facts own small (limit_named ceiling second) (limit_low second) blocks each ls walks

    below : (n : ℕ) → Q n → n ≤ ceiling_key ceiling
    below = keys_below costs window ceiling facts own small (limit_named ceiling second) (limit_low second) blocks each ls walks

    weaker : (ks : List ℕ) → AllByRecursion Q ks → AllByRecursion (λ k. k ≤ no_key) ks
    weaker [] all = tt
    weaker (k ∷ ks) all = (omega (arith, below k all.0, small), weaker ks all.1)

    are : AreEnds shown (two_least shown)
    are = ends_are shown (weaker shown (all_admitted costs window ceiling facts own small (limit_named ceiling second) (limit_low second) blocks each ls walks))

    -- two keys that stand among the leaves' are not below the two least
    of_two : (a b n : ℕ) → a < b → b < n → Contains shown a → Contains shown b → (two_least shown).second < n
    of_two a b n less over has also =
        ⊎_elim
        (λ first. ⊎_elim (λ second. absurd (omega (arith, less, first, second))) (λ le. omega (arith, le, over)) (are.others b also))
        (λ le. omega (arith, le, less, over)) (are.others a has)

    over : (f s : Option ℕ) → AreLeastTwo Q f s → ((n : ℕ) → Q n → Contains shown n ⊎ (limit_named ceiling s < n))
        → (n : ℕ) → Q n → limit_named ceiling s < n → (two_least shown).second < n
    over None None least is_met n is above = absurd (least n is)
    over None (Some s) least is_met n is above = absurd least
    over (Some f) None least is_met n is above = absurd (omega (arith, above, below n is, small))
    over (Some f) (Some s) least is_met n is above =
        let has : Contains shown f = ⊎_elim (λ has. has) (λ high. absurd (omega (arith, high, least.2, below s least.1))) (is_met f least.0) in
        let also : Contains shown s = ⊎_elim (λ has. has) (λ high. absurd (omega (arith, high, below s least.1))) (is_met s least.1) in
        of_two f s n least.2 (omega (arith, above, below n is)) has also

    found : (first : Option ℕ) → AreLeastTwo Q first second → AreLeastTwo Q (key_if_any (two_least shown).least) (key_if_any (two_least shown).second)
    found first least =
        two_are_first costs window ceiling facts own small (limit_named ceiling second) (limit_low second) blocks each ls walks (over first second least is_met)

  -- walks of all items under the second key show the first two
  pub walks_show : (first second : Option ℕ) (blocks : List Block) (ls : List Line) → AreLeastTwo Q first second → AreEachOnce (items window) blocks
      → AreWalks costs window (limit_named ceiling second) blocks ls → Show costs window ceiling first second ls
  walks_show first second blocks ls least each walks =
      let same = least_two_once Q first second _ _ least (found second blocks ls each walks first least) in
      record { blocks = blocks; each = each; walks = walks; first_is = same.0; second_is = same.1 }
