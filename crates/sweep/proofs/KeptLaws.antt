-- What is heard and kept of each offset that is swept: all of them, in their order, each with a file of its own.
use Rattle.std.proofs.Common.{◌≡◌, ◌≢◌, ℕ, zero, suc, ◌+◌, ◌<◌, ◌≤◌, ◌⊎◌, inl, inr, Bool, true, false, if◌then◌else◌, List, [], ◌∷◌, ◌++◌, All, filter, get_or, length, map, take, Some, refl, sym, ap, ◌∙◌, subst, arith, append-nil, codes, string_bytes}
use Rattle.std.specs.Fmt.{decimal}
use Rattle.std.specs.List.{range_with_len}
use Rattle.std.proofs.Math.Numerals.{add-one}
use Rattle.std.proofs.lemmas.Bool.{cases_eq}
use Rattle.std.proofs.lemmas.List.{get_or-map, length-map, map-append, map-id, take_all, take_more}
use Rattle.std.proofs.lemmas.List.Elements.{All-get_or, All-head, All-nil, All-push, All-tail, All-weaker, filter-append}
use Rattle.std.proofs.lemmas.List.FromFn.{map-range_with_len_more}
use Rattle.signal_base.specs.declared.limits.TheConstants.{GREATEST_COST}
use Rattle.signal_base.specs.declared.window.Window.{Window}
use Rattle.definitions.specs.declared.block.Block.{Block}
use Rattle.definitions.specs.answers.Blocks.{items}
use Rattle.definitions.specs.answers.FirstTwo.{AreLeastTwo, IsWindowKey}
use Rattle.definitions.specs.declared.sequence.Sequence.{Sequence}
use Rattle.definitions.specs.heard.Costs.{sequence_cost}
use Rattle.formats.specs.OrderRanges.{IsFile}
use Rattle.formats.specs.WordValues.{number_of}
use Rattle.formats.proofs.WordNumberLaws.{number_of-decimal}
use Rattle.field_tables.specs.Scored.{costs_of}
use Rattle.bank_files.specs.Seen.{Seen}
use Rattle.bank_files.specs.Told.{output_name}
use Rattle.due.specs.Banks.{Bank, costs_in}
use Rattle.due.specs.Outputs.{EachOf, standard_output}
use Rattle.bank.specs.Ending.{OnlyWritesAmong}
use Rattle.bank.proofs.CertifiedLaws.{apart_from_output}
use Rattle.bank.proofs.DecodedLaws.{same_least}
use Rattle.sweep_due.specs.declared.offsets.TheConstants.{OFFSETS}
use Rattle.sweep_due.specs.declared.standing.Standing.{Standing}
use Rattle.sweep_due.specs.CertificateNames.{file_at}
use Rattle.sweep_due.specs.Phases.{is_swept, swept_offsets}
use Rattle.sweep_due.specs.Searches.{AreAllSwept, IsAmong, IsSearched, IsSearchedAt}
use Rattle.sweep_due.specs.Standings.{ceiling_after, with_two}
use Rattle.sweep_due.specs.SweepOwed.{files_of}
use Rattle.sweep_due.proofs.OffsetLaws.{all_swept}
use Rattle.sweep_due.proofs.SearchLaws.{not_above_the_bank}
use Rattle.sweep.specs.declared.heard.Heard.{Heard}
use Rattle.sweep.specs.declared.kept.Kept.{Kept}
use Rattle.sweep.specs.Certifying.{AreApart, IsReady, files_kept}
use Rattle.sweep.specs.Keeping.{AreHeard, AreKept, IsHeardAt, IsKeptAt, offsets_kept}
use Rattle.sweep.specs.Turns.{IsSweptThrough, latest_of}

-- the offsets below n + 1
range_more : (n : ℕ) → range_with_len 0 (n + 1) ≡ range_with_len 0 n ++ n ∷ []
range_more n =
    sym (map-id (range_with_len 0 (n + 1))) ∙ map-range_with_len_more (λ (i : ℕ). i) 0 n n (omega arith) ∙ ap (λ (is : List ℕ). is ++ n ∷ []) (map-id (range_with_len 0 n))

filter_more : (p : ℕ → Bool) (n : ℕ) → filter p (range_with_len 0 (n + 1)) ≡ filter p (range_with_len 0 n) ++ filter p (n ∷ [])
filter_more p n = ap (filter p) (range_more n) ∙ filter-append p (range_with_len 0 n) (n ∷ [])

pub none_heard : (window : Window) (bank : Bank) → AreHeard window bank 0 []
none_heard window bank = record { offsets = refl; each = All-nil (IsHeardAt window bank) }

module _ (window : Window) (bank : Bank) (n : ℕ) (heard : List Heard) where
  -- an offset more, where it is swept
  pub heard_more : (h : Heard) → h.offset ≡ n → is_swept window.phase n ≡ true → IsHeardAt window bank h → AreHeard window bank n heard → AreHeard window bank (n + 1) (heard ++ h ∷ [])
  heard_more h is swept at are = record {
    offsets = map-append (λ (x : Heard). x.offset) heard (h ∷ []) ∙ ap (λ (is : List ℕ). is ++ h.offset ∷ []) are.offsets
        ∙ ap (λ (i : ℕ). filter (is_swept window.phase) (range_with_len 0 n) ++ i ∷ []) is ∙ sym (filter_more (is_swept window.phase) n
        ∙ (λ t. filter (is_swept window.phase) (range_with_len 0 n) ++ (if swept t then n ∷ [] else [])));
    each = All-push (IsHeardAt window bank) heard h are.each at;
  }

  -- else none
  pub heard_no_more : is_swept window.phase n ≡ false → AreHeard window bank n heard → AreHeard window bank (n + 1) heard
  heard_no_more not are = record {
    offsets = are.offsets ∙ sym (filter_more (is_swept window.phase) n ∙ (λ t. filter (is_swept window.phase) (range_with_len 0 n) ++ (if not t then n ∷ [] else [])) ∙ append-nil (filter (is_swept window.phase) (range_with_len 0 n)));
    each = are.each;
  }

-- an offset more is kept
module _ (window : Window) (bank : Bank) (name : List ℕ) where
  -- the first so many of those that were heard
  pub record AreKeptTo (heard : List Heard) (n : ℕ) (kept : List Kept) : Type 0 where
    pub offsets : offsets_kept kept ≡ map (λ (h : Heard). h.offset) (take n heard)
    pub each : All (IsKeptAt window bank name) kept

  pub none_kept : (heard : List Heard) → AreKeptTo heard 0 []
  none_kept heard = record { offsets = refl; each = All-nil (IsKeptAt window bank name) }

  pub kept_more : (heard : List Heard) (n : ℕ) (d h : Heard) (kept : List Kept) (k : Kept) → n < length heard → h ≡ get_or heard n d → k.offset ≡ h.offset → IsKeptAt window bank name k
      → AreKeptTo heard n kept → AreKeptTo heard (n + 1) (kept ++ k ∷ [])
  kept_more heard n d h kept k within here is at are = record {
    offsets = map-append (λ (x : Kept). x.offset) kept (k ∷ []) ∙ ap (λ (is : List ℕ). is ++ k.offset ∷ []) are.offsets
        ∙ ap (λ (i : ℕ). map (λ (x : Heard). x.offset) (take n heard) ++ i ∷ []) (is ∙ ap (λ (x : Heard). x.offset) here)
        ∙ sym (map-append (λ (h : Heard). h.offset) (take n heard) (get_or heard n d ∷ [])) ∙ ap (map (λ (h : Heard). h.offset)) (sym (take_more heard n d within));
    each = All-push (IsKeptAt window bank name) kept k are.each at;
  }

  pub all_kept : (heard : List Heard) (n : ℕ) (kept : List Kept) → length heard ≤ n → AreHeard window bank OFFSETS heard → AreKeptTo heard n kept → AreKept window bank name kept
  all_kept heard n kept all heard_are are = record {
    offsets = are.offsets ∙ ap (map (λ (h : Heard). h.offset)) (take_all n heard all) ∙ heard_are.offsets;
    each = are.each;
  }

-- the name of a file tells its offset
same_rest : (xs ys zs : List ℕ) → xs ++ ys ≡ xs ++ zs → ys ≡ zs
same_rest [] ys zs e = e
same_rest (x ∷ xs) ys zs e = same_rest xs ys zs (tail_of e)
  where
    tail_of : x ∷ (xs ++ ys) ≡ x ∷ (xs ++ zs) → xs ++ ys ≡ xs ++ zs
    tail_of f = cc

same_some : (i j : ℕ) → Some i ≡ Some j → i ≡ j
same_some i j e = cc

pub files_differ : (name : List ℕ) (i j : ℕ) → i < OFFSETS → j < OFFSETS → i ≢ j → file_at name i ≢ file_at name j
files_differ name i j small also apart e =
    let same = same_rest (name ++ codes ".") (decimal i) (decimal j) e in
    apart (same_some i j (sym (number_of-decimal i (omega (arith, small))) ∙ (ap number_of same ∙ number_of-decimal j (omega (arith, also)))))

pub is_file_at : (name : List ℕ) (i : ℕ) → IsFile name → IsFile (file_at name i)
is_file_at [] i is = absurd cc
is_file_at (b ∷ bs) i is = is

-- offsets that are swept differ
abbrev Differ : List ℕ → Type 0
Differ [] = Unit {0}
Differ (i ∷ is) = EachOf (λ j. i ≢ j) is × Differ is

all_from : (p : ℕ → Bool) (b a n : ℕ) → b < a → EachOf (λ j. b ≢ j) (filter p (range_with_len a n))
all_from p b a zero lt = tt
all_from p b a (suc n) lt = by_test (p a) (all_from p b (a + 1) n (omega (arith, lt)))
  where
    by_test : (t : Bool) → EachOf (λ j. b ≢ j) (filter p (range_with_len (a + 1) n))
        → EachOf (λ j. b ≢ j) (if t then a ∷ filter p (range_with_len (a + 1) n) else filter p (range_with_len (a + 1) n))
    by_test true rest = (λ e. absurd (omega (arith, lt, e)), rest)
    by_test false rest = rest

differ_from : (p : ℕ → Bool) (a n : ℕ) → Differ (filter p (range_with_len a n))
differ_from p a zero = tt
differ_from p a (suc n) = by_test (p a) (differ_from p (a + 1) n)
  where
    by_test : (t : Bool) → Differ (filter p (range_with_len (a + 1) n)) → Differ (if t then a ∷ filter p (range_with_len (a + 1) n) else filter p (range_with_len (a + 1) n))
    by_test true rest = (all_from p a (a + 1) n (omega arith), rest)
    by_test false rest = rest

module _ (window : Window) (bank : Bank) (name : List ℕ) (file : IsFile name) where
  apart_one : (k : Kept) (ks : List Kept) → IsKeptAt window bank name k → All (IsKeptAt window bank name) ks → EachOf (λ j. k.offset ≢ j) (offsets_kept ks)
      → EachOf (λ (l : Kept). string_bytes k.name ≢ string_bytes l.name) ks
  apart_one k [] at each differ = tt
  apart_one k (l ∷ ls) at each differ =
      let here = All-head (IsKeptAt window bank name) l ls each in (
        λ e. files_differ name k.offset l.offset at.small here.small differ.0 (sym at.name_is ∙ (e ∙ here.name_is)),
        apart_one k ls at (All-tail (IsKeptAt window bank name) l ls each) differ.1,
      )

  apart_all : (ks : List Kept) → All (IsKeptAt window bank name) ks → Differ (offsets_kept ks) → AreApart ks
  apart_all [] each differ = tt
  apart_all (k ∷ ks) each differ =
      let at = All-head (IsKeptAt window bank name) k ks each in
      let rest = All-tail (IsKeptAt window bank name) k ks each in (
        apart_one k ks at rest differ.0,
        (λ e. apart_from_output (file_at name k.offset) (is_file_at name k.offset file) (sym at.name_is ∙ e)),
        apart_all ks rest differ.1,
      )

  pub are_apart : (kept : List Kept) → AreKept window bank name kept → AreApart kept
  are_apart kept are = apart_all kept are.each (subst Differ (sym are.offsets) (differ_from (is_swept window.phase) 0 OFFSETS))

-- what is kept can be written
pub all_ready : (window : Window) (bank : Bank) (name : List ℕ) (list : List Block) (kept : List Kept) → list ≡ items window → bank.ceiling ≤ GREATEST_COST
    → All (IsKeptAt window bank name) kept → All (IsReady list) kept
all_ready window bank name list kept is low each =
    All-weaker (IsKeptAt window bank name) (IsReady list)
    (λ k at. record { window = sym at.tables_are; ceiling = subst (λ (n : ℕ). n ≤ GREATEST_COST) (sym at.ceiling_is) low; items = is ∙ ap items (sym at.window_is) })
    kept each

-- the searches of what is kept
module _ (window : Window) (bank : Bank) (name : List ℕ) where
  kept_is_searched : (k : Kept) (before : Standing) → ((q : Sequence) → sequence_cost (costs_of k.tables) k.head.window q ≡ sequence_cost (costs_in k.head.window bank) k.head.window q)
      → IsKeptAt window bank name k → IsSearchedAt window bank k.offset before (with_two before k.offset k.head.first k.head.second)
  kept_is_searched k before alike at = record {
    ceiling = k.head.ceiling;
    not_below = subst (λ (n : ℕ). ceiling_after bank.ceiling before ≤ n) (sym at.ceiling_is) (not_above_the_bank bank.ceiling before.second);
    not_above = subst (λ (n : ℕ). n ≤ bank.ceiling) (sym at.ceiling_is) (omega arith);
    found = (
      k.head.first,
      k.head.second,
      subst (λ (w : Window). AreLeastTwo (IsWindowKey w (costs_in w bank) k.head.ceiling) k.head.first k.head.second) at.window_is
          (same_least k.head.window (costs_of k.tables) (costs_in k.head.window bank) k.head.ceiling k.head.first k.head.second alike at.named),
      refl,
    );
  }

  pub searched_more : (kept : List Kept) (n : ℕ) (d k : Kept) (before after : Standing) → n < length kept → k ≡ get_or kept n d → All (IsKeptAt window bank name) kept
      → ((l : Kept) → IsKeptAt window bank name l → (q : Sequence) → sequence_cost (costs_of l.tables) l.head.window q ≡ sequence_cost (costs_in l.head.window bank) l.head.window q)
      → after ≡ with_two before k.offset k.head.first k.head.second
      → IsSearched window bank (latest_of (offsets_kept kept) n) before → IsSearched window bank (latest_of (offsets_kept kept) (n + 1)) after
  searched_more kept n d k before after within here each alike is searched =
      let at = subst (IsKeptAt window bank name) (sym here) (All-get_or (IsKeptAt window bank name) kept n d within each) in
      let offset : k.offset ≡ get_or (offsets_kept kept) n 0 = ap (λ (x : Kept). x.offset) here ∙ sym (get_or-map (λ (x : Kept). x.offset) kept n d 0 within) in
      let found = subst (λ (s : Standing). IsSearchedAt window bank k.offset before s) (sym is) (kept_is_searched k before (alike k at) at) in
      subst (λ (m : ℕ). IsSearched window bank (latest_of (offsets_kept kept) m) after) (sym (add-one n))
      (before, searched, subst (λ (i : ℕ). IsSearchedAt window bank i before after) offset found)

-- all that are swept are among the latest of all
among_at : (xs : List ℕ) (j : ℕ) → IsAmong xs j → (n : ℕ) × (n < length xs) × (get_or xs n 0 ≡ j)
among_at [] j is = absurd is
among_at (x ∷ xs) j (inl e) = (0, omega arith, e)
among_at (x ∷ xs) j (inr more) = let rest = among_at xs j more in (suc rest.0, omega (arith, rest.1), rest.2)

at_among : (xs : List ℕ) (n : ℕ) → n < length xs → IsAmong xs (get_or xs n 0)
at_among [] n lt = absurd (omega (arith, lt))
at_among (x ∷ xs) zero lt = inl refl
at_among (x ∷ xs) (suc n) lt = inr (at_among xs n (omega (arith, lt)))

among_latest : (xs : List ℕ) (j n : ℕ) → n ≤ length xs → IsAmong (latest_of xs n) j → IsAmong xs j
among_latest xs j zero le is = absurd is
among_latest xs j (suc n) le (inl e) = subst (IsAmong xs) e (at_among xs n (omega (arith, le)))
among_latest xs j (suc n) le (inr more) = among_latest xs j n (omega (arith, le)) more

latest_among : (xs : List ℕ) (m n : ℕ) → m < n → IsAmong (latest_of xs n) (get_or xs m 0)
latest_among xs m zero lt = absurd (omega (arith, lt))
latest_among xs m (suc n) lt = by_place (cases_eq n m) (λ less. latest_among xs m n less)
  where
    by_place : (n ≡ m) ⊎ (¬ (n ≡ m)) → (m < n → IsAmong (latest_of xs n) (get_or xs m 0)) → IsAmong (latest_of xs (suc n)) (get_or xs m 0)
    by_place (inl e) before = inl (ap (λ (k : ℕ). get_or xs k 0) e)
    by_place (inr other) before = inr (before (omega (arith, lt, other)))

all_latest : (phase : ℕ) → AreAllSwept phase (latest_of (swept_offsets phase) (length (swept_offsets phase)))
all_latest phase = record {
  each = λ j is. (all_swept phase).each j (among_latest (swept_offsets phase) j (length (swept_offsets phase)) (omega arith) is);
  all = λ j is.
      let at = among_at (swept_offsets phase) j ((all_swept phase).all j is) in
      subst (IsAmong (latest_of (swept_offsets phase) (length (swept_offsets phase)))) at.2 (latest_among (swept_offsets phase) at.0 (length (swept_offsets phase)) at.1);
}

pub swept_through : (window : Window) (bank : Bank) (name : List ℕ) (kept : List Kept) (s : Standing) → AreKept window bank name kept
    → IsSearched window bank (latest_of (offsets_kept kept) (length kept)) s → IsSweptThrough window bank s
swept_through window bank name kept s are searched =
    let n : length kept ≡ length (swept_offsets window.phase) = sym (length-map kept (λ (k : Kept). k.offset)) ∙ ap length are.offsets in (
      latest_of (swept_offsets window.phase) (length (swept_offsets window.phase)),
      all_latest window.phase,
      subst (λ (m : ℕ). IsSearched window bank (latest_of (swept_offsets window.phase) m) s) n
          (subst (λ (is : List ℕ). IsSearched window bank (latest_of is (length kept)) s) are.offsets searched),
    )

-- no other file is written than those of all offsets
among_range : (a n i : ℕ) → a ≤ i → i < a + n → IsAmong (range_with_len a n) i
among_range a zero i le lt = absurd (omega (arith, le, lt))
among_range a (suc n) i le lt = by_place (cases_eq a i) (λ more less. among_range (a + 1) n i more less)
  where
    by_place : (a ≡ i) ⊎ (¬ (a ≡ i)) → (a + 1 ≤ i → i < a + 1 + n → IsAmong (range_with_len (a + 1) n) i) → IsAmong (range_with_len a (suc n)) i
    by_place (inl e) later = inl e
    by_place (inr other) later = inr (later (omega (arith, le, other)) (omega (arith, lt)))

not_at : (file name : List ℕ) (is : List ℕ) (i : ℕ) → EachOf (λ n. file ≢ n) (map (file_at name) is ++ standard_output ∷ []) → IsAmong is i → file ≢ file_at name i
not_at file name [] i none here = absurd here
not_at file name (j ∷ js) i none (inl e) = subst (λ (k : ℕ). file ≢ file_at name k) e none.0
not_at file name (j ∷ js) i none (inr more) = not_at file name js i none.1 more

not_output : (file name : List ℕ) (is : List ℕ) → EachOf (λ n. file ≢ n) (map (file_at name) is ++ standard_output ∷ []) → file ≢ output_name
not_output file name [] none = none.0
not_output file name (j ∷ js) none = not_output file name js none.1

module _ (window : Window) (bank : Bank) (name : List ℕ) where
  among_files : (file : List ℕ) (ks : List Kept) → All (IsKeptAt window bank name) ks → EachOf (λ n. file ≢ n) (files_of (Some name)) → EachOf (λ n. file ≢ n) (files_kept ks)
  among_files file [] each none = (not_output file name (range_with_len 0 OFFSETS) none, tt)
  among_files file (k ∷ ks) each none =
      let at = All-head (IsKeptAt window bank name) k ks each in (
        λ e. not_at file name (range_with_len 0 OFFSETS) k.offset none (among_range 0 OFFSETS k.offset (omega arith) (omega (arith, at.small))) (e ∙ at.name_is),
        among_files file ks (All-tail (IsKeptAt window bank name) k ks each) none,
      )

  pub only_these : (ks : List Kept) (old new : Seen) → All (IsKeptAt window bank name) ks → OnlyWritesAmong (files_kept ks) old new → OnlyWritesAmong (files_of (Some name)) old new
  only_these ks old new each only = record { others = λ other none. only.others other (among_files other ks each none); counts = only.counts }
