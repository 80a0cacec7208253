-- The certificates of a sweep, one after the other: which are read, and that what is read decides.
use Rattle.std.proofs.Common.{◌≡◌, ℕ, zero, suc, ◌+◌, ◌<◌, ◌≤◌, ◌⊎◌, inl, inr, Bool, true, false, if◌then◌else◌, List, [], ◌∷◌, filter, Option, refl, sym, ap, ◌∙◌, subst, arith}
use Rattle.std.specs.List.{range_with_len}
use Rattle.std.proofs.lemmas.Bool.{cases_eq}
use Rattle.signal_base.specs.declared.window.Window.{Window}
use Rattle.definitions.specs.heard.Costs.{Costs}
use Rattle.definitions.proofs.BoundExistLaws.{a_bound}
use Rattle.definitions.proofs.BoundLaws.{bounds_one}
use Rattle.formats.specs.Refusals.{CertificateFault}
use Rattle.certificates.specs.Judged.{IsBadCertificate, IsGoodCertificate}
use Rattle.certificates.proofs.JudgedLaws as judgement
use Rattle.due.specs.Banks.{Bank, costs_in}
use Rattle.sweep_due.specs.JudgeRules.{AreGood, Bad, Files, Good, IsFirstBad, IsGoodAt, IsJudged, IsReadAt, JudgeDue}
use Rattle.sweep_due.specs.declared.offsets.TheConstants.{OFFSETS}
use Rattle.sweep_due.specs.Phases.{IsSwept, is_swept, swept_offsets, window_at}
use Rattle.sweep_due.specs.Searches.{IsAmong}

-- what is among chosen numbers of a range is in it, and is chosen
among : (p : ℕ → Bool) (i a n : ℕ) → IsAmong (filter p (range_with_len a n)) i → (a ≤ i) × (i < a + n) × (p i ≡ true)
among p i a zero is = absurd is
among p i a (suc n) is = by_test (p a) refl (λ more. further (among p i (a + 1) n more)) is
  where
    further : (a + 1 ≤ i) × (i < a + 1 + n) × (p i ≡ true) → (a ≤ i) × (i < a + suc n) × (p i ≡ true)
    further h = (omega (arith, h.0), omega (arith, h.1), h.2)

    by_test : (b : Bool) → p a ≡ b → (IsAmong (filter p (range_with_len (a + 1) n)) i → (a ≤ i) × (i < a + suc n) × (p i ≡ true))
        → IsAmong (if p a then a ∷ filter p (range_with_len (a + 1) n) else filter p (range_with_len (a + 1) n)) i → (a ≤ i) × (i < a + suc n) × (p i ≡ true)
    by_test true e rest is = elim (rw e at is) [ inl same ↦ (omega (arith, same), omega (arith, same), ap p (sym same) ∙ e) | inr more ↦ rest more ]
    by_test false e rest is = rest (rw e at is)

-- so each of the offsets that are swept is
pub each_swept : (phase i : ℕ) → IsAmong (swept_offsets phase) i → IsSwept phase i
each_swept phase i is = let h = among (is_swept phase) i 0 OFFSETS is in (omega (arith, h.1), h.2)

-- the one at an offset is valid, whatever it names
abbrev pub NamesSome : Window → Bank → Files → ℕ → Type 0
NamesSome window bank files i = (first : Option ℕ) × (second : Option ℕ) × IsGoodAt window bank files i first second

module _ (window : Window) (bank : Bank) where
  abbrev costs : ℕ → Costs
  costs i = costs_in (window_at window i) bank

  -- the same bytes are the same certificate
  pub names_too : (some other : Files) (i : ℕ) → some i ≡ other i → NamesSome window bank some i → NamesSome window bank other i
  names_too some other i same (first, second, good) = (
    first,
    second,
    subst (λ (bytes : List ℕ). IsGoodCertificate (costs i) (window_at window i) bank.ceiling bytes first second) same good,
  )

  -- files that agree on what is read of the one
  module _ (some other : Files) where
    first_bad_too : (is : List ℕ) (o : ℕ) (fault : CertificateFault) → ((i : ℕ) → IsReadAt window bank some is i → some i ≡ other i)
        → IsFirstBad window bank some is o fault → IsFirstBad window bank other is o fault
    first_bad_too [] o fault agree bad = bad
    first_bad_too (i ∷ is) o fault agree (inl bad) =
        inl (subst (λ (bytes : List ℕ). IsBadCertificate (costs i) (window_at window i) bank.ceiling bytes fault) (agree i (inl refl)) bad.0, bad.1)
    first_bad_too (i ∷ is) o fault agree (inr more) =
        inr (names_too some other i (agree i (inl refl)) more.0, first_bad_too is o fault (λ j read. agree j (inr (more.0, read))) more.1)

    good_too : (is : List ℕ) → ((i : ℕ) → IsReadAt window bank some is i → some i ≡ other i) → AreGood window bank some is → AreGood window bank other is
    good_too [] agree good = tt
    good_too (i ∷ is) agree good = (names_too some other i (agree i (inl refl)) good.0, good_too is (λ j read. agree j (inr (good.0, read))) good.1)

    pub read_too : (is : List ℕ) (o : ℕ) → ((i : ℕ) → IsReadAt window bank some is i → some i ≡ other i) → IsReadAt window bank some is o → IsReadAt window bank other is o
    read_too [] o agree read = read
    read_too (i ∷ is) o agree (inl here) = inl here
    read_too (i ∷ is) o agree (inr more) =
        inr (names_too some other i (agree i (inl refl)) more.0, read_too is o (λ j read. agree j (inr (more.0, read))) more.1)

    pub read_back : (is : List ℕ) (o : ℕ) → ((i : ℕ) → IsReadAt window bank some is i → some i ≡ other i) → IsReadAt window bank other is o → IsReadAt window bank some is o
    read_back [] o agree read = read
    read_back (i ∷ is) o agree (inl here) = inl here
    read_back (i ∷ is) o agree (inr more) =
        let good = names_too other some i (sym (agree i (inl refl))) more.0 in
        inr (good, read_back is o (λ j read. agree j (inr (good, read))) more.1)

    -- Files that agree on what is read of both agree on what is read of the one.
    pub same_read : (is : List ℕ) → ((i : ℕ) → IsReadAt window bank some is i → IsReadAt window bank other is i → some i ≡ other i)
        → (o : ℕ) → IsReadAt window bank some is o → some o ≡ other o
    same_read [] agree o read = absurd read
    same_read (i ∷ is) agree o (inl here) = agree o (inl here) (inl here)
    same_read (i ∷ is) agree o (inr more) =
        let good = names_too some other i (agree i (inl refl) (inl refl)) more.0 in
        same_read is (λ j read also. agree j (inr (more.0, read)) (inr (good, also))) o more.1

    pub judged_too : (due : JudgeDue) → ((i : ℕ) → IsReadAt window bank some (swept_offsets window.phase) i → some i ≡ other i)
        → IsJudged window bank some due → IsJudged window bank other due
    judged_too due agree (Bad o fault bad e) = Bad o fault (first_bad_too (swept_offsets window.phase) o fault agree bad) e
    judged_too due agree (Good good told answer duts is e) = Good (good_too (swept_offsets window.phase) agree good) told answer duts is e

  module _ (files : Files) where
    pub not_both_at : (i : ℕ) (fault : CertificateFault) → NamesSome window bank files i → IsBadCertificate (costs i) (window_at window i) bank.ceiling (files i) fault → ⊥
    not_both_at i fault (first, second, good) bad =
        judgement.not_both (costs i) (window_at window i) bank.ceiling (λ c. a_bound (costs i) (window_at window i) c) (λ c. bounds_one (costs i) (window_at window i) c) (files i) first second fault good bad

    -- what is read is among the offsets, and behind the first bad one nothing is
    pub read_among : (is : List ℕ) (o : ℕ) → IsReadAt window bank files is o → IsAmong is o
    read_among [] o read = read
    read_among (i ∷ is) o (inl here) = inl (sym here)
    read_among (i ∷ is) o (inr more) = inr (read_among is o more.1)

    -- where all are good, all are read
    pub all_read : (is : List ℕ) → AreGood window bank files is → (o : ℕ) → IsAmong is o → IsReadAt window bank files is o
    all_read [] good o is = is
    all_read (i ∷ is) good o (inl same) = inl (sym same)
    all_read (i ∷ is) good o (inr more) = inr (good.0, all_read is good.1 o more)

    -- the first bad one is read
    pub bad_is_read : (is : List ℕ) (o : ℕ) (fault : CertificateFault) → IsFirstBad window bank files is o fault → IsReadAt window bank files is o
    bad_is_read [] o fault bad = bad
    bad_is_read (i ∷ is) o fault (inl bad) = inl bad.1
    bad_is_read (i ∷ is) o fault (inr more) = inr (more.0, bad_is_read is o fault more.1)

    -- none behind the first bad one is read
    pub read_up_to : (p : ℕ → Bool) (o : ℕ) (fault : CertificateFault) (i a n : ℕ) → IsFirstBad window bank files (filter p (range_with_len a n)) o fault
        → IsReadAt window bank files (filter p (range_with_len a n)) i → i ≤ o
    read_up_to p o fault i a zero bad read = absurd bad
    read_up_to p o fault i a (suc n) bad read =
        by_test (p a) (read_up_to p o fault i (a + 1) n) (λ more. omega (arith, (among p o (a + 1) n (read_among (filter p (range_with_len (a + 1) n)) o (bad_is_read (filter p (range_with_len (a + 1) n)) o fault more))).0)) bad read
      where
        by_test : (b : Bool) → (IsFirstBad window bank files (filter p (range_with_len (a + 1) n)) o fault → IsReadAt window bank files (filter p (range_with_len (a + 1) n)) i → i ≤ o)
            → (IsFirstBad window bank files (filter p (range_with_len (a + 1) n)) o fault → a ≤ o)
            → IsFirstBad window bank files (if b then a ∷ filter p (range_with_len (a + 1) n) else filter p (range_with_len (a + 1) n)) o fault
            → IsReadAt window bank files (if b then a ∷ filter p (range_with_len (a + 1) n) else filter p (range_with_len (a + 1) n)) i → i ≤ o
        by_test true rest later (inl bad) (inl here) = omega (arith, bad.1, here)
        by_test true rest later (inl bad) (inr more) = absurd (not_both_at a fault more.0 bad.0)
        by_test true rest later (inr bad) (inl here) = omega (arith, here, later bad.1)
        by_test true rest later (inr bad) (inr more) = rest bad.1 more.1
        by_test false rest later bad read = rest bad read

    -- Where all before an offset are valid, it is read, and if it is bad, it is the first bad one.
    pub read_at : (p : ℕ → Bool) (o a n : ℕ) → a ≤ o → o < a + n → p o ≡ true → ((i : ℕ) → i < o → p i ≡ true → NamesSome window bank files i)
        → IsReadAt window bank files (filter p (range_with_len a n)) o
    read_at p o a zero le lt is good = absurd (omega (arith, le, lt))
    read_at p o a (suc n) le lt is good =
        by_place (cases_eq a o) (λ more. read_at p o (a + 1) n more (omega (arith, lt)) is good)
      where
        by_test : (b : Bool) → p a ≡ b → a < o → IsReadAt window bank files (filter p (range_with_len (a + 1) n)) o
            → IsReadAt window bank files (if p a then a ∷ filter p (range_with_len (a + 1) n) else filter p (range_with_len (a + 1) n)) o
        by_test true e before read = rw e (inr (good a before e, read))
        by_test false e before read = rw e read

        by_place : (a ≡ o) ⊎ (¬ (a ≡ o)) → (a + 1 ≤ o → IsReadAt window bank files (filter p (range_with_len (a + 1) n)) o)
            → IsReadAt window bank files (filter p (range_with_len a (suc n))) o
        by_place (inl e) rest = rw (ap p e ∙ is) (inl (sym e))
        by_place (inr other) rest = by_test (p a) refl (omega (arith, le, other)) (rest (omega (arith, le, other)))

    pub bad_at : (o : ℕ) (fault : CertificateFault) (is : List ℕ) → IsReadAt window bank files is o
        → IsBadCertificate (costs o) (window_at window o) bank.ceiling (files o) fault → IsFirstBad window bank files is o fault
    bad_at o fault [] read bad = absurd read
    bad_at o fault (i ∷ is) (inl here) bad =
        inl (subst (λ (j : ℕ). IsBadCertificate (costs j) (window_at window j) bank.ceiling (files j) fault) here bad, here)
    bad_at o fault (i ∷ is) (inr more) bad = inr (more.0, bad_at o fault is more.1 bad)

    pub all_good_at : (is : List ℕ) → ((i : ℕ) → IsAmong is i → NamesSome window bank files i) → AreGood window bank files is
    all_good_at [] good = tt
    all_good_at (i ∷ is) good = (good i (inl refl), all_good_at is (λ j more. good j (inr more)))
