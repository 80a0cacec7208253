-- Bytes are chosen for the certificates that are those that were read.
use Rattle.std.proofs.Common.{◌≡◌, ℕ, zero, suc, ◌<◌, inl, inr, Bool, true, false, if◌then◌else◌, nat_eq, List, [], ◌∷◌, refl, sym, ap, ◌∙◌, subst, arith}
use Rattle.std.proofs.lemmas.Bool.{cases_eq, cases_lt}
use Rattle.std.proofs.lemmas.Bool.Decides.{nat_tests}
use Rattle.signal_base.specs.declared.window.Window.{Window}
use Rattle.formats.specs.Refusals.{CertificateFault}
use Rattle.bank_files.specs.Seen.{Seen}
use Rattle.bank_files.specs.Told.{Finds}
use Rattle.certificates.specs.Judged.{IsBadCertificate, IsGoodCertificate}
use Rattle.due.specs.Banks.{Bank, costs_in}
use Rattle.sweep_due.specs.declared.offsets.TheConstants.{OFFSETS}
use Rattle.sweep_due.specs.declared.standing.Standing.{Standing}
use Rattle.sweep_due.specs.CertificateNames.{file_at}
use Rattle.sweep_due.specs.JudgeRules.{AreGood, Files, IsFirstBad, IsGoodAt, IsNamed, IsReadAt}
use Rattle.sweep_due.specs.Phases.{IsSwept, is_swept, swept_offsets, window_at}
use Rattle.sweep_due.specs.Searches.{IsAmong}
use Rattle.sweep.specs.Turns.{with_offset}
use Rattle.judge_due.proofs.FileLaws.{NamesSome, all_good_at, bad_at, each_swept, names_too, read_among, read_at, read_up_to}
use Rattle.bank.specs.Ending.{MayHold}
use Rattle.bank.proofs.ContentLaws.{found_may_hold, told_bytes, told_may_hold}
use Rattle.judges.specs.Judging.{AreNamed, IsBadIn, swept_below}
use Rattle.judges.proofs.SweptLaws.{below, listed}

true_or_false : (b : Bool) → b ≡ true → b ≡ false → ⊥
true_or_false b one two = cc

-- the files with these bytes at one offset
abbrev pub with_file : Files → ℕ → List ℕ → Files
with_file files n bytes i = if nat_eq i n then bytes else files i

chosen : {X : Type 0} (b : Bool) (x y : X) → b ≡ true → (if b then x else y) ≡ x
chosen true x y e = refl
chosen false x y e = cc

other : {X : Type 0} (b : Bool) (x y : X) → b ≡ false → (if b then x else y) ≡ y
other true x y e = cc
other false x y e = refl

at_itself : (files : Files) (n : ℕ) (bytes : List ℕ) → with_file files n bytes n ≡ bytes
at_itself files n bytes = chosen (nat_eq n n) bytes (files n) (grind (arith, nat_tests))

less : (i n : ℕ) → i < n → nat_eq i n ≡ false
less i n lt = grind (arith, nat_tests)

more : (i n : ℕ) → n < i → nat_eq i n ≡ false
more i n lt = grind (arith, nat_tests)

elsewhere : (files : Files) (n : ℕ) (bytes : List ℕ) (i : ℕ) → ¬ (i ≡ n) → with_file files n bytes i ≡ files i
elsewhere files n bytes i apart = other (nat_eq i n) bytes (files i) (elim (cases_lt i n) [ inl lt ↦ less i n lt | inr ge ↦ more i n (omega (arith, ge, apart)) ])

before : (files : Files) (n : ℕ) (bytes : List ℕ) (i : ℕ) → i < n → with_file files n bytes i ≡ files i
before files n bytes i lt = elsewhere files n bytes i (λ e. omega (arith, lt, e))

module _ (old : Seen) (name : List ℕ) where
  -- these may be the files, as far as they are told; and below a number those that are swept were found so
  abbrev pub MayBe : Files → Type 0
  MayBe files = (i : ℕ) → MayHold (old.told (file_at name i)) (files i)

  abbrev pub WereFound : ℕ → ℕ → Files → Type 0
  WereFound phase n files = (i : ℕ) → i < n → is_swept phase i ≡ true → Finds (old.told (file_at name i)) (λ held. files i ≡ held)

  abbrev told_files : Files
  told_files i = told_bytes (old.told (file_at name i))

  may_be_told : MayBe told_files
  may_be_told i = told_may_hold (old.told (file_at name i))

  pub as_told : (files : Files) × MayBe files
  as_told = (told_files, may_be_told)

  -- one file more was read
  may_more : (files : Files) (n : ℕ) (bytes : List ℕ) → MayBe files → Finds (old.told (file_at name n)) (λ held. bytes ≡ held) → MayBe (with_file files n bytes)
  may_more files n bytes may finds i = elim (cases_eq i n) [
    | inl e ↦ subst (λ (j : ℕ). MayHold (old.told (file_at name j)) (with_file files n bytes j)) (sym e)
        (subst (λ (b : List ℕ). MayHold (old.told (file_at name n)) b) (sym (at_itself files n bytes)) (found_may_hold (old.told (file_at name n)) bytes finds))
    | inr apart ↦ subst (λ (b : List ℕ). MayHold (old.told (file_at name i)) b) (sym (elsewhere files n bytes i apart)) (may i)
  ]

  found_more : (phase : ℕ) (files : Files) (n : ℕ) (bytes : List ℕ) → WereFound phase n files → Finds (old.told (file_at name n)) (λ held. bytes ≡ held)
      → WereFound phase (suc n) (with_file files n bytes)
  found_more phase files n bytes found finds i lt swept = elim (cases_eq i n) [
    | inl e ↦ subst (λ (j : ℕ). Finds (old.told (file_at name j)) (λ held. with_file files n bytes j ≡ held)) (sym e)
        (subst (λ (b : List ℕ). Finds (old.told (file_at name n)) (λ held. b ≡ held)) (sym (at_itself files n bytes)) finds)
    | inr apart ↦
        subst (λ (b : List ℕ). Finds (old.told (file_at name i)) (λ held. b ≡ held)) (sym (elsewhere files n bytes i apart)) (found i (omega (arith, lt, apart)) swept)
  ]

  module _ (window : Window) (bank : Bank) where
    -- what the same files name is the same
    named_too : (some other : Files) (is : List ℕ) (s : Standing) → ((i : ℕ) → IsAmong is i → some i ≡ other i) → IsNamed window bank some is s → IsNamed window bank other is s
    named_too some other [] s same named = named
    named_too some other (i ∷ earlier) s same (last, named, first, second, good, e) = (
      last,
      named_too some other earlier last (λ j later. same j (inr later)) named,
      first,
      second,
      subst (λ (bytes : List ℕ). IsGoodCertificate (costs_in (window_at window i) bank) (window_at window i) bank.ceiling bytes first second) (same i (inl refl)) good,
      e,
    )

    -- each that is named is valid
    pub named_good : (files : Files) (is : List ℕ) (s : Standing) → IsNamed window bank files is s → (i : ℕ) → IsAmong is i → NamesSome window bank files i
    named_good files [] s named i is = absurd is
    named_good files (j ∷ earlier) s (last, named, first, second, good, e) i (inl same) = subst (NamesSome window bank files) same (first, second, good)
    named_good files (j ∷ earlier) s (last, named, first, second, good, e) i (inr later) = named_good files earlier last named i later

    abbrev IsChosen : ℕ → Standing → Files → Type 0
    IsChosen n s files = MayBe files × WereFound window.phase n files × IsNamed window bank files (swept_below window.phase n) s

    pub choose : (n : ℕ) (s : Standing) → AreNamed old name window bank (swept_below window.phase n) s → (files : Files) × IsChosen n s files
    choose zero s named = (told_files, (may_be_told, (λ i lt swept. absurd (omega (arith, lt))), named))
    choose (suc n) s named = by_test (is_swept window.phase n) refl (λ (r : Standing). choose n r) named
      where
        by_test : (b : Bool) → is_swept window.phase n ≡ b
            → ((r : Standing) → AreNamed old name window bank (swept_below window.phase n) r → (files : Files) × IsChosen n r files)
            → AreNamed old name window bank (with_offset window.phase n (swept_below window.phase n)) s → (files : Files) × IsChosen (suc n) s files
        by_test true e rest is =
            let all : AreNamed old name window bank (n ∷ swept_below window.phase n) s = rw e at is in
            let (last, earlier, first, second, read, put) = all in
            let (bytes, finds, good) = read in
            let (files, is_chosen) = rest last earlier in
            let (may, found, named) = is_chosen in
            let next = with_file files n bytes in
            let kept = named_too files next (swept_below window.phase n) last (λ i among. sym (before files n bytes i (below window.phase n i among).0)) named in
            let here : IsGoodAt window bank next n first second =
            subst (λ (b : List ℕ). IsGoodCertificate (costs_in (window_at window n) bank) (window_at window n) bank.ceiling b first second) (sym (at_itself files n bytes)) good in
            (next, (may_more files n bytes may finds, found_more window.phase files n bytes found finds, rw e (last, kept, first, second, here, put)))
        by_test false e rest is =
            let (files, is_chosen) = rest s (rw e at is) in
            let (may, found, named) = is_chosen in (
              files,
              (
                may,
                (λ i lt swept. elim (cases_eq i n) [
                  | inl same ↦ absurd (true_or_false (is_swept window.phase n) (ap (is_swept window.phase) (sym same) ∙ swept) e)
                  | inr apart ↦ found i (omega (arith, lt, apart)) swept
                ]),
                rw e named,
              ),
            )

    -- all below a number that are swept are valid
    good_below : (n : ℕ) (s : Standing) (files : Files) → IsNamed window bank files (swept_below window.phase n) s → (i : ℕ) → i < n → is_swept window.phase i ≡ true
        → NamesSome window bank files i
    good_below n s files named i lt swept = named_good files (swept_below window.phase n) s named i (listed window.phase n i lt swept)

    -- where all are valid
    abbrev AllValid : Standing → Files → Type 0
    AllValid s files =
        MayBe files × ((i : ℕ) → IsReadAt window bank files (swept_offsets window.phase) i → Finds (old.told (file_at name i)) (λ held. files i ≡ held))
        × AreGood window bank files (swept_offsets window.phase) × IsNamed window bank files (swept_below window.phase OFFSETS) s

    pub choose_all : (s : Standing) → AreNamed old name window bank (swept_below window.phase OFFSETS) s → (files : Files) × AllValid s files
    choose_all s are =
        let (files, is_chosen) = choose OFFSETS s are in
        let (may, found, named) = is_chosen in
        let all = each_swept window.phase in (
          files,
          (
            may,
            (λ i read. let swept = all i (read_among window bank files (swept_offsets window.phase) i read) in found i swept.0 swept.1),
            all_good_at window bank files (swept_offsets window.phase) (λ i among. let swept = all i among in good_below OFFSETS s files named i swept.0 swept.1),
            named,
          ),
        )

    -- where one is bad, and all before it are valid
    abbrev OneBad : ℕ → CertificateFault → Files → Type 0
    OneBad o fault files =
        ((i : ℕ) → IsReadAt window bank files (swept_offsets window.phase) i → Finds (old.told (file_at name i)) (λ held. files i ≡ held))
        × IsFirstBad window bank files (swept_offsets window.phase) o fault

    pub choose_bad : (o : ℕ) (fault : CertificateFault) (s : Standing) → IsSwept window.phase o → AreNamed old name window bank (swept_below window.phase o) s
        → IsBadIn old name window bank o fault → (files : Files) × OneBad o fault files
    choose_bad o fault s swept are (bytes, finds, bad) =
        let (files, is_chosen) = choose o s are in
        let (may, found, named) = is_chosen in
        let next = with_file files o bytes in
        let all_found = found_more window.phase files o bytes found finds in
        let here = subst (λ (b : List ℕ). IsBadCertificate (costs_in (window_at window o) bank) (window_at window o) bank.ceiling b fault) (sym (at_itself files o bytes)) bad in
        let read = read_at window bank next (is_swept window.phase) o 0 OFFSETS (omega arith) (omega (arith, swept.0)) swept.1
        (λ i lt is. names_too window bank files next i (sym (before files o bytes i lt)) (good_below o s files named i lt is)) in
        let first = bad_at window bank next o fault (swept_offsets window.phase) read here in (
          next,
          (
            (λ i at.
                let le = read_up_to window bank next (is_swept window.phase) o fault i 0 OFFSETS first at in
                let swept_too = each_swept window.phase i (read_among window bank next (swept_offsets window.phase) i at) in
                all_found i (omega (arith, le)) swept_too.1),
            first,
          ),
        )

    -- where all before one are valid, it is read, whatever it holds
    pub choose_read : (o : ℕ) (s : Standing) → IsSwept window.phase o → AreNamed old name window bank (swept_below window.phase o) s
        → (files : Files) × MayBe files × IsReadAt window bank files (swept_offsets window.phase) o
    choose_read o s swept are =
        let (files, is_chosen) = choose o s are in
        let (may, found, named) = is_chosen in (
          files,
          may,
          read_at window bank files (is_swept window.phase) o 0 OFFSETS (omega arith) (omega (arith, swept.0)) swept.1 (good_below o s files named),
        )
