-- What is seen over one call is carried over a run of calls.
use Rattle.std.proofs.Common.{◌≡◌, ◌≢◌, ℕ, ◌≤◌, List, [], ◌++◌, Result, Ok, Err, refl, sym, ◌∙◌, ap, subst, inl, inr, ⊎_elim, arith}
use Rattle.std.proofs.lemmas.List.{append-nil}
use Rattle.bank_files.specs.Told.{Told, Untold, Missing, Holds, appended, Tells}
use Rattle.bank_files.specs.Fault.{HasFault}
use Rattle.bank_files.specs.Seen.{Seen, KeepsCounts, SameCounts, OnlyReads, OnlyWrites, Writes}
use Rattle.bank_files.proofs.Telling.{Tells-then, Tells-appended, AppendsFront-after, AppendsFront-longer}

-- a fault of a later stretch is one of the whole
pub HasFault-from : (a b c : ℕ) → a ≤ b → HasFault b c → HasFault a c
HasFault-from a b c le h = ⊎_elim (λ lt. inl (omega arith)) (λ ge. inr ge) h

-- a fault of an earlier stretch is one of the whole
pub HasFault-to : (a b c : ℕ) → HasFault a b → b ≤ c → HasFault a c
HasFault-to a b c h le = ⊎_elim (λ lt. inl (omega arith)) (λ ge. inr (omega arith)) h

module _ (a : Seen) where
  -- before the first call
  pub KeepsCounts-start : KeepsCounts a a
  KeepsCounts-start = record { of_reads = λ name. omega arith; of_writes = λ name. omega arith }

  -- before the first call
  pub SameCounts-start : SameCounts a a
  SameCounts-start = record { of_reads = refl; of_writes = refl }

  -- before the first call
  pub OnlyReads-start : OnlyReads a a
  OnlyReads-start = record { told = refl; counts = KeepsCounts-start }

  -- before the first call
  pub OnlyWrites-start : (name : List ℕ) → OnlyWrites name a a
  OnlyWrites-start name = record { others = λ other ne. inl refl; counts = KeepsCounts-start }

module _ (a b c : Seen) where
  -- one stretch after another
  pub KeepsCounts-then : KeepsCounts a b → KeepsCounts b c → KeepsCounts a c
  KeepsCounts-then h k = record {
    of_reads = λ name. omega (arith, h.of_reads name, k.of_reads name);
    of_writes = λ name. omega (arith, h.of_writes name, k.of_writes name);
  }

  -- one stretch after another
  pub SameCounts-then : SameCounts a b → SameCounts b c → SameCounts a c
  SameCounts-then h k = record { of_reads = k.of_reads ∙ h.of_reads; of_writes = k.of_writes ∙ h.of_writes }

  -- one stretch after another
  pub OnlyReads-then : OnlyReads a b → OnlyReads b c → OnlyReads a c
  OnlyReads-then h k = record { told = k.told ∙ h.told; counts = KeepsCounts-then h.counts k.counts }

  -- one stretch after another
  pub OnlyWrites-then : (name : List ℕ) → OnlyWrites name a b → OnlyWrites name b c → OnlyWrites name a c
  OnlyWrites-then name h k = record {
    others = λ other ne. Tells-then (a.told other) (b.told other) (c.told other) (h.others other ne) (k.others other ne);
    counts = KeepsCounts-then h.counts k.counts;
  }

  -- reads, and then writes of one file
  pub OnlyWrites-after_reads : (name : List ℕ) → OnlyReads a b → OnlyWrites name b c → OnlyWrites name a c
  OnlyWrites-after_reads name h k = record {
    others = λ other ne. subst (λ told. Tells (told other) (c.told other)) h.told (k.others other ne);
    counts = KeepsCounts-then h.counts k.counts;
  }

-- where all is told as before and no count rose, all is seen as before
pub Seen-same : (a b : Seen) → OnlyReads a b → SameCounts a b → b ≡ a
Seen-same a b reads same = by_fields a.told b.told a.read_faults b.read_faults a.write_faults b.write_faults reads.told same.of_reads same.of_writes
  where
    seen : (List ℕ → Told) → (List ℕ → ℕ) → (List ℕ → ℕ) → Seen
    seen told read_faults write_faults = record { told = told; read_faults = read_faults; write_faults = write_faults }

    by_fields : (t u : List ℕ → Told) (r s v w : List ℕ → ℕ) → u ≡ t → s ≡ r → w ≡ v → seen u s w ≡ seen t r v
    by_fields t u r s v w e f g = cc

-- no byte more is at the end of a file that is there
nothing_more : (t : Told) → t ≢ Missing → Tells (appended t []) t
nothing_more Untold there = inl refl
nothing_more Missing there = absurd (there refl)
nothing_more (Holds bytes) there = inl (ap Holds (sym (append-nil bytes)))

module _ {E : Type 0} (name : List ℕ) where
  -- before the first text
  pub Writes-start : (a : Seen) → a.told name ≢ Missing → Writes {E = E} name a a [] (Ok tt)
  Writes-start a there = record {
    whole = nothing_more (a.told name) there;
    front = tt;
    cause = tt;
    same_counts = SameCounts-start a;
    only = OnlyWrites-start a name;
  }

  -- a text, and then another, or a front of it
  pub Writes-then : (a b c : Seen) (x y : List ℕ) (r : Result (Unit {0}) E) → Writes {E = E} name a b x (Ok tt) → Writes name b c y r → Writes name a c (x ++ y) r
  Writes-then a b c x y (Ok u) h k = record {
    whole = Tells-appended (a.told name) (b.told name) (c.told name) x y h.whole k.whole;
    front = tt;
    cause = tt;
    same_counts = SameCounts-then a b c h.same_counts k.same_counts;
    only = OnlyWrites-then a b c name h.only k.only;
  }
  Writes-then a b c x y (Err e) h k = record {
    whole = tt;
    front = AppendsFront-after (a.told name) (b.told name) (c.told name) x y h.whole k.front;
    cause = HasFault-from (a.write_faults name) (b.write_faults name) (c.write_faults name) (h.only.counts.of_writes name) k.cause;
    same_counts = tt;
    only = OnlyWrites-then a b c name h.only k.only;
  }

  -- a front of a text is one of a longer text
  pub Writes-failed : (a b : Seen) (x y : List ℕ) (e : E) → Writes name a b x (Err e) → Writes name a b (x ++ y) (Err e)
  Writes-failed a b x y e h = record {
    whole = tt;
    front = AppendsFront-longer (a.told name) (b.told name) x y h.front;
    cause = h.cause;
    same_counts = tt;
    only = h.only;
  }

  -- reads of which none failed, and then a text
  pub Writes-after_reads : (a b c : Seen) (x : List ℕ) (r : Result (Unit {0}) E) → OnlyReads a b → SameCounts a b → Writes name b c x r → Writes name a c x r
  Writes-after_reads a b c x r reads same h = subst (λ (s : Seen). Writes name s c x r) (Seen-same a b reads same) h
