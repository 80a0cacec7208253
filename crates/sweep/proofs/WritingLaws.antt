-- One certificate is written in front of other outputs.
use Rattle.std.proofs.Common.{◌≡◌, ◌≢◌, ℕ, ◌⊎◌, Bool, true, false, if◌then◌else◌, List, [], ◌∷◌, Result, Ok, Err, inl, inr, refl, sym, ap, ◌∙◌, subst}
use Rattle.bank_files.specs.Told.{AppendsFront, Tells, Told, Untold, appended, emptied}
use Rattle.bank_files.specs.Seen.{OnlyWrites, SameCounts, Seen, WriteFails}
use Rattle.bank_files.proofs.Chaining.{HasFault-from, KeepsCounts-then, SameCounts-then}
use Rattle.bank_files.proofs.Telling.{Tells-then}
use Rattle.due.specs.Outputs.{EachOf, Output, SomeOf}
use Rattle.bank.specs.Ending.{CameTo, HasFront, IsUntouched, IsWhole, WritesAll, begun}

-- What is told of a file that stayed as it was, once something was made of it: where nothing is told, nothing is told later.
moved : (f : Told → Told) (a b c : Told) → f Untold ≡ Untold → Tells a b → Tells (f b) c → Tells (f a) c
moved f a b c none (inl same) is = subst (λ (t : Told). Tells (f t) c) same is
moved f a b c none (inr untold) is = elim (subst (λ (t : Told). Tells t c) (ap f untold ∙ none) is) [ inl e ↦ inr e | inr e ↦ inr e ]

begun_untold : (o : Output) → begun o Untold ≡ Untold
begun_untold o = by_anew o.anew
  where
    by_anew : (b : Bool) → (if b then emptied Untold else Untold) ≡ Untold
    by_anew true = refl
    by_anew false = refl

front_moved : (o : Output) (a b c : Told) → Tells a b → AppendsFront (begun o b) o.text c → AppendsFront (begun o a) o.text c
front_moved o a b c same (inl is) = inl (moved (begun o) a b c (begun_untold o) same is)
front_moved o a b c same (inr (front, rest, parts, is)) =
    inr (front, rest, parts, moved (λ t. appended (begun o t) front) a b c (ap (λ t. appended t front) (begun_untold o)) same is)

module _ (name text : List ℕ) where
  abbrev pub certificate_output : Output
  certificate_output = record { file = name; anew = true; text = text }

  module _ (a b c : Seen) (only : OnlyWrites name a b) where
    untouched_from : (o : Output) → name ≢ o.file → IsUntouched b c o → IsUntouched a c o
    untouched_from o apart is = Tells-then (a.told o.file) (b.told o.file) (c.told o.file) (only.others o.file (λ e. apart (sym e))) is

    whole_from : (o : Output) → name ≢ o.file → IsWhole b c o → IsWhole a c o
    whole_from o apart is =
        moved (λ t. appended (begun o t) o.text) (a.told o.file) (b.told o.file) (c.told o.file) (ap (λ t. appended t o.text) (begun_untold o))
        (only.others o.file (λ e. apart (sym e))) is

    has_front_from : (o : Output) → name ≢ o.file → HasFront b c o → HasFront a c o
    has_front_from o apart (inl same) = inl (untouched_from o apart same)
    has_front_from o apart (inr front) = inr (front_moved o (a.told o.file) (b.told o.file) (c.told o.file) (only.others o.file (λ e. apart (sym e))) front)

    all_untouched : (os : List Output) → EachOf (λ (o : Output). name ≢ o.file) os → EachOf (IsUntouched b c) os → EachOf (IsUntouched a c) os
    all_untouched [] apart each = tt
    all_untouched (o ∷ os) apart each = (untouched_from o apart.0 each.0, all_untouched os apart.1 each.1)

    all_whole : (os : List Output) → EachOf (λ (o : Output). name ≢ o.file) os → EachOf (IsWhole b c) os → EachOf (IsWhole a c) os
    all_whole [] apart each = tt
    all_whole (o ∷ os) apart each = (whole_from o apart.0 each.0, all_whole os apart.1 each.1)

    came_from : (os : List Output) → EachOf (λ (o : Output). name ≢ o.file) os → CameTo b c os → CameTo a c os
    came_from [] apart came = absurd came
    came_from (o ∷ os) apart (inl (front, rest)) = inl (has_front_from o apart.0 front, all_untouched os apart.1 rest)
    came_from (o ∷ os) apart (inr (whole, rest)) = inr (whole_from o apart.0 whole, came_from os apart.1 rest)

    some_fails : (os : List Output) → SomeOf (λ (o : Output). WriteFails o.file b c) os → SomeOf (λ (o : Output). WriteFails o.file a c) os
    some_fails [] some = absurd some
    some_fails (o ∷ os) (inl here) = inl (HasFault-from (a.write_faults o.file) (b.write_faults o.file) (c.write_faults o.file) (only.counts.of_writes o.file) here)
    some_fails (o ∷ os) (inr more) = inr (some_fails os more)

    -- it stands whole, also once the others are written
    stays : (os : List Output) → EachOf (λ (o : Output). name ≢ o.file) os → {E : Type 0} → (r : Result (Unit {0}) E) → Tells (appended (emptied (a.told name)) text) (b.told name)
        → WritesAll os b c r → IsWhole a c certificate_output
    stays os apart r whole written = Tells-then (appended (emptied (a.told name)) text) (b.told name) (c.told name) whole (written.others name apart)

    -- one that was written, and then the others, or a front of them
    pub whole_then : (os : List Output) → EachOf (λ (o : Output). name ≢ o.file) os → {E : Type 0} → (r : Result (Unit {0}) E)
        → Tells (appended (emptied (a.told name)) text) (b.told name) → SameCounts a b → WritesAll os b c r → WritesAll (certificate_output ∷ os) a c r
    whole_then os apart (Ok u) whole same written = record {
      whole = (stays os apart (Ok u) whole written, all_whole os apart written.whole);
      front = tt;
      cause = tt;
      same_counts = SameCounts-then a b c same written.same_counts;
      others = λ file other. Tells-then (a.told file) (b.told file) (c.told file) (only.others file other.0) (written.others file other.1);
      counts = KeepsCounts-then a b c only.counts written.counts;
    }
    whole_then os apart (Err e) whole same written = record {
      whole = tt;
      front = inr (stays os apart (Err e) whole written, came_from os apart written.front);
      cause = inr (some_fails os written.cause);
      same_counts = tt;
      others = λ file other. Tells-then (a.told file) (b.told file) (c.told file) (only.others file other.0) (written.others file other.1);
      counts = KeepsCounts-then a b c only.counts written.counts;
    }

  -- one that wasn't written whole, and none of the others
  left_alone : (a b : Seen) → OnlyWrites name a b → (os : List Output) → EachOf (λ (o : Output). name ≢ o.file) os → EachOf (IsUntouched a b) os
  left_alone a b only [] apart = tt
  left_alone a b only (o ∷ os) apart = (only.others o.file (λ e. apart.0 (sym e)), left_alone a b only os apart.1)

  pub cut_off : (a b : Seen) (os : List Output) → EachOf (λ (o : Output). name ≢ o.file) os → {E : Type 0} → (e : E)
      → Tells (a.told name) (b.told name) ⊎ AppendsFront (emptied (a.told name)) text (b.told name) → WriteFails name a b → OnlyWrites name a b
      → WritesAll (certificate_output ∷ os) a b (Err e)
  cut_off a b os apart e front cause only = record {
    whole = tt;
    front = inl (front, left_alone a b only os apart);
    cause = inl cause;
    same_counts = tt;
    others = λ file other. only.others file other.0;
    counts = only.counts;
  }
