-- What is kept is delivered, one certificate after the other.
use Rattle.std.proofs.Common.{◌≡◌, ◌≢◌, ℕ, zero, suc, ◌+◌, ◌<◌, ◌≤◌, List, [], ◌∷◌, drop, get_or, length, Result, Ok, Err, refl, sym, ◌∙◌, subst, string_bytes}
use Rattle.std.proofs.Math.Numerals.{add-one}
use Rattle.std.proofs.Math.Seq.{drop-cons}
use Rattle.std.proofs.lemmas.List.{drop_all}
use Rattle.bank_files.specs.Told.{output_name}
use Rattle.bank_files.specs.Seen.{OnlyWrites, Seen, Writes}
use Rattle.bank_files.proofs.Chaining.{KeepsCounts-then}
use Rattle.bank_files.proofs.Telling.{Tells-then}
use Rattle.certificates.specs.declared.certificate.Line.{Line}
use Rattle.field_tables.specs.Scored.{costs_of}
use Rattle.certificate_walks.specs.Written.{AreTightWalks}
use Rattle.due.specs.declared.due.Due.{Due}
use Rattle.due.specs.Dues.{text_of}
use Rattle.due.specs.Outputs.{EachOf, Output}
use Rattle.bank.specs.Ending.{OnlyWritesAmong, WritesAll}
use Rattle.bank.proofs.EndingLaws.{one_written}
use Rattle.sweep.specs.declared.kept.Kept.{Kept}
use Rattle.sweep.specs.Certifying.{AreApart, AreWalked, DeliversKept, IsOneCutOff, IsOneWritten, files_kept, kept_outputs, text_of_lines}
use Rattle.sweep.proofs.WritingLaws.{cut_off, whole_then}

-- there is one list of tight walks of what is kept
abbrev pub OneWalk : Kept → Type 0
OneWalk k = (ls ms : List Line) → AreTightWalks (costs_of k.tables) k.head ls → AreTightWalks (costs_of k.tables) k.head ms → ls ≡ ms

-- a file that is apart from those of what is kept and from standard output is no output's
apart_from_outputs : (name : List ℕ) (ks : List Kept) (parts : ℕ) (walks : List (List Line)) (due : Due) → EachOf (λ (l : Kept). name ≢ string_bytes l.name) ks → name ≢ output_name
    → EachOf (λ (o : Output). name ≢ o.file) (kept_outputs ks parts walks due)
apart_from_outputs name [] parts walks due each apart = (apart, tt)
apart_from_outputs name (k ∷ ks) parts [] due each apart = (apart, tt)
apart_from_outputs name (k ∷ ks) parts (lines ∷ walks) due each apart = (each.0, apart_from_outputs name ks parts walks due each.1 apart)

-- those behind are apart too
apart_behind : (i : ℕ) (ks : List Kept) → AreApart ks → AreApart (drop i ks)
apart_behind zero ks apart = apart
apart_behind (suc i) [] apart = tt
apart_behind (suc i) (k ∷ ks) apart = apart_behind i ks apart.2

pub apart_at : (ks : List Kept) (i : ℕ) (d k : Kept) → i < length ks → k ≡ get_or ks i d → AreApart ks → string_bytes k.name ≢ output_name
apart_at ks i d k within here apart =
    let parted : AreApart (get_or ks i d ∷ drop (suc i) ks) = subst AreApart (drop-cons ks i d within) (apart_behind i ks apart) in
    subst (λ (l : Kept). string_bytes l.name ≢ output_name) (sym here) parted.1

module _ (parts : ℕ) (due : Due) where
  -- what leads from here on to the whole
  abbrev pub LeadsOn : List Kept → Seen → List Kept → Seen → Type 0
  LeadsOn whole old rest now =
      ((new : Seen) (r : Result (Unit {0}) (Unit {0})) → DeliversKept rest parts due now new r → DeliversKept whole parts due old new r)
      × ((new : Seen) → OnlyWritesAmong (files_kept rest) now new → OnlyWritesAmong (files_kept whole) old new)

  -- one certificate more
  module _ (k : Kept) (ks : List Kept) (a b : Seen) (apart : AreApart (k ∷ ks)) (only : OnlyWrites (string_bytes k.name) a b) where
    one_more : OneWalk k → IsOneWritten k parts a b → (new : Seen) (r : Result (Unit {0}) (Unit {0})) → DeliversKept ks parts due b new r → DeliversKept (k ∷ ks) parts due a new r
    one_more one is new (Ok u) (walks, are, written) = (
      is.lines ∷ walks,
      (is.walks, are),
      whole_then (string_bytes k.name) (text_of_lines k parts is.lines) a b new only (kept_outputs ks parts walks due)
          (apart_from_outputs (string_bytes k.name) ks parts walks due apart.0 apart.1) {E = Unit {0}} (Ok tt) is.text is.same written,
    )
    one_more one is new (Err e) front = by_walks
      where
        by_walks : (walks : List (List Line)) → AreWalked (k ∷ ks) walks → WritesAll {E = Unit {0}} (kept_outputs (k ∷ ks) parts walks due) a new (Err tt)
        by_walks [] are = absurd are
        by_walks (lines ∷ walks) are =
            subst (λ (ls : List Line). WritesAll {E = Unit {0}} (kept_outputs (k ∷ ks) parts (ls ∷ walks) due) a new (Err tt)) (one is.lines lines is.walks are.0)
            (whole_then (string_bytes k.name) (text_of_lines k parts is.lines) a b new only (kept_outputs ks parts walks due)
            (apart_from_outputs (string_bytes k.name) ks parts walks due apart.0 apart.1) {E = Unit {0}} (Err tt) is.text is.same (front walks are.1))

    only_more : (new : Seen) → OnlyWritesAmong (files_kept ks) b new → OnlyWritesAmong (files_kept (k ∷ ks)) a new
    only_more new rest = record {
      others = λ other none. Tells-then (a.told other) (b.told other) (new.told other) (only.others other none.0) (rest.others other none.1);
      counts = KeepsCounts-then a b new only.counts rest.counts;
    }

    -- or none
    cut : IsOneCutOff k parts a b → DeliversKept {E = Unit {0}} (k ∷ ks) parts due a b (Err tt)
    cut is = by_walks
      where
        by_walks : (walks : List (List Line)) → AreWalked (k ∷ ks) walks → WritesAll {E = Unit {0}} (kept_outputs (k ∷ ks) parts walks due) a b (Err tt)
        by_walks [] are = absurd are
        by_walks (lines ∷ walks) are =
            cut_off (string_bytes k.name) (text_of_lines k parts lines) a b (kept_outputs ks parts walks due)
            (apart_from_outputs (string_bytes k.name) ks parts walks due apart.0 apart.1) {E = Unit {0}} tt (is.front lines are.0) is.cause only

    only_one : OnlyWritesAmong (files_kept (k ∷ ks)) a b
    only_one = record { others = λ other none. only.others other none.0; counts = only.counts }

  module _ (whole : List Kept) (old : Seen) where
    pub nothing_yet : LeadsOn whole old whole old
    nothing_yet = ((λ new r delivers. delivers), (λ new only. only))

    module _ (i : ℕ) (d k : Kept) (a b : Seen) (within : i < length whole) (here : k ≡ get_or whole i d) (apart : AreApart whole) (only : OnlyWrites (string_bytes k.name) a b)
        (leads : LeadsOn whole old (drop i whole) a) where
      rest_is : drop i whole ≡ k ∷ drop (i + 1) whole
      rest_is = drop-cons whole i d within ∙ (λ t. sym here t ∷ drop (sym (add-one i) t) whole)

      apart_here : AreApart (k ∷ drop (i + 1) whole)
      apart_here = subst AreApart rest_is (apart_behind i whole apart)

      leads_here : LeadsOn whole old (k ∷ drop (i + 1) whole) a
      leads_here = subst (λ (rest : List Kept). LeadsOn whole old rest a) rest_is leads

      pub leads_past : OneWalk k → IsOneWritten k parts a b → LeadsOn whole old (drop (i + 1) whole) b
      leads_past one is = (
        λ new r delivers. leads_here.0 new r (one_more k (drop (i + 1) whole) a b apart_here only one is new r delivers),
        λ new rest. leads_here.1 new (only_more k (drop (i + 1) whole) a b apart_here only new rest),
      )

      pub ends_here : IsOneCutOff k parts a b → DeliversKept {E = Unit {0}} whole parts due old b (Err tt)
      ends_here is = leads_here.0 b (Err tt) (cut k (drop (i + 1) whole) a b apart_here only is)

      pub only_to_here : OnlyWritesAmong (files_kept whole) old b
      only_to_here = leads_here.1 b (only_one k (drop (i + 1) whole) a b apart_here only)

    module _ (i : ℕ) (a new : Seen) (all : length whole ≤ i) (leads : LeadsOn whole old (drop i whole) a) where
      leads_to_the_end : LeadsOn whole old [] a
      leads_to_the_end = subst (λ (rest : List Kept). LeadsOn whole old rest a) (drop_all i whole all) leads

      pub told_last : {E : Type 0} → (r : Result (Unit {0}) E) → Writes output_name a new (text_of due) r → DeliversKept whole parts due old new r
      told_last (Ok u) written =
          leads_to_the_end.0 new (Ok tt)
          ([], refl, one_written {E = Unit {0}} a new (text_of due) (Ok tt) (record { whole = written.whole; front = tt; cause = tt; same_counts = written.same_counts; only = written.only }))
      told_last (Err e) written =
          leads_to_the_end.0 new (Err tt)
          (λ walks are. one_written {E = Unit {0}} a new (text_of due) (Err tt) (record { whole = tt; front = written.front; cause = written.cause; same_counts = tt; only = written.only }))

      pub only_at_last : OnlyWrites output_name a new → OnlyWritesAmong (files_kept whole) old new
      only_at_last only = leads_to_the_end.1 new (record { others = λ other none. only.others other none.0; counts = only.counts })
