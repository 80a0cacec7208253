-- All that a sweep owes: what is told, and the certificates where words ask for them.
use Rattle.std.specs.Prelude.{ℕ, ◌≢◌, ◌++◌, Bool, true, false, if◌then◌else◌, List, [], ◌∷◌, filter, map, Option, Some, None}
use Rattle.std.specs.List.{range_with_len}
use Rattle.certificates.specs.Certificates.{Certificate}
use Rattle.due.specs.declared.due.Due.{Due}
use Rattle.due.specs.Inputs.{Contents}
use Rattle.due.specs.Outputs.{EachOf, Output, outputs_of, standard_output}
use Rattle.sweep_due.specs.declared.offsets.TheConstants.{OFFSETS}
use Rattle.sweep_due.specs.CertificateNames.{file_at}
use Rattle.sweep_due.specs.Phases.{is_swept, swept_offsets}
use Rattle.sweep_due.specs.SweepCertificates.{AreCertificatesDue, SweptCertificates, sweep_outputs}
use Rattle.sweep_due.specs.SweepRules.{IsSweepDue}

pub record SweepOwed : Type 0 where
  pub due : Due
  pub certificates : Option SweptCertificates

-- where no certificates are asked for
abbrev pub told_alone : Due → SweepOwed
told_alone due = record { due = due; certificates = None }

pub record IsSweepOwed (words : List (List ℕ)) (contents : Contents) (owed : SweepOwed) : Type 0 where
  pub due_is : IsSweepDue words contents owed.due
  pub certificates_are : AreCertificatesDue words contents owed.certificates

-- all that a run writes that owes this: the certificates, and then what is told
abbrev pub outputs_behind : Option SweptCertificates → Option (List ℕ) → Due → List Output
outputs_behind None name due = outputs_of due
outputs_behind (Some cs) None due = outputs_of due
outputs_behind (Some cs) (Some name) due = sweep_outputs name (swept_offsets cs.phase) cs.each due

abbrev pub owed_outputs : Option (List ℕ) → SweepOwed → List Output
owed_outputs name owed = outputs_behind owed.certificates name owed.due

-- the files that it may write: with certificates that of each offset there is
abbrev pub files_of : Option (List ℕ) → List (List ℕ)
files_of None = standard_output ∷ []
files_of (Some name) = map (file_at name) (range_with_len 0 OFFSETS) ++ standard_output ∷ []

-- it writes no other
module _ (file name : List ℕ) where
  -- a file that isn't among those of some offsets and standard output
  apart_from : (is : List ℕ) → EachOf (λ n. file ≢ n) (map (file_at name) is ++ standard_output ∷ [])
      → EachOf (λ i. file ≢ file_at name i) is × (file ≢ standard_output)
  apart_from [] other = (tt, other.0)
  apart_from (i ∷ is) other = let rest = apart_from is other.1 in ((other.0, rest.0), rest.1)

  -- is no certificate's of fewer
  kept : (p : ℕ → Bool) (is : List ℕ) → EachOf (λ i. file ≢ file_at name i) is → EachOf (λ i. file ≢ file_at name i) (filter p is)
  kept p [] other = tt
  kept p (i ∷ is) other = by_test (p i) other.0 (kept p is other.1)
    where
      by_test : (b : Bool) → file ≢ file_at name i → EachOf (λ j. file ≢ file_at name j) (filter p is)
          → EachOf (λ j. file ≢ file_at name j) (if b then i ∷ filter p is else filter p is)
      by_test true here rest = (here, rest)
      by_test false here rest = rest

  not_written : (due : Due) (is : List ℕ) (cs : List Certificate) → EachOf (λ i. file ≢ file_at name i) is → file ≢ standard_output
      → EachOf (λ (o : Output). file ≢ o.file) (sweep_outputs name is cs due)
  not_written due [] cs other apart = (apart, tt)
  not_written due (i ∷ is) [] other apart = (apart, tt)
  not_written due (i ∷ is) (c ∷ cs) other apart = (other.0, not_written due is cs other.1 apart)

pub no_other_file : (name : Option (List ℕ)) (certificates : Option SweptCertificates) (due : Due) (file : List ℕ) → EachOf (λ n. file ≢ n) (files_of name)
    → EachOf (λ (o : Output). file ≢ o.file) (outputs_behind certificates name due)
no_other_file None None due file other = other
no_other_file None (Some cs) due file other = other
no_other_file (Some name) None due file other = ((apart_from file name (range_with_len 0 OFFSETS) other).1, tt)
no_other_file (Some name) (Some cs) due file other =
    let apart = apart_from file name (range_with_len 0 OFFSETS) other in
    not_written file name due (swept_offsets cs.phase) cs.each (kept file name (is_swept cs.phase) (range_with_len 0 OFFSETS) apart.0) apart.1
