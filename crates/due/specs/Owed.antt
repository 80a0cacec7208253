-- All that a run owes: what is told, and a certificate where words ask for one.
use Rattle.std.specs.Prelude.{ℕ, ◌≢◌, true, List, [], ◌∷◌, ◌++◌, Option, Some, None}
use Rattle.certificates.specs.Certificates.{Certificate}
use Rattle.certificates.specs.Texts.{certificate_text}
use Rattle.due.specs.declared.due.Due.{Due}
use Rattle.due.specs.CertificateRules.{IsCertificateDue, certificate_name}
use Rattle.due.specs.Inputs.{Contents}
use Rattle.due.specs.Outputs.{EachOf, Output, outputs_of, standard_output}
use Rattle.due.specs.Rules.{IsDue}

pub record Owed : Type 0 where
  pub due : Due
  pub certificate : Option Certificate

-- where no certificate is asked for
abbrev pub told_alone : Due → Owed
told_alone due = record { due = due; certificate = None }

pub record IsOwed (words : List (List ℕ)) (contents : Contents) (owed : Owed) : Type 0 where
  pub due_is : IsDue words contents owed.due
  pub certificate_is : IsCertificateDue words contents owed.certificate

-- the certificate is written anew to the file that is named for it
abbrev pub certificate_outputs : Option Certificate → Option (List ℕ) → List Output
certificate_outputs None name = []
certificate_outputs (Some c) None = []
certificate_outputs (Some c) (Some name) = record { file = name; anew = true; text = certificate_text c } ∷ []

-- all that a run writes that owes this: the certificate, and then what is told
abbrev pub owed_outputs : Option (List ℕ) → Owed → List Output
owed_outputs name owed = certificate_outputs owed.certificate name ++ outputs_of owed.due

-- the files that it may write
abbrev pub files_of : Option (List ℕ) → List (List ℕ)
files_of None = standard_output ∷ []
files_of (Some name) = name ∷ standard_output ∷ []

-- it writes no other
pub no_other_file : (name : Option (List ℕ)) (certificate : Option Certificate) (due : Due) (file : List ℕ) → EachOf (λ n. file ≢ n) (files_of name)
    → EachOf (λ (o : Output). file ≢ o.file) (certificate_outputs certificate name ++ outputs_of due)
no_other_file None None due file other = other
no_other_file None (Some c) due file other = other
no_other_file (Some name) None due file other = other.1
no_other_file (Some name) (Some c) due file other = other
