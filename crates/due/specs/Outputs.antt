-- What a run writes: texts in an order, each to a file.
use Rattle.std.specs.Prelude.{ℕ, ◌⊎◌, Bool, false, List, [], ◌∷◌, codes}
use Rattle.due.specs.declared.due.Due.{Due}
use Rattle.due.specs.Dues.{text_of}

-- A text that a run writes: to which file, and whether the file is made empty first or the text is added at its end.
pub record Output : Type 0 where
  pub file : List ℕ
  pub anew : Bool
  pub text : List ℕ

-- P holds of each, or of some one
abbrev pub EachOf : {X : Type 0} → (X → Type 0) → List X → Type 0
EachOf P [] = Unit {0}
EachOf P (x ∷ xs) = P x × EachOf P xs

abbrev pub SomeOf : {X : Type 0} → (X → Type 0) → List X → Type 0
SomeOf P [] = ⊥
SomeOf P (x ∷ xs) = P x ⊎ SomeOf P xs

-- the name of standard output, which is only ever added to
abbrev pub standard_output : List ℕ
standard_output = codes "-"

-- what is due is printed
abbrev pub printed : Due → Output
printed due = record { file = standard_output; anew = false; text = text_of due }

-- all that a run writes that owes this
abbrev pub outputs_of : Due → List Output
outputs_of due = printed due ∷ []
