-- Worked files that tell all, and texts that runs write to them.
use Rattle.std.specs.Prelude.{ℕ, true, false, if◌then◌else◌, List, [], ◌∷◌, codes}
use Rattle.std.specs.Str.{bytes_eq}
use Rattle.bank_files.specs.Seen.{Seen}
use Rattle.bank_files.specs.Told.{Told, Missing, Holds}
use Rattle.due.specs.Outputs.{Output, standard_output}

-- what is told of files with these names and contents: of any other name, that there is no such file
abbrev pub told_in : List (List ℕ × List ℕ) → List ℕ → Told
told_in [] name = Missing
told_in (file ∷ rest) name = if bytes_eq file.0 name then Holds file.1 else told_in rest name

-- what is seen of such files, of which so many faults were counted
abbrev pub seen_with : ℕ → List (List ℕ × List ℕ) → Seen
seen_with faults files = record { told = told_in files; read_faults = λ _. faults; write_faults = λ _. faults }

-- what is seen of a certificate's file, of standard output, of both, and of a configuration and standard output
abbrev pub with_certificate : List ℕ → Seen
with_certificate bytes = seen_with 0 ((codes "k.cert", bytes) ∷ [])

abbrev pub with_output : List ℕ → Seen
with_output bytes = seen_with 0 ((standard_output, bytes) ∷ [])

abbrev pub with_both : List ℕ → List ℕ → Seen
with_both bytes printed = seen_with 0 ((codes "k.cert", bytes) ∷ (standard_output, printed) ∷ [])

abbrev pub with_configuration : List ℕ → List ℕ → Seen
with_configuration bytes printed = seen_with 0 ((codes "k.toml", bytes) ∷ (standard_output, printed) ∷ [])

-- a certificate, which is written anew, and a report, which is printed
abbrev pub certificate : Output
certificate = record { file = codes "k.cert"; anew = true; text = codes "abcd" }

abbrev pub report : Output
report = record { file = standard_output; anew = false; text = codes "none" }

-- all that a decode writes
abbrev pub decode_outputs : List Output
decode_outputs = certificate ∷ report ∷ []

-- all that a sweep writes that owes two certificates
abbrev pub sweep_outputs : List Output
sweep_outputs =
    record { file = codes "s.2"; anew = true; text = codes "ab" }
    ∷ record { file = codes "s.3"; anew = true; text = codes "cd" } ∷ report ∷ []
