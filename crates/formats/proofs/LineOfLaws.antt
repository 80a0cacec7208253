-- The line of some words.
use Rattle.std.proofs.Common.{◌≡◌, ℕ, Bool, true, false, not, if◌then◌else◌, List, [], ◌∷◌, length, take, drop, Some, None, refl, subst}
use Rattle.std.specs.Option.{option_and_then}
use Rattle.std.specs.List.{find, list_all}
use Rattle.std.proofs.lemmas.Bool.{and_parts, not-true}
use Rattle.formats.specs.declared.words.Command.{Command}
use Rattle.formats.specs.Words.{Line, begins, form_of, is_line, is_run, line_behind, line_of, reach_commands, run_commands}

-- a line that is found follows the grammar, and its command is one of those that pass a test if all of them do
abbrev pub IsFine : (Command → Bool) → Line → Type 0
IsFine test line = (is_line line ≡ true) × (test line.command ≡ true)

module _ (words : List (List ℕ)) (line : Line) (test : Command → Bool) where
  by_test : (b : Bool) (parts : Line) → is_line parts ≡ b → test parts.command ≡ true → (if b then Some parts else None) ≡ Some line → IsFine test line
  by_test true parts good passes e = let same : parts ≡ line = cc in subst (IsFine test) same (good, passes)
  by_test false parts bad passes e = absurd cc

  by_command : (c : Command) → test c ≡ true → line_behind c (drop (length (form_of c).words) words) ≡ Some line → IsFine test line
  by_command c passes e =
      let behind = drop (length (form_of c).words) words in
      let parts : Line = record { command = c; places = take (form_of c).places behind; pairs = drop (form_of c).places behind } in
      by_test (is_line parts) parts refl passes e

  found : (commands : List Command) → list_all test commands ≡ true
      → option_and_then (λ c. line_behind c (drop (length (form_of c).words) words)) (find (begins words) commands) ≡ Some line → IsFine test line
  found [] all e = absurd cc
  found (c ∷ more) all e = by_begin (begins words c) (and_parts (test c) (list_all test more) all) (found more) e
    where
      by_begin : (b : Bool) → (test c ≡ true) × (list_all test more ≡ true)
          → (list_all test more ≡ true → option_and_then (λ d. line_behind d (drop (length (form_of d).words) words)) (find (begins words) more) ≡ Some line → IsFine test line)
          → option_and_then (λ d. line_behind d (drop (length (form_of d).words) words)) (if b then Some c else find (begins words) more) ≡ Some line → IsFine test line
      by_begin true pass later f = by_command c pass.0 f
      by_begin false pass later f = later pass.1 f

pub line_good : (commands : List Command) (words : List (List ℕ)) (line : Line) → line_of commands words ≡ Some line → is_line line ≡ true
line_good commands words line e = (found words line (λ c. true) commands (all_pass commands) e).0
  where
    all_pass : (cs : List Command) → list_all (λ c. true) cs ≡ true
    all_pass [] = refl
    all_pass (c ∷ cs) = all_pass cs

pub run_line : (words : List (List ℕ)) (line : Line) → line_of run_commands words ≡ Some line → is_run line.command ≡ true
run_line words line e = (found words line is_run run_commands refl e).1

pub reach_line : (words : List (List ℕ)) (line : Line) → line_of reach_commands words ≡ Some line → is_run line.command ≡ false
reach_line words line e = not-true (is_run line.command) (found words line (λ c. not (is_run c)) reach_commands refl e).1
