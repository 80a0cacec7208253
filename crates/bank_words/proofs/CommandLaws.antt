-- The command with which words begin, as the code looks for it.
use Rattle.std.proofs.Common.{◌≡◌, ℕ, ◌+◌, ◌<◌, Bool, true, false, if◌then◌else◌, List, [], ◌∷◌, length, take, drop, get_or, Some, None, bytes_eq, refl, ap, ◌∙◌}
use Rattle.std.specs.Cmp.Lexicographic.{pointwise}
use Rattle.std.proofs.lemmas.List.{drop_more}
use Rattle.formats.specs.declared.words.Command.{Command}
use Rattle.formats.specs.Words.{begins, form_of, line_behind, line_of}
use Rattle.bank_words.specs.Own.{behind_words}

-- what stands behind some words is what is left without them
behind_words-is : (own words : List (List ℕ)) → behind_words own words ≡ (if pointwise bytes_eq own (take (length own) words) then Some (drop (length own) words) else None)
behind_words-is [] words = refl
behind_words-is (first ∷ more) [] = refl
behind_words-is (first ∷ more) (word ∷ words) = by_first (bytes_eq first word) refl (behind_words-is more words)
  where
    by_first : (b : Bool) → bytes_eq first word ≡ b
        → behind_words more words ≡ (if pointwise bytes_eq more (take (length more) words) then Some (drop (length more) words) else None)
        → behind_words (first ∷ more) (word ∷ words) ≡ (if pointwise bytes_eq (first ∷ more) (take (length (first ∷ more)) (word ∷ words)) then Some (drop (length (first ∷ more)) (word ∷ words)) else None)
    by_first true e more_is = rw e more_is
    by_first false e more_is = rw e refl

-- of some commands, the words begin with the first, or they don't
module _ (words : List (List ℕ)) (c : Command) (more : List Command) where
  by_first : (b : Bool) → begins words c ≡ b → behind_words (form_of c).words words ≡ (if b then Some (drop (length (form_of c).words) words) else None)
  by_first b e = behind_words-is (form_of c).words words ∙ ap (λ v. if v then Some (drop (length (form_of c).words) words) else None) e

  first_here : (behind : List (List ℕ)) → Some behind ≡ behind_words (form_of c).words words → line_of (c ∷ more) words ≡ line_behind c behind
  first_here behind found = by_cases (begins words c) refl
    where
      by_cases : (b : Bool) → begins words c ≡ b → line_of (c ∷ more) words ≡ line_behind c behind
      by_cases true e = let f = by_first true e in let same : behind ≡ drop (length (form_of c).words) words = cc in rw (e, same) refl
      by_cases false e = let f = by_first false e in absurd cc

  not_first : None ≡ behind_words (form_of c).words words → line_of (c ∷ more) words ≡ line_of more words
  not_first none = by_cases (begins words c) refl
    where
      by_cases : (b : Bool) → begins words c ≡ b → line_of (c ∷ more) words ≡ line_of more words
      by_cases true e = let f = by_first true e in absurd cc
      by_cases false e = rw e refl

-- the same at a place of a list
module _ (commands : List Command) (words : List (List ℕ)) (i : ℕ) (d : Command) (within : i < length commands) where
  pub line_of-here : (behind : List (List ℕ)) → Some behind ≡ behind_words (form_of (get_or commands i d)).words words
      → line_of (drop i commands) words ≡ line_behind (get_or commands i d) behind
  line_of-here behind found = rw (drop_more commands i d within) (first_here words (get_or commands i d) (drop (i + 1) commands) behind found)

  pub line_of-next : None ≡ behind_words (form_of (get_or commands i d)).words words → line_of (drop i commands) words ≡ line_of (drop (i + 1) commands) words
  line_of-next none = rw (drop_more commands i d within) (not_first words (get_or commands i d) (drop (i + 1) commands) none)
