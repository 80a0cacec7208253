-- Words are read in their order, one after the other.
use Rattle.std.proofs.Common.{◌≡◌, ℕ, ◌+◌, List, [], ◌∷◌, ◌++◌, length, drop, append_assoc, append-nil, refl, sym, ap, ◌∙◌, None, Some}
use Rattle.std.proofs.lemmas.List.{drop_more, length-append}
use Rattle.std.proofs.Math.ListN.{drop_of_length-le}
use Rattle.program.specs.CommandLine.{Given, IsWord, EndsBefore, AreWords, AreFirstWords}

-- the program's name alone was passed over
pub no_words_yet : (given : Given) → AreFirstWords given []
no_words_yet None = tt
no_words_yet (Some all) = refl

-- behind the last word there is nothing
pub all_words : (given : Given) (texts : List (List ℕ)) → AreFirstWords given texts → EndsBefore given (length texts + 1) → AreWords given texts
all_words None texts first end = tt
all_words (Some all) texts first end = sym (append-nil texts) ∙ ap (λ rest. texts ++ rest) (sym (drop_of_length-le all end)) ∙ first

-- one word more
pub one_more : (given : Given) (texts : List (List ℕ)) (word : List ℕ) → AreFirstWords given texts → IsWord given (length texts + 1) word
    → AreFirstWords given (texts ++ word ∷ [])
one_more None texts word first is = tt
one_more (Some all) texts word first is =
    let next : drop (length texts + 1) all ≡ word ∷ drop (length texts + 1 + 1) all = drop_more all (length texts + 1) [] is.0 ∙ ap (λ w. w ∷ drop (length texts + 1 + 1) all) is.1 in
    let longer : length (texts ++ word ∷ []) ≡ length texts + 1 = length-append texts (word ∷ []) in
    rw (longer, append_assoc) (ap (λ rest. texts ++ rest) (sym next) ∙ first)
