-- Lines, one after the other: answers by all entries, and answers by some.
use Rattle.std.proofs.Common.{◌≡◌, ℕ, zero, suc, ◌+◌, ◌<◌, List, [], ◌∷◌, ◌++◌, length, take, drop, get_or, Ok, Err, refl, sym, ap, ◌∙◌, subst, arith, append-nil, append_assoc}
use Rattle.std.proofs.Math.Numerals.{add-one}
use Rattle.std.proofs.lemmas.Grind.{flat_map-append}
use Rattle.std.proofs.lemmas.List.{take_more, take-append-drop}
use Rattle.bank_files.specs.Told.{output_name}
use Rattle.bank_files.specs.Seen.{Seen, Writes}
use Rattle.bank_files.proofs.Chaining.{Writes-failed, Writes-then}
use Rattle.board_entries.specs.Board.{PlainEntry, told_of}
use Rattle.board_due.specs.BoardAnswers.{at_lines, live_lines}
use Rattle.board_due.specs.BoardTexts.{at_line, live_line}

-- A text that is made of pieces: those so far, the next one, and the rest.
module _ {E : Type 0} (old mid new : Seen) (so_far next rest more whole : List ℕ) (longer : more ≡ so_far ++ next) (all : more ++ rest ≡ whole)
    (written : Writes {E = E} output_name old mid so_far (Ok tt)) where
  pub piece_goes_on : Writes {E = E} output_name mid new next (Ok tt) → Writes {E = E} output_name old new more (Ok tt)
  piece_goes_on is =
      subst (λ (text : List ℕ). Writes {E = E} output_name old new text (Ok tt)) (sym longer) (Writes-then {E = E} output_name old mid new so_far next (Ok tt) written is)

  pub piece_fails : (e : E) → Writes output_name mid new next (Err e) → Writes output_name old new whole (Err e)
  piece_fails e is =
      subst (λ (text : List ℕ). Writes output_name old new text (Err e)) all
      (Writes-failed output_name old new more rest e
      (subst (λ (text : List ℕ). Writes output_name old new text (Err e)) (sym longer) (Writes-then output_name old mid new so_far next (Err e) written is)))

module _ (entries : List PlainEntry) where
  -- the answer to a query by all entries
  abbrev pub at_of : ℕ → List ℕ
  at_of ms = at_line ms (told_of entries ms)

  pub at_more : (queries : List ℕ) (k ms : ℕ) → k < length queries → ms ≡ get_or queries k 0
      → at_lines entries (take (k + 1) queries) ≡ at_lines entries (take k queries) ++ at_of ms
  at_more queries k ms within is =
      ap (at_lines entries) (take_more queries k 0 within)
      ∙ (flat_map-append at_of (take k queries) (get_or queries k 0 ∷ [])
      ∙ (ap (λ l. at_lines entries (take k queries) ++ l) (append-nil (at_of (get_or queries k 0)))
      ∙ ap (λ (m : ℕ). at_lines entries (take k queries) ++ at_of m) (sym is)))

  pub at_rest : (queries : List ℕ) (k : ℕ) → at_lines entries (take k queries) ++ at_lines entries (drop k queries) ≡ at_lines entries queries
  at_rest queries k = sym (flat_map-append at_of (take k queries) (drop k queries)) ∙ ap (at_lines entries) (take-append-drop k queries)

  -- the answer to a query by the first so many
  abbrev pub live_of : ℕ → ℕ → List ℕ
  live_of ms count = live_line ms (told_of (take count entries) ms) count

  abbrev first_lines : List ℕ → List ℕ → ℕ → List ℕ
  first_lines queries counts k = live_lines entries (take k queries) (take k counts)

  longer : (queries counts : List ℕ) (k : ℕ) → k < length queries → k < length counts
      → first_lines queries counts (suc k) ≡ first_lines queries counts k ++ live_of (get_or queries k 0) (get_or counts k 0)
  longer [] counts k within also = absurd (omega arith)
  longer (q ∷ queries) [] k within also = absurd (omega arith)
  longer (q ∷ queries) (n ∷ counts) zero within also = append-nil (live_of q n)
  longer (q ∷ queries) (n ∷ counts) (suc k) within also =
      ap (λ l. live_of q n ++ l) (longer queries counts k (omega (arith, within)) (omega (arith, also)))
      ∙ sym (append_assoc (live_of q n) (first_lines queries counts k) (live_of (get_or queries k 0) (get_or counts k 0)))

  pub live_more : (queries counts : List ℕ) (k ms count : ℕ) → k < length queries → k < length counts → ms ≡ get_or queries k 0 → count ≡ get_or counts k 0
      → live_lines entries (take (k + 1) queries) (take (k + 1) counts) ≡ live_lines entries (take k queries) (take k counts) ++ live_of ms count
  live_more queries counts k ms count within also is has =
      ap (first_lines queries counts) (add-one k)
      ∙ (longer queries counts k within also
      ∙ (ap (λ (m : ℕ). first_lines queries counts k ++ live_of m (get_or counts k 0)) (sym is)
      ∙ ap (λ (n : ℕ). first_lines queries counts k ++ live_of ms n) (sym has)))

  pub live_rest : (queries counts : List ℕ) (k : ℕ) → length counts ≡ length queries
      → live_lines entries (take k queries) (take k counts) ++ live_lines entries (drop k queries) (drop k counts) ≡ live_lines entries queries counts
  live_rest queries counts zero same = refl
  live_rest [] counts (suc k) same = refl
  live_rest (q ∷ queries) [] (suc k) same = absurd (omega arith)
  live_rest (q ∷ queries) (n ∷ counts) (suc k) same =
      append_assoc (live_of q n) (first_lines queries counts k) (live_lines entries (drop k queries) (drop k counts))
      ∙ ap (λ l. live_of q n ++ l) (live_rest queries counts k (omega (arith, same)))
