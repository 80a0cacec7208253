-- The walk over the last entries of a list, from the newest back.
use Rattle.std.proofs.Common.{◌≡◌, ℕ, suc, ◌+◌, ◌-◌, ◌≤◌, Bool, true, false, if◌then◌else◌, Option, None, Some, List, map, length, take, drop, fold, refl, sym, ap, ◌∙◌, arith}
use mathlib.Core.Option.{some}
use lib.ListN.{get_elem?}
use Rattle.std.proofs.Math.ListN.{drop_of_length-le}
use Rattle.std.proofs.lemmas.List.{drop-drop, length-map, take-append-drop}
use Rattle.std.proofs.lemmas.List.Sums.{fold-append}
use Rattle.atomic_table.proofs.Lists.{at_map, drop_at}
use Rattle.board_entries.specs.declared.entry.Entry.{Entry}
use Rattle.board_entries.specs.Board.{PlainEntry, has, last_entries, last_with, or_before}
use Rattle.board_entries.specs.Plain.{plain}

-- what was found in a place, or else what was found before
abbrev pub or_else : Option PlainEntry → Option PlainEntry → Option PlainEntry
or_else None before = before
or_else (Some e) before = Some e

chosen : (b : Bool) (e : PlainEntry) (before : Option PlainEntry) → (if b then Some e else before) ≡ or_else (if b then Some e else None) before
chosen true e before = refl
chosen false e before = refl

module _ (ms : ℕ) (list : List Entry) where
  -- none of the entries from n on has the millisecond
  abbrev pub NoneFrom : ℕ → Type 0
  NoneFrom n = (before : Option PlainEntry) → fold (or_before ms) before (drop n (map plain list)) ≡ before

  pub none_behind : (n : ℕ) → length list ≤ n → NoneFrom n
  none_behind n all before =
      let long : length (map plain list) ≡ length list = length-map list plain in
      ap (fold (or_before ms) before) (drop_of_length-le (map plain list) (omega arith))

  -- what the entries from n on find, where those behind n find none, is what n does
  pub found_at : (n : ℕ) (e : Entry) (here : Option PlainEntry) → get_elem? list n ≡ some e → here ≡ or_before ms None (plain e) → NoneFrom (n + 1)
      → (before : Option PlainEntry) → fold (or_before ms) before (drop n (map plain list)) ≡ or_else here before
  found_at n e here at is none before =
      let next : suc n ≡ n + 1 = omega arith in
      ap (fold (or_before ms) before) (drop_at (map plain list) n (plain e) (at_map plain list n e at))
      ∙ ap (λ k. fold (or_before ms) (or_before ms before (plain e)) (drop k (map plain list))) next
      ∙ none (or_before ms before (plain e))
      ∙ chosen (has (plain e) ms) (plain e) before
      ∙ ap (λ o. or_else o before) (sym is)

  starts : last_with ms (last_entries (map plain list)) ≡ fold (or_before ms) None (drop (length list - 64) (map plain list))
  starts = ap (λ k. fold (or_before ms) None (drop (k - 64) (map plain list))) (length-map list plain)

  pub none_last : (n : ℕ) → n ≡ length list - 64 → NoneFrom n → last_with ms (last_entries (map plain list)) ≡ None
  none_last n is none = starts ∙ ap (λ k. fold (or_before ms) None (drop k (map plain list))) (sym is) ∙ none None

  -- the walk ends where an entry was found
  pub found_last : (n : ℕ) (e : Entry) (r : PlainEntry) → length list - 64 ≤ n → get_elem? list n ≡ some e → Some r ≡ or_before ms None (plain e) → NoneFrom (n + 1)
      → last_with ms (last_entries (map plain list)) ≡ Some r
  found_last n e r near at is none =
      let first = length list - 64 in
      let xs = map plain list in
      let rest = drop first xs in
      let before = fold (or_before ms) None (take (n - first) rest) in
      let there : first + (n - first) ≡ n = omega arith in
      starts
      ∙ ap (fold (or_before ms) None) (sym (take-append-drop (n - first) rest))
      ∙ fold-append (or_before ms) None (take (n - first) rest) (drop (n - first) rest)
      ∙ ap (fold (or_before ms) before) (drop-drop (n - first) first xs)
      ∙ ap (λ k. fold (or_before ms) before (drop k xs)) there
      ∙ found_at n e (Some r) at is none before
