-- The text of records that rise is a log of them, and not too long.
use Rattle.std.proofs.Common.{◌≡◌, ◌≢◌, ℕ, suc, ◌+◌, ◌*◌, ◌<◌, ◌≤◌, inr, List, [], ◌∷◌, ◌++◌, length, get_or, refl, sym, ◌∙◌, ap, subst, arith, append_assoc, length-append}
use Rattle.std.specs.Fmt.{decimal}
use Rattle.std.proofs.lemmas.Bool.{ne_eqb}
use Rattle.std.proofs.lemmas.Fmt.{decimal_is_IsNumeral, length-decimal-le}
use Rattle.std.proofs.lemmas.List.{append-nil}
use Rattle.std.proofs.lemmas.Str.Parse.{digit_at}
use Rattle.definitions.specs.declared.level.Level.{Level}
use Rattle.definitions.specs.declared.level.Level.TheVariants.{High, Low, Unknown}
use Rattle.definitions.specs.heard.Logs.{Records}
use Rattle.formats.specs.declared.limits.TheConstants.{MOST_RECORDS, TIME_LIMIT}
use Rattle.formats.specs.Bytes.{carriage_return, line_feed, space}
use Rattle.formats.specs.LogLines.{IsLater, IsLog, IsRecord, ReadsOn, letter, lines_of, without_cr}
use Rattle.trial_log.specs.Clean.{log_text}
use Rattle.trial_log.proofs.SpacingLaws.{AreSpaced, start_before_end}

-- a record's line without its end
abbrev spelled : ℕ × Level → List ℕ
spelled r = decimal r.0 ++ space ∷ letter r.1 ∷ []

-- bytes without LF before a text stand at the front of its first line
onto_lines : (bs text l : List ℕ) (ls : List (List ℕ)) → ((k : ℕ) → k < length bs → get_or bs k 0 ≢ line_feed) → lines_of text ≡ l ∷ ls
    → lines_of (bs ++ text) ≡ (bs ++ l) ∷ ls
onto_lines [] text l ls none e = e
onto_lines (b ∷ bs) text l ls none e =
    rw (ne_eqb b line_feed (none 0 (omega arith)), onto_lines bs text l ls (λ k h. none (suc k) (omega arith)) e) refl

-- the end of a record's line
end_of_line : (level : Level) (text : List ℕ) → lines_of (space ∷ letter level ∷ line_feed ∷ text) ≡ (space ∷ letter level ∷ []) ∷ lines_of text
end_of_line High text = refl
end_of_line Low text = refl
end_of_line Unknown text = refl

first_line : (r : ℕ × Level) (text : List ℕ) → r.0 < TIME_LIMIT → lines_of ((spelled r ++ line_feed ∷ []) ++ text) ≡ spelled r ∷ lines_of text
first_line r text small =
    let numeral = (decimal_is_IsNumeral r.0 (omega (arith, small))).0 in
    let no_end : (k : ℕ) → k < length (decimal r.0) → get_or (decimal r.0) k 0 ≢ line_feed = λ k h e. omega (arith, digit_at (decimal r.0) k numeral.1 h, e) in
    let e : (spelled r ++ line_feed ∷ []) ++ text ≡ decimal r.0 ++ space ∷ letter r.1 ∷ line_feed ∷ text = simp append_assoc in
    ap lines_of e ∙ onto_lines (decimal r.0) (space ∷ letter r.1 ∷ line_feed ∷ text) (space ∷ letter r.1 ∷ []) (lines_of text) no_end (end_of_line r.1 text)

-- a line that doesn't end with CR has none to lose
keeps_end : (bs : List ℕ) (b : ℕ) → b ≢ carriage_return → without_cr (bs ++ b ∷ []) ≡ bs ++ b ∷ []
keeps_end [] b other = rw (ne_eqb b carriage_return other) refl
keeps_end (x ∷ []) b other = ap (λ (l : List ℕ). x ∷ l) (keeps_end [] b other)
keeps_end (x ∷ y ∷ ys) b other = ap (λ (l : List ℕ). x ∷ l) (keeps_end (y ∷ ys) b other)

letter_is_no_end : (level : Level) → letter level ≢ carriage_return
letter_is_no_end High e = omega (arith, e)
letter_is_no_end Low e = omega (arith, e)
letter_is_no_end Unknown e = omega (arith, e)

is_record : (r : ℕ × Level) → r.0 < TIME_LIMIT → IsRecord (spelled r) r
is_record r small =
    let e : (decimal r.0 ++ space ∷ []) ++ letter r.1 ∷ [] ≡ spelled r = append_assoc (decimal r.0) (space ∷ []) (letter r.1 ∷ []) in
    (small, ap without_cr (sym e) ∙ keeps_end (decimal r.0 ++ space ∷ []) (letter r.1) (letter_is_no_end r.1) ∙ e)

-- what is later than the last record is later than all
later_push : (before : Records) (r : ℕ × Level) (time : ℕ) → r.0 < time → IsLater (before ++ r ∷ []) time
later_push [] r time lt = lt
later_push (a ∷ []) r time lt = lt
later_push (a ∷ b ∷ bs) r time lt = later_push (b ∷ bs) r time lt

-- records that follow others are read after them
reads : (before rest all : Records) (from until : ℕ) → AreSpaced 1 from until rest → until ≤ TIME_LIMIT → length before + length rest ≤ MOST_RECORDS
    → ((time : ℕ) → from ≤ time → IsLater before time) → all ≡ before ++ rest → ReadsOn before (lines_of (log_text rest)) all
reads before [] all from until spaced low few later e = e ∙ append-nil before
reads before (r ∷ rs) all from until spaced low few later e =
    let small : r.0 < TIME_LIMIT = omega (arith, start_before_end 1 (r.0 + 1) until rs spaced.1) in
    subst (λ (ls : List (List ℕ)). ReadsOn before ls all) (sym (first_line r (log_text rs) small))
    (inr (
      r,
      is_record r small,
      later r.0 spaced.0,
      omega (arith, few),
      reads (before ++ r ∷ []) rs all (r.0 + 1) until spaced.1 low
          (omega (arith, few, length-append before (r ∷ []))) (λ time le. later_push before r time (omega arith)) (e ∙ sym (append_assoc before (r ∷ []) rs)),
    ))

pub is_log : (records : Records) (until : ℕ) → AreSpaced 1 0 until records → until ≤ TIME_LIMIT → length records ≤ MOST_RECORDS → IsLog (log_text records) records
is_log records until spaced low few = reads [] records records 0 until spaced low (omega arith) (λ time le. tt) refl

-- a record's line has at most 15 bytes
short_line : (r : ℕ × Level) → r.0 < TIME_LIMIT → length (spelled r ++ line_feed ∷ []) ≤ 15
short_line r small =
    omega (arith, length-append (spelled r) (line_feed ∷ []), length-append (decimal r.0) (space ∷ letter r.1 ∷ []), length-decimal-le 12 r.0 (omega arith) (omega (arith, small)) (omega (arith, small)))

pub short_text : (records : Records) (from until : ℕ) → AreSpaced 1 from until records → until ≤ TIME_LIMIT → length (log_text records) ≤ 15 * length records
short_text [] from until spaced low = omega arith
short_text (r ∷ rs) from until spaced low =
    omega (
      arith,
      length-append (spelled r ++ line_feed ∷ []) (log_text rs),
      short_line r (omega (arith, start_before_end 1 (r.0 + 1) until rs spaced.1)),
      short_text rs (r.0 + 1) until spaced.1 low,
    )
