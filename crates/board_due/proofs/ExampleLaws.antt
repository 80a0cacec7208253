-- What the examples rest on: what words ask, a needless zero, and a text with an open line.
use Rattle.std.proofs.Common.{◌≡◌, ℕ, suc, zero, List, [], ◌∷◌, ◌++◌, codes, length, get_or, Some, inl, refl, sym, ap, ◌∙◌, arith}
use Rattle.std.specs.Fmt.{decimal, digits}
use Rattle.std.proofs.lemmas.Fmt.{decimal_digit, first_decimal}
use Rattle.std.proofs.lemmas.List.Elements.{All-cons, All-nil}
use Rattle.formats.specs.Bytes.{line, line_feed}
use Rattle.formats.specs.WordExamples.{asked, asked_usually, words_in}
use Rattle.formats.specs.WordValues.{number_of}
use Rattle.formats.proofs.FrameEdgeLaws.{split_once}
use Rattle.board_due.specs.BoardOrders.{AsksBoard}
use Rattle.board_due.specs.Examples.{order_of_q}
use Rattle.board_due.specs.Queries.{BeginsWithQuery, IsQuery, IsRefused}
use Rattle.board_due.proofs.QueryLaws.{apart, lone_byte, number_avoids}

pub usual_asks : AsksBoard (words_in (codes "board k.toml q.txt")) (order_of_q asked_usually 60 10 2)
unfolding digits number_of
usual_asks = (4, refl)

pub own_asks : AsksBoard (words_in (codes "board k.toml q.txt --count 3 --readers 4")) (order_of_q asked_usually 60 3 4)
unfolding digits number_of
own_asks = (4, refl)

pub late_asks : AsksBoard (words_in (codes "board k.toml q.txt --count 2 --start 999999999999")) (order_of_q (asked (Some 999_999_999_999) 180 0 52_596_000) 60 2 2)
unfolding digits number_of
late_asks = (4, refl)

pub early_asks : AsksBoard (words_in (codes "board k.toml q.txt --count 2 --start 0")) (order_of_q (asked (Some 0) 180 0 52_596_000) 60 2 2)
unfolding digits number_of
early_asks = (4, refl)

-- two zeros are no number
needless : (ms : ℕ) → IsQuery ms → decimal ms ≡ 48 ∷ 48 ∷ [] → ⊥
needless zero below e = omega (arith, ap (λ (l : List ℕ). length l) e, ap (λ (l : List ℕ). length l) (decimal_digit 0 (omega arith)))
needless (suc n) below e = omega (arith, first_decimal (suc n) (omega arith) (omega (arith, below)), ap (λ (l : List ℕ). get_or l 0 0) e)

pub no_needless_zero : (more : List ℕ) → ¬ (BeginsWithQuery (48 ∷ 48 ∷ 10 ∷ more))
no_needless_zero more begins =
    let same = split_once line_feed (decimal begins.0) (48 ∷ 48 ∷ []) begins.1 more (number_avoids begins.0 begins.2) ((λ e. omega (arith, e)), ((λ e. omega (arith, e)), tt))
    (sym (apart begins.0 begins.1) ∙ sym begins.3) in
    needless begins.0 begins.2 same.0

-- behind a query a line is refused
pub open_line : IsRefused (line (codes "0") ++ codes "7") 2
unfolding digits
open_line = record {
  queries = 0 ∷ [];
  rest = codes "7";
  good = (All-cons IsQuery 0 [] (omega arith) (All-nil IsQuery), omega arith);
  read = refl;
  more = omega arith;
  bad = inl (lone_byte 55);
  is_next = refl;
}

pub inside : IsRefused (line (codes "0") ++ (line (codes "00") ++ line (codes "7"))) 2
unfolding digits
inside = record {
  queries = 0 ∷ [];
  rest = line (codes "00") ++ line (codes "7");
  good = (All-cons IsQuery 0 [] (omega arith) (All-nil IsQuery), omega arith);
  read = refl;
  more = omega arith;
  bad = inl (no_needless_zero (line (codes "7")));
  is_next = refl;
}
