-- What accepted words ask of `board`: one thing, in its ranges. Refused words read no file.
use Rattle.std.proofs.Common.{◌≡◌, ℕ, List, Ok, Err, ◌∙◌, ap, subst}
use Rattle.formats.specs.declared.words.Asked.{Asked}
use Rattle.formats.specs.declared.words.WordFault.{WordFault}
use Rattle.formats.specs.OrderRanges.{IsAsked, IsInRange}
use Rattle.formats.specs.Orders.{Checked, Order, order_of}
use Rattle.formats.specs.Orders.Order.{Decode, Check, Feed, Encode, Trial, Follow, Sweep, Judge, Board, Irig, IrigRead}
use Rattle.formats.specs.Words.{reach_commands}
use Rattle.formats.proofs.OrderRangeLaws.{along, order_in_range}
use Rattle.due.specs.Inputs.{Contents, Input}
use Rattle.board_due.specs.BoardOrders.{AsksBoard, BoardOrder, board_order_in, of_board}
use Rattle.board_due.specs.BoardRules.{IsBoardRead, Reads_bank, Reads_queries}

-- an order of `board` stays as it is
kept : (o order : Order) → of_board o ≡ Ok order → o ≡ order
kept (Board config queries asked workers step count readers) order e = cc
kept (Decode config asked workers certificate) order e = absurd cc
kept (Check config certificate asked) order e = absurd cc
kept (Feed config asked workers) order e = absurd cc
kept (Encode station minute announced) order e = absurd cc
kept (Trial number workers) order e = absurd cc
kept (Follow config asked workers step count) order e = absurd cc
kept (Sweep config asked workers certificate) order e = absurd cc
kept (Judge config certificate asked) order e = absurd cc
kept (Irig config asked workers) order e = absurd cc
kept (IrigRead file) order e = absurd cc

-- accepted words give an order of `board`
pub is_of_board : (words : List (List ℕ)) (order : Order) → board_order_in words ≡ Ok order → (order_of reach_commands words ≡ Ok order) × (of_board order ≡ Ok order)
is_of_board words order e =
    along (order_of reach_commands words) of_board order e (λ o is made.
    let same = kept o order made in
    (is ∙ ap Ok same, subst (λ p. of_board p ≡ Ok order) same made))

abbrev order_for : BoardOrder → ℕ → Order
order_for o workers = Board o.follow.config o.queries o.follow.asked workers o.follow.step o.follow.count o.readers

-- in its ranges
ranges : (words : List (List ℕ)) (o : BoardOrder) (asks : AsksBoard words o) → IsInRange (order_for o asks.0)
ranges words o (workers, is) = order_in_range reach_commands words (order_for o workers) (is_of_board words (order_for o workers) is).0

pub asked_in_range : (words : List (List ℕ)) (o : BoardOrder) → AsksBoard words o → IsAsked o.follow.asked
asked_in_range words o asks = (ranges words o asks).2

-- words ask one thing
abbrev made_of : List ℕ → List ℕ → Asked → ℕ → ℕ → ℕ → BoardOrder
made_of config queries asked step count readers =
    record { follow = record { config = config; asked = asked; step = step; count = count }; queries = queries; readers = readers }

by_fields : (c : Checked Order) (a b p q : List ℕ) (x y : Asked) (m n s t i j u v : ℕ) → c ≡ Ok (Board a p x m s i u) → c ≡ Ok (Board b q y n t j v)
    → made_of a p x s i u ≡ made_of b q y t j v
by_fields c a b p q x y m n s t i j u v e f = cc

pub one_order : (words : List (List ℕ)) (o p : BoardOrder) → AsksBoard words o → AsksBoard words p → o ≡ p
one_order words o p asks also =
    by_fields (board_order_in words) o.follow.config p.follow.config o.queries p.queries o.follow.asked p.follow.asked asks.0 also.0 o.follow.step p.follow.step
    o.follow.count p.follow.count o.readers p.readers asks.1 also.1

-- refused words ask nothing, and read nothing
ok_or_err : (c : Checked Order) (order : Order) (fault : WordFault) → c ≡ Ok order → c ≡ Err fault → ⊥
ok_or_err c order fault e f = cc

pub bad_words_read_nothing : (words : List (List ℕ)) (contents : Contents) (fault : WordFault) (input : Input) (file : List ℕ) → board_order_in words ≡ Err fault
    → ¬ (IsBoardRead words contents input file)
bad_words_read_nothing words contents fault input file bad (Reads_bank o asks read) = ok_or_err (board_order_in words) (order_for o asks.0) fault asks.1 bad
bad_words_read_nothing words contents fault input file bad (Reads_queries o asks config records loaded early e f) =
    ok_or_err (board_order_in words) (order_for o asks.0) fault asks.1 bad
