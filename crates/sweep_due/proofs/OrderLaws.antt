-- What accepted words ask of `sweep`: one thing, in its ranges. Refused words read no file.
use Rattle.std.proofs.Common.{◌≡◌, ℕ, List, Option, Ok, Err, ◌∙◌, ap, subst}
use Rattle.formats.specs.declared.words.Asked.{Asked}
use Rattle.formats.specs.declared.words.WordFault.{WordFault}
use Rattle.formats.specs.OrderRanges.{IsAsked}
use Rattle.formats.specs.Orders.{Checked, Order, order_of}
use Rattle.formats.specs.Orders.Order.{Decode, Check, Feed, Encode, Trial, Follow, Sweep, Judge, Board, Irig, IrigRead}
use Rattle.formats.specs.Words.{reach_commands}
use Rattle.formats.proofs.OrderRangeLaws.{along, order_in_range}
use Rattle.due.specs.Inputs.{Contents, Input}
use Rattle.sweep_due.specs.SweepOrders.{AsksSweep, SweepOrder, of_sweep, sweep_order_in}
use Rattle.sweep_due.specs.SweepRules.{IsSweepRead}

-- an order of `sweep` stays as it is
kept : (o order : Order) → of_sweep o ≡ Ok order → o ≡ order
kept (Sweep config asked workers certificate) order e = cc
kept (Decode config asked workers certificate) order e = absurd cc
kept (Check config certificate asked) order e = absurd cc
kept (Feed config asked workers) order e = absurd cc
kept (Encode station minute announced) order e = absurd cc
kept (Trial number workers) order e = absurd cc
kept (Follow config asked workers step count) order e = absurd cc
kept (Judge config certificate asked) order e = absurd cc
kept (Board config queries asked workers step count readers) order e = absurd cc
kept (Irig config asked workers) order e = absurd cc
kept (IrigRead file) order e = absurd cc

-- accepted words give an order of `sweep`
pub is_of_sweep : (words : List (List ℕ)) (order : Order) → sweep_order_in words ≡ Ok order → (order_of reach_commands words ≡ Ok order) × (of_sweep order ≡ Ok order)
is_of_sweep words order e =
    along (order_of reach_commands words) of_sweep order e (λ o is made.
    let same = kept o order made in
    (is ∙ ap Ok same, subst (λ p. of_sweep p ≡ Ok order) same made))

-- in its ranges
pub asked_in_range : (words : List (List ℕ)) (o : SweepOrder) → AsksSweep words o → IsAsked o.asked
asked_in_range words o (workers, certificate, is) =
    (order_in_range reach_commands words (Sweep o.config o.asked workers certificate) (is_of_sweep words (Sweep o.config o.asked workers certificate) is).0).1

-- words ask one thing
abbrev made_of : List ℕ → Asked → SweepOrder
made_of config asked = record { config = config; asked = asked }

by_fields : (c : Checked Order) (a b : List ℕ) (x y : Asked) (m n : ℕ) (k l : Option (List ℕ)) → c ≡ Ok (Sweep a x m k) → c ≡ Ok (Sweep b y n l) → made_of a x ≡ made_of b y
by_fields c a b x y m n k l e f = cc

pub one_order : (words : List (List ℕ)) (o p : SweepOrder) → AsksSweep words o → AsksSweep words p → o ≡ p
one_order words o p asks also = by_fields (sweep_order_in words) o.config p.config o.asked p.asked asks.0 also.0 asks.1 also.1 asks.2 also.2

-- refused words ask nothing, and read nothing
ok_or_err : (c : Checked Order) (order : Order) (fault : WordFault) → c ≡ Ok order → c ≡ Err fault → ⊥
ok_or_err c order fault e f = cc

pub bad_words_read_nothing : (words : List (List ℕ)) (contents : Contents) (fault : WordFault) (input : Input) (file : List ℕ) → sweep_order_in words ≡ Err fault
    → ¬ (IsSweepRead words contents input file)
bad_words_read_nothing words contents fault input file bad (o, asks, read) =
    ok_or_err (sweep_order_in words) (Sweep o.config o.asked asks.0 asks.1) fault asks.2 bad
