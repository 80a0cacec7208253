-- What accepted words ask for: an order of a run, in its ranges; and of a bank one thing.
use Rattle.std.proofs.Common.{◌≡◌, true, List, ℕ, Some, Result, Ok, ◌∙◌, ap, subst}
use Rattle.formats.specs.OrderRanges.{IsAsked, IsInRange, is_run_order}
use Rattle.formats.specs.Orders.{Order, order_of}
use Rattle.formats.specs.Orders.Order.{Decode, Check, Feed, Encode, Trial, Follow, Sweep, Judge, Board, Irig, IrigRead}
use Rattle.formats.specs.Words.{run_commands}
use Rattle.formats.proofs.OrderRangeLaws.{along, order_in_range, run_order}
use Rattle.due.specs.Orders.{BankOrder, bank_order, of_run, order_in}
use Rattle.due.specs.Rules.{AsksBank}

-- an order of a run stays as it is
of_run_keeps : (o order : Order) → of_run o ≡ Ok order → o ≡ order
of_run_keeps (Decode config asked workers certificate) order e = cc
of_run_keeps (Check config certificate asked) order e = absurd cc
of_run_keeps (Feed config asked workers) order e = cc
of_run_keeps (Encode station minute leap) order e = cc
of_run_keeps (Trial number workers) order e = cc
of_run_keeps (Follow config asked workers step count) order e = cc
of_run_keeps (Sweep config asked workers certificate) order e = cc
of_run_keeps (Judge config certificate asked) order e = cc
of_run_keeps (Board config queries asked workers step count readers) order e = cc
of_run_keeps (Irig config asked workers) order e = cc
of_run_keeps (IrigRead file) order e = cc

-- accepted words give an order of a run
pub is_of_run : (words : List (List ℕ)) (order : Order) → order_in words ≡ Ok order → (order_of run_commands words ≡ Ok order) × (of_run order ≡ Ok order)
is_of_run words order e =
    along (order_of run_commands words) of_run order e (λ o is made.
    let same = of_run_keeps o order made in
    (is ∙ ap Ok same, subst (λ p. of_run p ≡ Ok order) same made))

pub in_range : (words : List (List ℕ)) (order : Order) → order_in words ≡ Ok order → IsInRange order
in_range words order e = order_in_range run_commands words order (is_of_run words order e).0

pub is_run : (words : List (List ℕ)) (order : Order) → order_in words ≡ Ok order → is_run_order order ≡ true
is_run words order e = run_order words order (is_of_run words order e).0

-- the minutes that are asked for are of the century
some_same : {A : Type 0} (a b : A) → Some a ≡ Some b → a ≡ b
some_same a b e = cc

asked_by : (order : Order) (o : BankOrder) → IsInRange order → bank_order order ≡ Some o → IsAsked o.asked
asked_by (Decode config asked workers certificate) o r e = subst (λ (b : BankOrder). IsAsked b.asked) (some_same _ _ e) r.1
asked_by (Feed config asked workers) o r e = subst (λ (b : BankOrder). IsAsked b.asked) (some_same _ _ e) r.1
asked_by other o r e = absurd cc

pub asked_of_bank : (words : List (List ℕ)) (o : BankOrder) → AsksBank words o → IsAsked o.asked
asked_of_bank words o asks = asked_by asks.0 o (in_range words asks.0 asks.1) asks.2

-- what is asked of a bank is one thing
same_order : (a b : Order) (o p : BankOrder) → a ≡ b → bank_order a ≡ Some o → bank_order b ≡ Some p → o ≡ p
same_order a b o p e f g = cc

ok_same : {A B : Type 0} (a b : A) (c : Result A B) → c ≡ Ok a → c ≡ Ok b → a ≡ b
ok_same a b c e f = cc

pub bank_order_is_one : (words : List (List ℕ)) (o p : BankOrder) → AsksBank words o → AsksBank words p → o ≡ p
bank_order_is_one words o p a b = same_order a.0 b.0 o p (ok_same a.0 b.0 (order_in words) a.1 b.1) a.2 b.2
