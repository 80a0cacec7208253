-- What accepted words ask of `follow`: one thing, in its ranges. Refused words read no file.
use Rattle.std.proofs.Common.{◌≡◌, ℕ, List, Ok, Err, ◌∙◌, ap, subst}
use Rattle.formats.specs.declared.words.Asked.{Asked}
use Rattle.formats.specs.declared.words.WordFault.{WordFault}
use Rattle.formats.specs.OrderRanges.{IsAsked, IsInRange}
use Rattle.formats.specs.Orders.{Checked, Order, order_of}
use Rattle.formats.specs.Orders.Order.{Decode, Check, Feed, Encode, Trial, Follow, Sweep, Judge, Board, Irig, IrigRead}
use Rattle.formats.specs.Words.{reach_commands}
use Rattle.formats.proofs.OrderRangeLaws.{along, order_in_range}
use Rattle.due.specs.Inputs.{Contents, Input}
use Rattle.follow_due.specs.FollowOrders.{AsksFollow, FollowOrder, follow_order_in, of_follow}
use Rattle.follow_due.specs.FollowRules.{IsFollowRead}

-- an order of `follow` stays as it is
kept : (o order : Order) → of_follow o ≡ Ok order → o ≡ order
kept (Follow config asked workers step count) order e = cc
kept (Decode config asked workers certificate) order e = absurd cc
kept (Check config certificate asked) order e = absurd cc
kept (Feed config asked workers) order e = absurd cc
kept (Encode station minute announced) order e = absurd cc
kept (Trial number workers) order e = absurd cc
kept (Sweep config asked workers certificate) order e = absurd cc
kept (Judge config certificate asked) order e = absurd cc
kept (Board config queries asked workers step count readers) order e = absurd cc
kept (Irig config asked workers) order e = absurd cc
kept (IrigRead file) order e = absurd cc

-- accepted words give an order of `follow`
pub is_of_follow : (words : List (List ℕ)) (order : Order) → follow_order_in words ≡ Ok order → (order_of reach_commands words ≡ Ok order) × (of_follow order ≡ Ok order)
is_of_follow words order e =
    along (order_of reach_commands words) of_follow order e (λ o is made.
    let same = kept o order made in
    (is ∙ ap Ok same, subst (λ p. of_follow p ≡ Ok order) same made))

-- in its ranges
ranges : (words : List (List ℕ)) (o : FollowOrder) (asks : AsksFollow words o) → IsInRange (Follow o.config o.asked asks.0 o.step o.count)
ranges words o (workers, is) =
    order_in_range reach_commands words (Follow o.config o.asked workers o.step o.count) (is_of_follow words (Follow o.config o.asked workers o.step o.count) is).0

pub asked_in_range : (words : List (List ℕ)) (o : FollowOrder) → AsksFollow words o → IsAsked o.asked
asked_in_range words o asks = (ranges words o asks).1

-- words ask one thing
abbrev made_of : List ℕ → Asked → ℕ → ℕ → FollowOrder
made_of config asked step count = record { config = config; asked = asked; step = step; count = count }

by_fields : (c : Checked Order) (a b : List ℕ) (x y : Asked) (m n s t i j : ℕ) → c ≡ Ok (Follow a x m s i) → c ≡ Ok (Follow b y n t j) → made_of a x s i ≡ made_of b y t j
by_fields c a b x y m n s t i j e f = cc

pub one_order : (words : List (List ℕ)) (o p : FollowOrder) → AsksFollow words o → AsksFollow words p → o ≡ p
one_order words o p asks also =
    by_fields (follow_order_in words) o.config p.config o.asked p.asked asks.0 also.0 o.step p.step o.count p.count asks.1 also.1

-- refused words ask nothing, and read nothing
ok_or_err : (c : Checked Order) (order : Order) (fault : WordFault) → c ≡ Ok order → c ≡ Err fault → ⊥
ok_or_err c order fault e f = cc

pub bad_words_read_nothing : (words : List (List ℕ)) (contents : Contents) (fault : WordFault) (input : Input) (file : List ℕ) → follow_order_in words ≡ Err fault
    → ¬ (IsFollowRead words contents input file)
bad_words_read_nothing words contents fault input file bad (o, asks, read) =
    ok_or_err (follow_order_in words) (Follow o.config o.asked asks.0 o.step o.count) fault asks.1 bad
