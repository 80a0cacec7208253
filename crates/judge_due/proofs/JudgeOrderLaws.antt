-- What accepted words ask of `judge`: one thing, in its ranges. Refused words read no file.
use Rattle.std.proofs.Common.{◌≡◌, ℕ, List, Ok, Err, ◌∙◌, ap, subst}
use Rattle.formats.specs.declared.words.Asked.{Asked}
use Rattle.formats.specs.declared.words.WordFault.{WordFault}
use Rattle.formats.specs.OrderRanges.{IsInRange}
use Rattle.formats.specs.Orders.{Checked, Order, ◌>>=◌, order_of}
use Rattle.formats.specs.Orders.Order.{Decode, Check, Feed, Encode, Trial, Follow, Sweep, Judge, Board, Irig, IrigRead}
use Rattle.formats.specs.Words.{reach_commands}
use Rattle.formats.proofs.OrderRangeLaws.{along, order_in_range}
use Rattle.due.specs.Inputs.{Contents, Input}
use Rattle.sweep_due.specs.JudgeRules.{AsksJudge, JudgeOrder}
use Rattle.judge_due.specs.JudgeOrders.{judge_order_in, of_judge}
use Rattle.judge_due.specs.JudgeDues.{IsJudgeRead, Reads_bank, Reads_certificate}

-- an order of `judge` stays as it is
kept : (o order : Order) → of_judge o ≡ Ok order → o ≡ order
kept (Judge config name asked) order e = cc
kept (Decode config asked workers certificate) order e = absurd cc
kept (Check config certificate asked) order e = absurd cc
kept (Feed config asked workers) order e = absurd cc
kept (Encode station minute announced) order e = absurd cc
kept (Trial number workers) order e = absurd cc
kept (Follow config asked workers step count) order e = absurd cc
kept (Sweep config asked workers certificate) order e = absurd cc
kept (Board config queries asked workers step count readers) order e = absurd cc
kept (Irig config asked workers) order e = absurd cc
kept (IrigRead file) order e = absurd cc

-- accepted words give an order of `judge`
pub is_of_judge : (words : List (List ℕ)) (order : Order) → judge_order_in words ≡ Ok order → (order_of reach_commands words ≡ Ok order) × (of_judge order ≡ Ok order)
is_of_judge words order e =
    along (order_of reach_commands words) of_judge order e (λ o is made.
    let same = kept o order made in
    (is ∙ ap Ok same, subst (λ p. of_judge p ≡ Ok order) same made))

-- who asks for a judgement has words in order
pub asks_in_order : (words : List (List ℕ)) (o : JudgeOrder) → AsksJudge words o → judge_order_in words ≡ Ok (Judge o.config o.name o.asked)
asks_in_order words o asks = ap (λ check. check >>= of_judge) asks

-- in its ranges
pub in_range : (words : List (List ℕ)) (o : JudgeOrder) → AsksJudge words o → IsInRange (Judge o.config o.name o.asked)
in_range words o asks = order_in_range reach_commands words (Judge o.config o.name o.asked) asks

-- words ask one thing
abbrev made_of : List ℕ → List ℕ → Asked → JudgeOrder
made_of config name asked = record { config = config; name = name; asked = asked }

by_fields : (c : Checked Order) (a b p q : List ℕ) (x y : Asked) → c ≡ Ok (Judge a p x) → c ≡ Ok (Judge b q y) → made_of a p x ≡ made_of b q y
by_fields c a b p q x y e f = cc

pub one_order : (words : List (List ℕ)) (o p : JudgeOrder) → AsksJudge words o → AsksJudge words p → o ≡ p
one_order words o p asks also = by_fields (order_of reach_commands words) o.config p.config o.name p.name o.asked p.asked asks also

-- refused words ask nothing, and read nothing
ok_or_err : (c : Checked Order) (order : Order) (fault : WordFault) → c ≡ Ok order → c ≡ Err fault → ⊥
ok_or_err c order fault e f = cc

pub asked_not_refused : (words : List (List ℕ)) (o : JudgeOrder) (fault : WordFault) → AsksJudge words o → judge_order_in words ≡ Err fault → ⊥
asked_not_refused words o fault asks bad =
    ok_or_err (judge_order_in words) (Judge o.config o.name o.asked) fault (asks_in_order words o asks) bad

pub bad_words_read_nothing : (words : List (List ℕ)) (contents : Contents) (fault : WordFault) (input : Input) (file : List ℕ) → judge_order_in words ≡ Err fault
    → ¬ (IsJudgeRead words contents input file)
bad_words_read_nothing words contents fault input file bad (Reads_bank o asks read) = asked_not_refused words o fault asks bad
bad_words_read_nothing words contents fault input file bad (Reads_certificate o asks config records loaded offset read is name) = asked_not_refused words o fault asks bad
