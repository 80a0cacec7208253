-- What words ask of a bank.
use Rattle.std.proofs.Common.{◌≡◌, List, ℕ, Ok, Some, ap, ◌∙◌}
use Rattle.formats.specs.Orders.{Order, ◌>>=◌, order_of}
use Rattle.formats.specs.Words.{run_commands}
use Rattle.due.specs.Orders.{BankOrder, bank_order, of_run}
use Rattle.due.specs.Rules.{AsksBank}

-- words that give an order of a run ask what this asks
pub asks_bank : (words : List (List ℕ)) (order : Order) (o : BankOrder) → order_of run_commands words ≡ Ok order → of_run order ≡ Ok order → bank_order order ≡ Some o
    → AsksBank words o
asks_bank words order o gives is_of_run asks = (order, ap (λ check. check >>= of_run) gives ∙ is_of_run, asks)
