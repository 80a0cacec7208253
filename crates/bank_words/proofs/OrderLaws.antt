-- The order of some words, from their line and its values.
use Rattle.std.proofs.Common.{◌≡◌, ℕ, List, Some, Ok, refl}
use Rattle.formats.specs.declared.words.Command.{Command}
use Rattle.formats.specs.declared.words.Values.{Values}
use Rattle.formats.specs.Orders.{Order, order_of, order_with, values_of}
use Rattle.formats.specs.Words.{Line, line_of}

pub order_of-line : (commands : List Command) (words : List (List ℕ)) (line : Line) (v : Values) (order : Order)
    → Some line ≡ line_of commands words → values_of line ≡ Ok v → order_with line.command line v ≡ Some order → order_of commands words ≡ Ok order
order_of-line commands words line v order is v_is order_is = rw (← is, v_is, order_is) refl
