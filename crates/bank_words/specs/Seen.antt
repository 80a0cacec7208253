-- Words, their parts and what they ask for, as the grammar speaks of them.
use Rattle.std.specs.Prelude.{ℕ, List, option_map, map, string_bytes}
use Rattle.std.specs.declared.string.String.{String}
use Rattle.std.specs.declared.alloc.Global.{Global}
use Rattle.formats.specs.Orders.{Order as PlainOrder}
use Rattle.formats.specs.Orders.Order.{Board, Check, Decode, Encode, Feed, Follow, Irig, IrigRead, Judge, Sweep, Trial}
use Rattle.formats.specs.Words.{Line as Parts}
use Rattle.bank_words.specs.declared.line.Line.{Line}
use Rattle.bank_words.specs.declared.order.Order.{Order}
use Rattle.bank_words.specs.declared.order.Order.TheVariants as order
use Rattle.bank_words.specs.declared.order.Reach.{Reach}
use Rattle.bank_words.specs.declared.order.Reach.TheVariants as reach

-- the bytes of each word
abbrev pub texts_of : List (String Global) → List (List ℕ)
texts_of words = map string_bytes words

-- the parts of a line
abbrev pub parts_seen : Line → Parts
parts_seen line = record { command = line.command; places = texts_of line.places.now; pairs = texts_of line.pairs.now }

-- an order, with its texts as bytes
abbrev pub order_seen : Order → PlainOrder
order_seen (order.Decode config asked workers certificate) = Decode config.now asked workers (option_map (λ name. name.now) certificate)
order_seen (order.Check config certificate asked) = Check config.now certificate.now asked
order_seen (order.Feed config asked workers) = Feed config.now asked workers
order_seen (order.Encode station minute leap) = Encode station minute leap
order_seen (order.Trial number workers) = Trial number workers

abbrev pub reach_seen : Reach → PlainOrder
reach_seen (reach.Follow config asked workers step count) = Follow config.now asked workers step count
reach_seen (reach.Sweep config asked workers certificate) = Sweep config.now asked workers (option_map (λ name. name.now) certificate)
reach_seen (reach.Judge config certificate asked) = Judge config.now certificate.now asked
reach_seen (reach.Board config queries asked workers step count readers) = Board config.now queries.now asked workers step count readers
reach_seen (reach.Irig config asked workers) = Irig config.now asked workers
reach_seen (reach.IrigRead file) = IrigRead file.now
