-- What the words ask for, by the decode that they are read as.
use Rattle.std.proofs.Common.{◌≡◌, ℕ, false, List, Option, Some, None, Ok, Err, Bor, sym, ap, ◌∙◌, refl}
use Rattle.formats.specs.declared.words.Asked.{Asked}
use Rattle.formats.specs.declared.words.WordFault.TheVariants.{Usage}
use Rattle.formats.specs.Orders.{Order as PlainOrder, ◌>>=◌, order_of}
use Rattle.formats.specs.Orders.Order.{Decode}
use Rattle.formats.specs.Words.{run_commands}
use Rattle.bank_words.specs.declared.order.Order.{Order}
use Rattle.bank_words.specs.declared.order.Order.TheVariants as order
use Rattle.bank_words.specs.Seen.{order_seen}
use Rattle.due.specs.HeardRuns.{decode_words, heard_order, names_left_out}
use Rattle.due.specs.Orders.{of_run, order_in}
use Rattle.due.proofs.HeardWordLaws.{is_decode, no_certificate, none_named}

module _ (words all : List (List ℕ)) (none : names_left_out words ≡ false) (is : all ≡ decode_words words) where
  ordered : (o : PlainOrder) → order_of run_commands all ≡ Ok o → order_in (decode_words words) ≡ of_run o
  ordered o gives = ap order_in (sym is) ∙ ap (λ check. check >>= of_run) gives

  pub heard_is : (o : PlainOrder) → order_of run_commands all ≡ Ok o → heard_order words ≡ of_run o
  heard_is o gives = none_named words none ∙ ordered o gives

  some_none : {A : Type 0} (x : A) → Some x ≡ None → ⊥
  some_none x e = cc

  -- the decode names no certificate
  pub no_name : (config : List ℕ) (asked : Asked) (workers : ℕ) (name : List ℕ) → order_of run_commands all ≡ Ok (Decode config asked workers (Some name)) → ⊥
  no_name config asked workers name gives =
      some_none name (no_certificate words config asked workers (Some name) none (ordered (Decode config asked workers (Some name)) gives))

  -- an order of a decode, and of another command
  abbrev pub NotDecode : Order → Type 0
  NotDecode (order.Decode config asked workers certificate) = ⊥
  NotDecode o = Unit {0}

  pub no_decode : (o : Order) → NotDecode o → order_of run_commands all ≡ Ok (order_seen o) → heard_order words ≡ Err Usage
  no_decode (order.Decode config asked workers certificate) not gives = absurd not
  no_decode (order.Check config certificate asked) not gives = heard_is (order_seen (order.Check config certificate asked)) gives
  no_decode (order.Feed config asked workers) not gives =
      absurd (is_decode words (order_seen (order.Feed config asked workers)) (ordered (order_seen (order.Feed config asked workers)) gives))
  no_decode (order.Encode station minute leap) not gives =
      absurd (is_decode words (order_seen (order.Encode station minute leap)) (ordered (order_seen (order.Encode station minute leap)) gives))
  no_decode (order.Trial number workers) not gives =
      absurd (is_decode words (order_seen (order.Trial number workers)) (ordered (order_seen (order.Trial number workers)) gives))

  pub other : (o : Order) → ((config : Bor (List ℕ)) (asked : Asked) (workers : ℕ) (certificate : Option (Bor (List ℕ))) → o ≡ order.Decode config asked workers certificate → ⊥) → NotDecode o
  other (order.Decode config asked workers certificate) not = not config asked workers certificate refl
  other (order.Check config certificate asked) not = tt
  other (order.Feed config asked workers) not = tt
  other (order.Encode station minute leap) not = tt
  other (order.Trial number workers) not = tt
