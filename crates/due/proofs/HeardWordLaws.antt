-- What the words of a hearing ask for: what a decode of them does, without a certificate.
use Rattle.std.proofs.Common.{◌≡◌, ℕ, ◌||◌, Bool, true, false, if◌then◌else◌, List, [], ◌∷◌, Option, Some, None, Ok, Err, refl, sym, ◌∙◌, ap, subst}
use Rattle.std.specs.Prelude.{bytes_eq, ok_or}
use Rattle.std.specs.List.{list_any}
use Rattle.formats.specs.declared.words.Command.TheVariants as command
use Rattle.formats.specs.declared.words.Values.{Values}
use Rattle.formats.specs.declared.words.WordFault.TheVariants.{Usage}
use Rattle.formats.specs.OrderRanges.{IsAsked}
use Rattle.formats.specs.Orders.{Checked, Order, ◌>>=◌, certificate_of, file_at, order_of, order_on, order_with, values_of}
use Rattle.formats.specs.Orders.Order.{Decode}
use Rattle.formats.specs.declared.option.OptionName.TheVariants.{Workers}
use Rattle.formats.specs.declared.words.Asked.{Asked}
use Rattle.formats.specs.Options.{option_text}
use Rattle.formats.specs.Words.{Line, certificate_option, is_line, run_commands, value_behind}
use Rattle.due.specs.HeardRuns.{AsksHeard, decode_words, heard_order, is_left_out, names_left_out}
use Rattle.due.specs.Orders.{BankOrder, Report, bank_order, order_in}
use Rattle.due.specs.Rules.{AsksBank}
use Rattle.due.proofs.WordLaws.{asked_of_bank, bank_order_is_one, is_of_run}

-- accepted words name no option that is left out, and a decode of them gives the same order
abbrev IsOfDecode : List (List ℕ) → Order → Type 0
IsOfDecode words order = (names_left_out words ≡ false) × (order_in (decode_words words) ≡ Ok order)

pub of_decode : (words : List (List ℕ)) (order : Order) → heard_order words ≡ Ok order → IsOfDecode words order
of_decode words order e = by_named (names_left_out words) refl e
  where
    by_named : (b : Bool) → names_left_out words ≡ b → ◌≡◌ {A = Checked Order} (if b then Err Usage else order_in (decode_words words)) (Ok order) → IsOfDecode words order
    by_named true is f = absurd cc
    by_named false is f = (is, f)

-- what words that name none ask for
pub none_named : (words : List (List ℕ)) → names_left_out words ≡ false → heard_order words ≡ order_in (decode_words words)
none_named words none = ap (λ b. if b then Err Usage else order_in (decode_words words)) none

pub asks_decode : (words : List (List ℕ)) (o : BankOrder) → AsksHeard words o → AsksBank (decode_words words) o
asks_decode words o asks = (asks.0, (of_decode words asks.0 asks.1).1, asks.2)

pub one_asked : (words : List (List ℕ)) (o p : BankOrder) → AsksHeard words o → AsksHeard words p → o ≡ p
one_asked words o p a b = bank_order_is_one (decode_words words) o p (asks_decode words o a) (asks_decode words p b)

pub asked_in_range : (words : List (List ℕ)) (o : BankOrder) → AsksHeard words o → IsAsked o.asked
asked_in_range words o asks = asked_of_bank (decode_words words) o (asks_decode words o asks)

-- an order of a decode
abbrev pub IsDecode : Order → Type 0
IsDecode (Decode config asked workers certificate) = Unit {0}
IsDecode order = ⊥

-- the order of a line of a decode is one
of_line : (line : Line) (order : Order) → line.command ≡ command.Decode → order_on line ≡ Ok order → IsDecode order
of_line line order is e = by_values (values_of line) e
  where
    with_values : (v : Values) → order_with line.command line v ≡ order_with command.Decode line v
    with_values v = ap (λ c. order_with c line v) is

    by_order : (v : Values) → ◌≡◌ {A = Checked Order} (ok_or (order_with command.Decode line v) Usage) (Ok order) → IsDecode order
    by_order v f = let same : Decode (file_at 0 line) v.asked v.workers (certificate_of line) ≡ order = cc in subst IsDecode same tt

    by_values : (v : Checked Values) → (v >>= (λ values. ok_or (order_with line.command line values) Usage)) ≡ Ok order → IsDecode order
    by_values (Err fault) f = absurd cc
    by_values (Ok v) f = by_order v (sym (ap (λ o. ok_or o Usage) (with_values v)) ∙ f)

-- the parts of the words of a decode
abbrev line_of_decode : List (List ℕ) → Line
line_of_decode [] = record { command = command.Decode; places = []; pairs = [] }
line_of_decode (word ∷ words) = record { command = command.Decode; places = word ∷ []; pairs = words }

of_words : (words : List (List ℕ)) → order_of run_commands (decode_words words) ≡ (ok_or (if is_line (line_of_decode words) then Some (line_of_decode words) else None) Usage >>= order_on)
of_words [] = refl
of_words (word ∷ words) = refl

decode_command : (words : List (List ℕ)) → (line_of_decode words).command ≡ command.Decode
decode_command [] = refl
decode_command (word ∷ words) = refl

pub is_decode : (words : List (List ℕ)) (order : Order) → order_in (decode_words words) ≡ Ok order → IsDecode order
is_decode words order e =
    let line = line_of_decode words in
    by_line line (decode_command words) (is_line line) (subst (λ c. c ≡ Ok order) (of_words words) (is_of_run (decode_words words) order e).0)
  where
    by_line : (line : Line) → line.command ≡ command.Decode → (b : Bool) → (ok_or (if b then Some line else None) Usage >>= order_on) ≡ Ok order → IsDecode order
    by_line line is false f = absurd cc
    by_line line is true f = of_line line order is f

-- it asks for the report of a bank
pub decode_asks : (words : List (List ℕ)) (order : Order) → heard_order words ≡ Ok order → (o : BankOrder) × (bank_order order ≡ Some o)
decode_asks words order e = by_order order (is_decode words order (of_decode words order e).1)
  where
    by_order : (order : Order) → IsDecode order → (o : BankOrder) × (bank_order order ≡ Some o)
    by_order (Decode config asked workers certificate) is = (_, refl)
    by_order other is = absurd is

pub report_wanted : (words : List (List ℕ)) (o : BankOrder) → AsksHeard words o → (certificate : Option (List ℕ)) × (o.wanted ≡ Report certificate)
report_wanted words o asks = by_order asks.0 (is_decode words asks.0 (of_decode words asks.0 asks.1).1) asks.2
  where
    by_order : (order : Order) → IsDecode order → bank_order order ≡ Some o → (certificate : Option (List ℕ)) × (o.wanted ≡ Report certificate)
    by_order (Decode config asked workers certificate) is f = (certificate, let same : record { config = config; asked = asked; wanted = Report certificate } ≡ o = cc in ap (λ (b : BankOrder). b.wanted) (sym same))
    by_order other is f = absurd is

-- no word that is left out stands among the pairs, so no certificate is named
or_false : (a b : Bool) → (a || b) ≡ false → (a ≡ false) × (b ≡ false)
or_false false b e = (refl, e)
or_false true b e = absurd cc

none_behind : (pairs : List (List ℕ)) → list_any is_left_out pairs ≡ false → value_behind certificate_option pairs ≡ None
none_behind [] e = refl
none_behind (word ∷ []) e = refl
none_behind (word ∷ value ∷ words) e = by_word (bytes_eq word certificate_option) refl (none_behind words rest)
  where
    first : is_left_out word ≡ false
    first = (or_false (is_left_out word) (list_any is_left_out (value ∷ words)) e).0

    rest : list_any is_left_out words ≡ false
    rest = (or_false (is_left_out value) (list_any is_left_out words) (or_false (is_left_out word) (list_any is_left_out (value ∷ words)) e).1).1

    other : bytes_eq word certificate_option ≡ false
    other = (or_false (bytes_eq word certificate_option) false (or_false (bytes_eq word (option_text Workers)) (bytes_eq word certificate_option || false) first).1).0

    by_word : (b : Bool) → bytes_eq word certificate_option ≡ b → value_behind certificate_option words ≡ None
        → (if b then Some value else value_behind certificate_option words) ≡ None
    by_word true f later = absurd (differ (sym f ∙ other))
      where
        differ : true ≡ false → ⊥
        differ g = cc
    by_word false f later = later

-- the order of a decode names the certificate of its line
abbrev NamesAsLine : Line → Order → Type 0
NamesAsLine line (Decode config asked workers certificate) = certificate ≡ certificate_of line
NamesAsLine line order = Unit {0}

names_as_line : (line : Line) (order : Order) → line.command ≡ command.Decode → order_on line ≡ Ok order → NamesAsLine line order
names_as_line line order is e = by_values (values_of line) e
  where
    by_order : (v : Values) → ◌≡◌ {A = Checked Order} (ok_or (order_with command.Decode line v) Usage) (Ok order) → NamesAsLine line order
    by_order v f = let same : Decode (file_at 0 line) v.asked v.workers (certificate_of line) ≡ order = cc in subst (NamesAsLine line) same refl

    by_values : (v : Checked Values) → (v >>= (λ values. ok_or (order_with line.command line values) Usage)) ≡ Ok order → NamesAsLine line order
    by_values (Err fault) f = absurd cc
    by_values (Ok v) f = by_order v (sym (ap (λ c. ok_or (order_with c line v) Usage) is) ∙ f)

no_name : (words : List (List ℕ)) → names_left_out words ≡ false → certificate_of (line_of_decode words) ≡ None
no_name [] none = refl
no_name (word ∷ words) none = none_behind words (or_false (is_left_out word) (list_any is_left_out words) none).1

pub no_certificate : (words : List (List ℕ)) (config : List ℕ) (asked : Asked) (workers : ℕ) (certificate : Option (List ℕ)) → names_left_out words ≡ false
    → order_in (decode_words words) ≡ Ok (Decode config asked workers certificate) → certificate ≡ None
no_certificate words config asked workers certificate none e =
    let line = line_of_decode words in
    by_line line (decode_command words) (is_line line)
    (subst (λ c. c ≡ Ok (Decode config asked workers certificate)) (of_words words) (is_of_run (decode_words words) (Decode config asked workers certificate) e).0) ∙ no_name words none
  where
    by_line : (line : Line) → line.command ≡ command.Decode → (b : Bool) → (ok_or (if b then Some line else None) Usage >>= order_on) ≡ Ok (Decode config asked workers certificate)
        → certificate ≡ certificate_of line
    by_line line is false f = absurd cc
    by_line line is true f = names_as_line line (Decode config asked workers certificate) is f
