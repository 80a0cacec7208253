-- What words ask for is in its ranges.
use Rattle.std.proofs.Common.{◌≡◌, ℕ, ◌-◌, ◌<◌, ◌≤◌, Bool, true, false, ◌&&◌, nat_le, nat_lt, if◌then◌else◌, List, [], ◌∷◌, length, bytes_eq, Option, Some, None, option_map, unwrap_or, Ok, Err, ok_or, slice_index_or, IfSome, refl, ap, subst, ◌∙◌, inl, inr, arith, eqb-true, ltb-true}
use Rattle.std.specs.Option.{option_and_then}
use Rattle.std.specs.List.{list_all}
use Rattle.std.proofs.lemmas.List.Folds.{list_all_at}
use Rattle.std.proofs.lemmas.Option.{IfSome_then}
use Rattle.std.proofs.lemmas.Bool.{and_parts, cases_Bool, leb-true, ltb-false}
use Rattle.signal_base.specs.declared.station.Station.{Station}
use Rattle.definitions.specs.time.Calendar.{century_minutes}
use Rattle.definitions.specs.codes.Allowed.{encoded_year}
use Rattle.formats.specs.declared.option.OptionName.{OptionName}
use Rattle.formats.specs.declared.option.OptionName.TheVariants as value
use Rattle.formats.specs.declared.words.Command.{Command}
use Rattle.formats.specs.declared.words.Command.TheVariants as command
use Rattle.formats.specs.declared.words.ValueKind.{ValueKind}
use Rattle.formats.specs.declared.words.ValueKind.TheVariants.{Number, Minute}
use Rattle.formats.specs.declared.words.TheConstants.{DEFAULT_COUNT, DEFAULT_READERS, DEFAULT_SECONDS, DEFAULT_STEP, DEFAULT_WORKERS}
use Rattle.formats.specs.declared.words.Values.{Values}
use Rattle.formats.specs.declared.words.WordFault.TheVariants.{EmptyRange, Usage}
use Rattle.formats.specs.OrderRanges.{IsOfKind, IsIn, IsAsked, IsFile, IsInRange, is_run_order}
use Rattle.formats.specs.Orders.{Checked, ◌>>=◌, Order, certificate_of, file_at, given, judged, order_of, order_on, order_with, said_by, text_in, valued, values_of}
use Rattle.formats.specs.Words.{Line, are_pairs, certificate_option, form_of, is_line, is_run, is_value, line_of, reach_commands, run_commands, value_behind}
use Rattle.formats.specs.WordValues.{kind_of, number_of, passing, read_as, suits}
use Rattle.formats.proofs.LineOfLaws.{line_good, reach_line, run_line}
use Rattle.formats.proofs.WordMinuteLaws.{minute_of-text}
use Rattle.formats.proofs.WordNumberLaws.{passed}

-- what holds of a value that may be given
IfSome-all : {A : Type 0} {P : A → Type 0} (o : Option A) → ((a : A) → P a) → IfSome o P
IfSome-all None all = tt
IfSome-all (Some a) all = all a

IfSome-map : {A B : Type 0} (f : A → B) (P : B → Type 0) (o : Option A) → IfSome o (λ a. P (f a)) → IfSome (option_map f o) P
IfSome-map f P None h = tt
IfSome-map f P (Some a) h = h

-- a chain of checks that ends well, at its first check and behind it
pub along : {A B P : Type 0} (check : Checked A) (next : A → Checked B) (b : B) → (check >>= next) ≡ Ok b → ((a : A) → check ≡ Ok a → next a ≡ Ok b → P) → P
along (Ok a) next b e step = step a refl e
along (Err fault) next b e step = absurd cc

-- what a text says is of its kind
said_of_kind : (kind : ValueKind) (text : List ℕ) (n : ℕ) → read_as kind text ≡ Some n → IsOfKind kind n
said_of_kind (Number least most) text n e = by_number (number_of text) e
  where
    by_number : (o : Option ℕ) → option_and_then (passing (λ m. nat_le least m && nat_le m most)) o ≡ Some n → (least ≤ n) × (n ≤ most)
    by_number None f = absurd cc
    by_number (Some m) f =
        let good = and_parts _ _ (passed (λ k. nat_le least k && nat_le k most) m n f).1 in
        (leb-true _ _ good.0, leb-true _ _ good.1)
said_of_kind Minute text n e = (minute_of-text text n e).0

-- and suits the command
said : (name : OptionName) (line : Line) (text : List ℕ) (n : ℕ) → said_by line.command name text ≡ Some n → IsIn name n × (suits line.command name n ≡ true)
said name line text n = by_value (read_as (kind_of name) text) refl
  where
    by_value : (o : Option ℕ) → read_as (kind_of name) text ≡ o → option_and_then (passing (suits line.command name)) o ≡ Some n → IsIn name n × (suits line.command name n ≡ true)
    by_value None is e = absurd cc
    by_value (Some m) is e =
        let good = passed (suits line.command name) m n e in
        (said_of_kind (kind_of name) text n (is ∙ ap Some good.0), good.1)

-- a value that is given
given_by : (name : OptionName) (line : Line) (text : Option (List ℕ)) (o : Option ℕ) → judged name (option_map (said_by line.command name) text) ≡ Ok o
    → IfSome o (λ n. IsIn name n × (suits line.command name n ≡ true))
given_by name line None o e = let none : None ≡ o = cc in subst (λ (p : Option ℕ). IfSome p (λ n. IsIn name n × (suits line.command name n ≡ true))) none tt
given_by name line (Some text) o e = by_said (said_by line.command name text) refl e
  where
    by_said : (p : Option ℕ) → said_by line.command name text ≡ p → judged name (Some p) ≡ Ok o → IfSome o (λ n. IsIn name n × (suits line.command name n ≡ true))
    by_said None is f = absurd cc
    by_said (Some n) is f = let some : Some n ≡ o = cc in subst (λ (p : Option ℕ). IfSome p (λ n. IsIn name n × (suits line.command name n ≡ true))) some (said name line text n is)

-- a value or its default, which is in its range
valued_in : (name : OptionName) (default : ℕ) (line : Line) (n : ℕ) → IsIn name default → valued name default line ≡ Ok n → IsIn name n
valued_in name default line n fine e =
    along (given name line) (λ o. Ok (unwrap_or o default)) n e (λ o is f.
    let same : unwrap_or o default ≡ n = cc in
    subst (IsIn name) same (by_given o (given_by name line (text_in name line) o is)))
  where
    by_given : (o : Option ℕ) → IfSome o (λ n. IsIn name n × (suits line.command name n ≡ true)) → IsIn name (unwrap_or o default)
    by_given None h = fine
    by_given (Some n) h = h.0

-- all values of a line
record AreValues (line : Line) (v : Values) : Type 0 where
  number : IfSome v.number (IsIn value.Number)
  minute : IfSome v.minute (λ t. IsIn value.Minute t × (suits line.command value.Minute t ≡ true))
  asked : IsAsked v.asked
  workers : IsIn value.Workers v.workers
  step : IsIn value.Step v.step
  count : IsIn value.Count v.count
  readers : IsIn value.Readers v.readers

-- the range isn't empty
in_order : (b : Bool) (v w : Values) → (if b then Err EmptyRange else Ok w) ≡ Ok v → (b ≡ false) × (w ≡ v)
in_order true v w e = absurd cc
in_order false v w e = (refl, cc)

are_values : (line : Line) (v : Values) → values_of line ≡ Ok v → AreValues line v
are_values line v e =
    along (given value.Number line) _ v e (λ number number_is e1.
    along (given value.Minute line) _ v e1 (λ minute minute_is e2.
    along (given value.Start line) _ v e2 (λ start start_is e3.
    along (valued value.Seconds DEFAULT_SECONDS line) _ v e3 (λ seconds seconds_is e4.
    along (valued value.From 0 line) _ v e4 (λ from from_is e5.
    along (valued value.To (century_minutes - 1) line) _ v e5 (λ to to_is e6.
    along (valued value.Workers DEFAULT_WORKERS line) _ v e6 (λ workers workers_is e7.
    along (valued value.Leap 0 line) _ v e7 (λ leap leap_is e8.
    along (valued value.Step DEFAULT_STEP line) _ v e8 (λ step step_is e9.
    along (valued value.Count DEFAULT_COUNT line) _ v e9 (λ count count_is e10.
    along (valued value.Readers DEFAULT_READERS line) _ v e10 (λ readers readers_is e11.
    let last = in_order (nat_lt to from) v _ e11 in
    subst (AreValues line) last.1 (record {
      number = IfSome_then number (given_by value.Number line (text_in value.Number line) number number_is) (λ n h. h.0);
      minute = given_by value.Minute line (text_in value.Minute line) minute minute_is;
      asked = record {
        start = IfSome_then start (given_by value.Start line (text_in value.Start line) start start_is) (λ n h. omega (arith, h.0));
        not_short = (valued_in value.Seconds DEFAULT_SECONDS line seconds (omega arith, omega arith) seconds_is).0;
        not_long = (valued_in value.Seconds DEFAULT_SECONDS line seconds (omega arith, omega arith) seconds_is).1;
        not_empty = let le = ltb-false to from last.0 in omega arith;
        century = let early = valued_in value.To (century_minutes - 1) line to (omega arith) to_is in omega arith;
      };
      workers = valued_in value.Workers DEFAULT_WORKERS line workers (omega arith, omega arith) workers_is;
      step = valued_in value.Step DEFAULT_STEP line step (omega arith, omega arith) step_is;
      count = valued_in value.Count DEFAULT_COUNT line count (omega arith, omega arith) count_is;
      readers = valued_in value.Readers DEFAULT_READERS line readers (omega arith, omega arith) readers_is;
    }))))))))))))

-- what stands behind an option is a value
value_good : (options : List (List ℕ)) (option : List ℕ) (words : List (List ℕ)) → are_pairs options words ≡ true → IfSome (value_behind option words) IsFile
value_good options option [] good = tt
value_good options option (word ∷ []) good = absurd cc
value_good options option (word ∷ value ∷ words) good =
    let first = and_parts _ _ good in
    let second = and_parts _ _ first.0 in
    let third = and_parts _ _ second.0 in
    by_name (bytes_eq word option) third.1 (value_good options option words first.1)
  where
    by_name : (b : Bool) → IsFile value → IfSome (value_behind option words) IsFile → IfSome (if b then Some value else value_behind option words) IsFile
    by_name true here later = here
    by_name false here later = later

-- and so is what stands at a place
place_good : (places : List (List ℕ)) (i : ℕ) → list_all is_value places ≡ true → i < length places → IsFile (slice_index_or places i [])
place_good places i good lt =
    elim (cases_Bool (is_value (slice_index_or places i []))) [
      | inl fine ↦ fine
      | inr other ↦ absurd (let bad = list_all_at is_value places i [] lt other in cc)
    ]

-- the order of a line with values that were checked
module _ (line : Line) (v : Values) (good : is_line line ≡ true) (are : AreValues line v) where
  counted : length line.places ≡ (form_of line.command).places
  counted = eqb-true _ _ (and_parts _ _ (and_parts _ _ good).0).0

  file_good : (i : ℕ) → i < length line.places → IsFile (file_at i line)
  file_good i lt = place_good line.places i (and_parts _ _ (and_parts _ _ good).0).1 lt

  certificate_good : IfSome (certificate_of line) IsFile
  certificate_good = value_good (form_of line.command).options certificate_option line.pairs (and_parts _ _ good).1

  -- a minute that is given suits the station
  minute_good : (station : Station) → line.command ≡ command.Encode station → IfSome v.minute (λ t. (t < century_minutes) × (encoded_year station t ≤ 2099))
  minute_good station is =
      IfSome_then v.minute are.minute (λ t fine.
      let early : nat_lt (encoded_year station t) 2100 ≡ true = subst (λ c. suits c value.Minute t ≡ true) is fine.1 in
      (fine.0, let lt = ltb-true _ _ early in omega arith))

  order_good : (c : Command) → line.command ≡ c → IfSome (order_with c line v) IsInRange
  order_good c is = by_command c is (counted ∙ ap (λ d. (form_of d).places) is)
    where
      by_command : (c : Command) → line.command ≡ c → length line.places ≡ (form_of c).places → IfSome (order_with c line v) IsInRange
      by_command command.Decode is n = (file_good 0 (omega arith), are.asked, are.workers, certificate_good)
      by_command command.Check is n = (file_good 0 (omega arith), file_good 1 (omega arith), are.asked)
      by_command command.Feed is n = (file_good 0 (omega arith), are.asked, are.workers)
      by_command (command.Encode station) is n = IfSome-map _ _ v.minute (minute_good station is)
      by_command command.Trial is n = IfSome-map _ _ v.number (IfSome_then v.number are.number (λ number h. (h, are.workers)))
      by_command command.Follow is n = (file_good 0 (omega arith), are.asked, are.workers, are.step, are.count)
      by_command command.Sweep is n = (file_good 0 (omega arith), are.asked, are.workers, certificate_good)
      by_command command.Judge is n = (file_good 0 (omega arith), file_good 1 (omega arith), are.asked)
      by_command command.Board is n = (file_good 0 (omega arith), file_good 1 (omega arith), are.asked, are.workers, are.step, are.count, are.readers)
      by_command command.Irig is n = (file_good 0 (omega arith), are.asked, are.workers)
      by_command command.IrigRead is n = file_good 0 (omega arith)

-- the line of an order, and its values
of_line : {P : Type 0} (commands : List Command) (words : List (List ℕ)) (order : Order) → order_of commands words ≡ Ok order
    → ((line : Line) (v : Values) → line_of commands words ≡ Some line → values_of line ≡ Ok v → order_with line.command line v ≡ Some order → P) → P
of_line commands words order e step =
    along (ok_or (line_of commands words) Usage) order_on order e (λ line is f.
    along (values_of line) _ order f (λ v v_is g. step line v (found (line_of commands words) line is) v_is (found (order_with line.command line v) order g)))
  where
    found : {A : Type 0} (o : Option A) (a : A) → ok_or o Usage ≡ Ok a → o ≡ Some a
    found None a e = absurd cc
    found (Some b) a e = cc

pub order_in_range : (commands : List Command) (words : List (List ℕ)) (order : Order) → order_of commands words ≡ Ok order → IsInRange order
order_in_range commands words order e =
    of_line commands words order e (λ line v is v_is same.
    subst (λ (o : Option Order). IfSome o IsInRange) same (order_good line v (line_good commands words line is) (are_values line v v_is) line.command refl))

-- an order is one of a run if its command is
order_runs : (c : Command) (line : Line) (v : Values) → IfSome (order_with c line v) (λ order. is_run_order order ≡ is_run c)
order_runs command.Decode line v = refl
order_runs command.Check line v = refl
order_runs command.Feed line v = refl
order_runs (command.Encode station) line v = IfSome-map _ _ v.minute (IfSome-all v.minute (λ minute. refl))
order_runs command.Trial line v = IfSome-map _ _ v.number (IfSome-all v.number (λ number. refl))
order_runs command.Follow line v = refl
order_runs command.Sweep line v = refl
order_runs command.Judge line v = refl
order_runs command.Board line v = refl
order_runs command.Irig line v = refl
order_runs command.IrigRead line v = refl

-- so that of a line is what its command is
runs_as : (line : Line) (v : Values) (order : Order) → order_with line.command line v ≡ Some order → is_run_order order ≡ is_run line.command
runs_as line v order same = subst (λ (o : Option Order). IfSome o (λ order. is_run_order order ≡ is_run line.command)) same (order_runs line.command line v)

pub run_order : (words : List (List ℕ)) (order : Order) → order_of run_commands words ≡ Ok order → is_run_order order ≡ true
run_order words order e =
    of_line run_commands words order e (λ line v is v_is same. runs_as line v order same ∙ run_line words line is)

pub reach_order : (words : List (List ℕ)) (order : Order) → order_of reach_commands words ≡ Ok order → is_run_order order ≡ false
reach_order words order e =
    of_line reach_commands words order e (λ line v is v_is same. runs_as line v order same ∙ reach_line words line is)
