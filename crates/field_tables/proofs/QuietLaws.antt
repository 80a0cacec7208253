-- Where nothing tells of a leap second, no announced sequence is legal.
use Rattle.std.proofs.Common.{◌≡◌, ◌+◌, ◌-◌, ◌*◌, ◌<◌, ◌≤◌, ◌&&◌, ℕ, Bool, max, min, inl, inr, if◌then◌else◌, true, false, refl, get_or, sym, ap, ◌∙◌, subst, arith}
use Rattle.std.proofs.Math.Nat.{max-le, min-le_left}
use Rattle.std.proofs.lemmas.Bool.{cases_lt}
use Rattle.std.proofs.lemmas.List.{get_or_default}
use Rattle.definitions.specs.declared.block.Block.{Block}
use Rattle.definitions.specs.declared.block.Span.TheVariants.{Minute}
use Rattle.definitions.specs.time.Calendar.{is_leap_end, minute_length}
use Rattle.definitions.specs.sequences.Walks.{IsLegal}
use Rattle.definitions.specs.answers.Blocks.{IsIn}
use Rattle.minute_parts.specs.Walks.{later_minutes}
use Rattle.walk_costs.specs.Walks.{IsRegularWalk, last_minute}
use Rattle.field_tables.specs.Blocks.{AreMinutesOf, HasShortWalks}
use Rattle.field_tables.specs.Minutes.{no_walks}
use Rattle.field_tables.specs.Quiet.{IsQuiet, NeverTell}
use Rattle.field_tables.specs.Sums.{AreSums, Sums}
use Rattle.field_tables.proofs.FloorLaws.{at_first}
use Rattle.field_tables.proofs.MinuteLaws.{legal_where_shown, regular_walks, some_shows}
use Rattle.field_tables.proofs.SumLaws.{regular, slots}

-- what lies from t on and before the later of t and the lesser of two minutes is before the first of these
pub below_limit : (n hi t x : ℕ) → t ≤ x → x < max (min n hi) t → x < n
below_limit n hi t x ge lt = elim (cases_lt x n) [
  | inl less ↦ less
  | inr le ↦ (let most : max (min n hi) t ≤ x = max-le (omega (arith, min-le_left n hi, le)) ge in absurd (omega (arith, most, lt)))
]

-- a minute after which no leap second may come has 60 seconds
sixty : (t : ℕ) → is_leap_end t ≡ false → minute_length true t ≡ 60
sixty t none = ap (λ (b : Bool). if true && b then 61 else 60) none

-- so no announced sequence of a day is legal, where its minutes and those that walks go on to have 60 seconds, and no station
-- tells anything in them
pub never_legal : (sums : Sums) → AreSums sums → (day reach : ℕ) → reach ≡ later_minutes sums.window.seconds 59
    → day * 1440 + 1440 + reach ≤ sums.end
    → ((t : ℕ) → day * 1440 ≤ t → t < day * 1440 + 1440 + reach → is_leap_end t ≡ false)
    → NeverTell sums (day * 1440) (day * 1440 + 1440 + reach - 1) → IsQuiet sums.window day
never_legal sums are day reach far ends short tells q announced ge lt legal =
    let length_here = ap (λ a. minute_length a q.first) announced ∙ sixty q.first (short q.first ge (omega (arith, lt))) in
    let second : q.second < 60 = omega (arith, legal.0.second, length_here) in
    let b : Block = record { announced = true; second = q.second; span = Minute; lo = q.first; hi = q.first + 1 } in
    let block : AreMinutesOf sums.window b = record {
      second = omega (arith, second);
      not_empty = omega (arith);
      not_before = legal.0.not_before;
      no_later = omega (arith, legal.0.before_end);
    } in
    let on : later_minutes sums.window.seconds q.second ≤ reach = omega (arith, far, second) in
    let walks : HasShortWalks sums.window b = record {
      second = second;
      short = λ t from to. sixty t (short t (omega (arith, from, ge)) (omega (arith, to, on, lt)));
    } in
    let within : b.hi + later_minutes sums.window.seconds q.second ≤ sums.end = omega (arith, on, lt, ends) in
    let inside : IsIn b q = record { announced = announced; second = refl; not_before = omega (arith); before_end = omega (arith) } in
    let here = subst (IsLegal sums.window) (sym (at_first b q inside)) legal in
    let shown = (legal_where_shown sums are b block walks within q.first (omega (arith)) (omega (arith)) refl).0 here in
    let some = some_shows sums are (record { first = q.first; second = q.second; announced = true }) shown in
    let w = get_or sums.stations some.0 no_walks in
    let is = get_or_default sums.stations some.0 no_walks w some.1 in
    let walk : IsRegularWalk w q.second q.first = regular sums are some.0 w some.1 is true q.second q.first (q.first + 1) (regular_walks sums b walks within) in
    let same = ap (λ n. later_minutes n q.second) (slots sums are some.0 w some.1 is) in
    let last : last_minute w q.second q.first ≤ day * 1440 + 1440 + reach - 1 = omega (arith, same, on, lt) in
    tells some.0 q.second q.first some.1 second ge last walk some.2
