-- Bounds by costs that agree, and windows that hear some station.
use Rattle.std.proofs.Common.{◌≡◌, ℕ, ◌<◌, ◌==◌, ◌||◌, inl, inr, ◌%◌, Bool, true, false, nat_lt, length, Option, Some, None, refl, ◌∙◌, arith}
use Rattle.std.proofs.lemmas.Bool.{cases_eq, eqb-true, ltb-true, ne_eqb, or_cases}
use Rattle.signal_base.specs.declared.window.Window.{Window}
use Rattle.definitions.specs.declared.block.Block.{Block}
use Rattle.definitions.specs.time.Calendar.{is_leap_end, minute_length}
use Rattle.definitions.specs.codes.Allowed.{stations_of}
use Rattle.definitions.specs.sequences.Windows.{IsWindow}
use Rattle.definitions.specs.heard.Costs.{Costs}
use Rattle.definitions.specs.answers.Blocks.{IsUnionBound}
use Rattle.definitions.proofs.CheckLaws.{all_below, below}
use Rattle.plain_costs.specs.Agreement.{AgreeOn}
use Rattle.plain_costs.proofs.AgreementLaws.{unions_same}

pub bound_same : (window : Window) (costs others : Costs) (b : Block) (bound : Option ℕ) → AgreeOn window costs others
    → IsUnionBound costs window b bound → IsUnionBound others window b bound
bound_same window costs others b None agree is = is
bound_same window costs others b (Some n) agree is =
    (is.0, record { unions = is.1.unions; each = is.1.each; cost = is.1.cost ∙ unions_same window costs others is.1.unions agree })

hears : ℕ → Bool
hears mask = (mask == 0) || nat_lt 0 (length (stations_of (record { mask = mask })))

all_hear : all_below hears 16 ≡ true
unfolding all_below hears
all_hear = refl

few : ℕ → Bool
few mask = nat_lt (length (stations_of (record { mask = mask }))) 5

all_few : all_below few 16 ≡ true
unfolding all_below few
all_few = refl

-- a window hears four stations at the most
pub four_stations : (window : Window) → IsWindow window → length (stations_of window.stations) < 5
unfolding few
four_stations window is = ltb-true _ 5 (below few 16 all_few window.stations.mask (omega (arith, is.stations)))

-- a window hears some station
pub some_station : (window : Window) → IsWindow window → 0 < length (stations_of window.stations)
unfolding hears
some_station window is =
    let checked = below hears 16 all_hear window.stations.mask (omega (arith, is.stations)) in
    elim (or_cases (window.stations.mask == 0) (nat_lt 0 (length (stations_of window.stations))) checked) [
      | inl none ↦ absurd (omega (arith, eqb-true window.stations.mask 0 none, is.some_station))
      | inr some ↦ ltb-true 0 _ some
    ]

-- minutes of 60 seconds
pub short_where : (announced : Bool) (t : ℕ) → is_leap_end t ≡ false → minute_length announced t ≡ 60
short_where true t early = rw early refl
short_where false t early = refl

-- only the last minute of a day can be one that a leap second ends
pub no_leap_end : (t : ℕ) → (t % 1440 ≡ 1439 → is_leap_end t ≡ false) → is_leap_end t ≡ false
no_leap_end t none = elim (cases_eq (t % 1440) 1439) [
  | inl is ↦ none is
  | inr not ↦ rw (ne_eqb (t % 1440) 1439 not) refl
]
