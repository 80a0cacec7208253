-- The first minute of June 2000, and whether a leap second that it announces can be told.
use Rattle.std.proofs.Common.{◌≡◌, ◌≢◌, ℕ, ◌<◌, inl, inr, Bool, true, false, refl, sym, ap, ◌∙◌, arith}
use Rattle.signal_base.specs.declared.station.Station.{Station}
use Rattle.signal_base.specs.declared.station.Station.TheVariants.{Dcf77, Msf, Wwvb, Jjy}
use Rattle.definitions.specs.declared.dcf77.DcfFacts.{DcfFacts}
use Rattle.definitions.specs.time.Calendar.{century_minutes, day_at, minute_length}
use Rattle.definitions.specs.time.Summer.{season_at, eu_change_within}
use Rattle.definitions.specs.codes.Allowed.{allowed, dcf_facts, has_station}
use Rattle.definitions.specs.codes.Dcf77.{dcf_second}
use Rattle.definitions.specs.sequences.Walks.{set_at, unannounced, IsWalkable, IsLegal}
use Rattle.definitions.specs.examples.Sequences.{window_of, june_announced}
use Rattle.definitions.proofs.PlaceLaws.{short_minute}
use Rattle.definitions.proofs.MinuteLaws.{early, from_minute, set, walkable}

-- the minute has 60 seconds, so the walk stays in it, and every station can encode it
short : (b : Bool) → minute_length b 218880 ≡ 60
short b = short_minute b 218880 (λ e. omega (arith, e))

june_walks : (mask : ℕ) (b : Bool) → IsWalkable (window_of mask 0 century_minutes) (from_minute b 218880)
june_walks mask b = walkable b 218880 (short b) mask 0 century_minutes (omega arith) (omega arith) (early (window_of mask 0 century_minutes).stations 218880 (omega arith))

june_set : (station : Station) (b : Bool) (k : ℕ) → k < 60 → set_at station (from_minute b 218880) k ≡ allowed station b (218880, k)
june_set station b k lt = set b 218880 (short b) station k lt

-- WWVB's second 56 tells of it
warned : allowed Wwvb true (218880, 56) ≡ 2
unfolding day_at season_at
warned = refl

not_warned : allowed Wwvb false (218880, 56) ≡ 1
unfolding day_at season_at
not_warned = refl

pub told : (mask : ℕ) → has_station (window_of mask 0 century_minutes).stations Wwvb ≡ true → IsLegal (window_of mask 0 century_minutes) june_announced
told mask has = (
  june_walks mask true,
  λ e. inr (inr (
    Wwvb,
    56,
    has,
    omega arith,
    λ same. omega (
      arith,
      sym (june_set Wwvb true 56 (omega arith) ∙ warned) ∙ same ∙ june_set Wwvb false 56 (omega arith) ∙ not_warned,
    ),
  )),
)

-- DCF77 sends the same with it and without
same_facts : dcf_facts true 218880 ≡ dcf_facts false 218880
unfolding day_at season_at eu_change_within
same_facts = refl

hidden : (k : ℕ) → k < 60 → set_at Dcf77 june_announced k ≡ set_at Dcf77 (unannounced june_announced) k
hidden k lt =
    june_set Dcf77 true k lt ∙ ap (λ (f : DcfFacts). dcf_second f k) same_facts ∙ sym (june_set Dcf77 false k lt)

never : (station : Station) (k : ℕ) → has_station (window_of 1 0 century_minutes).stations station ≡ true → k < 60
    → set_at station june_announced k ≢ set_at station (unannounced june_announced) k → ⊥
never Dcf77 k heard lt apart = apart (hidden k lt)
never Msf k heard lt apart = absurd cc
never Wwvb k heard lt apart = absurd cc
never Jjy k heard lt apart = absurd cc

pub not_told : ¬ (IsLegal (window_of 1 0 century_minutes) june_announced)
not_told legal = elim (legal.1 refl) [
  | inl e ↦ omega (arith, e)
  | inr rest ↦ elim rest [
    | inl none ↦ none (june_walks 1 false)
    | inr shows ↦ never shows.0 shows.1 shows.2 shows.3 shows.4
  ]
]
