-- DCF77's first warning in the last second of a window, and just behind it.
use Rattle.std.proofs.Common.{◌≡◌, ◌≢◌, ℕ, ◌<◌, ◌≤◌, Bool, true, false, ◌&&◌, ◌==◌, nat_lt, nat_le, inl, inr, refl, arith, eqb-true}
use Rattle.std.proofs.lemmas.Bool.{and_parts, ltb-true, leb-true}
use Rattle.signal_base.specs.declared.station.Station.{Station}
use Rattle.signal_base.specs.declared.station.Station.TheVariants.{Dcf77, Msf, Wwvb, Jjy}
use Rattle.definitions.specs.declared.sequence.Sequence.{Sequence}
use Rattle.definitions.specs.time.Calendar.{century_minutes, day_at, minute_length}
use Rattle.definitions.specs.time.Summer.{season_at, eu_change_within}
use Rattle.definitions.specs.codes.Allowed.{allowed, encoded_year, has_station}
use Rattle.definitions.specs.sequences.Walks.{place_at, set_at, unannounced, IsWalkable}
use Rattle.definitions.specs.examples.Sequences.{june_warned, window_of}
use Rattle.definitions.proofs.CheckLaws.{walks, along}
use Rattle.definitions.proofs.examples.sequences.announcement_at_the_end_of_a_window.Goals as goal

-- DCF77 can encode a minute of the century
encodes : ℕ × ℕ → ℕ × ℕ → Bool
encodes p r = nat_lt p.0 century_minutes && nat_le (encoded_year Dcf77 p.0) 2099

-- DCF77 sends the same with a leap second and without
same : ℕ × ℕ → ℕ × ℕ → Bool
same p r = allowed Dcf77 true p == allowed Dcf77 false r

walkable : (q : Sequence) → q.first < century_minutes → q.second < minute_length q.announced q.first → (walks q q encodes 60).2 ≡ true
    → IsWalkable (window_of 1 0 century_minutes) q
unfolding encodes
walkable q within second all = record {
  not_before = omega arith;
  before_end = within;
  second = second;
  encoded = λ k lt. let parts = and_parts (nat_lt (place_at q k).0 century_minutes) (nat_le (encoded_year Dcf77 (place_at q k).0) 2099) (along q q encodes 60 all k lt) in
      (ltb-true (place_at q k).0 century_minutes parts.0, λ station has. alone station has (place_at q k).0 (leb-true (encoded_year Dcf77 (place_at q k).0) 2099 parts.1));
}
  where
    alone : (station : Station) → has_station (window_of 1 0 century_minutes).stations station ≡ true → (t : ℕ) → encoded_year Dcf77 t ≤ 2099 → encoded_year station t ≤ 2099
    alone Dcf77 has t le = le
    alone Msf has t le = absurd cc
    alone Wwvb has t le = absurd cc
    alone Jjy has t le = absurd cc

with_warning : (walks (june_warned 20) (june_warned 20) encodes 60).2 ≡ true
unfolding walks encodes day_at season_at
with_warning = refl

before_warning : (walks (unannounced (june_warned 19)) (unannounced (june_warned 19)) encodes 60).2 ≡ true
unfolding walks encodes day_at season_at
before_warning = refl

all_the_same : (walks (june_warned 19) (unannounced (june_warned 19)) same 60).2 ≡ true
unfolding walks same day_at season_at eu_change_within
all_the_same = refl

lengths : (b : Bool) → minute_length b (june_warned 19).first ≡ 60
unfolding day_at
lengths true = refl
lengths false = refl

never : (station : Station) (k : ℕ) → has_station (window_of 1 0 century_minutes).stations station ≡ true → k < 60
    → set_at station (june_warned 19) k ≢ set_at station (unannounced (june_warned 19)) k → ⊥
unfolding same
never Dcf77 k has lt apart = apart (eqb-true _ _ (along (june_warned 19) (unannounced (june_warned 19)) same 60 all_the_same k lt))
never Msf k has lt apart = absurd cc
never Wwvb k has lt apart = absurd cc
never Jjy k has lt apart = absurd cc

pub returns-clause-not_told : goal.returns-clause-not_told
returns-clause-not_told c = λ legal. elim (legal.1 refl) [
  | inl e ↦ omega (arith, e)
  | inr rest ↦ elim rest [
    | inl none ↦ none (walkable (unannounced (june_warned 19)) (omega arith) (omega (arith, lengths false)) before_warning)
    | inr shows ↦ never shows.0 shows.1 shows.2 shows.3 shows.4
  ]
]

warned : set_at Dcf77 (june_warned 20) 59 ≡ 2
unfolding place_at day_at season_at eu_change_within
warned = refl

not_warned : set_at Dcf77 (unannounced (june_warned 20)) 59 ≡ 1
unfolding place_at day_at season_at eu_change_within
not_warned = refl

pub returns-clause-told : goal.returns-clause-told
returns-clause-told c = (
  walkable (june_warned 20) (omega arith) (omega (arith, lengths true)) with_warning,
  λ e. inr (inr (Dcf77, 59, refl, omega arith, λ equal. omega (arith, equal, warned, not_warned))),
)
