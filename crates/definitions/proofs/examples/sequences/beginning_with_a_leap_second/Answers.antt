-- A window that begins with a leap second.
use Rattle.std.proofs.Common.{◌≡◌, ℕ, ◌≤◌, Bool, true, false, ◌&&◌, nat_lt, nat_le, inl, refl, arith}
use Rattle.std.proofs.lemmas.Bool.{and_parts, ltb-true, leb-true}
use Rattle.signal_base.specs.declared.station.Station.{Station}
use Rattle.signal_base.specs.declared.station.Station.TheVariants.{Dcf77, Msf, Wwvb, Jjy}
use Rattle.definitions.specs.time.Calendar.{century_minutes, day_at, minute_length}
use Rattle.definitions.specs.codes.Allowed.{encoded_year, has_station}
use Rattle.definitions.specs.sequences.Walks.{place_at}
use Rattle.definitions.specs.examples.Sequences.{leap_second_of_june, window_of}
use Rattle.definitions.proofs.CheckLaws.{walks, along}
use Rattle.definitions.proofs.examples.sequences.beginning_with_a_leap_second.Goals as goal

-- JJY can encode a minute of the century
encodes : ℕ × ℕ → ℕ × ℕ → Bool
encodes p r = nat_lt p.0 century_minutes && nat_le (encoded_year Jjy p.0) 2099

coded : (walks leap_second_of_june leap_second_of_june encodes 60).2 ≡ true
unfolding walks encodes day_at
coded = refl

alone : (station : Station) → has_station (window_of 8 0 century_minutes).stations station ≡ true → (t : ℕ) → encoded_year Jjy t ≤ 2099 → encoded_year station t ≤ 2099
alone Jjy has t le = le
alone Dcf77 has t le = absurd cc
alone Msf has t le = absurd cc
alone Wwvb has t le = absurd cc

long : minute_length true leap_second_of_june.first ≡ 61
unfolding day_at
long = refl

short : minute_length false leap_second_of_june.first ≡ 60
unfolding day_at
short = refl

elsewhere : minute_length true 720 ≡ 60
unfolding day_at
elsewhere = refl

pub returns-clause-announced : goal.returns-clause-announced
unfolding encodes
returns-clause-announced c = (
  record {
    not_before = omega arith;
    before_end = omega arith;
    second = omega (arith, long);
    encoded = λ k lt. let parts = and_parts (nat_lt (place_at leap_second_of_june k).0 century_minutes) (nat_le (encoded_year Jjy (place_at leap_second_of_june k).0) 2099)
        (along leap_second_of_june leap_second_of_june encodes 60 coded k lt) in
        (ltb-true (place_at leap_second_of_june k).0 century_minutes parts.0, λ station has. alone station has (place_at leap_second_of_june k).0 (leb-true (encoded_year Jjy (place_at leap_second_of_june k).0) 2099 parts.1));
  },
  λ e. inl refl,
)

pub returns-clause-not_announced : goal.returns-clause-not_announced
returns-clause-not_announced c = λ is. omega (arith, is.second, short)

pub returns-clause-elsewhere : goal.returns-clause-elsewhere
returns-clause-elsewhere c = λ is. omega (arith, is.second, elsewhere)
