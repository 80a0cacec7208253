-- The runs and the parts by the time of day are a table of what is sent.
use Rattle.std.proofs.Common.{◌≡◌, ℕ, ◌+◌, ◌%◌, ◌<◌, ◌≤◌, ◌↔◌, Bool, true, false, nat_lt, if◌then◌else◌, List, [], length, get_or, refl, sym, ap, ◌∙◌, arith}
use Rattle.std.proofs.lemmas.Bool.{ltb-true, ltb-false}
use Rattle.std.proofs.lemmas.List.FromFn.{length-map-range_with_len}
use Rattle.signal_base.specs.declared.station.Station.{Station}
use Rattle.definitions.specs.time.Calendar.{century_minutes, minute_length}
use Rattle.definitions.specs.codes.Allowed.{allowed, encoded_year}
use Rattle.minute_parts.specs.declared.dates.DateFacts.{DateFacts}
use Rattle.minute_parts.specs.declared.runs.Run.{Run}
use Rattle.minute_parts.specs.Overlay.{overlay}
use Rattle.minute_parts.specs.Dates.{date_facts, date_part, date_set, facts_where, shift_by, some_date, time_part, time_set}
use Rattle.minute_parts.specs.Runs.{Covers, first_of, last_of, run_at, run_by}
use Rattle.minute_parts.specs.Parts.{IsInRun, IsPartTable, PartTable, local_time, part_where, set_in_run, times_at}
use Rattle.minute_parts.proofs.SplitLaws.{sent_code}
use Rattle.minute_parts.proofs.FactLaws.{allowed_by_parts, in_date_part, in_time_part}

long_time : (station : Station) (u : ℕ) → length (time_part station u) ≡ 60
unfolding time_part
long_time station u = length-map-range_with_len (time_set station u) 0 60

long_date : (station : Station) (f : DateFacts) → length (date_part station f) ≡ 60
unfolding date_part
long_date station f = length-map-range_with_len (date_set station f) 0 60

-- the part of a run by the facts of its first minute
part_is : (station : Station) (announced : Bool) (t : ℕ) (f : DateFacts) → part_where announced (run_by station t f) ≡ date_part station (facts_where announced f)
part_is station true t f = refl
part_is station false t f = refl

module _ (station : Station) (times : List (List ℕ)) (runs : List Run) (date : DateFacts) (end : ℕ)
    (minutes : length times ≡ 1440) (each : (u : ℕ) → u < 1440 → get_or times u [] ≡ time_part station u)
    (covered : Covers station runs date end) (begun : first_of runs (last_of runs) < end)
    (ends : (t : ℕ) → t < end ↔ ((t < century_minutes) × (encoded_year station t ≤ 2099))) where
  abbrev table : PartTable
  table = record { station = station; times = times; runs = runs; end = end }

  abbrev facts : ℕ → DateFacts
  facts i = date_facts station (first_of runs i)

  part_at : (announced : Bool) (i : ℕ) → i < length runs → part_where announced (run_at runs i) ≡ date_part station (facts_where announced (facts i))
  part_at announced i lt = ap (part_where announced) (covered.each i lt) ∙ part_is station announced (first_of runs i) (facts i)

  shift_at : (i : ℕ) → i < length runs → (run_at runs i).shift ≡ shift_by station (facts i)
  shift_at i lt = ap (λ (r : Run). r.shift) (covered.each i lt)

  rise_by : (i : ℕ) → i < length runs → (less : Bool) → nat_lt (i + 1) (length runs) ≡ less → first_of runs i < (if less then first_of runs (i + 1) else end)
  rise_by i lt true e = covered.rise i (ltb-true _ _ e)
  rise_by i lt false e =
      let over = ltb-false _ _ e in
      let last : i ≡ last_of runs = omega (arith, over) in
      omega (arith, ap (first_of runs) last, begun)

  -- what the parts tell of a second
  time_at : (u s : ℕ) → u < 1440 → s < 60 → get_or (times_at table u) s 0 ≡ time_set station u s
  time_at u s lt within = ap (λ xs. get_or xs s 0) (each u lt) ∙ in_time_part station u s within

  date_at : (announced : Bool) (i s : ℕ) → i < length runs → s < 60
      → get_or (part_where announced (run_at runs i)) s 0 ≡ date_set station (facts_where announced (facts i)) s
  date_at announced i s lt within =
      ap (λ xs. get_or xs s 0) (part_at announced i lt) ∙ in_date_part station (facts_where announced (facts i)) s within

  -- what a second carries by the parts of any facts that are the run's
  by_run : (announced : Bool) (i t s : ℕ) → IsInRun table t i → minute_length announced t ≡ 60 → s < 60
      → allowed station announced (t, s) ≡ set_in_run table announced (run_at runs i) t s
  by_run announced i t s here short lt =
      let same : date_facts station t ≡ facts i = covered.same i t here.is_run here.begun here.not_over in
      let u : (t + shift_by station (date_facts station t)) % 1440 ≡ local_time (run_at runs i) t = (
      ap (λ f. (t + shift_by station f) % 1440) same ∙ ap (λ n. (t + n) % 1440) (sym (shift_at i here.is_run))) in
      let time : get_or (time_part station ((t + shift_by station (date_facts station t)) % 1440)) s 0 ≡ get_or (times_at table (local_time (run_at runs i) t)) s 0 = (
      ap (λ n. get_or (time_part station n) s 0) u ∙ ap (λ xs. get_or xs s 0) (sym (each (local_time (run_at runs i) t) (omega arith)))) in
      let by_date : get_or (date_part station (facts_where announced (date_facts station t))) s 0 ≡ get_or (part_where announced (run_at runs i)) s 0 = (
      ap (λ f. get_or (date_part station (facts_where announced f)) s 0) same ∙ ap (λ xs. get_or xs s 0) (sym (part_at announced i here.is_run))) in
      allowed_by_parts station announced t s short lt
      ∙ ap (λ n. overlay n (get_or (date_part station (facts_where announced (date_facts station t))) s 0)) time
      ∙ ap (λ n. overlay (get_or (times_at table (local_time (run_at runs i) t)) s 0) n) by_date

  pub is_table : IsPartTable table
  is_table = record {
    minutes = minutes;
    time_seconds = λ u lt. ap length (each u lt) ∙ long_time station u;
    date_seconds = λ announced i lt. ap length (part_at announced i lt) ∙ long_date station (facts_where announced (facts i));
    some = covered.some;
    begins = covered.begins;
    rise = λ i lt. rise_by i lt _ refl;
    ends = ends;
    time_told = λ u s lt within e. rw (time_at u s lt within, e) (sent_code station some_date u s within);
    time_alone = λ u s lt within e. time_at u s lt within ∙ rw e refl;
    date_told = λ announced i s lt within e. rw (date_at announced i s lt within, e) (sent_code station (facts_where announced (facts i)) 0 s within);
    date_alone = λ announced i s lt within e. date_at announced i s lt within ∙ rw e refl;
    tells = by_run;
  }
