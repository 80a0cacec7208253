-- What a slot carries of a walk with 60 seconds in each minute, by the run in which its minute lies.
use Rattle.std.proofs.Common.{◌≡◌, ℕ, ◌+◌, ◌/◌, ◌%◌, ◌<◌, ◌≤◌, Bool, length, get_or, sym, ap, ◌∙◌, arith}
use Rattle.signal_base.specs.declared.station.Station.{Station}
use Rattle.definitions.specs.declared.sequence.Sequence.{Sequence}
use Rattle.definitions.specs.time.Calendar.{minute_length}
use Rattle.definitions.specs.codes.Allowed.{allowed}
use Rattle.definitions.specs.sequences.Walks.{place_at, set_at}
use Rattle.minute_parts.specs.Overlay.{overlay}
use Rattle.minute_parts.specs.Parts.{IsInRun, IsPartTable, local_time, part_where, times_at}
use Rattle.minute_parts.specs.Runs.{run_at}
use Rattle.walk_costs.specs.Walks.{PricedParts, last_minute}
use Rattle.walk_costs.proofs.PlaceLaws.{nominal}

module _ (w : PricedParts) (station : w.parts.station ≡ w.grid.station) (table : IsPartTable w.parts) (announced : Bool) (p t0 : ℕ) (second : p < 60)
    (short : (t : ℕ) → t0 ≤ t → t ≤ last_minute w p t0 → minute_length announced t ≡ 60) where
  abbrev pub q : Sequence
  q = record { first = t0; second = p; announced = announced }

  pub place_in : (k : ℕ) → k < length w.grid.rows → place_at q k ≡ (t0 + (p + k) / 60, (p + k) % 60)
  place_in k within = nominal q (length w.grid.rows) second short k within

  -- the set of a slot, by the two parts
  pub set_in : (i k t s : ℕ) → k < length w.grid.rows → t ≡ t0 + (p + k) / 60 → s ≡ (p + k) % 60 → IsInRun w.parts t i
      → set_at w.grid.station q k
      ≡ overlay (get_or (times_at w.parts (local_time (run_at w.parts.runs i) t)) s 0) (get_or (part_where announced (run_at w.parts.runs i)) s 0)
  set_in i k t s within minute of_minute here =
      let le : t ≤ last_minute w p t0 = omega arith in
      ap (allowed w.grid.station announced) (place_in k within)
      ∙ ap (λ m. allowed w.grid.station announced (m, (p + k) % 60)) (sym minute)
      ∙ ap (λ x. allowed w.grid.station announced (t, x)) (sym of_minute)
      ∙ ap (λ (st : Station). allowed st announced (t, s)) (sym station)
      ∙ table.tells announced i t s here (short t (omega arith) le) (omega arith)
