-- The receivers of a bank, one after the other.
use Rattle.std.proofs.Common.{◌≡◌, ℕ, ◌+◌, List, ◌∷◌, sum_by}
use Rattle.std.proofs.lemmas.List.Sums.{sum_by-cons}
use Rattle.signal_base.specs.declared.station.Station.{Station}
use Rattle.signal_base.specs.declared.tuning.Tuning.{Tuning}
use Rattle.definitions.specs.heard.Logs.{Records}
use Rattle.definitions.specs.heard.Receivers.{Receiver, receptions}
use Rattle.definitions.specs.heard.Phase.{offsets}
use Rattle.align.specs.Edges.{offsets_from}
use Rattle.align.specs.Receivers.{receivers}

-- the sum of g over all offsets that receivers heard
abbrev pub sum_heard : (ℕ → ℕ) → ℕ → ℕ → List Receiver → ℕ
sum_heard g start n bank = sum_by (λ r. sum_by g (offsets start n r)) bank

-- the first receiver and the others
pub sum_heard-next : (g : ℕ → ℕ) (start n : ℕ) (ss more_ss : List Station) (ts more_ts : List Tuning) (ls more_ls : List Records) (s : Station) (t : Tuning) (l : Records)
    → ss ≡ s ∷ more_ss → ts ≡ t ∷ more_ts → ls ≡ l ∷ more_ls
    → sum_heard g start n (receivers ss (receptions ts ls))
    ≡ sum_by g (offsets_from s (start + t.delay) n l) + sum_heard g start n (receivers more_ss (receptions more_ts more_ls))
sum_heard-next g start n ss more_ss ts more_ts ls more_ls s t l stations tunings logs =
    rw (stations, tunings, logs)
    (sum_by-cons (λ (r : Receiver). sum_by g (offsets start n r)) (record { station = s; heard = record { tuning = t; log = l } }) (receivers more_ss (receptions more_ts more_ls)))
