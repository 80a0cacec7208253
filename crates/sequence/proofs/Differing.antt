-- Whether some station's sets differ, from tests of each station.
use Rattle.std.proofs.Common.{◌≡◌, ℕ, ◌↔◌, Bool, true, false, IsTrue, refl}
use Rattle.signal_base.specs.declared.station.Station.{Station}
use Rattle.signal_base.specs.declared.station.Station.TheVariants.{Dcf77, Msf, Wwvb, Jjy}
use Rattle.signal_base.specs.declared.station.Stations.{Stations}
use Rattle.sequence.specs.Sets.{SetsDiffer, StationDiffers}
use Rattle.sequence.proofs.Encoding.{each_station}

-- a test that fails refutes what it tests
pub refuted : {P : Type 0} (test : Bool) → test ≡ false → (IsTrue test ↔ P) → P → ⊥
refuted test off means p = let on = means.1 p in cc

module _ (stations : Stations) (announced : Bool) (place twin : ℕ × ℕ) where
  abbrev Differs : Station → Type 0
  Differs = StationDiffers stations announced place twin

  -- one station is enough
  pub one_differs : (station : Station) (test : Bool) → test ≡ true → (IsTrue test ↔ Differs station)
      → IsTrue true ↔ SetsDiffer stations announced place twin
  one_differs station test on means = (λ _. (station, means.0 on), λ _. refl)

  -- the fourth decides where the first three are alike
  pub last_decides : (last : Bool) → (Differs Dcf77 → ⊥) → (Differs Msf → ⊥) → (Differs Wwvb → ⊥) → (IsTrue last ↔ Differs Jjy)
      → IsTrue last ↔ SetsDiffer stations announced place twin
  last_decides last dcf77 msf wwvb means =
      let by_station = each_station (λ s. Differs s → IsTrue last) (λ d. absurd (dcf77 d)) (λ d. absurd (msf d)) (λ d. absurd (wwvb d)) means.1 in
      (λ on. (Jjy, means.0 on), λ some. by_station some.0 some.1)
