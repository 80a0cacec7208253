-- MSF's two seconds cost what a table of four entries says, from which what it tells is computed.
use Rattle.std.proofs.Common.{◌≡◌, ℕ, zero, suc, ◌<◌, [], ◌∷◌, pos, refl, ap, ◌∙◌, arith}
use Rattle.signal_base.specs.Table.{difference_table}
use Rattle.signal_base.specs.declared.dut.Dut.TheVariants.{Absent, Tenths, Tied}
use Rattle.signal_base.specs.declared.station.Station.TheVariants.{Dcf77, Jjy, Msf, Wwvb}
use Rattle.definitions.specs.examples.Receivers.{ones_heard}
use Rattle.definitions.specs.examples.Sequences.{from_place}
use Rattle.definitions.specs.heard.Costs.{dut_of, sum_below}
use Rattle.definitions.specs.heard.Logs.{low_count}
use Rattle.definitions.specs.sequences.Walks.{place_at}
use Rattle.definitions.proofs.SetLaws.{IsBit}
use Rattle.formats.specs.Examples.{dut_told}
use Rattle.due.specs.Banks.{costs_in}
use Rattle.due.specs.Examples.{four_stations, two_seconds}
use Rattle.due.proofs.DutLaws.{same_dut}
use Rattle.due.proofs.bank_examples.duts_of_four_stations.Goals as goal

cost : (k x : ℕ) → k < 2 → IsBit x → costs_in two_seconds four_stations Msf k x ≡ ones_heard 0 1 (0 ∷ []) k x
unfolding IsBit sum_below low_count difference_table
cost zero zero lt is = refl
cost zero (suc zero) lt is = refl
cost (suc zero) zero lt is = refl
cost (suc zero) (suc zero) lt is = refl
cost (suc (suc k)) x lt is = absurd (omega (arith, lt))
cost zero (suc (suc x)) lt is = absurd (omega (arith, is))
cost (suc zero) (suc (suc x)) lt is = absurd (omega (arith, is))

told : dut_of Msf (ones_heard 0 1 (0 ∷ [])) 2 (from_place 720 1) ≡ Tenths (pos 1)
unfolding sum_below place_at
told = refl

pub returns-clause-decided : goal.returns-clause-decided
unfolding sum_below place_at
returns-clause-decided c =
    ap (λ d. dut_told Dcf77 Absent ∷ dut_told Msf d ∷ dut_told Wwvb Tied ∷ dut_told Jjy Absent ∷ [])
    (same_dut Msf (costs_in two_seconds four_stations Msf) (ones_heard 0 1 (0 ∷ [])) 2 (from_place 720 1) cost ∙ told)

pub returns-clause-nothing : goal.returns-clause-nothing
returns-clause-nothing c = refl
