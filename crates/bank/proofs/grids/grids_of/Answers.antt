-- The grids are made one station after the other.
use Rattle.std.proofs.Common.{◌+◌, List, [], ◌∷◌, sym, ap, subst, arith}
use Rattle.signal_base.specs.declared.station.Station.{Station}
use Rattle.signal_base.specs.declared.station.Station.TheVariants.{Dcf77, Msf, Wwvb, Jjy}
use Rattle.definitions.specs.heard.Costs.{slot_cost}
use Rattle.definitions.specs.heard.Receivers.{Reception}
use Rattle.symbol_cost.specs.Grid.{Grid}
use Rattle.due.specs.Banks.{costs_in}
use Rattle.bank.specs.Hearing.{AreGridsOf, AreOfBank, bank_seen, count_of}
use Rattle.bank.proofs.GridLaws.{all_added, no_grids}
use Rattle.bank.proofs.MovedLaws.{none_of_bank}
use Rattle.bank.proofs.PartLaws.{counts_add_up, heard_in_bank}
use Rattle.bank.proofs.grids.grids_of.Goals as goal

pub returns-clause-grids : goal.returns-clause-grids
returns-clause-grids c =
    let window = c.args.window.now in
    let bank = c.args.bank.now in
    let ss = bank.stations.items in
    let costs = costs_in window (bank_seen bank) in
    let same = λ (station : Station). ap (λ (hs : List Reception). slot_cost bank.table hs station (window.start + window.phase)) (heard_in_bank bank c.requires.bank station) in
    let none = subst (λ (gs : List Grid). AreGridsOf window costs [] 0 gs) (sym c.new-grids.ensures.items) (no_grids window costs) in
    let one = c.in_ok-add_grid.ensures.adds costs [] 0 (same Dcf77) none in
    let two = c.in_ok-add_grid-2.ensures.adds costs (Dcf77 ∷ []) (0 + count_of Dcf77 ss) (same Msf) one in
    let three = c.in_ok-add_grid-3.ensures.adds costs (Dcf77 ∷ Msf ∷ []) (0 + count_of Dcf77 ss + count_of Msf ss) (same Wwvb) two in
    let four = c.in_ok-add_grid-4.ensures.adds costs (Dcf77 ∷ Msf ∷ Wwvb ∷ []) (0 + count_of Dcf77 ss + count_of Msf ss + count_of Wwvb ss) (same Jjy) three in
    let count = counts_add_up ss in
    let few = c.requires.bank.few_receivers in
    all_added window costs (count_of Dcf77 ss) (count_of Msf ss) (count_of Wwvb ss) (count_of Jjy ss) c.add_grid-4.new.grids.items
    (omega arith) four

pub returns-clause-costs : goal.returns-clause-costs
returns-clause-costs c =
    let window = c.args.window.now in
    let bank = c.args.bank.now in
    let ss = bank.stations.items in
    let costs = costs_in window (bank_seen bank) in
    let same = λ (station : Station). ap (λ (hs : List Reception). slot_cost bank.table hs station (window.start + window.phase)) (heard_in_bank bank c.requires.bank station) in
    let none = subst (λ (gs : List Grid). AreGridsOf window costs [] 0 gs) (sym c.new-grids.ensures.items) (no_grids window costs) in
    let one = c.in_ok-add_grid.ensures.adds costs [] 0 (same Dcf77) none in
    let two = c.in_ok-add_grid-2.ensures.adds costs (Dcf77 ∷ []) (0 + count_of Dcf77 ss) (same Msf) one in
    let three = c.in_ok-add_grid-3.ensures.adds costs (Dcf77 ∷ Msf ∷ []) (0 + count_of Dcf77 ss + count_of Msf ss) (same Wwvb) two in
    let four = c.in_ok-add_grid-4.ensures.adds costs (Dcf77 ∷ Msf ∷ Wwvb ∷ []) (0 + count_of Dcf77 ss + count_of Msf ss + count_of Wwvb ss) (same Jjy) three in
    four.costs_are

pub returns-clause-receivers : goal.returns-clause-receivers
returns-clause-receivers c =
    let none = subst (λ (gs : List Grid). AreOfBank c.args.bank.now gs) (sym c.new-grids.ensures.items) (none_of_bank c.args.bank.now) in
    c.in_ok-add_grid-4.ensures.receivers (c.in_ok-add_grid-3.ensures.receivers (c.in_ok-add_grid-2.ensures.receivers (c.in_ok-add_grid.ensures.receivers none)))
