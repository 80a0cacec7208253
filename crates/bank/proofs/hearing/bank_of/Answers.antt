-- The receivers of a configuration with their logs.
use Rattle.std.proofs.Common.{List, length, All, map, ap, sym, ◌∙◌, subst, arith}
use Rattle.signal_base.specs.declared.tuning.Tuning.{Tuning}
use Rattle.std.specs.List.Sorted.{IsNonDecreasingBy}
use Rattle.signal_base.specs.Limits.{IsTuned}
use Rattle.signal_base.specs.Number.{number_of}
use Rattle.definitions.specs.heard.Receivers.{Receiver}
use Rattle.due.specs.Banks.{Bank}
use Rattle.bank.proofs.HearingLaws.{all_tuned, receivers_from}
use Rattle.bank.proofs.LogListLaws.{length_map}
use Rattle.bank.proofs.RiseLaws.{rises_map}
use Rattle.bank.proofs.hearing.bank_of.Goals as goal

pub returns-clause-bank : goal.returns-clause-bank
returns-clause-bank c =
    let config = c.args.loaded.config in
    ap (λ (rs : List Receiver). let b : Bank = record { receivers = rs; table = config.table; ceiling = config.ceiling } in b)
    (receivers_from config.receivers.items c.in_ok-stations.stations.items c.in_ok-tunings.tunings.items c.args.loaded.logs.items
    (c.in_ok-stations.ensures ∙ ap (map (λ r. r.station)) c.as_slice.ensures.value) (c.in_ok-tunings.ensures ∙ ap (map (λ r. r.tuning)) c.as_slice-2.ensures.value))

pub returns-clause-in_range : goal.returns-clause-in_range
returns-clause-in_range c =
    let rs = c.args.loaded.config.receivers.items in
    let stations = c.in_ok-stations.ensures ∙ ap (map (λ r. r.station)) c.as_slice.ensures.value in
    let tunings = c.in_ok-tunings.ensures ∙ ap (map (λ r. r.tuning)) c.as_slice-2.ensures.value in
    let count = ap length stations ∙ length_map (λ r. r.station) rs in
    let also = ap length tunings ∙ length_map (λ r. r.tuning) rs in
    record {
      some_receiver = omega arith;
      few_receivers = omega arith;
      tunings = also ∙ sym count;
      logs = c.requires.logs ∙ sym count;
      tuned = subst (λ (ts : List Tuning). All IsTuned ts) (sym tunings) (all_tuned rs c.requires.in_range.receivers);
      priced = c.requires.in_range.priced;
      ceiling = c.requires.in_range.ceiling;
      in_order = subst (IsNonDecreasingBy number_of) (sym stations) (rises_map (λ r. r.station) number_of rs c.args.loaded.in_order);
    }
