-- Each text is the log of its receiver.
use Rattle.std.proofs.Common.{◌≡◌, ℕ, List, [], ◌∷◌, ◌++◌, ◌+◌, ◌-◌, length, map, zero-add, None, refl, sym, ap, ◌∙◌, subst, arith}
use Rattle.std.specs.List.{range_with_len}
use Rattle.std.proofs.lemmas.List.{length-append}
use Rattle.std.proofs.lemmas.List.Elements.{All-append, All-cons, All-nil}
use Rattle.std.proofs.lemmas.List.Sorted.{IsNonDecreasingBy-push}
use Rattle.std.proofs.lemmas.List.FromFn.{map-range_with_len_more}
use Rattle.signal_base.specs.declared.station.Station.{Station}
use Rattle.signal_base.specs.declared.tuning.Tuning.{Tuning}
use Rattle.signal_base.specs.Limits.{IsTuned}
use Rattle.signal_base.specs.Number.{number_of}
use Rattle.definitions.specs.heard.Receivers.{Receiver}
use Rattle.formats.specs.LogLines.{IsLog}
use Rattle.trial_log.specs.Trials.{trial_receivers, trial_records}
use Rattle.due.specs.Trials.{trial_receiver}
use Rattle.bank.proofs.TrialLaws.{bank_is, one_to_eight, receivers_more, text_count, text_is}
use Rattle.bank.proofs.trial.bank_of_trial.Goals as goal

pub read_log-requires : goal.read_log-requires
read_log-requires c =
    let e = text_is c.args.texts.now (λ t. t.items) c.args.number c.loop-i.i c.index-texts-i.result c.requires.texts (omega arith) c.index-texts-i.is in
    rw (c.as_slice.ensures.value, e) (c.trials_are_logs.ensures.fits c.args.number c.loop-i.i)

pub loop-i-preserved : goal.loop-i-preserved
loop-i-preserved c =
    let number = c.args.number in
    let i = c.loop-i.i in
    let inv = c.loop-i.invariant in
    let ss = c.loop-i.stations.items in
    let ts = c.loop-i.tunings.items in
    let logs = c.loop-i.logs.items in
    let IsSame : Station → Type 0 = λ s. s ≡ c.args.station in
    let tuning : Tuning = record { delay = 0; weight = 1; table = None } in
    let e = text_is c.args.texts.now (λ t. t.items) number i c.index-texts-i.result c.requires.texts (omega arith) c.index-texts-i.is in
    let is = c.in-Ok.ensures.every_log (trial_records number i) (subst (λ (b : List ℕ). IsLog b (trial_records number i)) (sym (c.as_slice.ensures.value ∙ e)) (c.trials_are_logs.ensures.heard number i)) in
    let one : Receiver = record { station = c.args.station; heard = record { tuning = tuning; log = c.in-Ok.log } } in
    let same : one ≡ trial_receiver number i = rw (c.requires.station, is) refl in
    record {
      heard = rw (c.in_ok-push.ensures.items, c.in_ok-push-2.ensures.items, c.in_ok-push-3.ensures.items)
          (receivers_more ss ts logs c.args.station tuning c.in-Ok.log (inv.tunings ∙ sym inv.stations) (inv.logs ∙ sym inv.stations)
          ∙ ap (λ (rs : List Receiver). rs ++ one ∷ []) inv.heard
          ∙ ap (λ (r : Receiver). map (trial_receiver number) (range_with_len 0 i) ++ r ∷ []) same
          ∙ sym (map-range_with_len_more (trial_receiver number) 0 i i (zero-add i)));
      stations = ap length c.in_ok-push.ensures.items ∙ length-append ss (c.args.station ∷ []) ∙ ap (λ n. n + 1) inv.stations;
      tunings = ap length c.in_ok-push-2.ensures.items ∙ length-append ts (tuning ∷ []) ∙ ap (λ n. n + 1) inv.tunings;
      logs = ap length c.in_ok-push-3.ensures.items ∙ length-append logs (c.in-Ok.log ∷ []) ∙ ap (λ n. n + 1) inv.logs;
      tuned = rw c.in_ok-push-2.ensures.items
          (All-append IsTuned ts (tuning ∷ []) inv.tuned (All-cons IsTuned tuning [] (record { delay = omega arith; some_weight = omega arith; weight = omega arith; priced = λ table e. cc }) (All-nil IsTuned)));
      same = rw c.in_ok-push.ensures.items (All-append IsSame ss (c.args.station ∷ []) inv.same (All-cons IsSame c.args.station [] refl (All-nil IsSame)));
      in_order = rw c.in_ok-push.ensures.items
          (IsNonDecreasingBy-push number_of ss c.args.station inv.in_order (λ d some. let last = ap number_of (inv.same (length ss - 1) d (omega arith)) in omega arith));
    }

pub returns-clause-bank : goal.returns-clause-bank
returns-clause-bank c =
    let count = text_count c.args.texts.now (λ t. t.items) c.args.number c.requires.texts in
    bank_is c.args.number _ c.loop-i.i c.default.result c.loop-i.invariant.heard (omega (arith, count)) c.default.ensures.table

pub returns-clause-in_range : goal.returns-clause-in_range
returns-clause-in_range c =
    let count = text_count c.args.texts.now (λ t. t.items) c.args.number c.requires.texts in
    let few = one_to_eight c.args.number in
    let inv = c.loop-i.invariant in
    let all : c.loop-i.i ≡ trial_receivers c.args.number = omega (arith, count) in
    record {
      some_receiver = omega (arith, few.0, inv.stations);
      few_receivers = omega (arith, few.1, inv.stations);
      tunings = inv.tunings ∙ sym inv.stations;
      logs = inv.logs ∙ sym inv.stations;
      tuned = inv.tuned;
      priced = c.default.ensures.priced;
      ceiling = omega arith;
      in_order = inv.in_order;
    }
