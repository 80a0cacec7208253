-- What is told of the receiver at its place.
use Rattle.std.proofs.Common.{◌≡◌, ◌<◌, [], length, refl, sym, subst, arith}
use Rattle.std.specs.Prelude.{slice_index}
use Rattle.std.proofs.lemmas.List.Elements.{All-get_or}
use Rattle.signal_base.specs.declared.station.Station.{Station}
use Rattle.signal_base.specs.declared.station.Station.TheVariants.{Dcf77}
use Rattle.signal_base.specs.Limits.{IsTuned}
use Rattle.signal_base.specs.Waveform.{symbol_count}
use Rattle.heard.specs.Kept.{receiver_at, untuned}
use Rattle.heard.specs.Seen.{hearing_seen}
use Rattle.heard.proofs.ReceiverLaws.{item_at, receiver_is}
use Rattle.heard.proofs.hearing.Hearing.receiver.Goals as goal

pub receiver_heard-requires-clause-tuned : goal.receiver_heard-requires-clause-tuned
receiver_heard-requires-clause-tuned c =
    let self = c.args.self.now in
    let tunings = self.bank.tunings.items in
    let p = c.index.result.now in
    let q = slice_index self.places.items c.args.i in
    let place : p ≡ q = item_at self.places.items c.args.i c.args.i p 0 c.index.ensures refl c.requires.receiver in
    let within : q < length tunings = omega (arith, self.kept.within c.args.i c.requires.receiver, self.kept.bank_is.tunings) in
    let here : p < length tunings = omega (arith, place, within) in
    subst IsTuned (sym (item_at tunings p q c.index-tuning.result.now untuned c.index-tuning.ensures place here))
    (All-get_or IsTuned tunings q untuned within self.kept.bank_is.tuned)

pub receiver_heard-requires-clause-sent : goal.receiver_heard-requires-clause-sent
receiver_heard-requires-clause-sent c =
    let self = c.args.self.now in
    let stations = self.bank.stations.items in
    let p = c.index.result.now in
    let q = slice_index self.places.items c.args.i in
    let place : p ≡ q = item_at self.places.items c.args.i c.args.i p 0 c.index.ensures refl c.requires.receiver in
    let here : p < length stations = omega (arith, place, self.kept.within c.args.i c.requires.receiver) in
    let station = item_at stations p q c.index-3.result.now Dcf77 c.index-3.ensures place here in
    λ x e. subst (λ (s : Station). x < symbol_count s) (sym station) (c.requires.known x e)

pub returns-clause-heard : goal.returns-clause-heard
returns-clause-heard c =
    let self = c.args.self.now in
    let b = self.bank in
    let i = c.args.i in
    let p = c.index.result.now in
    let q = slice_index self.places.items i in
    let place : p ≡ q = item_at self.places.items i i p 0 c.index.ensures refl c.requires.receiver in
    let within : p < length b.stations.items = omega (arith, place, self.kept.within i c.requires.receiver) in
    let tunings = self.kept.bank_is.tunings in
    let logs = self.kept.bank_is.logs in
    receiver_is (hearing_seen self) c.args.slot i (receiver_at b q) c.index-3.result.now c.index-tuning.result.now c.index-2.result.now _ c.args.sent c.receiver_heard.result
    c.receiver_heard.ensures.heard
    (item_at b.stations.items p q c.index-3.result.now Dcf77 c.index-3.ensures place within)
    (item_at b.tunings.items p q c.index-tuning.result.now untuned c.index-tuning.ensures place (omega (arith, within, tunings)))
    (item_at b.logs.items p q c.index-2.result.now [] c.index-2.ensures place (omega (arith, within, logs)))
    refl c.requires.sent
