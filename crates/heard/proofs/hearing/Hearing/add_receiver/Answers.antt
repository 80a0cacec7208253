-- A receiver is told of or passed over.
use Rattle.std.proofs.Common.{◌<◌, ℕ, List, ◌∷◌, [], ◌++◌, length, refl, sym, ap, ◌∙◌, subst, arith, eq-eqb}
use Rattle.std.specs.Prelude.{slice_index}
use Rattle.std.specs.Option.{ForSome}
use Rattle.std.proofs.lemmas.Bool.{ne_eqb}
use Rattle.std.proofs.lemmas.List.{append-nil}
use Rattle.signal_base.specs.declared.station.Station.{Station}
use Rattle.signal_base.specs.declared.station.Station.TheVariants.{Dcf77}
use Rattle.signal_base.specs.Number.{number_of}
use Rattle.signal_base.specs.Waveform.{symbol_count}
use Rattle.formats.specs.declared.heard.ReceiverHeard.{ReceiverHeard}
use Rattle.formats.specs.Heard.{sent_in}
use Rattle.heard.specs.Kept.{numbered_at, station_at}
use Rattle.heard.specs.Seen.{hearing_seen}
use Rattle.heard.proofs.ReceiverLaws.{by_number, item_at, passed_over, told_among}
use Rattle.heard.proofs.hearing.Hearing.add_receiver.Goals as goal

pub receiver-requires-clause-sent : goal.receiver-requires-clause-sent
receiver-requires-clause-sent c =
    let self = c.args.self.now in
    let q = slice_index self.places.items c.args.i in
    let place = item_at self.places.items c.args.i c.args.i c.index.result.now 0 c.index.ensures refl c.requires.receiver in
    let within : c.index.result.now < length self.bank.stations.items = omega (arith, place, self.kept.within c.args.i c.requires.receiver) in
    let own = item_at self.bank.stations.items c.index.result.now q c.index-own.result.now Dcf77 c.index-own.ensures place within in
    let same = by_number c.index-own.result.now c.args.station (sym c.number.ensures ∙ c.if-number.true ∙ c.number-2.ensures) in
    c.requires.sent ∙ ap (sent_in (hearing_seen self) c.args.slot) (sym same ∙ own)

pub receiver-requires-clause-known : goal.receiver-requires-clause-known
receiver-requires-clause-known c =
    let self = c.args.self.now in
    let q = slice_index self.places.items c.args.i in
    let place = item_at self.places.items c.args.i c.args.i c.index.result.now 0 c.index.ensures refl c.requires.receiver in
    let within : c.index.result.now < length self.bank.stations.items = omega (arith, place, self.kept.within c.args.i c.requires.receiver) in
    let own = item_at self.bank.stations.items c.index.result.now q c.index-own.result.now Dcf77 c.index-own.ensures place within in
    let same = by_number c.index-own.result.now c.args.station (sym c.number.ensures ∙ c.if-number.true ∙ c.number-2.ensures) in
    subst (λ (s : Station). ForSome c.args.sent (λ (x : ℕ). x < symbol_count s)) (sym same ∙ own) c.requires.known

pub returns-then-number-clause-adds : goal.returns-then-number-clause-adds
returns-then-number-clause-adds c =
    let self = c.args.self.now in
    let h = hearing_seen self in
    let q = slice_index self.places.items c.args.i in
    let r = numbered_at self.bank self.places.items c.args.i in
    let place = item_at self.places.items c.args.i c.args.i c.index.result.now 0 c.index.ensures refl c.requires.receiver in
    let within : c.index.result.now < length self.bank.stations.items = omega (arith, place, self.kept.within c.args.i c.requires.receiver) in
    let own = item_at self.bank.stations.items c.index.result.now q c.index-own.result.now Dcf77 c.index-own.ensures place within in
    let same = ap number_of (sym own) ∙ sym c.number.ensures ∙ c.if-number.true ∙ c.number-2.ensures in
    c.push.ensures ∙ ap (λ (x : ReceiverHeard). c.args.list.now ++ x ∷ []) c.receiver.ensures.heard
    ∙ ap (λ (rs : List ReceiverHeard). c.args.list.now ++ rs) (told_among h c.args.slot c.args.station r (eq-eqb _ _ same))

pub returns-else-number-clause-adds : goal.returns-else-number-clause-adds
returns-else-number-clause-adds c =
    let self = c.args.self.now in
    let h = hearing_seen self in
    let q = slice_index self.places.items c.args.i in
    let r = numbered_at self.bank self.places.items c.args.i in
    let place = item_at self.places.items c.args.i c.args.i c.index.result.now 0 c.index.ensures refl c.requires.receiver in
    let within : c.index.result.now < length self.bank.stations.items = omega (arith, place, self.kept.within c.args.i c.requires.receiver) in
    let own = item_at self.bank.stations.items c.index.result.now q c.index-own.result.now Dcf77 c.index-own.ensures place within in
    let other = ne_eqb (number_of (station_at self.bank.stations.items q)) (number_of c.args.station) (λ e. c.if-number.false (c.number.ensures ∙ ap number_of own ∙ e ∙ sym c.number-2.ensures)) in
    sym (append-nil c.args.list.now) ∙ ap (λ (rs : List ReceiverHeard). c.args.list.now ++ rs) (passed_over h c.args.slot c.args.station r other)
