-- Slot by slot.
use Rattle.std.proofs.Common.{◌≡◌, ◌<◌, ℕ, length, refl, sym, ap, ◌∙◌, subst, arith}
use Rattle.std.specs.Prelude.{slice_index}
use Rattle.std.specs.Option.{ForSome}
use Rattle.signal_base.specs.declared.station.Station.{Station}
use Rattle.signal_base.specs.declared.station.Station.TheVariants.{Dcf77}
use Rattle.signal_base.specs.Waveform.{symbol_count}
use Rattle.definitions.proofs.CostLaws.{sum_below_more, sum_below_none}
use Rattle.formats.specs.Heard.{receiver_heard, sent_in}
use Rattle.formats.specs.declared.heard.ReceiverHeard.{ReceiverHeard}
use Rattle.sequence.proofs.Walking.{place_at-zero, walked_on}
use Rattle.heard.specs.Kept.{numbered_at}
use Rattle.heard.specs.Seen.{hearing_seen}
use Rattle.heard.proofs.ReceiverLaws.{item_at, sum_is}
use Rattle.heard.proofs.WalkLaws.{in_century}
use Rattle.heard.proofs.hearing.Hearing.sum.Goals as goal

pub loop-slot-init : goal.loop-slot-init
loop-slot-init c = record {
  here = sym (place_at-zero c.args.self.now.sequence);
  second = c.args.self.now.kept.sequence_is.first_second;
  unknown = sym (sum_below_none _);
  cost = sym (sum_below_none _);
  few = omega arith;
  bound = omega arith;
}

pub next_place-place-requires-clause-century : goal.next_place-place-requires-clause-century
next_place-place-requires-clause-century c =
    let self = c.args.self.now in
    in_century self.window self.sequence self.kept.walkable c.loop-slot.slot c.loop-slot.place c.loop-slot.invariant.here c.loop-slot-test.true

pub loop-slot-preserved : goal.loop-slot-preserved
loop-slot-preserved c =
    let self = c.args.self.now in
    let h = hearing_seen self in
    let k = c.loop-slot.slot in
    let r = numbered_at self.bank self.places.items c.args.i in
    let before = c.loop-slot.invariant in
    let on = walked_on self.sequence k c.loop-slot.place c.next_place-place.result before.here c.next_place-place.ensures in
    let unknown = ap (λ (x : ReceiverHeard). x.unknown) c.receiver-heard.ensures.heard in
    let cost = ap (λ (x : ReceiverHeard). x.cost) c.receiver-heard.ensures.heard in
    record {
      here = on.0;
      second = on.1.second;
      unknown = omega (arith, before.unknown, unknown, sum_below_more k (λ (j : ℕ). (receiver_heard h j r).unknown));
      cost = omega (arith, before.cost, cost, sum_below_more k (λ (j : ℕ). (receiver_heard h j r).cost));
      few = omega (arith, before.few, c.receiver-heard.ensures.few);
      bound = omega (arith, before.bound, c.receiver-heard.ensures.bound);
    }

pub receiver-heard-requires-clause-sent : goal.receiver-heard-requires-clause-sent
receiver-heard-requires-clause-sent c =
    let self = c.args.self.now in
    let q = slice_index self.places.items c.args.i in
    let place = item_at self.places.items c.args.i c.args.i c.index.result.now 0 c.index.ensures refl c.requires in
    let within : c.index.result.now < length self.bank.stations.items = omega (arith, place, self.kept.within c.args.i c.requires) in
    let own = item_at self.bank.stations.items c.index.result.now q c.index-station.result.now Dcf77 c.index-station.ensures place within in
    c.sent-sent.ensures.sent ∙ ap (sent_in (hearing_seen self) c.loop-slot.slot) own

pub receiver-heard-requires-clause-known : goal.receiver-heard-requires-clause-known
receiver-heard-requires-clause-known c =
    let self = c.args.self.now in
    let q = slice_index self.places.items c.args.i in
    let place = item_at self.places.items c.args.i c.args.i c.index.result.now 0 c.index.ensures refl c.requires in
    let within : c.index.result.now < length self.bank.stations.items = omega (arith, place, self.kept.within c.args.i c.requires) in
    let own = item_at self.bank.stations.items c.index.result.now q c.index-station.result.now Dcf77 c.index-station.ensures place within in
    subst (λ (s : Station). ForSome c.sent-sent.result (λ (x : ℕ). x < symbol_count s)) own c.sent-sent.ensures.known

pub returns : goal.returns
returns c =
    let self = c.args.self.now in
    let end : c.loop-slot.slot ≡ self.window.seconds = omega arith in
    sum_is (hearing_seen self) (numbered_at self.bank self.places.items c.args.i) c.loop-slot.slot c.loop-slot.unknown c.loop-slot.cost end c.loop-slot.invariant.unknown c.loop-slot.invariant.cost
