-- Receiver by receiver.
use Rattle.std.proofs.Common.{◌<◌, List, ◌∷◌, [], ◌++◌, length, take, sym, ap, ◌∙◌, arith}
use Rattle.std.proofs.lemmas.List.{length-map, take_all}
use Rattle.definitions.specs.heard.Receivers.{Receiver}
use Rattle.formats.specs.declared.heard.ReceiverHeard.{ReceiverHeard}
use Rattle.formats.specs.Heard.{numbered_from}
use Rattle.heard.specs.Kept.{heard_among, numbered_at, receiver_at}
use Rattle.heard.specs.Seen.{hearing_seen}
use Rattle.heard.proofs.TextLaws.{among_both, next_kept}
use Rattle.heard.proofs.hearing.Hearing.receivers.Goals as goal

pub loop-i-init : goal.loop-i-init
loop-i-init c = record { heard = c.new-list.ensures; few = rw c.new-list.ensures (omega arith) }

pub loop-i-preserved : goal.loop-i-preserved
loop-i-preserved c =
    let self = c.args.self.now in
    let h = hearing_seen self in
    let i = c.loop-i.i in
    let k = c.args.slot in
    let before = c.loop-i.invariant in
    let within : i < length self.places.items = omega (arith, c.loop-i-test.true, c.len-i-end.ensures) in
    record {
      heard =
          c.add_receiver.ensures.adds
          ∙ ap (λ (rs : List ReceiverHeard). rs ++ heard_among h k c.args.station (numbered_at self.bank self.places.items i ∷ [])) before.heard
          ∙ sym (among_both h k c.args.station (numbered_from 1 (take i h.receivers)) (numbered_at self.bank self.places.items i ∷ []))
          ∙ ap (heard_among h k c.args.station) (sym (next_kept self.bank self.places.items i within));
      few = c.add_receiver.ensures.few;
    }

pub returns-clause-heard : goal.returns-clause-heard
returns-clause-heard c =
    let self = c.args.self.now in
    let h = hearing_seen self in
    c.loop-i.invariant.heard
    ∙ ap (λ (rs : List Receiver). heard_among h c.args.slot c.args.station (numbered_from 1 rs))
    (take_all c.loop-i.i h.receivers (omega (arith, length-map self.places.items (receiver_at self.bank), c.len-i-end.ensures)))

pub returns-clause-few : goal.returns-clause-few
returns-clause-few c = omega (arith, c.loop-i.invariant.few, c.args.self.now.kept.few, c.len-i-end.ensures)
