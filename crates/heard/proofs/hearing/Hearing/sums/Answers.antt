-- Receiver by receiver.
use Rattle.std.proofs.Common.{◌+◌, ◌<◌, List, ◌∷◌, [], ◌++◌, length, map, take, sym, ap, ◌∙◌, arith}
use Rattle.std.proofs.lemmas.List.{length-map, map-append, take_all}
use Rattle.definitions.specs.heard.Receivers.{Receiver}
use Rattle.formats.specs.declared.heard.ReceiverHeard.{ReceiverHeard}
use Rattle.formats.specs.Heard.{numbered_from, receiver_sum}
use Rattle.heard.specs.Kept.{numbered_at, receiver_at}
use Rattle.heard.specs.Seen.{hearing_seen}
use Rattle.heard.proofs.TextLaws.{next_kept, one_longer}
use Rattle.heard.proofs.hearing.Hearing.sums.Goals as goal

pub loop-i-init : goal.loop-i-init
loop-i-init c = record { sums = c.new-list.ensures; count = ap length c.new-list.ensures }

pub push-requires : goal.push-requires
push-requires c = omega (arith, c.loop-i.invariant.count, c.loop-i-test.true, c.args.self.now.kept.few, c.len-i-end.ensures)

pub loop-i-preserved : goal.loop-i-preserved
loop-i-preserved c =
    let self = c.args.self.now in
    let h = hearing_seen self in
    let i = c.loop-i.i in
    let before = c.loop-i.invariant in
    let within : i < length self.places.items = omega (arith, c.loop-i-test.true, c.len-i-end.ensures) in
    record {
      sums =
          c.push.ensures ∙ ap (λ (r : ReceiverHeard). c.loop-i.list ++ r ∷ []) c.sum.ensures
          ∙ ap (λ (rs : List ReceiverHeard). rs ++ receiver_sum h (numbered_at self.bank self.places.items i) ∷ []) before.sums
          ∙ sym (map-append (receiver_sum h) (numbered_from 1 (take i h.receivers)) (numbered_at self.bank self.places.items i ∷ []))
          ∙ ap (map (receiver_sum h)) (sym (next_kept self.bank self.places.items i within));
      count = ap length c.push.ensures ∙ one_longer c.loop-i.list c.sum.result ∙ ap (λ n. n + 1) before.count;
    }

pub returns-clause-sums : goal.returns-clause-sums
returns-clause-sums c =
    let self = c.args.self.now in
    let h = hearing_seen self in
    c.loop-i.invariant.sums
    ∙ ap (λ (rs : List Receiver). map (receiver_sum h) (numbered_from 1 rs))
    (take_all c.loop-i.i h.receivers (omega (arith, length-map self.places.items (receiver_at self.bank), c.len-i-end.ensures)))

pub returns-clause-few : goal.returns-clause-few
returns-clause-few c = omega (arith, c.loop-i.invariant.count, c.args.self.now.kept.few, c.len-i-end.ensures)
