use Rattle.std.proofs.Common.{◌+◌, [], ◌∷◌, arith}
use Rattle.std.proofs.lemmas.List.{map-append}
use Rattle.std.proofs.lemmas.List.Elements.{All-push}
use Rattle.bank_config.specs.InRange.{IsReceiverInRange}
use Rattle.bank_config.specs.Configuration.{plain_receiver, receiver_in}
use Rattle.bank_config.proofs.EachLaws.{each-next}
use Rattle.bank_config.proofs.read.receivers_in.Goals as goal

pub loop-table-preserved : goal.loop-table-preserved
loop-table-preserved c =
    let receiver = c.in_ok-receiver_in.field-0 in
    record {
      in_range = rw c.in_ok-push.ensures.items (All-push IsReceiverInRange c.loop-table.receivers.items receiver c.loop-table.invariant.in_range c.in_ok-receiver_in.ensures.in_range);
      count = omega (arith, c.loop-table.invariant.count, c.in_ok-push.ensures);
      numbered = omega (arith, c.loop-table.invariant.numbered);
      so_far = rw (c.in_ok-push.ensures.items, map-append plain_receiver c.loop-table.receivers.items (receiver ∷ []))
          (each-next (receiver_in c.args.top) (c.loop-table.number + 1) _ _ c.args.tables.now c.loop-table.table-index c.table-item.result c.loop-table-test.true c.table-item.is c.loop-table.invariant.so_far (plain_receiver receiver) c.in_ok-receiver_in.ensures.receiver);
    }
