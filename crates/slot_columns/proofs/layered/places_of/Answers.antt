-- The places of one pair more.
use Rattle.std.proofs.Common.{length}
use Rattle.slot_columns.specs.Layered.{IsPlace, part_at}
use Rattle.slot_columns.proofs.GroupLaws.{groups_more}
use Rattle.slot_columns.proofs.layered.places_of.Goals as goal

pub loop-i-preserved : goal.loop-i-preserved
loop-i-preserved c =
    let terms = c.args.terms.now in
    record {
      places = groups_more 0 (λ i. IsPlace (part_at c.args.firsts.now i) (part_at c.args.rests.now i) terms) (length terms) c.loop-i.places.items c.push_places.new.places.items c.loop-i.i
          c.loop-i.invariant.places c.in_ok-push_places.ensures;
    }
