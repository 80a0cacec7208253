-- A place more.
use Rattle.slot_columns.specs.Layered.{IsPlace}
use Rattle.slot_columns.proofs.GroupLaws.{added_more}
use Rattle.slot_columns.proofs.layered.push_places.Goals as goal

pub loop-j-preserved : goal.loop-j-preserved
loop-j-preserved c = record {
  added = added_more 0 (IsPlace c.args.first.now c.args.rest.now c.args.terms.now) c.args.places.now.items c.loop-j.places.items c.push.new.self.items c.place_of.result c.loop-j.j
      c.loop-j.invariant.added c.in_ok-push.ensures.items c.place_of.ensures.place;
}
