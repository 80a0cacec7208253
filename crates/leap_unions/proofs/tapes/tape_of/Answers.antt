use Rattle.std.proofs.Common.{◌≡◌, ◌≢◌, ◌<◌, ◌≤◌, ℕ, slice_index, length, refl, sym, ap, ◌∙◌, subst, arith, below_more, get_or-set_other, get_or-set_same}
use Rattle.std.proofs.Math.ListN.{length-set, set}
use Rattle.definitions.specs.codes.Allowed.{allowed, encoded_year}
use Rattle.definitions.specs.sequences.Walks.{set_at}
use Rattle.leap_unions.specs.Tapes.{AreSent}
use Rattle.sequence.proofs.Walking.{place_at-zero, walked_on}
use Rattle.leap_unions.proofs.tapes.tape_of.Goals as goal

pub loop-k-init : goal.loop-k-init
loop-k-init c = record {
  here = sym (place_at-zero c.args.q.now);
  second = c.requires.sequence.first_second;
  sent = λ _. c.sent_in-sent.ensures;
  long = refl;
  done = λ k none. absurd (omega (arith, none));
}

pub loop-k-preserved : goal.loop-k-preserved
loop-k-preserved c =
    let q = c.args.q.now in
    let station = c.args.station in
    let k = c.loop-k.k in
    let place = c.loop-k.place in
    let tape = c.loop-k.tape in
    let sent = c.come_to.new.sent in
    let new = slice_index sent place.1 in
    let before = c.loop-k.invariant in
    let on = walked_on q k place c.next_place-place.result before.here c.next_place-place.ensures in
    let below = c.loop-k-test.true in
    let within : k < length tape = omega (arith, before.long, below, c.requires.count) in
    let encoded : encoded_year station place.0 ≤ 2099 =
    subst (λ (p : ℕ × ℕ). encoded_year station p.0 ≤ 2099) (sym before.here) (c.requires.encoded k below) in
    let set_is : new ≡ set_at station q k =
    c.come_to.ensures encoded place.1 (omega (arith, before.second)) ∙ ap (allowed station q.announced) before.here in
    record {
      here = on.0;
      second = on.1.second;
      sent = λ later. subst (λ t. AreSent station q.announced t sent) (sym (on.1.same_minute later)) c.come_to.ensures;
      long = length-set tape k new ∙ before.long;
      done = below_more (λ j. slice_index (set tape k new) j ≡ set_at station q j) k
          (λ j lt. let ne : j ≢ k = omega arith in rw get_or-set_other (before.done j lt))
          (rw get_or-set_same set_is);
    }
