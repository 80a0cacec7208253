use Rattle.std.proofs.Common.{◌+◌, ◌*◌, ◌≤◌, ℕ, ◌∙◌, zero, suc, ap, add-one, refl, sym, arith}
use Rattle.std.proofs.lemmas.List.{append-nil}
use Rattle.definitions.specs.sequences.Walks.{place_at, next_place}
use Rattle.formats.specs.Reports.{at_minutes}
use Rattle.texts.proofs.MinuteLaws.{since_minute, next_second, since_next, lines_fit, minutes_more}
use Rattle.texts.proofs.minutes.push_minutes.Goals as goal

short : (second : ℕ) → second ≤ 60 → since_minute second ≤ 60
short zero le = omega arith
short (suc n) le = le

pub loop-slot-init : goal.loop-slot-init
unfolding place_at at_minutes
loop-slot-init g c = record {
  place = refl;
  second = c.requires.sequence.first_second;
  bytes = sym (append-nil c.args.page.now.text.bytes);
  fits = omega (arith, short c.args.q.now.second c.requires.sequence.first_second);
}

pub loop-slot-preserved : goal.loop-slot-preserved
unfolding place_at
loop-slot-preserved g c =
    let before = c.loop-slot.invariant in
    let announced = c.args.q.now.announced in
    let place = c.loop-slot.place in
    let is = c.next_place-place.ensures in
    record {
      place = rw add-one (is ∙ ap (next_place announced) before.place);
      second = rw is (next_second announced place before.second);
      bytes = minutes_more (g.M.MinuteText.text c.args.minutes.now) c.args.q.now c.loop-slot.slot place c.args.page.now.text.bytes
          c.loop-slot.page.text.bytes c.push_slot.new.page.text.bytes before.place before.bytes c.push_slot.ensures.bytes;
      fits = rw is (lines_fit place (since_minute (next_place announced place).1) c.loop-slot.page.lines c.push_slot.new.page.lines
          (60 * c.args.page.now.lines + 60) c.loop-slot.slot (since_next announced place before.second)
          c.push_slot.ensures.begins c.push_slot.ensures.goes_on before.fits);
    }
