-- The lines of a slot and a station.
use Rattle.std.proofs.Common.{◌∙◌, sym}
use Rattle.bank_files.specs.declared.files.Failed.{Failed}
use Rattle.bank_files.specs.Told.{output_name}
use Rattle.bank_files.proofs.Chaining.{Writes-start}
use Rattle.heard.specs.Seen.{hearing_seen}
use Rattle.heard.proofs.TextLaws.{its_lines, no_lines}
use Rattle.heard.proofs.hearing.Hearing.write_station.Goals as goal

pub returns-then-not-has : goal.returns-then-not-has
returns-then-not-has g c =
    let view = g.F.Files.view c.args.files.now in
    rw (sym (no_lines (hearing_seen c.args.self.now) c.args.slot c.args.station (sym c.has.ensures ∙ c.if-not-has.true)))
    (Writes-start {E = Failed} output_name view (g.met.F.Files.output_is_there c.args.files.now))

pub returns : goal.returns
returns g c =
    let h = hearing_seen c.args.self.now in
    rw (sym (its_lines h c.args.slot c.args.station c.slot-heard.result c.as_slice.result.now (sym c.has.ensures ∙ c.if-not-has.false) c.slot-heard.ensures.slot (c.as_slice.ensures ∙ c.receivers-receivers.ensures.heard)))
    c.write_slot_heard.ensures
