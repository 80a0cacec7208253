-- The line is none, or it is read.
use Rattle.std.proofs.Common.{◌+◌, refl, rules}
use Rattle.certificates.specs.Texts.{HasRoom}
use Rattle.certificate_texts.specs.Places.{entry_of, next_of}
use Rattle.certificate_texts.proofs.StandLaws.{ends_badly, ends_well}
use Rattle.certificate_texts.proofs.reader.Reader.end_line.Goals as goal

pub returns-in_default-clause-none : goal.returns-in_default-clause-none
returns-in_default-clause-none c = λ bytes read is. ends_badly c.args.self.now bytes read is (rw c.as_slice.ensures.value at c.in_default.ensures.none)

pub returns-clause-some : goal.returns-clause-some
returns-clause-some c = λ bytes read is.
    let r = c.args.self.now in
    let told = c.in-Some.told in
    let room : HasRoom (next_of r.place) (entry_of told) = search rules in
    ends_well r bytes read is (entry_of told) c.in-Some.ensures.some.0 (rw c.as_slice.ensures.value at c.in-Some.ensures.some.1)
    (record { place = c.after-self.result; lines = r.lines + 1; held = c.clear.new.self; long = r.long; bad = r.bad }) c.requires.good c.in-Some.ensures.some.0
    c.clear.ensures refl c.after-self.ensures room
