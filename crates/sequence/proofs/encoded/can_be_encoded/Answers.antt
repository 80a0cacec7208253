use Rattle.signal_base.specs.declared.station.Station.TheVariants.{Dcf77, Msf, Wwvb}
use Rattle.sequence.proofs.Encoding.{one_refutes, all_but_tested}
use Rattle.sequence.proofs.encoded.can_be_encoded.Goals as goal

pub returns-then-not-is_silent_or_encodes : goal.returns-then-not-is_silent_or_encodes
returns-then-not-is_silent_or_encodes c =
    one_refutes c.args.stations c.args.t Dcf77 _ c.if-not-is_silent_or_encodes.true c.is_silent_or_encodes.ensures

pub returns-then-not-is_silent_or_encodes-2 : goal.returns-then-not-is_silent_or_encodes-2
returns-then-not-is_silent_or_encodes-2 c =
    one_refutes c.args.stations c.args.t Msf _ c.if-not-is_silent_or_encodes-2.true c.is_silent_or_encodes-2.ensures

pub returns-then-not-is_silent_or_encodes-3 : goal.returns-then-not-is_silent_or_encodes-3
returns-then-not-is_silent_or_encodes-3 c =
    one_refutes c.args.stations c.args.t Wwvb _ c.if-not-is_silent_or_encodes-3.true c.is_silent_or_encodes-3.ensures

pub returns : goal.returns
returns c =
    all_but_tested c.args.stations c.args.t _ c.if-t-ge-CENTURY_MINUTES.false
    (c.is_silent_or_encodes.ensures.0 c.if-not-is_silent_or_encodes.false)
    (c.is_silent_or_encodes-2.ensures.0 c.if-not-is_silent_or_encodes-2.false)
    (c.is_silent_or_encodes-3.ensures.0 c.if-not-is_silent_or_encodes-3.false)
    c.is_silent_or_encodes-4.ensures
