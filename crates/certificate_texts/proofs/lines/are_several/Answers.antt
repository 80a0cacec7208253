-- One for each station that is there.
use Rattle.definitions.specs.codes.Allowed.{has_station}
use Rattle.certificate_texts.proofs.LineLaws.{counted_by}
use Rattle.certificate_texts.proofs.lines.are_several.Goals as goal

pub returns : goal.returns
returns c =
    counted_by (has_station c.args.stations) _ _ _ _ c.one_if-dcf77.ensures.value c.one_if-msf.ensures.value c.one_if-wwvb.ensures.value c.one_if-jjy.ensures.value
