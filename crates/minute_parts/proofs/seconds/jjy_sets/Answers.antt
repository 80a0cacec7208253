use Rattle.std.proofs.Common.{◌∙◌, ap, get_or, map, arith}
use Rattle.std.proofs.lemmas.List.FromFn.{get_or-map-range_with_len}
use Rattle.std.specs.List.{range_with_len}
use Rattle.signal_base.specs.declared.station.Station.TheVariants.{Jjy}
use Rattle.definitions.specs.codes.Jjy.{jjy_second}
use Rattle.minute_parts.specs.Dates.{set_by}
use Rattle.minute_parts.proofs.seconds.jjy_sets.Goals as goal

pub returns : goal.returns
returns c = λ s lt.
    ap (λ xs. get_or xs s 0) (c.telegram.ensures ∙ ap (λ f. map (jjy_second f) (range_with_len 0 61)) c.jjy_facts.ensures)
    ∙ get_or-map-range_with_len (set_by Jjy c.args.date.now c.args.u) 0 61 s s 0 (omega (arith, lt)) (omega arith)
