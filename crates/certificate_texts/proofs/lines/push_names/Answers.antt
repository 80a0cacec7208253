-- The names of the stations that are there, joined.
use Rattle.std.proofs.Common.{ap, ◌∙◌, ◌++◌, ◌∷◌, List, ℕ}
use Rattle.definitions.specs.codes.Allowed.{has_station}
use Rattle.formats.specs.Bytes.{space, station_name}
use Rattle.certificate_texts.proofs.LineLaws.{four_texts, names_pushed}
use Rattle.certificate_texts.proofs.lines.push_names.Goals as goal

pub returns-clause-bytes : goal.returns-clause-bytes
returns-clause-bytes g c =
    names_pushed _ _ _ _ _ _ _ _ _ _ _ _ (four_texts (has_station c.args.stations) (λ s. space ∷ station_name s))
    (c.push_str.ensures.bytes ∙ ap (λ (x : List ℕ). c.args.text.now.bytes ++ x) c.stations_word.ensures.word)
    c.push_station.ensures.bytes c.push_station-2.ensures.bytes c.push_station-3.ensures.bytes c.push_station-4.ensures.bytes
