-- The summary of a trial: a log that was made up by its number, and the answer that it led to.
use Rattle.std.specs.Prelude.{ℕ, List, ◌++◌, codes}
use Rattle.std.specs.Fmt.{decimal}
use Rattle.signal_base.specs.declared.station.Station.{Station}
use Rattle.definitions.specs.declared.sequence.Sequence.{Sequence}
use Rattle.definitions.specs.declared.answer.Answer.{Answer}
use Rattle.definitions.specs.declared.answer.Answer.TheVariants.{Nothing, Decided, Undecided}
use Rattle.formats.specs.Bytes.{line, station_name, sequence_text}

-- the answer of a trial, by its sequences alone
abbrev pub trial_answer : Answer → List ℕ
trial_answer Nothing = line (codes "none")
trial_answer (Decided c q next) = line (codes "decided") ++ line (codes "first " ++ sequence_text q)
trial_answer (Undecided c q r) =
    line (codes "undecided") ++ line (codes "first " ++ sequence_text q) ++ line (codes "other " ++ sequence_text r)

-- the summary of a trial: its number and station, how many receivers heard it, what was sent, and the answer
abbrev pub trial_summary : ℕ → Station → ℕ → Sequence → Answer → List ℕ
trial_summary number station count sent answer =
    line (codes "trial " ++ decimal number) ++ line (codes "station " ++ station_name station)
    ++ line (codes "receivers " ++ decimal count) ++ line (codes "sent " ++ sequence_text sent) ++ trial_answer answer
