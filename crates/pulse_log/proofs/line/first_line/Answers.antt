-- The text is the first line and the text after it, with an LF or at its end.
use Rattle.std.proofs.Common.{ap, ◌∙◌, ◌∷◌, sym, List, ℕ}
use Rattle.std.proofs.lemmas.List.{take_rest}
use Rattle.formats.specs.LogLines.{lines_of}
use Rattle.pulse_log.proofs.LineLaws.{lines_of-some, lines_of-none, nothing_left}
use Rattle.pulse_log.proofs.line.first_line.Goals as goal

pub returns-in-Some-clause-lines : goal.returns-in-Some-clause-lines
returns-in-Some-clause-lines c = rw take_rest (lines_of-some c.args.text.now c.in-Some.end c.in-Some.ensures)

pub returns-in-None-clause-lines : goal.returns-in-None-clause-lines
returns-in-None-clause-lines c =
    let text = c.args.text.now in
    lines_of-none text c.requires c.in-None.ensures ∙ ap (λ (rest : List ℕ). text ∷ lines_of rest) (sym (nothing_left text))
