-- What a part of a list is seen as is that part of what the list is seen as.
use Rattle.std.proofs.Common.{List, sym, ap, ◌∙◌}
use Rattle.std.proofs.lemmas.List.{take-map}
use Rattle.board_entries.specs.Board.{PlainEntry, told_of}
use Rattle.board_entries.specs.Plain.{plain}
use Rattle.board.proofs.deliver.first_told.Goals as goal

pub returns-clause-told : goal.returns-clause-told
returns-clause-told c =
    c.told_of.ensures.told ∙ ap (λ (es : List PlainEntry). told_of es c.args.ms) (sym (take-map plain c.args.count c.args.entries.now))
