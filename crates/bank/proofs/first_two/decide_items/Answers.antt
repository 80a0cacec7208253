-- What is kept is of a search of these items.
use Rattle.bank.proofs.first_two.decide_items.Goals as goal

pub returns-in-Ok-clause-recorded : goal.returns-in-Ok-clause-recorded
returns-in-Ok-clause-recorded g c =
    let items = c.args.items.now in
    (items, c.search_with-searched.new.seat.view, c.requires.items, c.in-Ok.ensures.recorded)
