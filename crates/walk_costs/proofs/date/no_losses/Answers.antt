use Rattle.std.proofs.lemmas.List.{get_or-replicate}
use Rattle.walk_costs.proofs.date.no_losses.Goals as goal

pub returns : goal.returns
returns c = λ m few. get_or-replicate 30 m 0 0 few
