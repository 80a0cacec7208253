-- Blocks whose walks count by sixties.
use Rattle.minute_parts.proofs.WalkLaws.{places, unions, walkable}
use Rattle.minute_parts.proofs.laws.block_unions_are_unions_over_minutes.Goals as goal

pub returns-clause-walkable : goal.returns-clause-walkable
returns-clause-walkable c = λ window b q block regular is. walkable window b regular q block is

pub returns-clause-places : goal.returns-clause-places
returns-clause-places c = λ window b q k regular is lt. places window b regular q k is lt

pub returns-clause-unions : goal.returns-clause-unions
returns-clause-unions c = λ window b station k set block regular lt. unions window b regular block station k lt set
