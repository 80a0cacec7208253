-- A read that counts as several leads as far as they do.
use Rattle.field_tables.specs.Scored.{costs_of}
use Rattle.workers.proofs.Passing.{has_looked}
use Rattle.workers.proofs.visitor.Visitor.look.Goals as goal

pub returns-clause-looked : goal.returns-clause-looked
returns-clause-looked g c =
    let s = c.args.self.now in
    let t = s.tables.now in
    has_looked (costs_of t) t.window s.ceiling c.limit_often.result c.args.block.now c.args.floor (g.O.Often.often c.limit_often.result)
    c.args.seat.now.view c.limit_often.new.seat.view (c.requires.often c.limit_often.result) c.limit_often.ensures.below c.limit_often.ensures.view
