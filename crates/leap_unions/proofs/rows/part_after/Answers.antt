use Rattle.std.proofs.Common.{Option, IfSome, subst, arith}
use Rattle.minute_parts.specs.declared.layers.Layers.{Layers}
use Rattle.minute_parts.specs.Layers.{AreLayers}
use Rattle.leap_unions.proofs.rows.part_after.Goals as goal

pub returns-else-m-eq0 : goal.returns-else-m-eq0
returns-else-m-eq0 c = λ s lt.
    let are = subst (λ (o : Option Layers). IfSome o (AreLayers c.args.unions.now.station c.args.announced c.args.lo c.args.hi c.args.reach)) c.in-Some.is c.requires.layers in
    are.rest c.args.m s (omega (arith, c.if-m-eq0.false)) c.requires.reached lt
