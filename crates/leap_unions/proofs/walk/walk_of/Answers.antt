use Rattle.std.proofs.Common.{◌≡◌, ◌+◌, ◌-◌, ◌*◌, true, slice_index, ap, ◌∙◌, arith}
use Rattle.definitions.specs.codes.Allowed.{allowed}
use Rattle.leap_unions.proofs.NominalLaws.{from_second}
use Rattle.leap_unions.proofs.WalkLaws.{next_day}
use Rattle.leap_unions.proofs.walk.walk_of.Goals as goal

pub sets_from-requires : goal.sets_from-requires
sets_from-requires c = omega (arith, c.requires.kept.few, c.requires.begun, c.requires.ends, c.requires.second)

pub returns : goal.returns
returns c =
    let kept = c.args.kept.now in
    let station = c.args._station in
    let p = c.args.p in
    let first = c.args.first in
    record {
      sets = λ k lt.
          let at : 60 * (first - kept.lo) + p + k ≡ 60 * (first - kept.lo) + (p + k) = omega arith in
          c.sets_from.ensures k (omega (arith, lt, c.requires.few)) ∙ ap (slice_index kept.tape) at
          ∙ c.requires.kept.walk first (p + k) c.requires.begun c.requires.ends (omega (arith, lt, c.requires.second))
          ∙ ap (allowed station true) (from_second first p k c.requires.second);
      next_day = λ goes.
          next_day station c.args.seconds kept c.requires.kept p first c.requires.second c.requires.begun c.requires.ends (c.goes_on.ensures goes);
      early = λ ends t ge lt.
          let before = c.ends_before.ensures ends in
          c.requires.kept.short t (omega (arith, ge, c.requires.begun)) (omega (arith, lt, before, c.requires.some, c.requires.ends));
    }
