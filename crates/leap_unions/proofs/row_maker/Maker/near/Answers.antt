use Rattle.std.proofs.Common.{◌≡◌, ◌+◌, ◌-◌, ◌*◌, ℕ, replicate, slice_index, subst, arith, refl, rules}
use Rattle.minute_parts.proofs.UnionLaws.{nothing_told}
use Rattle.definitions.specs.sequences.Walks.{set_at}
use Rattle.leap_unions.specs.declared.rows.TheConstants.{PLACES}
use Rattle.leap_unions.specs.Kept.{IsRow}
use Rattle.leap_unions.specs.Pieces.{announced_from}
use Rattle.leap_unions.proofs.KeptLaws.{row_more, row_none}
use Rattle.leap_unions.proofs.row_maker.Maker.near.Goals as goal

pub loop-m-init : goal.loop-m-init
loop-m-init c =
    let w = c.args.self.now in
    let lo = c.args.tape.now.lo in
    record { long = refl; row = row_none w.station w.seconds lo (lo + 0) (replicate PLACES 0) (omega arith) (nothing_told PLACES) }

pub loop-m-preserved : goal.loop-m-preserved
loop-m-preserved c =
    let w = c.args.self.now in
    let kept = c.args.tape.now in
    let m : ℕ = c.loop-m.m in
    let back : kept.lo + m - kept.lo ≡ m = omega arith in
    record {
      long = search rules;
      row = row_more w.station w.seconds kept.lo m kept.tape c.loop-m.row c.add_from_minute.new.row w.few
          (λ i lt.
          subst (λ n. slice_index kept.tape (60 * n + i) ≡ set_at w.station (announced_from 0 (kept.lo + m)) i) back
          (c.requires.tape.walk (kept.lo + m) i (omega arith) (omega (arith, c.loop-m-test.true, c.requires.ends)) lt))
          c.add_from_minute.ensures c.loop-m.invariant.row;
    }

pub returns-clause-kept : goal.returns-clause-kept
returns-clause-kept c =
    let w = c.args.self.now in
    let kept = c.args.tape.now in
    let all : kept.lo + c.loop-m.m ≡ kept.hi = omega (arith, c.loop-m-test.false, c.loop-m.auto, c.requires.ends) in
    record {
      some = omega (arith, c.requires.ends);
      century = c.requires.century;
      row = subst (λ hi. IsRow w.station w.seconds kept.lo hi c.loop-m.row) all c.loop-m.invariant.row;
    }
