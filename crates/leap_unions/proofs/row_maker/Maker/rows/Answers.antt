use Rattle.std.proofs.Common.{subst, sym, arith}
use Rattle.std.specs.List.{All}
use Rattle.std.proofs.lemmas.List.Elements.{All-push}
use Rattle.leap_unions.specs.Kept.{IsKept, IsKeptTape}
use Rattle.leap_unions.proofs.KeptLaws.{kept_joined}
use Rattle.leap_unions.proofs.row_maker.Maker.rows.Goals as goal

pub end_year-requires-clause-kept : goal.end_year-requires-clause-kept
end_year-requires-clause-kept c =
    let w = c.args.self.now in
    let before = c.loop.invariant in
    let half = c.in-Some.half in
    kept_joined w.station w.seconds c.loop.year half.all c.joined.result w.few before.order before.row c.in-Some.ensures.all
    (omega (arith, c.in-Some.ensures.begins)) c.joined.ensures.lo c.joined.ensures.hi c.joined.ensures.row

pub loop-preserved : goal.loop-preserved
loop-preserved c =
    let w = c.args.self.now in
    record {
      nears = subst (All (IsKept w.station w.seconds)) (sym c.in_ok-push.ensures.items)
          (All-push (IsKept w.station w.seconds) c.loop.nears.items c.in-Some.half.near c.loop.invariant.nears c.in-Some.ensures.near);
      tapes = subst (All (IsKeptTape w.station w.seconds)) (sym c.in_ok-push-2.ensures.items)
          (All-push (IsKeptTape w.station w.seconds) c.loop.tapes.items c.in-Some.half.tape c.loop.invariant.tapes c.in-Some.ensures.tape);
      years = c.in_ok-year.ensures.years;
      order = c.in_ok-year.ensures.order;
      row = c.in_ok-year.ensures.row;
    }
