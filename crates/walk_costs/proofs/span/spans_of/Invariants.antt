use Rattle.std.proofs.Common.{◌≡◌, All}
use Rattle.walk_costs.specs.Spans.{HoldsDates}
use Rattle.walk_costs.proofs.span.spans_of.Given as goal

abbrev pub invariant-loop-i : goal.invariant-loop-i
invariant-loop-i l = record {
  others : All (HoldsDates l.parts l.fn.station) l.spans.items;
  holds : HoldsDates l.parts l.fn.station l.span;
  here : l.span.to ≡ l.i;
}
