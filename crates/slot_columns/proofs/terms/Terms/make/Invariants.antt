use Rattle.std.proofs.Common.{◌≡◌, length}
use Rattle.slot_columns.specs.declared.limits.TheConstants.{SECONDS_PER_MINUTE}
use Rattle.slot_columns.specs.Layered.{AreTermsOf}
use Rattle.slot_columns.proofs.terms.Terms.make.Given as goal

abbrev pub invariant-loop-s : goal.invariant-loop-s
invariant-loop-s l = record {
  long_first : length l.first ≡ SECONDS_PER_MINUTE;
  long_later : length l.later ≡ SECONDS_PER_MINUTE;
  are : AreTermsOf l.firsts l.rests l.first l.later l.terms.items l.s;
}
