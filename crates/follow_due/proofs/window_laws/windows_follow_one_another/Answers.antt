-- The law, from its lemmas.
use Rattle.std.proofs.Common.{◌∙◌}
use Rattle.std.proofs.lemmas.List.FromFn.{length-map-range_with_len}
use Rattle.follow_due.specs.Windows.{window_after}
use Rattle.follow_due.proofs.WindowLaws.{no_step, slot_begins, slot_costs, window_at}
use Rattle.follow_due.proofs.window_laws.windows_follow_one_another.Goals as goal

pub returns : goal.returns
returns c = record {
  count = λ first step count. length-map-range_with_len (window_after first step) 0 count;
  first = λ first step count d some. window_at first step count 0 d some ∙ no_step first step;
  time = slot_begins;
  cost = slot_costs;
}
