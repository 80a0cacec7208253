-- What a search by grids finds at an offset.
use Rattle.std.proofs.Common.{◌≡◌, ℕ, Option, subst, arith}
use Rattle.signal_base.specs.declared.window.Window.{Window}
use Rattle.definitions.specs.declared.sequence.Sequence.{Sequence}
use Rattle.definitions.specs.answers.FirstTwo.{AreLeastTwo, IsWindowKey}
use Rattle.definitions.specs.heard.Costs.{Costs, sequence_cost}
use Rattle.due.specs.Banks.{Bank, costs_in}
use Rattle.sweep_due.specs.declared.standing.Standing.{Standing}
use Rattle.sweep_due.specs.Phases.{window_at}
use Rattle.sweep_due.specs.Searches.{IsSearchedAt}
use Rattle.sweep_due.specs.Standings.{ceiling_after, with_two}
use Rattle.sweep_due.proofs.SearchLaws.{not_above_the_bank}
use Rattle.bank.proofs.DecodedLaws.{same_least}

pub found_at : (window : Window) (bank : Bank) (i ceiling : ℕ) (before after : Standing) (moved : Window) (costs : Costs) (first second : Option ℕ)
    → moved ≡ window_at window i → ceiling ≡ ceiling_after bank.ceiling before
    → ((q : Sequence) → sequence_cost costs moved q ≡ sequence_cost (costs_in moved bank) moved q) → AreLeastTwo (IsWindowKey moved costs ceiling) first second
    → after ≡ with_two before i first second → IsSearchedAt window bank i before after
found_at window bank i ceiling before after moved costs first second e f same least is =
    let low = not_above_the_bank bank.ceiling before.second in
    record {
      ceiling = ceiling;
      not_below = omega (arith, f);
      not_above = omega (arith, f, low);
      found = (
        first,
        second,
        subst (λ (w : Window). AreLeastTwo (IsWindowKey w (costs_in w bank) ceiling) first second) e (same_least moved costs (costs_in moved bank) ceiling first second same least),
        is,
      );
    }
