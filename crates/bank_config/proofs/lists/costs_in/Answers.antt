use Rattle.std.proofs.Common.{ℕ, ◌∙◌, List, sym, subst}
use Rattle.toml.specs.View.{view}
use Rattle.bank_config.specs.Checked.{Checked, Gives}
use Rattle.bank_config.specs.Values.{list_in}
use Rattle.bank_config.proofs.KindLaws.{costs_of-other_length, costs_of-other_kind, costs_of-fine}
use Rattle.bank_config.proofs.lists.costs_in.Goals as goal
use Rattle.bank_config.proofs.lists.costs_in.Goals.{then-list-ne-COSTS-via-then-list-ne-COSTS, then-list-ne-COSTS-via-else-list-ne-COSTS+then-not-are_numbers}

pub returns-then-list-ne-COSTS-clause-costs : goal.returns-then-list-ne-COSTS-clause-costs
returns-then-list-ne-COSTS-clause-costs c =
    elim c.then-list-ne-COSTS.branch [
      | then-list-ne-COSTS-via-then-list-ne-COSTS w ↦ costs_of-other_length c.args.key _ c.in_ok-list.list.now c.in_ok-list.ensures w.if-list-ne-COSTS.true
      | then-list-ne-COSTS-via-else-list-ne-COSTS+then-not-are_numbers w ↦
          costs_of-other_kind c.args.key _ c.in_ok-list.list.now c.in_ok-list.ensures w.if-list-ne-COSTS.false (sym w.are_numbers.ensures ∙ w.if-not-are_numbers.true)
    ]

pub returns-clause-costs : goal.returns-clause-costs
returns-clause-costs c =
    subst (λ (due : Checked (List ℕ)). Gives (λ costs. costs) c.costs_of.result due)
    (sym (costs_of-fine c.args.key (list_in c.args.key (view c.args.value.now)) c.in_ok-list.list.now c.in_ok-list.ensures c.if-list-ne-COSTS.false (sym c.are_numbers.ensures ∙ c.if-not-are_numbers.false)))
    c.costs_of.ensures.costs
