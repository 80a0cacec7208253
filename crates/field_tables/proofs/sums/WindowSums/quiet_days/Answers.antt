use Rattle.std.proofs.Common.{ℕ, List, sym, ◌∙◌, subst}
use Rattle.std.proofs.lemmas.List.{with_items_is}
use Rattle.field_tables.specs.Quiet.{AreQuiet}
use Rattle.field_tables.proofs.sums.WindowSums.quiet_days.Goals as goal

pub returns : goal.returns
returns c =
    let filled = c.fill.ensures in
    subst (λ (xs : List ℕ). AreQuiet c.args.self.now.window xs)
    (sym (with_items_is c.in_ok-loud.loud c.fill.new.loud (filled.count ∙ c.as_mut_slice.ensures.len))) filled.quiet
