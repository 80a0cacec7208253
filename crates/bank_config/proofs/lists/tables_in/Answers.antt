use Rattle.std.proofs.Common.{◌≡◌, ◌∙◌, sym, length, false, arith}
use Rattle.bank_config.proofs.KindLaws.{few, few-zero, few-many, few-fine, tables_of-other_kind, tables_of-out_of_range, tables_of-fine}
use Rattle.bank_config.proofs.lists.tables_in.Goals as goal
use Rattle.bank_config.proofs.lists.tables_in.Goals.{then-is_empty-via-then-is_empty, then-is_empty-via-else-is_empty+then-tables-gt-MOST_RECEIVERS}

pub returns-then-not-are_tables-clause-value : goal.returns-then-not-are_tables-clause-value
returns-then-not-are_tables-clause-value c =
    tables_of-other_kind _ c.in_ok-tables.tables.now c.in_ok-tables.ensures (sym c.are_tables.ensures ∙ c.if-not-are_tables.true)

pub returns-then-is_empty-clause-value : goal.returns-then-is_empty-clause-value
returns-then-is_empty-clause-value c =
    let xs = c.in_ok-tables.tables.now in
    let outside : few (length xs) ≡ false =
    elim c.then-is_empty.branch [
      | then-is_empty-via-then-is_empty w ↦ few-zero (length xs) (sym c.is_empty.ensures ∙ w.if-is_empty.true)
      | then-is_empty-via-else-is_empty+then-tables-gt-MOST_RECEIVERS w ↦ few-many (length xs) (omega arith)
    ] in
    tables_of-out_of_range _ xs c.in_ok-tables.ensures (sym c.are_tables.ensures ∙ c.if-not-are_tables.false) outside

pub returns-clause-value : goal.returns-clause-value
returns-clause-value c =
    let xs = c.in_ok-tables.tables.now in
    tables_of-fine _ xs c.in_ok-tables.ensures (sym c.are_tables.ensures ∙ c.if-not-are_tables.false) (few-fine (length xs) (sym c.is_empty.ensures ∙ c.if-is_empty.false) c.if-tables-gt-MOST_RECEIVERS.false)
