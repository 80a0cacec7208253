use Rattle.std.proofs.Common.{◌∙◌, sym}
use Rattle.toml.specs.View.{view}
use Rattle.bank_config.proofs.KindLaws.{all_known-not_top, all_known-not_receivers, all_known-by_table}
use Rattle.bank_config.proofs.read.all_known.Goals as goal
use Rattle.bank_config.proofs.read.all_known.Goals.{then-not-knows_all-via-then-not-knows_all, then-not-knows_all-via-else-not-knows_all+then-not-receivers_known}

pub returns-then-not-knows_all : goal.returns-then-not-knows_all
returns-then-not-knows_all c =
    elim c.then-not-knows_all.branch [
      | then-not-knows_all-via-then-not-knows_all w ↦ all_known-not_top (view c.args.config.now) c.args.tables.now (sym c.knows_all.ensures ∙ w.if-not-knows_all.true)
      | then-not-knows_all-via-else-not-knows_all+then-not-receivers_known w ↦
          all_known-not_receivers (view c.args.config.now) c.args.tables.now (sym c.knows_all.ensures ∙ w.if-not-knows_all.false) (sym w.receivers_known.ensures ∙ w.if-not-receivers_known.true)
    ]

pub returns : goal.returns
returns c =
    c.table_known.ensures
    ∙ all_known-by_table (view c.args.config.now) c.args.tables.now (sym c.knows_all.ensures ∙ c.if-not-knows_all.false) (sym c.receivers_known.ensures ∙ c.if-not-receivers_known.false)
