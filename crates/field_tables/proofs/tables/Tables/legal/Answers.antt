use Rattle.std.proofs.Common.{◌↔◌, IsTrue, ap, subst}
use Rattle.signal_base.specs.declared.window.Window.{Window}
use Rattle.definitions.specs.sequences.Walks.{IsLegal}
use Rattle.field_tables.specs.Scored.{Scored}
use Rattle.field_tables.proofs.tables.Tables.legal.Goals as goal

pub returns : goal.returns
returns c =
    subst (λ (w : Window). IsTrue c.legal.result ↔ IsLegal w c.args.q.now) (ap (λ (s : Scored). s.window) c.self.view_is) c.legal.ensures
