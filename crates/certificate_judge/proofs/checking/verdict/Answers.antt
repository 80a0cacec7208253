-- Of another window, or what the lines show.
use Rattle.std.proofs.Common.{◌≡◌, false, IsTrue, sym, subst, rules}
use Rattle.signal_base.specs.declared.window.Window.{Window}
use Rattle.field_tables.specs.Scored.{costs_of}
use Rattle.certificate_judge.specs.Headings.{IsOfWindow}
use Rattle.certificate_judge.proofs.FollowLaws.{of_other, of_this}
use Rattle.certificate_judge.proofs.MarkLaws.{true_false}
use Rattle.certificate_judge.proofs.checking.verdict.Goals as goal

pub returns-then-not-is_of : goal.returns-then-not-is_of
returns-then-not-is_of c = λ read certificate is whole few.
    let j = c.args.judge.now in
    let h = c.args.heading.now in
    let unset : c.is_of.result ≡ false = search rules in
    of_other (costs_of j.due.tables.now) j.due.tables.now.window h j read certificate is whole
    (λ of_it. true_false c.is_of.result unset (c.is_of.ensures.1 (subst (λ (w : Window). IsOfWindow w j.ceiling h) (sym c.window-window.ensures.value) of_it)))

pub returns : goal.returns
returns c = λ read certificate is whole few.
    let j = c.args.judge.now in
    let h = c.args.heading.now in
    let set : IsTrue c.is_of.result = search rules in
    of_this (costs_of j.due.tables.now) j.due.tables.now.window h j read certificate is whole
    (subst (λ (w : Window). IsOfWindow w j.ceiling h) c.window-window.ensures.value (c.is_of.ensures.0 set)) few c.finish.result c.finish.ensures
