-- One window after the other.
use Rattle.std.proofs.Common.{◌≡◌, ◌+◌, ◌-◌, List, length, sym, ap, ◌∙◌, subst, arith}
use Rattle.signal_base.specs.declared.window.Window.{Window}
use Rattle.field_tables.specs.Scopes.{scopes_of}
use Rattle.follow_due.proofs.WindowLaws.{window_in_range}
use Rattle.follow.proofs.StepLaws.{first_grids, grids_at}
use Rattle.board_entries.specs.declared.entry.Entry.{Entry}
use Rattle.bank.specs.Hearing.{AreBankGrids, bank_seen}
use Rattle.board.specs.Publishing.{ArePublished}
use Rattle.board.proofs.PublishLaws.{none_published, window_published}
use Rattle.board.proofs.publish.publish_windows.Goals as goal

pub loop-i-init : goal.loop-i-init
loop-i-init g c =
    let made = c.in_ok-grids.ensures in
    let none = c.requires.begun.1 in
    record {
      grids = first_grids c.args.bank.now c.args.first.now c.args.step c.in_ok-grids.grids.items (record { are_grids = made.grids; costs_are = made.costs; of_bank = made.receivers });
      made = none_published (bank_seen c.args.bank.now) c.args.first.now c.args.step c.args.entries.now.items none;
      same = c.requires.begun.0 ∙ sym none;
      few = omega (arith, ap (λ (es : List Entry). length es) none);
    }

pub move_to-window-requires-clause-start : goal.move_to-window-requires-clause-start
move_to-window-requires-clause-start g c =
    (window_in_range c.args.first.now c.args.step c.args.count c.loop-i.i c.requires.window c.requires.last c.loop-i-test.true).start

-- each window has the stations and the length of the first
pub report_of-requires-clause-parts : goal.report_of-requires-clause-parts
report_of-requires-clause-parts g c lifetimes live =
    subst (λ (w : Window). c.deref.result.now ≡ scopes_of w.stations w.seconds) (sym c.move_to-window.ensures.window) (c.deref.ensures.value ∙ c.in_ok-parts.ensures)

pub loop-i-preserved : goal.loop-i-preserved
loop-i-preserved g c =
    let i = c.loop-i.i in
    let first = c.args.first.now in
    let step = c.args.step in
    let told = c.in_ok-told.told in
    let same : i ≡ i + 1 - 1 = omega arith in
    let window = c.move_to-window.ensures.window in
    let grids = subst (λ (w : Window). AreBankGrids c.args.bank.now w c.move_to-window.new.grids.items) window c.move_to-window.ensures.grids in
    record {
      grids = grids_at c.args.bank.now first step i (i + 1 - 1) c.move_to-window.new.grids.items same grids;
      made = window_published (bank_seen c.args.bank.now) first step i c.loop-i.entries.items c.publish_told.new.entries.items c.move_to-window.result told
          c.loop-i.invariant.made window c.in_ok-told.ensures.told c.in_ok-publish_told.ensures.kept;
      same = c.in_ok-publish_told.ensures.same;
      few = omega (arith, c.in_ok-publish_told.ensures.few, c.loop-i.invariant.few);
    }

pub returns-clause-published : goal.returns-clause-published
returns-clause-published g c =
    let all : c.loop-i.i ≡ c.args.count = omega arith in
    subst (λ k. ArePublished (bank_seen c.args.bank.now) c.args.first.now c.args.step k c.loop-i.entries.items) all c.loop-i.invariant.made
