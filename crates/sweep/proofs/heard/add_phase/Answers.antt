-- An offset more, or none where it isn't swept.
use Rattle.std.proofs.Common.{sym, ◌∙◌, refl}
use Rattle.bank.specs.Hearing.{bank_seen}
use Rattle.sweep.proofs.KeptLaws.{heard_more, heard_no_more}
use Rattle.sweep.proofs.heard.add_phase.Goals as goal

pub returns-in_ok-push-clause-adds : goal.returns-in_ok-push-clause-adds
returns-in_ok-push-clause-adds c = λ are.
    let swept = sym c.is_swept.ensures ∙ c.if-is_swept.true in
    rw c.in_ok-push.ensures.items
    (heard_more c.args.window.now (bank_seen c.args.bank.now) c.args.offset c.args.heard.now.items _ refl swept
    (record {
      small = c.requires.offset;
      swept = swept;
      window_is = c.window_at-moved.ensures.window;
      fits = c.window_at-moved.ensures.in_range;
      grids = c.in_ok-grids.ensures.grids;
      costs = c.in_ok-grids.ensures.costs;
    })
    are)

pub returns-else-is_swept-clause-adds : goal.returns-else-is_swept-clause-adds
returns-else-is_swept-clause-adds c = λ are.
    heard_no_more c.args.window.now (bank_seen c.args.bank.now) c.args.offset c.args.heard.now.items (sym c.is_swept.ensures ∙ c.if-is_swept.false) are
