-- What is pending is the entry alone, so the shelf that is shown is the one before with it.
use Rattle.std.proofs.Common.{◌≡◌, ◌<◌, ◌∙◌, [], ◌∷◌, ◌++◌, fold, refl, ap, subst, arith}
use Rattle.left_right.specs.Sides.{view}
use Rattle.clock_board.specs.declared.shelf.TheConstants.{MOST_ENTRIES}
use Rattle.clock_board.specs.Shelves.{after_entry}
use Rattle.clock_board.specs.Shown.{Shows}
use Rattle.clock_board.proofs.Ruling.{adds}
use Rattle.clock_board.proofs.Shelving.{added}
use Rattle.clock_board.proofs.tracker.Tracker.with_entry.Goals as goal

pub show-writer-requires : goal.show-writer-requires
show-writer-requires g c next is =
    let t = c.args.self in
    let x = c.append.new.self.desk.shown.value in
    let same : x.count ≡ t.writer.desk.shown.value.count = rw c.append.ensures.desk refl in
    let room : x.count < MOST_ENTRIES = omega (arith, same, t.shows.number, c.requires) in
    let pending = c.in-Ok.ensures.pending ∙ ap (λ l. l ++ c.args.entry ∷ []) t.all_shown in
    adds _ _ x next c.args.entry (is ∙ ap (fold after_entry x) pending) room

pub returns : goal.returns
returns g c =
    let t = c.args.self in
    let d = c.append.new.self.desk in
    let x = d.shown.value in
    let w = view c.show-writer.result.desk.place in
    let same : x.count ≡ t.writer.desk.shown.value.count = rw c.append.ensures.desk refl in
    let room : x.count < MOST_ENTRIES = omega (arith, same, t.shows.number, c.requires) in
    let pending = c.in-Ok.ensures.pending ∙ ap (λ l. l ++ c.args.entry ∷ []) t.all_shown in
    let before : Shows x (view d.place).seen = rw c.append.ensures.desk t.shows in
    let rule = c.show-writer.ensures.rule in
    let after : Shows (after_entry x c.args.entry) w.seen = subst (λ y. Shows y w.seen) (c.show-writer.ensures.value ∙ ap (fold after_entry x) pending) rule.2 in
    added x (view d.place).seen w.seen c.args.entry room before after rule.0 ∙ rw c.append.ensures.desk refl
