-- What the tracker, its askers and its news know.
use Rattle.std.specs.Prelude.{Option, None, Some, List}
use Rattle.left_right.specs.Sides.{view}
use Rattle.board_entries.specs.declared.entry.Entry.{Entry}
use Rattle.clock_board.specs.declared.asker.Asker.{Asker}
use Rattle.clock_board.specs.declared.news.News.{News}
use Rattle.clock_board.specs.declared.tracker.Tracker.{Tracker}
use Rattle.clock_board.specs.declared.view.View.{View}
use Rattle.clock_board.specs.Views.{newcomer}

-- the entries that the tracker published, in order
abbrev pub published : Tracker → List Entry
published t = (view t.writer.desk.place).seen

-- what someone knows who may be there: nothing else
abbrev pub view_of : {A : Type 0} → (A → View) → Option A → View
view_of of None = newcomer
view_of of (Some someone) = of someone

-- what the asker's reader knows, and what that of some news does
abbrev pub known : Asker → View
known a = view_of (λ r. view r.place) a.reader

abbrev pub brought : News → View
brought n = view_of (λ r. view r.place) n.reader
