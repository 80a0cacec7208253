-- The rule stays through each step: the facts that the board's methods ask for.
use Rattle.std.proofs.Common.{◌≡◌, ◌≢◌, ℕ, ◌<◌, List, [], ◌∷◌, ◌++◌, set, sym, refl, ap, subst, ◌∙◌, ⊎_elim}
use Rattle.std.proofs.lemmas.List.{append-nil, append_assoc}
use mathlib.Core.Option.{some}
use lib.ListN.{get_elem?}
use Rattle.left_right.specs.Register.{Admits, TurnsAt, Forks, Merges}
use Rattle.atomic_table.proofs.Lists.{at_set, at_snoc}
use Rattle.board_entries.specs.declared.entry.Entry.{Entry}
use Rattle.clock_board.specs.declared.shelf.Shelf.{Shelf}
use Rattle.clock_board.specs.declared.view.View.{View}
use Rattle.clock_board.specs.declared.shelf.TheConstants.{MOST_ENTRIES}
use Rattle.clock_board.specs.Rule.{Keeps, Sees}
use Rattle.clock_board.specs.Shelves.{after_entry}
use Rattle.clock_board.specs.Shown.{Shows}
use Rattle.clock_board.specs.Views.{Knows, StartsWith, informed, newcomer}
use Rattle.clock_board.proofs.Shelving.{shows_more}

pub starts_itself : (list : List Entry) → StartsWith list list
starts_itself list = ([], sym (append-nil list))

pub starts_empty : (list : List Entry) → StartsWith list []
starts_empty list = (list, refl)

-- a longer list begins with what a beginning of it begins with
pub further : (list more front : List Entry) → StartsWith list front → StartsWith (list ++ more) front
further list more front start = (start.0 ++ more, ap (λ l. l ++ more) start.1 ∙ append_assoc front start.0 more)

knows_more : (list more : List Entry) (v : View) → Knows list v → Knows (list ++ more) v
knows_more list more v knows = (further list more v.seen knows.0, further list more v.told knows.1)

knows_nothing : (list : List Entry) → Knows list newcomer
knows_nothing list = (starts_empty list, starts_empty list)

-- each of the views after one of them was replaced by one that keeps to the list
all_know : (list : List Entry) (views : List View) (seat : ℕ) (w : View)
    → ((j : ℕ) (u : View) → get_elem? views j ≡ some u → Knows list u) → Knows list w
    → (j : ℕ) (u : View) → get_elem? (set views seat w) j ≡ some u → Knows list u
all_know list views seat w know mine j u at =
    ⊎_elim (λ (t : (j ≡ seat) × (w ≡ u)). subst (λ z. Knows list z) t.1 mine)
    (λ (t : (j ≢ seat) × (get_elem? views j ≡ some u)). know j u t.1)
    (at_set views seat j w u at)

-- a new seat may come at any time
pub admits : Admits Keeps newcomer
admits x views keeps = (
  keeps.0,
  keeps.1,
  λ j u at.
      ⊎_elim (keeps.2 j u) (λ (new : newcomer ≡ u). subst (λ z. Knows keeps.0 z) new (knows_nothing keeps.0)) (at_snoc views newcomer u j at),
)

-- a step after which the shelf shows a list that goes on from the one before
pub turns : (seat : ℕ) (v : View) (x y : Shelf) → ((list : List Entry) → Shows x list → (more : List Entry) × Shows y (list ++ more)) → TurnsAt Keeps seat v x y Sees
turns seat v x y grows views keeps at =
    let list = keeps.0 in
    let grown = grows list keeps.1 in
    let whole = list ++ grown.0 in
    let mine = knows_more list grown.0 v (keeps.2 seat v at) in
    let w : View = record { seen = whole; told = v.told } in (
      w,
      (whole, grown.1, all_know whole views seat w (λ j u e. knows_more list grown.0 u (keeps.2 j u e)) (starts_itself whole, mine.1)),
      (mine.0, mine.1, grown.1, refl),
    )

-- an entry is added to the shelf
pub adds : (seat : ℕ) (v : View) (x next : Shelf) (e : Entry) → next ≡ after_entry x e → x.count < MOST_ENTRIES → TurnsAt Keeps seat v x next Sees
adds seat v x next e is room =
    subst (λ y. TurnsAt Keeps seat v x y Sees) (sym is) (turns seat v x (after_entry x e) (λ list shows. (e ∷ [], shows_more x list e room shows)))

-- a look at the shelf changes nothing
pub looks : (seat : ℕ) (v : View) (x : Shelf) → TurnsAt Keeps seat v x x Sees
looks seat v x = turns seat v x x (λ list shows. ([], subst (Shows x) (sym (append-nil list)) shows))

-- a view may be cut in two that are both as it was
pub forks : (seat : ℕ) (v : View) → Forks Keeps seat v v v
forks seat v x views keeps at = (
  keeps.0,
  keeps.1,
  λ j u e.
      ⊎_elim (all_know keeps.0 views seat v keeps.2 (keeps.2 seat v at) j u)
      (λ (new : v ≡ u). subst (λ z. Knows keeps.0 z) new (keeps.2 seat v at))
      (at_snoc (set views seat v) v u j e),
)

-- one may take in what another saw
pub merges : (seat : ℕ) (v : View) (other : ℕ) (w : View) → Merges Keeps seat v other w (informed v w) newcomer
merges seat v other w x views keeps at apart there =
    let list = keeps.0 in
    let theirs : Knows list w =
    ⊎_elim (λ (t : (other ≡ seat) × (informed v w ≡ w)). absurd (apart t.0)) (λ (t : (other ≢ seat) × (get_elem? views other ≡ some w)). keeps.2 other w t.1)
    (at_set views seat other (informed v w) w there) in
    let both : Knows list (informed v w) = ((keeps.2 seat v at).0, theirs.0) in (
      list,
      keeps.1,
      all_know list (set views seat (informed v w)) other newcomer (all_know list views seat (informed v w) keeps.2 both) (knows_nothing list),
    )
