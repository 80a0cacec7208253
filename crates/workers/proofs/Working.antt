-- How one worker's visits come about, number by number.
use Rattle.std.proofs.Common.{◌≡◌, ℕ, ◌+◌, ◌<◌, ◌≤◌, List, [], ◌∷◌, ◌++◌, length, slice_get, length-append, Option, Some, None, refl, sym, ap, ◌∙◌, subst, arith}
use Rattle.std.specs.List.{All, Contains, FoldsTo, cons_option}
use Rattle.std.proofs.lemmas.List.{append-nil}
use Rattle.std.proofs.lemmas.List.Elements.{All-contains, Contains-push, filter_map-append}
use Rattle.std.proofs.lemmas.Option.{slice_get_past}
use Rattle.signal_base.specs.declared.window.Window.{Window}
use Rattle.definitions.specs.declared.block.Block.{Block}
use Rattle.definitions.specs.heard.Costs.{Costs}
use Rattle.race_words.specs.declared.view.View.{View}
use Rattle.race_words.specs.Views.{after_draw, after_limit, after_offer}
use Rattle.block_visits.specs.Visits.{items_at}
use Rattle.workers.specs.Steps.{Step, offered_at, AreSteps, HasWalked, Offers, Takes}
use Rattle.workers.specs.Workers.{HasWorked, IsIdle, but_drawn}
use Rattle.workers.proofs.Walking.{folds_then, steps_then}
use Rattle.workers.proofs.Taking.{gained_steps}

-- steps don't ask for what was drawn
offers_but : (numbers keys : List ℕ) (v w : View) → Offers keys v w → Offers keys (but_drawn numbers v) (but_drawn numbers w)
offers_but numbers [] v w is = ap (but_drawn numbers) is
offers_but numbers (key ∷ keys) v w offers = (offers.0, offers.1, offers_but numbers keys (after_offer key offers.0 v) w offers.2)

takes_but : (numbers : List ℕ) (ceiling : ℕ) (steps : List Step) (v w : View) → FoldsTo (Takes ceiling) v steps w
    → FoldsTo (Takes ceiling) (but_drawn numbers v) steps (but_drawn numbers w)
takes_but numbers ceiling [] v w is = ap (but_drawn numbers) is
takes_but numbers ceiling (s ∷ ss) v w takes = (
  but_drawn numbers takes.0,
  (takes.1.0, offers_but numbers (offered_at ceiling s) (after_limit s.seen v) takes.0 takes.1.1),
  takes_but numbers ceiling ss takes.0 w takes.2,
)

-- the items of numbers, one number further
item_further : (items : List Block) (numbers : List ℕ) (n : ℕ) (o : Option Block) → slice_get items n ≡ o
    → items_at items (numbers ++ n ∷ []) ≡ items_at items numbers ++ cons_option o []
item_further items numbers n o is = filter_map-append (slice_get items) numbers (n ∷ []) ∙ ap (λ o. items_at items numbers ++ cons_option o []) is

module _ {P : Type 0} (told : P → Step → P → Type 0) (costs : Costs) (window : Window) (ceiling : ℕ) (items : List Block) where
  -- a worker who has yet to look at the number drawn last, with the steps of the visits before
  pub record IsWorking (v : View) (p : P) (number : ℕ) (w : View) (q : P) : Type 0 where
    pub before : List ℕ
    pub drawn : w.drawn ≡ before ++ number ∷ []
    pub rising : length before ≤ number
    pub steps : List Step
    pub are : AreSteps costs window ceiling (items_at items before) steps
    pub view : FoldsTo (Takes ceiling) v steps (but_drawn v.drawn w)
    pub kept : FoldsTo told p steps q

  pub first_drawn : (v w : View) (p : P) (number : ℕ) → IsIdle v → w ≡ after_draw number v → IsWorking v p number w p
  first_drawn v w p number idle is = record {
    before = [];
    drawn = ap (λ (u : View). u.drawn) is ∙ ap (λ ns. ns ++ number ∷ []) idle.drawn;
    rising = omega arith;
    steps = [];
    are = tt;
    view = sym (ap (but_drawn v.drawn) is);
    kept = refl;
  }

  -- the next number is higher
  module _ (v w u : View) (p q r : P) (number next : ℕ) (item : Block) (working : IsWorking v p number w q) (walked : HasWalked told costs window ceiling item w u q r)
      (above : All (λ n. n < next) u.drawn) where
    pub same_drawn : u.drawn ≡ working.before ++ number ∷ []
    same_drawn = (gained_steps ceiling walked.steps w u walked.view).drawn ∙ working.drawn

    pub higher : number < next
    higher = All-contains (λ n. n < next) u.drawn number above (subst (λ ns. Contains ns number) (sym same_drawn) (Contains-push working.before number))

  pub next_drawn : (v w u x : View) (p q r : P) (number next : ℕ) (item : Block) → IsWorking v p number w q → slice_get items number ≡ Some item
      → HasWalked told costs window ceiling item w u q r → x ≡ after_draw next u → All (λ n. n < next) u.drawn → IsWorking v p next x r
  next_drawn v w u x p q r number next item working is_item walked is above = record {
    before = working.before ++ number ∷ [];
    drawn = ap (λ (u : View). u.drawn) is ∙ ap (λ ns. ns ++ next ∷ []) (same_drawn v w u p q r number next item working walked above);
    rising = omega (arith, length-append working.before (number ∷ []), working.rising, higher v w u p q r number next item working walked above);
    steps = working.steps ++ walked.steps;
    are = subst (λ bs. AreSteps costs window ceiling bs (working.steps ++ walked.steps)) (sym (item_further items working.before number (Some item) is_item))
        (steps_then costs window ceiling working.steps walked.steps (items_at items working.before) (item ∷ []) working.are walked.are);
    view = folds_then (Takes ceiling) working.steps walked.steps v (but_drawn v.drawn w) (but_drawn v.drawn x) working.view
        (subst (λ y. FoldsTo (Takes ceiling) (but_drawn v.drawn w) walked.steps y) (sym (ap (but_drawn v.drawn) is))
        (takes_but v.drawn ceiling walked.steps w u walked.view));
    kept = folds_then told working.steps walked.steps p q r working.kept walked.kept;
  }

  pub finished : (v w : View) (p q : P) (number : ℕ) → IsWorking v p number w q → length items ≤ number → HasWorked told costs window ceiling items v w p q
  finished v w p q number working past = record {
    steps = working.steps;
    are = subst (λ bs. AreSteps costs window ceiling bs working.steps) (sym same) working.are;
    view = working.view;
    kept = working.kept;
    used_up = (number, subst (λ ns. Contains ns number) (sym working.drawn) (Contains-push working.before number), past);
  }
    where
      same : items_at items w.drawn ≡ items_at items working.before
      same = ap (items_at items) working.drawn ∙ (item_further items working.before number None (slice_get_past items number past) ∙ append-nil (items_at items working.before))

  -- a worker may draw again, since the numbers rise
  pub drawn_room : (v w : View) (p q : P) (number : ℕ) → IsWorking v p number w q → length w.drawn ≤ number + 1
  drawn_room v w p q number working = omega (arith, ap length working.drawn, length-append working.before (number ∷ []), working.rising)
