-- What the laws say, of races and of the two least keys.
use Rattle.std.specs.Prelude.{◌≡◌, ℕ, ◌<◌, ◌≤◌, ◌↔◌, nat_le, min, List, count_by}
use Rattle.race_words.specs.declared.ends.Ends.{Ends}
use Rattle.race_words.specs.Keys.{no_key, two_least}
use Rattle.race_words.specs.Events.{RaceState, Event, start, most_drawn, Happens, Leads}
use Rattle.race_words.specs.Sound.{IsSound}

pub record StaysSound (workers : ℕ) : Type 0 where
  -- the start is sound
  pub begins : IsSound workers (start workers)
  -- an event whose needs are met keeps a sound race sound
  pub steps : (e : Event) (r r' : RaceState) → IsSound workers r → Happens e r r' → IsSound workers r'
  -- so whatever happens, in whatever order and through however many views, the race is sound
  pub always : (es : List Event) (r : RaceState) → Leads workers es r → IsSound workers r
  -- a sound race drew no more numbers than its shares allow, so for 8 workers its count does not wrap
  pub bounded : (r : RaceState) → IsSound workers r → r.drawn ≤ most_drawn workers

-- how many of the keys are not above the limit
abbrev pub count_up_to : ℕ → List ℕ → ℕ
count_up_to limit keys = count_by (λ key. nat_le key limit) keys

-- the least is not above a limit where one of the keys is not, and the second where two are not
pub record IsTwoLeast (keys : List ℕ) (ends : Ends) : Type 0 where
  pub least : (limit : ℕ) → limit < no_key → (ends.least ≤ limit) ↔ (1 ≤ count_up_to limit keys)
  pub second : (limit : ℕ) → limit < no_key → (ends.second ≤ limit) ↔ (2 ≤ count_up_to limit keys)

pub record LeastTwoLaw : Type 0 where
  -- what the two least of a list are
  pub are : (keys : List ℕ) → IsTwoLeast keys (two_least keys)
  -- lists that have as many keys up to each limit, where two are as good as more, have the same two least
  pub same : (xs ys : List ℕ) → ((limit : ℕ) → limit < no_key → min 2 (count_up_to limit xs) ≡ min 2 (count_up_to limit ys)) → two_least xs ≡ two_least ys
