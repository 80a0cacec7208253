-- Grids that were moved to a later window, one after the other.
use Rattle.std.proofs.Common.{◌≡◌, ◌≢◌, ℕ, suc, ◌+◌, ◌*◌, ◌<◌, ◌≤◌, below_more, get_or-set_other, get_or-set_same, set, List, [], ◌∷◌, ◌++◌, length, map, get_or, sum, sum_by, refl, sym, ap, ◌∙◌, subst, arith}
use Rattle.std.proofs.lemmas.List.{get_or_default}
use Rattle.std.proofs.lemmas.List.Elements.{All-append, All-cons, All-nil}
use Rattle.std.proofs.lemmas.List.Sums.{sum-map}
use Rattle.signal_base.specs.declared.station.Station.{Station}
use Rattle.signal_base.specs.declared.tuning.Tuning.{Tuning}
use Rattle.signal_base.specs.declared.window.Window.{Window}
use Rattle.definitions.specs.heard.Costs.{slot_cost}
use Rattle.definitions.specs.heard.Logs.{Records}
use Rattle.definitions.specs.heard.Receivers.{Reception, heard_of, receptions}
use Rattle.align.specs.Receivers.{receivers}
use Rattle.symbol_cost.specs.Grid.{Grid, HasCosts}
use Rattle.due.specs.Banks.{costs_in}
use Rattle.bank.specs.declared.hearing.Bank.{Bank}
use Rattle.bank.specs.Hearing.{AreBankGrids, AreOfBank, IsBank, IsMoved, bank_seen, count_of, later_window, part_of}
use Rattle.bank.proofs.PartLaws.{heard_in_bank}

-- What the receivers of a station heard is what its parts of the lists say, so the costs of the one are those of the other.
pub moved_costs : (b : Bank) → IsBank b → (window : Window) (by : ℕ) (old new : Grid) (ts : List Tuning) (ls : List Records)
    → ts ≡ part_of old.station b.stations.items b.tunings.items → ls ≡ part_of old.station b.stations.items b.logs.items
    → ((station : Station) (n : ℕ) → HasCosts old station n (slot_cost b.table (receptions ts ls) station (window.start + window.phase))
    → HasCosts new station n (slot_cost b.table (receptions ts ls) station (window.start + 1000 * by + window.phase)))
    → (n : ℕ) → HasCosts old old.station n (costs_in window (bank_seen b) old.station) → HasCosts new old.station n (costs_in (later_window window by) (bank_seen b) old.station)
moved_costs b is window by old new ts ls e f moves n have =
    let station = old.station in
    let heard : heard_of station (receivers b.stations.items (receptions b.tunings.items b.logs.items)) ≡ receptions ts ls =
    heard_in_bank b is station ∙ sym (ap (λ (us : List Tuning). receptions us ls) e ∙ ap (λ (ms : List Records). receptions (part_of station b.stations.items b.tunings.items) ms) f) in
    subst (λ (hs : List Reception). HasCosts new station n (slot_cost b.table hs station (window.start + 1000 * by + window.phase))) (sym heard)
    (moves station n (subst (λ (hs : List Reception). HasCosts old station n (slot_cost b.table hs station (window.start + window.phase))) heard have))

both : {A : Type 0} (x y : A) (xs ys : List A) → x ≡ y → xs ≡ ys → x ∷ xs ≡ y ∷ ys
both x y xs ys e f = cc

-- what is the same at each place is the same of the lists
map_same : {A B : Type 0} (f : A → B) (xs ys : List A) → length ys ≡ length xs
    → ((k : ℕ) (d : A) → k < length xs → f (get_or ys k d) ≡ f (get_or xs k d)) → map f ys ≡ map f xs
map_same f [] [] e h = refl
map_same f [] (y ∷ ys) e h = absurd (omega arith)
map_same f (x ∷ xs) [] e h = absurd (omega arith)
map_same f (x ∷ xs) (y ∷ ys) e h =
    both (f y) (f x) (map f ys) (map f xs) (h 0 x (omega arith)) (map_same f xs ys (omega arith) (λ k d lt. h (suc k) d (omega arith)))

module _ (b : Bank) (window : Window) (by : ℕ) (olds news : List Grid) (many : length news ≡ length olds)
    (moved : (k : ℕ) (d : Grid) → k < length olds → IsMoved b window by (get_or olds k d) (get_or news k d)) where
  same_sum : sum_by (λ (g : Grid). g.receivers) news ≡ sum_by (λ (g : Grid). g.receivers) olds
  same_sum =
      sym (sum-map (λ (g : Grid). g.receivers) news)
      ∙ ap sum (map_same (λ (g : Grid). g.receivers) olds news many (λ k d lt. (moved k d lt).receivers_are))
      ∙ sum-map (λ (g : Grid). g.receivers) olds

  -- all grids of the window are those of the later one
  pub all_moved : AreBankGrids b window olds → AreBankGrids b (later_window window by) news
  all_moved are = record {
    are_grids = record {
      stations = map_same (λ (g : Grid). g.station) olds news many (λ k d lt. (moved k d lt).station_is) ∙ are.are_grids.stations;
      slots = λ k d lt. (moved k d (omega (arith, lt, many))).slots_are ∙ are.are_grids.slots k d (omega (arith, lt, many));
      few = omega (arith, same_sum, are.are_grids.few);
    };
    costs_are = λ k d lt.
        let m = moved k d (omega (arith, lt, many)) in
        subst (λ (s : Station). HasCosts (get_or news k d) s window.seconds (costs_in (later_window window by) (bank_seen b) s)) (sym m.station_is)
        (m.costs_are window.seconds (are.costs_are k d (omega (arith, lt, many))));
    of_bank = λ k d lt.
        let m = moved k d (omega (arith, lt, many)) in
        m.receivers_are ∙ are.of_bank k d (omega (arith, lt, many)) ∙ ap (λ (s : Station). count_of s b.stations.items) (sym m.station_is);
  }

-- no grid, and one more, that is made from the receivers of its station
pub none_of_bank : (b : Bank) → AreOfBank b []
none_of_bank b = All-nil (λ (g : Grid). g.receivers ≡ count_of g.station b.stations.items)

pub one_more_of_bank : (b : Bank) (grids : List Grid) (grid : Grid) → grid.receivers ≡ count_of grid.station b.stations.items → AreOfBank b grids → AreOfBank b (grids ++ grid ∷ [])
one_more_of_bank b grids grid is are =
    All-append (λ (g : Grid). g.receivers ≡ count_of g.station b.stations.items) grids (grid ∷ []) are
    (All-cons (λ (g : Grid). g.receivers ≡ count_of g.station b.stations.items) grid [] is (none_of_bank b))

-- One more grid was moved, and those behind it are as before.
module _ (b : Bank) (window : Window) (by : ℕ) (olds sofar : List Grid) (i : ℕ) (grid new : Grid) (within : i < length sofar)
    (rest : (k : ℕ) (d : Grid) → i ≤ k → get_or sofar k d ≡ get_or olds k d) where
  pub one_more_moved : ((k : ℕ) (d : Grid) → k < i → IsMoved b window by (get_or olds k d) (get_or sofar k d)) → IsMoved b window by (get_or sofar i grid) new
      → (k : ℕ) (d : Grid) → k < i + 1 → IsMoved b window by (get_or olds k d) (get_or (set sofar i new) k d)
  one_more_moved moved now k d lt =
      below_more (λ j. IsMoved b window by (get_or olds j d) (get_or (set sofar i new) j d)) i
      (λ j l. let ne : j ≢ i = omega arith in rw get_or-set_other (moved j d l))
      (let at : get_or sofar i grid ≡ get_or olds i d = get_or_default sofar i grid d within ∙ rest i d (omega arith) in
      rw get_or-set_same (subst (λ (g : Grid). IsMoved b window by g new) at now)) k lt

  pub rest_stays : (k : ℕ) (d : Grid) → i + 1 ≤ k → get_or (set sofar i new) k d ≡ get_or olds k d
  rest_stays k d le = let ne : k ≢ i = omega arith in rw get_or-set_other (rest k d (omega arith))
