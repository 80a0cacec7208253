-- What many pairs of parts cost, each by a few look-ups.
-- The first part of a pair is carried in walk minute 0, the other in each later one. A second in which all pairs agree
-- costs the same in each; for the others there are terms, and of each pair the places of its sets in rows of costs.
-- What two pairs carry together is looked up by both their places.
use Rattle.std.specs.Prelude.{ℕ, ◌≡◌, ◌+◌, ◌*◌, ◌<◌, ◌≤◌, ◌^◌, Bool, true, false, ◌&&◌, bit_or, if◌then◌else◌, List, [], ◌∷◌, ◌++◌, length, map, slice_index, slice_index_or}
use Rattle.std.specs.List.{range_with_len}
use Rattle.definitions.specs.heard.Costs.{sum_below}
use Rattle.symbol_cost.specs.Grid.{Grid, cost_at}
use Rattle.slot_columns.specs.declared.limits.TheConstants.{COLUMNS, SECONDS_PER_MINUTE, SETS}
use Rattle.slot_columns.specs.declared.terms.Layer.{Layer}
use Rattle.slot_columns.specs.declared.terms.Layer.TheVariants.{First, Later, Both}
use Rattle.slot_columns.specs.declared.terms.Term.{Term}
use Rattle.slot_columns.specs.declared.terms.Common.{Common}
use Rattle.slot_columns.specs.Parts.{entry, layered_cost, most_cost}
use Rattle.slot_columns.specs.Rows.{index_of}

-- part i of a list
abbrev pub part_at : List (List ℕ) → ℕ → List ℕ
part_at parts i = slice_index_or parts i []

-- the set is that of second s in all parts, or they differ there
pub record IsCommon (parts : List (List ℕ)) (s : ℕ) (common : Common) : Type 0 where
  pub same : common.differs ≡ false → (i : ℕ) → i < length parts → slice_index (part_at parts i) s ≡ common.set
  pub none : common.differs ≡ true → common.set ≡ 0

-- each of n parts carries what its counterpart does in all seconds but these
abbrev pub AgreeBut : List Bool → (ℕ → List ℕ) → (ℕ → List ℕ) → ℕ → Type 0
AgreeBut seconds a b n =
    (i s : ℕ) → i < n → s < SECONDS_PER_MINUTE → slice_index_or seconds s false ≡ false → slice_index (a i) s ≡ slice_index (b i) s

-- where the sets of a part stand in rows of costs, and those of two parts together. A second that isn't scored adds none
abbrev pub places_of : List ℕ → ℕ → ℕ
places_of part s = index_of (slice_index part s)

abbrev pub places_together : List ℕ → List ℕ → ℕ → ℕ
places_together a b s = bit_or (places_of a s) (places_of b s)

-- the sets of two parts together
unfoldable pub together : List ℕ → List ℕ → List ℕ
together a b = map (places_together a b) (range_with_len 0 60)

-- What the sets at some places cost in the seconds before n: x has the place of each second in walk minute 0, and y in the
-- later minutes. The set at a place costs this in a second of walk minute 0, and that in a second of all later minutes.
abbrev pub second_cost : (ℕ → ℕ → ℕ) → (ℕ → ℕ → ℕ) → (ℕ → ℕ) → (ℕ → ℕ) → ℕ → ℕ
second_cost first later x y s = first s (x s) + later s (y s)

abbrev pub seconds_cost : (ℕ → ℕ → ℕ) → (ℕ → ℕ → ℕ) → (ℕ → ℕ) → (ℕ → ℕ) → ℕ → ℕ
seconds_cost first later x y n = sum_below n (second_cost first later x y)

-- what a term costs of a set's place
abbrev pub in_layer : Layer → ℕ → ℕ → ℕ
in_layer First first later = first
in_layer Later first later = later
in_layer Both first later = first + later

abbrev pub term_cost : (ℕ → ℕ → ℕ) → (ℕ → ℕ → ℕ) → Term → ℕ → ℕ
term_cost first later term place = in_layer term.layer (first term.second place) (later term.second place)

-- the place that it takes of some places, and of a pair
abbrev pub of_layer : Layer → ℕ → ℕ → ℕ
of_layer First x y = x
of_layer Later x y = y
of_layer Both x y = x

abbrev pub place_by : (ℕ → ℕ) → (ℕ → ℕ) → Term → ℕ
place_by x y term = of_layer term.layer (x term.second) (y term.second)

abbrev pub term_place : List ℕ → List ℕ → Term → ℕ
term_place a b = place_by (places_of a) (places_of b)

abbrev pub no_term : Term
no_term = record { second = 0; layer = First }

abbrev pub term_at : List Term → ℕ → Term
term_at terms j = slice_index_or terms j no_term

-- what all terms cost of some places
abbrev pub terms_cost : (ℕ → ℕ → ℕ) → (ℕ → ℕ → ℕ) → (ℕ → ℕ) → (ℕ → ℕ) → List Term → ℕ
terms_cost first later x y terms =
    sum_below (length terms) (λ j. term_cost first later (term_at terms j) (place_by x y (term_at terms j)))

-- the set without symbols, whose place is 0, costs nothing
abbrev pub IsFree : (ℕ → ℕ → ℕ) → Type 0
IsFree cost = (s : ℕ) → s < SECONDS_PER_MINUTE → cost s 0 ≡ 0

-- terms of the seconds of a minute
abbrev pub AreSeconds : List Term → Type 0
AreSeconds terms = (j : ℕ) → j < length terms → (term_at terms j).second < SECONDS_PER_MINUTE

-- each pair carries one set in second s of all its minutes
abbrev pub AreAlike : List (List ℕ) → List (List ℕ) → ℕ → Type 0
AreAlike firsts rests s = (i : ℕ) → i < length firsts → slice_index (part_at firsts i) s ≡ slice_index (part_at rests i) s

-- what all pairs have in a second, these places have
pub record HaveCommon (firsts rests : List (List ℕ)) (x y : ℕ → ℕ) : Type 0 where
  pub first : (s set : ℕ) → ((i : ℕ) → i < length firsts → slice_index (part_at firsts i) s ≡ set) → x s ≡ index_of set
  pub later : (s set : ℕ) → ((i : ℕ) → i < length rests → slice_index (part_at rests i) s ≡ set) → y s ≡ index_of set
  pub alike : (s : ℕ) → AreAlike firsts rests s → x s ≡ y s

-- In the seconds before n a pair, or two together, cost what the terms have of them, and what is common to all pairs.
pub record AreTermsOf (firsts rests : List (List ℕ)) (a b : List ℕ) (terms : List Term) (n : ℕ) : Type 0 where
  pub seconds : AreSeconds terms
  pub costs : (first later : ℕ → ℕ → ℕ) → IsFree first → IsFree later → (x y : ℕ → ℕ) → HaveCommon firsts rests x y
      → terms_cost first later x y terms + seconds_cost first later (places_of a) (places_of b) n ≡ seconds_cost first later x y n

-- the terms of second s, where pairs differ in walk minute 0, or in the later ones, or carry one set in both
abbrev pub term_if : Bool → ℕ → Layer → List Term
term_if differs s layer = if differs then record { second = s; layer = layer } ∷ [] else []

abbrev pub terms_of : ℕ → Bool → Bool → Bool → List Term
terms_of s in_first in_later alike =
    if in_first && in_later && alike
    then record { second = s; layer = Both } ∷ []
    else term_if in_first s First ++ term_if in_later s Later

-- what the columns of first second p cost
abbrev pub column_of : List (List ℕ) → ℕ → ℕ → ℕ → ℕ
column_of columns p s place = entry columns (SECONDS_PER_MINUTE * p + s) place

-- Rows and places of all terms stand side by side, the first of so many groups behind each other. n more elements are
-- added, of which each is what the j-th is to be
pub record AreAdded {A : Type 0} (none : A) (Is : ℕ → A → Type 0) (old new : List A) (n : ℕ) : Type 0 where
  pub count : length new ≡ length old + n
  pub kept : (k : ℕ) → k < length old → slice_index_or new k none ≡ slice_index_or old k none
  pub each : (j : ℕ) → j < n → Is j (slice_index_or new (length old + j) none)

-- n groups of one width, and each element is what the j-th of its group is to be
pub record AreGroups {A : Type 0} (none : A) (Is : ℕ → ℕ → A → Type 0) (width : ℕ) (all : List A) (n : ℕ) : Type 0 where
  pub count : length all ≡ n * width
  pub each : (i j : ℕ) → i < n → j < width → Is i j (slice_index_or all (i * width + j) none)

-- a term's row for the first second p
abbrev pub IsTermRow : List (List ℕ) → List (List ℕ) → List Term → ℕ → ℕ → List ℕ → Type 0
IsTermRow first later terms p j row =
    (set : ℕ) → set < SETS → slice_index row set ≡ term_cost (column_of first p) (column_of later p) (term_at terms j) set

abbrev pub AreTermRows : List (List ℕ) → List (List ℕ) → List Term → List (List ℕ) → ℕ → Type 0
AreTermRows first later terms = AreGroups [] (IsTermRow first later terms) (length terms)

-- the place that a term takes of two parts, and of pair i
abbrev pub IsPlace : List ℕ → List ℕ → List Term → ℕ → ℕ → Type 0
IsPlace a b terms j place = place ≡ term_place a b (term_at terms j)

abbrev pub ArePlaces : List (List ℕ) → List (List ℕ) → List Term → List ℕ → ℕ → Type 0
ArePlaces firsts rests terms = AreGroups 0 (λ i. IsPlace (part_at firsts i) (part_at rests i) terms) (length terms)

-- two rows of a column fit together
abbrev pub HaveRoom : List (List ℕ) → List (List ℕ) → Type 0
HaveRoom first later = (i set : ℕ) → i < COLUMNS → set < SETS → entry first i set + entry later i set < 2 ^ 32

-- what a table has: of each first second what is common to all pairs, and for each term a row; of each pair a place in it
pub record LayerSums : Type 0 where
  pub pairs : ℕ
  pub terms : ℕ
  pub common : List ℕ
  pub rows : List (List ℕ)
  pub places : List ℕ

-- what pair i costs where the walk begins in second p
abbrev pub term_of_pair : LayerSums → ℕ → ℕ → ℕ → ℕ
term_of_pair table i p j = entry table.rows (p * table.terms + j) (slice_index table.places (i * table.terms + j))

abbrev pub layer_cost : LayerSums → ℕ → ℕ → ℕ
layer_cost table i p = slice_index table.common p + sum_below table.terms (term_of_pair table i p)

-- what the pairs i and j cost together
abbrev pub term_of_both : LayerSums → ℕ → ℕ → ℕ → ℕ → ℕ
term_of_both table i j p k =
    entry table.rows (p * table.terms + k) (bit_or (slice_index table.places (i * table.terms + k)) (slice_index table.places (j * table.terms + k)))

abbrev pub cost_of_both : LayerSums → ℕ → ℕ → ℕ → ℕ
cost_of_both table i j p = slice_index table.common p + sum_below table.terms (term_of_both table i j p)

-- there is an entry wherever one is looked up, and no cost is too large for a number of 32 bits
pub record AreLayerSums (table : LayerSums) : Type 0 where
  pub common : length table.common ≡ SECONDS_PER_MINUTE
  pub rows : length table.rows ≡ SECONDS_PER_MINUTE * table.terms
  pub places : length table.places ≡ table.pairs * table.terms
  pub sets : (i k : ℕ) → i < table.pairs → k < table.terms → slice_index table.places (i * table.terms + k) < SETS
  pub fits : (i j p : ℕ) → i < table.pairs → j < table.pairs → p < SECONDS_PER_MINUTE → cost_of_both table i j p < 2 ^ 32

-- a pair for each of these parts, and what it costs by the grid
pub record AreLayerCosts (table : LayerSums) (grid : Grid) (firsts rests : List (List ℕ)) : Type 0 where
  pub count : table.pairs ≡ length firsts
  pub each : (i p : ℕ) → i < length firsts → p < SECONDS_PER_MINUTE
      → layer_cost table i p ≡ layered_cost grid.station (cost_at grid.rows) (length grid.rows) p (part_at firsts i) (part_at rests i)
  pub small : (i p : ℕ) → i < length firsts → p < SECONDS_PER_MINUTE → layer_cost table i p ≤ most_cost grid
  pub both : (i j p : ℕ) → i < length firsts → j < length firsts → p < SECONDS_PER_MINUTE
      → cost_of_both table i j p
      ≡ layered_cost grid.station (cost_at grid.rows) (length grid.rows) p (together (part_at firsts i) (part_at firsts j))
      (together (part_at rests i) (part_at rests j))
