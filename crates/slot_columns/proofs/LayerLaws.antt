-- What a table of layers tells is what the pairs cost.
use Rattle.std.proofs.Common.{◌≡◌, ℕ, ◌+◌, ◌*◌, ◌/◌, ◌%◌, ◌^◌, ◌<◌, ◌≤◌, bit_or, List, [], length, get_or, refl, sym, ap, ◌∙◌, arith}
use Rattle.std.proofs.lemmas.List.{get_or_default}
use Rattle.std.proofs.lemmas.List.FromFn.{get_or-map-range_with_len}
use Rattle.std.proofs.lemmas.Nat.{mul-add-lt}
use Rattle.std.specs.Int.Bits.{or_self}
use Rattle.definitions.specs.heard.Costs.{sum_below}
use Rattle.definitions.proofs.CostLaws.{sum_below_bound, sum_below_more, sum_below_none, sum_below_same}
use Rattle.symbol_cost.specs.Grid.{Grid, cost_at}
use Rattle.symbol_cost.specs.declared.limits.TheConstants.{RECEIVER_COST}
use Rattle.slot_columns.specs.declared.terms.Layer.{Layer}
use Rattle.slot_columns.specs.declared.terms.Layer.TheVariants.{First, Later, Both}
use Rattle.slot_columns.specs.declared.terms.Term.{Term}
use Rattle.slot_columns.specs.Layered.{AreLayerCosts, AreLayerSums, ArePlaces, AreTermRows, AreTermsOf, HaveCommon, HaveRoom, IsFree, LayerSums, column_of, cost_of_both, layer_cost, of_layer, part_at, place_by, places_of, places_together, second_cost, seconds_cost, term_at, term_cost, term_of_both, term_of_pair, term_place, together}
use Rattle.slot_columns.specs.Parts.{entry, layered_cost, most_cost}
use Rattle.slot_columns.specs.Rows.{index_of}
use Rattle.slot_columns.specs.Tables.{AreColumns, AreTables, at_place, column_cost, columns_cost, in_first, in_later}
use Rattle.slot_columns.proofs.ColumnLaws.{layered, layered_bound, most_fits}
use Rattle.slot_columns.proofs.PlaceLaws.{place_bound, place_free}
use Rattle.slot_columns.proofs.SetLaws.{index_at, index_bound, or_index}
use Rattle.slot_columns.proofs.SumLaws.{sum_of_fewer, sum_of_none}
use Rattle.slot_columns.proofs.TermLaws.{common_of_both, common_of_pair}

of_two : (layer : Layer) (x y : ℕ) → x < 32 → y < 32 → of_layer layer x y < 32
of_two First x y one other = one
of_two Later x y one other = other
of_two Both x y one other = one

place_index : (a b : List ℕ) (term : Term) → term_place a b term < 32
place_index a b term =
    of_two term.layer (places_of a term.second) (places_of b term.second) (index_bound (get_or a term.second 0)) (index_bound (get_or b term.second 0))

-- the place of two sets together
or_layers : (layer : Layer) (x y v w : ℕ) → bit_or (of_layer layer x y) (of_layer layer v w) ≡ of_layer layer (bit_or x v) (bit_or y w)
or_layers First x y v w = refl
or_layers Later x y v w = refl
or_layers Both x y v w = refl

in_both : (a b : List ℕ) (s : ℕ) → s < 60 → index_of (get_or (together a b) s 0) ≡ places_together a b s
unfolding together
in_both a b s lt =
    ap index_of (get_or-map-range_with_len (places_together a b) 0 60 s s 0 lt (omega arith))
    ∙ index_at (places_together a b s) (or_index (places_of a s) (places_of b s) (index_bound (get_or a s 0)) (index_bound (get_or b s 0)))

module _ (grid : Grid) (first later : List (List ℕ)) (tables : AreTables grid first later) where
  column : (columns : List (List ℕ)) (cost : ℕ → ℕ → ℕ → ℕ) → AreColumns columns cost → (p s set : ℕ) → p < 60 → s < 60 → set < 32
      → column_of columns p s set ≡ cost p s set
  column columns cost are p s set first_second second small =
      let i : ℕ = 60 * p + s in
      let begin : i / 60 ≡ p = omega arith in
      let there : i % 60 ≡ s = omega arith in
      are.each i set (omega arith) small
      ∙ ap (λ q. cost q (i % 60) set) begin ∙ ap (λ x. cost p x set) there

  -- the set without symbols costs nothing
  pub free_first : (p : ℕ) → p < 60 → IsFree (column_of first p)
  free_first p second = λ s lt. column first (in_first grid) tables.in_first p s 0 second lt (omega arith) ∙ place_free grid p s

  pub free_later : (p : ℕ) → p < 60 → IsFree (column_of later p)
  free_later p second = λ s lt.
      column later (in_later grid) tables.in_later p s 0 second lt (omega arith)
      ∙ sum_of_none 20 (λ m. at_place grid p 0 (60 * (m + 1) + s)) (λ m few. place_free grid p (60 * (m + 1) + s))

  -- what stands in two columns fits together
  pub room : HaveRoom first later
  room = λ i set within small.
      let p : ℕ = i / 60 in
      let s : ℕ = i % 60 in
      let r : ℕ = grid.receivers * RECEIVER_COST in
      let few : r ≤ 1_600_000 = omega (arith, tables.bounded.few) in
      let bounded = tables.bounded.small in
      omega (
        arith,
        few,
        tables.in_first.each i set within small,
        tables.in_later.each i set within small,
        place_bound grid p set s r bounded,
        sum_below_bound 20 r (λ m. at_place grid p set (60 * (m + 1) + s)) (λ m lt. place_bound grid p set (60 * (m + 1) + s) r bounded),
      )

  pub columns_fit : (p : ℕ) → p < 60 → (a b : List ℕ) → columns_cost first later p a b < 2 ^ 32
  columns_fit p second a b = omega (arith, layered_bound grid first later tables p second a b, most_fits grid tables.bounded)

  -- A table by terms.
  module _ (firsts rests : List (List ℕ)) (a b : List ℕ) (terms : List Term) (are : AreTermsOf firsts rests a b terms 60) (table : LayerSums)
      (pairs : table.pairs ≡ length firsts) (count : length firsts ≡ length rests) (width : table.terms ≡ length terms)
      (common : (p : ℕ) → p < 60 → get_or table.common p 0 ≡ columns_cost first later p a b)
      (rows : AreTermRows first later terms table.rows 60) (places : ArePlaces firsts rests terms table.places (length firsts)) where
    -- what is looked up at some places, which have what all pairs have
    by_places : (p : ℕ) → p < 60 → (place x y : ℕ → ℕ) → HaveCommon firsts rests x y
        → ((k : ℕ) → k < length terms → (place k ≡ place_by x y (term_at terms k)) × (place k < 32))
        → get_or table.common p 0 + sum_below (length terms) (λ k. entry table.rows (p * length terms + k) (place k))
        ≡ seconds_cost (column_of first p) (column_of later p) x y 60
    by_places p second place x y have is =
        let of_terms = sum_below_same (length terms) (λ k. entry table.rows (p * length terms + k) (place k))
        (λ k. term_cost (column_of first p) (column_of later p) (term_at terms k) (place_by x y (term_at terms k)))
        (λ k lt.
        rows.each p k second lt (place k) (is k lt).1
        ∙ ap (term_cost (column_of first p) (column_of later p) (term_at terms k)) (is k lt).0) in
        omega (
          arith,
          common p second,
          of_terms,
          are.costs (column_of first p) (column_of later p) (free_first p second) (free_later p second) x y have,
        )

    pub pair_cost : (i p : ℕ) → i < length firsts → p < 60
        → layer_cost table i p ≡ layered_cost grid.station (cost_at grid.rows) (length grid.rows) p (part_at firsts i) (part_at rests i)
    pair_cost i p pair second =
        let x = part_at firsts i in
        let y = part_at rests i in
        omega (
          arith,
          ap (λ n. sum_below n (λ k. entry table.rows (p * n + k) (get_or table.places (i * n + k) 0))) width,
          by_places p second (λ k. get_or table.places (i * length terms + k) 0) (places_of x) (places_of y) (common_of_pair firsts rests i count pair)
              (λ k lt. let is = places.each i k pair lt in (is, omega (arith, is, place_index x y (term_at terms k)))),
          layered grid first later tables p second x y,
        )

    pub pair_bound : (i p : ℕ) → i < length firsts → p < 60 → layer_cost table i p ≤ most_cost grid
    pair_bound i p pair second =
        omega (
          arith,
          pair_cost i p pair second,
          layered grid first later tables p second (part_at firsts i) (part_at rests i),
          layered_bound grid first later tables p second (part_at firsts i) (part_at rests i),
        )

    module _ (i j p : ℕ) (pair : i < length firsts) (also : j < length firsts) (second : p < 60) where
      abbrev in_first_minute : List ℕ
      in_first_minute = together (part_at firsts i) (part_at firsts j)

      abbrev in_later_minutes : List ℕ
      in_later_minutes = together (part_at rests i) (part_at rests j)

      place_of_both : (k : ℕ) → k < length terms
          → bit_or (get_or table.places (i * length terms + k) 0) (get_or table.places (j * length terms + k) 0)
          ≡ place_by (places_together (part_at firsts i) (part_at firsts j)) (places_together (part_at rests i) (part_at rests j)) (term_at terms k)
      place_of_both k lt =
          let t = term_at terms k in
          ap (λ z. bit_or z (get_or table.places (j * length terms + k) 0)) (places.each i k pair lt)
          ∙ ap (bit_or (term_place (part_at firsts i) (part_at rests i) t)) (places.each j k also lt)
          ∙ or_layers t.layer (places_of (part_at firsts i) t.second) (places_of (part_at rests i) t.second) (places_of (part_at firsts j) t.second)
          (places_of (part_at rests j) t.second)

      small_place : (k : ℕ) → k < length terms → bit_or (get_or table.places (i * length terms + k) 0) (get_or table.places (j * length terms + k) 0) < 32
      small_place k lt =
          let t = term_at terms k in
          or_index (get_or table.places (i * length terms + k) 0) (get_or table.places (j * length terms + k) 0)
          (omega (arith, places.each i k pair lt, place_index (part_at firsts i) (part_at rests i) t))
          (omega (arith, places.each j k also lt, place_index (part_at firsts j) (part_at rests j) t))

      seconds_are : seconds_cost (column_of first p) (column_of later p) (places_together (part_at firsts i) (part_at firsts j))
          (places_together (part_at rests i) (part_at rests j)) 60
          ≡ columns_cost first later p in_first_minute in_later_minutes
      seconds_are =
          sum_below_same 60
          (second_cost (column_of first p) (column_of later p) (places_together (part_at firsts i) (part_at firsts j)) (places_together (part_at rests i) (part_at rests j)))
          (column_cost first later p in_first_minute in_later_minutes)
          (λ s lt.
          omega (
            arith,
            ap (column_of first p s) (in_both (part_at firsts i) (part_at firsts j) s lt),
            ap (column_of later p s) (in_both (part_at rests i) (part_at rests j) s lt),
          ))

      pub both_are : cost_of_both table i j p ≡ layered_cost grid.station (cost_at grid.rows) (length grid.rows) p in_first_minute in_later_minutes
      both_are =
          omega (
            arith,
            ap (λ n. sum_below n (λ k. entry table.rows (p * n + k) (bit_or (get_or table.places (i * n + k) 0) (get_or table.places (j * n + k) 0)))) width,
            by_places p second (λ k. bit_or (get_or table.places (i * length terms + k) 0) (get_or table.places (j * length terms + k) 0))
                (places_together (part_at firsts i) (part_at firsts j)) (places_together (part_at rests i) (part_at rests j))
                (common_of_both firsts rests i j count pair also) (λ k lt. (place_of_both k lt, small_place k lt)),
            seconds_are,
            layered grid first later tables p second in_first_minute in_later_minutes,
          )

      pub both_fit : cost_of_both table i j p < 2 ^ 32
      both_fit =
          omega (
            arith,
            both_are,
            layered grid first later tables p second in_first_minute in_later_minutes,
            columns_fit p second in_first_minute in_later_minutes,
          )

    pub layer_costs : AreLayerCosts table grid firsts rests
    layer_costs = record { count = pairs; each = pair_cost; small = pair_bound; both = λ i j p pair also second. both_are i j p pair also second }

    pub layer_sums : length table.common ≡ 60 → AreLayerSums table
    layer_sums long = record {
      common = long;
      rows = rows.count ∙ ap (λ n. 60 * n) (sym width);
      places = places.count ∙ ap (λ n. length firsts * n) (sym width) ∙ ap (λ n. n * table.terms) (sym pairs);
      sets = λ i k pair lt.
          let place = places.each i k (omega (arith, pair, pairs)) (omega (arith, lt, width)) in
          let there = ap (λ n. get_or table.places (i * n + k) 0) width in
          omega (arith, there, place, place_index (part_at firsts i) (part_at rests i) (term_at terms k));
      fits = λ i j p pair also second. both_fit i j p (omega (arith, pair, pairs)) (omega (arith, also, pairs)) second;
    }

-- a row, and the place of two sets in it, as they were read
looked_up : (rows : List (List ℕ)) (places row : List ℕ) (m n l place also : ℕ) → row ≡ get_or rows m row → m < length rows
    → place ≡ get_or places n place → n < length places → also ≡ get_or places l also → l < length places
    → get_or row (bit_or place also) 0 ≡ entry rows m (bit_or (get_or places n 0) (get_or places l 0))
looked_up rows places row m n l place also row_is some_row place_is some_place also_is some_also =
    ap (λ (r : List ℕ). get_or r (bit_or place also) 0) (row_is ∙ get_or_default rows m row [] some_row)
    ∙ ap (λ z. entry rows m (bit_or z also)) (place_is ∙ get_or_default places n place 0 some_place)
    ∙ ap (λ z. entry rows m (bit_or (get_or places n 0) z)) (also_is ∙ get_or_default places l also 0 some_also)

-- a pair together with itself
pub pair_alone : (table : LayerSums) (i p : ℕ) → cost_of_both table i i p ≡ layer_cost table i p
pair_alone table i p =
    ap (λ c. get_or table.common p 0 + c)
    (sum_below_same table.terms (term_of_both table i i p) (term_of_pair table i p)
    (λ k lt. ap (entry table.rows (p * table.terms + k)) (or_self (get_or table.places (i * table.terms + k) 0))))

-- Look-ups of two pairs, up to their term k.
module _ (table : LayerSums) (i j p : ℕ) where
  pub no_term_yet : get_or table.common p 0 ≡ get_or table.common p 0 + sum_below 0 (term_of_both table i j p)
  no_term_yet = omega (arith, sum_below_none (term_of_both table i j p))

  pub one_term_more : AreLayerSums table → i < table.pairs → j < table.pairs → p < 60 → (k cost : ℕ) → k < table.terms
      → cost ≡ get_or table.common p 0 + sum_below k (term_of_both table i j p) → (row : List ℕ) (place also : ℕ)
      → row ≡ get_or table.rows (p * table.terms + k) row → place ≡ get_or table.places (i * table.terms + k) place → also ≡ get_or table.places (j * table.terms + k) also
      → (cost + get_or row (bit_or place also) 0 ≡ get_or table.common p 0 + sum_below (k + 1) (term_of_both table i j p))
      × (cost + get_or row (bit_or place also) 0 < 2 ^ 32)
  one_term_more are pair other second k cost lt is row place also row_is place_is also_is =
      let width : ℕ = table.terms in
      let here = looked_up table.rows table.places row (p * width + k) (i * width + k) (j * width + k) place also
      row_is (omega (arith, mul-add-lt p width k 60 second lt, are.rows))
      place_is (omega (arith, mul-add-lt i width k table.pairs pair lt, are.places))
      also_is (omega (arith, mul-add-lt j width k table.pairs other lt, are.places)) in
      let more = sum_below_more k (term_of_both table i j p) in (
        omega (arith, is, more, here),
        omega (arith, is, more, here, sum_of_fewer (k + 1) width (term_of_both table i j p) (omega (arith, lt)), are.fits i j p pair other second),
      )

-- a place that was read is one of a row
pub place_read : (table : LayerSums) (i : ℕ) → AreLayerSums table → i < table.pairs → (k place : ℕ) → k < table.terms
    → place ≡ get_or table.places (i * table.terms + k) place → place < 32
place_read table i are pair k place lt is =
    let there = is ∙ get_or_default table.places (i * table.terms + k) place 0 (omega (arith, mul-add-lt i table.terms k table.pairs pair lt, are.places)) in
    omega (arith, there, are.sets i k pair lt)
