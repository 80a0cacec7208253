-- The first line of a text is that of a query, or the text begins with none.
use Rattle.std.proofs.Common.{◌≡◌, ℕ, ◌+◌, ◌≤◌, ◌==◌, List, ◌∷◌, ◌++◌, take, drop, Some, None, [], refl, sym, ap, ◌∙◌, subst, arith}
use Rattle.std.specs.Fmt.{decimal}
use Rattle.std.specs.List.{position}
use Rattle.std.proofs.lemmas.Fmt.{decimal_injective}
use Rattle.formats.specs.Bytes.{line_feed}
use Rattle.formats.proofs.FrameEdgeLaws.{Avoids, split_once}
use Rattle.irig_frames.specs.Edges.{SpellsTime}
use Rattle.irig_frames.proofs.EdgeLaws.{line_in, no_line_in}
use Rattle.board_due.specs.Queries.{BeginsWithQuery, query_line}
use Rattle.board_due.specs.declared.queries.TheConstants.{QUERY_LIMIT}
use Rattle.board_due.proofs.QueryLaws.{apart, number_avoids}
use Rattle.board_queries.specs.Reading.{SpellsQuery}

module _ (text : List ℕ) (end : ℕ) (at : Some end ≡ position (λ b. b == line_feed) text) where
  -- where the line is that of a query, the text begins with it
  pub query_found : (ms : ℕ) → SpellsQuery (take end text) ms → text ≡ query_line ms ++ drop (end + 1) text
  query_found ms spells =
      (line_in text end at).1 ∙ (ap (λ l. l ++ line_feed ∷ drop (end + 1) text) spells.1 ∙ sym (apart ms (drop (end + 1) text)))

  -- and only there
  pub query_spelled : (begins : BeginsWithQuery text) → SpellsQuery (take end text) begins.0
  query_spelled begins =
      let line = line_in text end at in
      let same = split_once line_feed (decimal begins.0) (take end text) begins.1 (drop (end + 1) text) (number_avoids begins.0 begins.2) line.0
      (sym (apart begins.0 begins.1) ∙ (sym begins.3 ∙ line.1)) in
      (begins.2, sym same.0)

not_avoided : (c : ℕ) (xs r : List ℕ) → Avoids c (xs ++ c ∷ r) → ⊥
not_avoided c [] r a = a.0 refl
not_avoided c (x ∷ xs) r a = not_avoided c xs r a.1

pub no_query : (text : List ℕ) → None ≡ position (λ b. b == line_feed) text → ¬ (BeginsWithQuery text)
no_query text e begins =
    not_avoided line_feed (decimal begins.0) begins.1 (subst (Avoids line_feed) (begins.3 ∙ apart begins.0 begins.1) (no_line_in text e))

-- a number that is too large is that of no query
pub too_large : (line : List ℕ) (time : ℕ) → SpellsTime line time → QUERY_LIMIT ≤ time → (ms : ℕ) → ¬ (SpellsQuery line ms)
too_large line time spells large ms query =
    let same = decimal_injective time ms (omega (arith, spells.0)) (omega (arith, query.0)) (sym spells.1 ∙ query.1) in
    omega (arith, same, large, query.0)

-- a query's number is a time
pub is_time : (line : List ℕ) (ms : ℕ) → SpellsQuery line ms → SpellsTime line ms
is_time line ms query = (omega (arith, query.0), query.1)
