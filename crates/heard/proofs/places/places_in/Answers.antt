-- One place after the other.
use Rattle.std.proofs.Common.{◌∷◌, [], ◌++◌, ℕ, List, sym, ap, ◌∙◌, arith}
use Rattle.std.proofs.lemmas.List.FromFn.{map-range_with_len_more}
use Rattle.heard.specs.Kept.{place_in}
use Rattle.heard.proofs.places.places_in.Goals as goal

pub loop-i-preserved : goal.loop-i-preserved
loop-i-preserved c =
    c.in_ok-push.ensures.items ∙ ap (λ (p : ℕ). c.loop-i.places.items ++ p ∷ []) c.place_in.ensures
    ∙ ap (λ (ps : List ℕ). ps ++ place_in c.args.stations.now c.loop-i.i ∷ []) c.loop-i.invariant
    ∙ sym (map-range_with_len_more (place_in c.args.stations.now) 0 c.loop-i.i c.loop-i.i (omega arith))
