-- The first line of a text, and what stands on the line of an edge.
use Rattle.std.proofs.Common.{◌≡◌, ℕ, suc, ◌+◌, ◌<◌, ◌≤◌, ◌==◌, not, cond, Bool, true, false, List, [], ◌∷◌, ◌++◌, length, take, drop, get_or, nat_lt, Some, None, refl, sym, ap, ◌∙◌, arith, append_assoc, length-take}
use Rattle.std.specs.Fmt.{decimal}
use Rattle.std.specs.List.{position, prefix_len}
use Rattle.std.proofs.Math.Numerals.{add-one}
use Rattle.std.proofs.Math.Seq.{drop-cons}
use Rattle.std.proofs.lemmas.Bool.{eq-eqb, eqb-true, false≢true, ltb-false}
use Rattle.std.proofs.lemmas.List.{get_or-take, same_from_push, take-append-drop}
use Rattle.std.proofs.lemmas.List.Quantifiers.{position-Some}
use Rattle.std.proofs.lemmas.List.Sums.{prefix_len_passes}
use Rattle.formats.specs.Bytes.{line_feed, space}
use Rattle.formats.specs.Frames.{edge}
use Rattle.formats.specs.FrameTexts.{BeginsWithEdge}
use Rattle.formats.proofs.FrameEdgeLaws.{Avoids, apart, avoids_each, edge_bytes, front_avoids, no_edge_end, split_once}
use Rattle.irig_frames.specs.Edges.{SpellsEdge, SpellsTime}

-- the first line of a text, and the text after it
pub line_in : (text : List ℕ) (end : ℕ) → Some end ≡ position (λ b. b == line_feed) text
    → Avoids line_feed (take end text) × (text ≡ take end text ++ line_feed ∷ drop (end + 1) text)
line_in text end e =
    let at = position-Some (λ b. b == line_feed) text end 0 (sym e) in
    let lf : get_or text end 0 ≡ line_feed = eqb-true (get_or text end 0) line_feed at.1 in
    let parts : take end text ++ get_or text end 0 ∷ drop (suc end) text ≡ text =
    ap (λ l. take end text ++ l) (sym (drop-cons text end 0 at.0)) ∙ take-append-drop end text in (
      avoids_each line_feed (take end text) (λ k h same.
          let within : k < end = omega (arith, h, length-take end text) in
          false≢true (sym (at.2 k within) ∙ eq-eqb (get_or text k 0) line_feed (sym (get_or-take end text k 0 within) ∙ same))),
      sym parts ∙ (ap (λ b. take end text ++ b ∷ drop (suc end) text) lf ∙ ap (λ n. take end text ++ line_feed ∷ drop n text) (sym (add-one end))),
    )

no_place : (n m : ℕ) → None ≡ cond (nat_lt n m) (Some n) None → m ≤ n
no_place n m e = go (nat_lt n m) refl e
  where
    go : (t : Bool) → nat_lt n m ≡ t → None ≡ cond t (Some n) None → m ≤ n
    go true t e = absurd cc
    go false t e = ltb-false n m t

-- a text without an LF
pub no_line_in : (text : List ℕ) → None ≡ position (λ b. b == line_feed) text → Avoids line_feed text
no_line_in text e =
    let all = no_place (prefix_len (λ b. not (b == line_feed)) text) (length text) e in
    avoids_each line_feed text (λ k h same.
    let other = prefix_len_passes (λ b. not (b == line_feed)) text k 0 (omega (arith, h, all)) in
    false≢true (sym (ap not (eq-eqb (get_or text k 0) line_feed same)) ∙ other))

module _ (letter : ℕ) (is_letter : line_feed < letter) (text : List ℕ) (end : ℕ) (at : Some end ≡ position (λ b. b == line_feed) text) where
  -- where the line is that of an edge, the text begins with it
  pub edge_found : (ms : ℕ) → SpellsEdge letter (take end text) ms → text ≡ edge letter ms ++ drop (end + 1) text
  edge_found ms spells =
      (line_in text end at).1 ∙ (ap (λ l. l ++ line_feed ∷ drop (end + 1) text) spells.1 ∙ sym (apart letter is_letter ms (drop (end + 1) text)))

  -- and only there
  pub edge_spelled : (ms : ℕ) → BeginsWithEdge letter text ms → SpellsEdge letter (take end text) ms
  edge_spelled ms begins =
      let line = line_in text end at in
      let same = split_once line_feed (edge_bytes letter ms) (take end text) begins.1.0 (drop (end + 1) text) (front_avoids letter is_letter ms begins.0) line.0
      (sym (apart letter is_letter ms begins.1.0) ∙ (sym begins.1.1 ∙ line.1)) in
      (begins.0, sym same.0)

pub no_edge : (letter : ℕ) → line_feed < letter → (text : List ℕ) → None ≡ position (λ b. b == line_feed) text → (ms : ℕ) → BeginsWithEdge letter text ms → ⊥
no_edge letter is_letter text e ms begins = no_edge_end letter is_letter text (no_line_in text e) ms begins

-- the last two bytes of an edge's line, taken off in turn, and what stands before them
pub edge_ends : (line front digits : List ℕ) (gap last letter ms : ℕ) → line ≡ front ++ last ∷ [] → front ≡ digits ++ gap ∷ [] → SpellsEdge letter line ms
    → SpellsTime digits ms × (gap ≡ space) × (last ≡ letter)
edge_ends line front digits gap last letter ms e d spells =
    let joined : (digits ++ gap ∷ []) ++ last ∷ [] ≡ (decimal ms ++ space ∷ []) ++ letter ∷ [] =
    sym (e ∙ ap (λ (l : List ℕ). l ++ last ∷ []) d) ∙ (spells.1 ∙ sym (append_assoc (decimal ms) (space ∷ []) (letter ∷ []))) in
    let (fronts, lasts) = same_from_push (digits ++ gap ∷ []) (decimal ms ++ space ∷ []) last letter joined in
    let (times, gaps) = same_from_push digits (decimal ms) gap space fronts in
    ((spells.0, times), gaps, lasts)

pub last_of : (line front : List ℕ) (last letter ms : ℕ) → line ≡ front ++ last ∷ [] → SpellsEdge letter line ms → (front ≡ decimal ms ++ space ∷ []) × (last ≡ letter)
last_of line front last letter ms e spells =
    let same = same_from_push front (decimal ms ++ space ∷ []) last letter (sym e ∙ (spells.1 ∙ sym (append_assoc (decimal ms) (space ∷ []) (letter ∷ [])))) in
    (same.0, same.1)

pub edge_made : (line front digits : List ℕ) (gap last letter ms : ℕ) → line ≡ front ++ last ∷ [] → front ≡ digits ++ gap ∷ [] → gap ≡ space → last ≡ letter
    → SpellsTime digits ms → SpellsEdge letter line ms
edge_made line front digits gap last letter ms e d s l time =
    (time.0, e ∙ (ap (λ f. f ++ last ∷ []) d ∙ (append_assoc digits (gap ∷ []) (last ∷ []) ∙ (ap (λ ds. ds ++ gap ∷ last ∷ []) time.1 ∙ (ap (λ g. decimal ms ++ g ∷ last ∷ []) s ∙ ap (λ k. decimal ms ++ space ∷ k ∷ []) l)))))
