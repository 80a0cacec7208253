-- The lines of a text of frames, one after another: what is written of frames leads to one place, and no line leads on
-- from where a text is refused or ends.
use Rattle.std.proofs.Common.{◌≡◌, ℕ, zero, suc, ◌+◌, ◌*◌, ◌<◌, ◌⊎◌, inl, inr, List, [], ◌∷◌, ◌++◌, length, refl, sym, ap, ◌∙◌, subst, arith}
use Rattle.formats.specs.declared.frame.Frame.{Frame}
use Rattle.formats.specs.declared.frame.TheConstants.{EDGE_LIMIT, ELEMENTS}
use Rattle.formats.specs.Bytes.{line_feed}
use Rattle.formats.specs.Frames.{edge, elements, width}
use Rattle.formats.specs.FrameTexts.{IsElement, IsSecond, MayBegin, Next, letter_at, next_start}
use Rattle.formats.specs.FrameTexts.Next.{NextFrame, Rise, Fall}
use Rattle.formats.proofs.FrameEdgeLaws.{edge_once}
use Rattle.formats.proofs.FrameTellLaws.{one_second}

-- whole frames, and what comes next
abbrev pub State : Type 0
State = List Frame × Next

abbrev pub frame_of : ℕ → ℕ → ℕ → Frame
frame_of at t s = record { at = at; minute = t; second = s }

abbrev pub with_frame : List Frame → ℕ → ℕ → ℕ → State
with_frame frames at t s = (frames ++ frame_of at t s ∷ [], NextFrame)

-- after an element that is over comes the next one, or the frame is whole
abbrev pub Ends : List Frame → ℕ → List ℕ → State → Type 0
Ends frames start es after =
    ((length es < ELEMENTS) × (after ≡ (frames, Rise start es)))
    ⊎ ((length es ≡ ELEMENTS) × ((t : ℕ) × (s : ℕ) × IsSecond t s × (elements t s ≡ es) × (after ≡ with_frame frames start t s)))

-- An edge at this millisecond leads on.
abbrev pub Goes : List Frame → Next → ℕ → State → Type 0
Goes frames NextFrame ms after = MayBegin frames ms × (after ≡ (frames, Fall ms []))
Goes frames (Rise start over) ms after = (ms ≡ next_start start over) × (after ≡ (frames, Fall start over))
Goes frames (Fall start over) ms after =
    (e : ℕ) × IsElement e × (ms ≡ next_start start over + width e) × Ends frames start (over ++ e ∷ []) after

pub width_is : (e : ℕ) → IsElement e → width e ≡ 3 * e + 2
width_is zero h = refl
width_is (suc zero) h = refl
width_is (suc (suc zero)) h = refl
width_is (suc (suc (suc e))) h = absurd (omega (arith, h))

-- the element that ends at a millisecond
pub one_element : (start : ℕ) (over : List ℕ) (ms d e : ℕ) → IsElement d → IsElement e → ms ≡ next_start start over + width d → ms ≡ next_start start over + width e → d ≡ e
one_element start over ms d e h k a b = omega (arith, a, b, width_is d h, width_is e k)

ends_once : (frames : List Frame) (start : ℕ) (es : List ℕ) (a b : State) → Ends frames start es a → Ends frames start es b → a ≡ b
ends_once frames start es a b (inl h) (inl k) = h.1 ∙ sym k.1
ends_once frames start es a b (inl h) (inr k) = absurd (omega (arith, h.0, k.0))
ends_once frames start es a b (inr h) (inl k) = absurd (omega (arith, h.0, k.0))
ends_once frames start es a b (inr h) (inr k) =
    let x = h.1 in
    let y = k.1 in
    let same = one_second x.0 x.1 y.0 y.1 x.2 y.2 (x.3 ∙ sym y.3) in
    x.4 ∙ (ap (λ t. with_frame frames start t x.1) same.0 ∙ (ap (λ s. with_frame frames start y.0 s) same.1 ∙ sym y.4))

-- it leads to one place
pub goes_once : (frames : List Frame) (next : Next) (ms : ℕ) (a b : State) → Goes frames next ms a → Goes frames next ms b → a ≡ b
goes_once frames NextFrame ms a b h k = h.1 ∙ sym k.1
goes_once frames (Rise start over) ms a b h k = h.1 ∙ sym k.1
goes_once frames (Fall start over) ms a b h k =
    let same = one_element start over ms h.0 k.0 h.1 k.1 h.2 k.2 in
    ends_once frames start (over ++ k.0 ∷ []) a b (subst (λ e. Ends frames start (over ++ e ∷ []) a) same h.3) k.3

-- the lines of these edges lead from a state and a text to another state and the rest of the text
abbrev Leads : State → List ℕ → List ℕ → State → List ℕ → Type 0
Leads from text [] to rest = (from ≡ to) × (text ≡ rest)
Leads from text (ms ∷ more) to rest =
    (after : State) × (tail : List ℕ) × (ms < EDGE_LIMIT) × (text ≡ edge (letter_at from.1) ms ++ tail) × Goes from.0 from.1 ms after
    × Leads after tail more to rest

abbrev pub Reaches : State → List ℕ → State → List ℕ → Type 0
Reaches from text to rest = (edges : List ℕ) × Leads from text edges to rest

pub reaches-nil : (at : State) (text : List ℕ) → Reaches at text at text
reaches-nil at text = ([], (refl, refl))

leads-then : (edges more : List ℕ) (a b c : State) (text mid rest : List ℕ) → Leads a text edges b mid → Leads b mid more c rest → Leads a text (edges ++ more) c rest
leads-then [] more a b c text mid rest h k = subst (λ s. Leads s text more c rest) (sym h.0) (subst (λ t. Leads b t more c rest) (sym h.1) k)
leads-then (ms ∷ edges) more a b c text mid rest h k = (h.0, h.1, h.2, h.3, h.4, leads-then edges more h.0 b c h.1 mid rest h.5 k)

pub reaches-then : (a b c : State) (text mid rest : List ℕ) → Reaches a text b mid → Reaches b mid c rest → Reaches a text c rest
reaches-then a b c text mid rest h k = (h.0 ++ k.0, leads-then h.0 k.0 a b c text mid rest h.1 k.1)

pub reaches-one : (a b : State) (text rest : List ℕ) (ms : ℕ) → ms < EDGE_LIMIT → text ≡ edge (letter_at a.1) ms ++ rest → Goes a.0 a.1 ms b → Reaches a text b rest
reaches-one a b text rest ms small is goes = (ms ∷ [], (b, rest, small, is, goes, (refl, refl)))

-- no edge leads on
abbrev pub IsStuck : State → List ℕ → Type 0
IsStuck at rest = (ms : ℕ) (tail : List ℕ) (after : State) → ms < EDGE_LIMIT → rest ≡ edge (letter_at at.1) ms ++ tail → Goes at.0 at.1 ms after → ⊥

pub letters : (next : Next) → line_feed < letter_at next
letters NextFrame = omega arith
letters (Rise start over) = omega arith
letters (Fall start over) = omega arith

-- so a text leads to one end
pub one_end : (edges more : List ℕ) (from a b : State) (text r s : List ℕ) → Leads from text edges a r → Leads from text more b s → IsStuck a r → IsStuck b s
    → (a ≡ b) × (r ≡ s)
one_end [] [] from a b text r s h k stuck also = (sym h.0 ∙ k.0, sym h.1 ∙ k.1)
one_end [] (n ∷ more) from a b text r s h k stuck also =
    let here : IsStuck from text = subst (λ t. IsStuck t text) (sym h.0) (subst (λ t. IsStuck a t) (sym h.1) stuck) in
    absurd (here n k.1 k.0 k.2 k.3 k.4)
one_end (m ∷ edges) [] from a b text r s h k stuck also =
    let here : IsStuck from text = subst (λ t. IsStuck t text) (sym k.0) (subst (λ t. IsStuck b t) (sym k.1) also) in
    absurd (here m h.1 h.0 h.2 h.3 h.4)
one_end (m ∷ edges) (n ∷ more) from a b text r s h k stuck also =
    let same = edge_once (letter_at from.1) (letters from.1) m n h.1 k.1 h.2 k.2 (sym h.3 ∙ k.3) in
    let goes : Goes from.0 from.1 n h.0 = subst (λ ms. Goes from.0 from.1 ms h.0) same.0 h.4 in
    let after = goes_once from.0 from.1 n h.0 k.0 goes k.4 in
    one_end edges more k.0 a b k.1 r s
    (subst (λ t. Leads t k.1 edges a r) after (subst (λ t. Leads h.0 t edges a r) same.1 h.5)) k.5 stuck also
