-- A text begins with one line at most that may stand there.
use Rattle.std.proofs.Common.{◌≡◌, ℕ, ◌<◌, ◌≤◌, ◌^◌, List, ◌∷◌, ◌++◌, get_or, codes, Option, Some, None, refl, sym, ap, ◌∙◌, arith}
use Rattle.std.proofs.lemmas.List.{append_cancel_left}
use Rattle.formats.specs.Bytes.{line, line_feed, space}
use Rattle.certificates.specs.declared.certificate.Kind.{Kind}
use Rattle.certificates.specs.declared.certificate.Kind.TheVariants.{Opened, Pruned, Empty, Leaf}
use Rattle.certificates.specs.declared.certificate.Line.{Line}
use Rattle.certificates.specs.Certificates.{CanBeNamed, IsLine}
use Rattle.certificates.specs.Texts.{CanStand, CanTell, Entry, HeadLine, IsWithin, Next, entry_line, head_text, kind_text, stations_by, stations_text, step_text}
use Rattle.certificates.specs.Texts.Entry.{Tells, Part, Step, End}
use Rattle.certificates.specs.Texts.HeadLine.{Version, Heard, Start, Phase, Seconds, From, To, Ceiling, First, Second}
use Rattle.certificates.specs.Texts.Next.{AtHead, AtParts, AtStep, AtEnd}
use Rattle.certificates.proofs.FieldLaws.{IsSmall, avoids_by, lines_once, stations_avoid, stations_once, word_once}
use Rattle.certificates.proofs.StepLaws.{from_span, step_avoids, step_once}

pub within_small : (least end : ℕ) (v : Option ℕ) → end ≤ 2 ^ 64 → IsWithin least end v → IsSmall v
within_small least end None few h = absurd h
within_small least end (Some n) few h = omega (arith, few, h.1)

pub named_small : (v : Option ℕ) → CanBeNamed v → IsSmall v
named_small None h = tt
named_small (Some key) h = omega (arith, h.0, h.1)

-- a number in a range is one
pub within_is : (least end : ℕ) (v : Option ℕ) → IsWithin least end v → (n : ℕ) × (v ≡ Some n) × (least ≤ n) × (n < end)
within_is least end None h = absurd h
within_is least end (Some n) h = (n, refl, h.0, h.1)

stations_line : (v w : Option ℕ) (r s : List ℕ) → IsWithin 1 16 v → IsWithin 1 16 w → line (head_text Heard v) ++ r ≡ line (head_text Heard w) ++ s → (v ≡ w) × (r ≡ s)
stations_line None w r s h k e = absurd h
stations_line (Some m) None r s h k e = absurd k
stations_line (Some m) (Some n) r s h k e =
    let same = lines_once (stations_text (stations_by m)) (stations_text (stations_by n)) r s (stations_avoid m h.1) (stations_avoid n k.1) e in
    (ap Some (stations_once m n h.1 k.1 same.0), same.1)

head_once : (told : HeadLine) (before v w : Option ℕ) (r s : List ℕ) → CanTell told before v → CanTell told before w
    → line (head_text told v) ++ r ≡ line (head_text told w) ++ s → (v ≡ w) × (r ≡ s)
head_once Version before v w r s h k e =
    word_once (codes "tsbank certificate ") v w r s (avoids_by line_feed (codes "tsbank certificate ") refl) (within_small _ _ v (omega arith) h) (within_small _ _ w (omega arith) k) e
head_once Heard before v w r s h k e = stations_line v w r s h.0 k.0 e
head_once Start before v w r s h k e =
    word_once (codes "start ") v w r s (avoids_by line_feed (codes "start ") refl) (within_small _ _ v (omega arith) h) (within_small _ _ w (omega arith) k) e
head_once Phase before v w r s h k e =
    word_once (codes "phase ") v w r s (avoids_by line_feed (codes "phase ") refl) (within_small _ _ v (omega arith) h) (within_small _ _ w (omega arith) k) e
head_once Seconds before v w r s h k e =
    word_once (codes "seconds ") v w r s (avoids_by line_feed (codes "seconds ") refl) (within_small _ _ v (omega arith) h) (within_small _ _ w (omega arith) k) e
head_once From before v w r s h k e =
    word_once (codes "from ") v w r s (avoids_by line_feed (codes "from ") refl) (within_small _ _ v (omega arith) h) (within_small _ _ w (omega arith) k) e
head_once To before v w r s h k e =
    word_once (codes "to ") v w r s (avoids_by line_feed (codes "to ") refl) (within_small _ _ v (omega arith) h) (within_small _ _ w (omega arith) k) e
head_once Ceiling before v w r s h k e =
    word_once (codes "ceiling ") v w r s (avoids_by line_feed (codes "ceiling ") refl) (within_small _ _ v (omega arith) h) (within_small _ _ w (omega arith) k) e
head_once First before v w r s h k e =
    word_once (codes "first ") v w r s (avoids_by line_feed (codes "first ") refl) (named_small v h) (named_small w k) e
head_once Second before v w r s h k e =
    word_once (codes "second ") v w r s (avoids_by line_feed (codes "second ") refl) (named_small v h) (named_small w k) e

tells_once : (due told also : HeadLine) (before v w : Option ℕ) (r s : List ℕ) → (told ≡ due) × CanTell due before v → (also ≡ due) × CanTell due before w
    → entry_line (Tells told v) ++ r ≡ entry_line (Tells also w) ++ s → (Tells told v ≡ Tells also w) × (r ≡ s)
tells_once due told also before v w r s h k e =
    let at : entry_line (Tells due v) ++ r ≡ entry_line (Tells due w) ++ s =
    ap (λ t. entry_line (Tells t v) ++ r) (sym h.0) ∙ (e ∙ ap (λ t. entry_line (Tells t w) ++ s) k.0) in
    let same = head_once due before v w r s h.1 k.1 at in
    let heads : told ≡ also = h.0 ∙ sym k.0 in
    ((λ i. Tells (heads i) (same.0 i)), same.1)

part_once : (p m n : ℕ) (r s : List ℕ) → m ≡ p → n ≡ p → entry_line (Part m) ++ r ≡ entry_line (Part n) ++ s → (Part m ≡ Part n) × (r ≡ s)
part_once p m n r s h k e =
    let same : m ≡ n = h ∙ sym k in
    (ap Part same, append_cancel_left (entry_line (Part n)) r s (ap (λ x. entry_line (Part x) ++ r) (sym same) ∙ e))

steps_once : (l m : Line) (r s : List ℕ) → IsLine l → IsLine m → entry_line (Step l) ++ r ≡ entry_line (Step m) ++ s → (Step l ≡ Step m) × (r ≡ s)
steps_once l m r s is also e =
    let same = lines_once (step_text l) (step_text m) r s (step_avoids l is) (step_avoids m also) e in
    (ap Step (step_once l m is also same.0), same.1)

-- lines of different kinds begin with different letters
abbrev first_byte : List ℕ → ℕ
first_byte xs = get_or xs 0 0

kind_byte : (k : Kind) (t r : List ℕ) → first_byte (line (kind_text k ++ t) ++ r) ≤ 80
kind_byte Opened t r = omega arith
kind_byte Pruned t r = omega arith
kind_byte Empty t r = omega arith
kind_byte Leaf t r = omega arith

pub step_byte : (l : Line) (r : List ℕ) → first_byte (entry_line (Step l) ++ r) ≤ 80
step_byte l r = kind_byte l.kind (space ∷ from_span l) r

part_byte : (n : ℕ) (r : List ℕ) → first_byte (entry_line (Part n) ++ r) ≡ 119
part_byte n r = refl

end_byte : (r : List ℕ) → first_byte (entry_line End ++ r) ≡ 101
end_byte r = refl

not_part_step : (n : ℕ) (l : Line) (r s : List ℕ) → entry_line (Part n) ++ r ≡ entry_line (Step l) ++ s → ⊥
not_part_step n l r s e = omega (arith, part_byte n r, step_byte l s, ap first_byte e)

not_part_end : (n : ℕ) (r s : List ℕ) → entry_line (Part n) ++ r ≡ entry_line End ++ s → ⊥
not_part_end n r s e = omega (arith, part_byte n r, end_byte s, ap first_byte e)

not_step_end : (l : Line) (r s : List ℕ) → entry_line (Step l) ++ r ≡ entry_line End ++ s → ⊥
not_step_end l r s e = omega (arith, step_byte l r, end_byte s, ap first_byte e)

pub entry_once : (next : Next) (d e : Entry) (r s : List ℕ) → CanStand next d → CanStand next e → entry_line d ++ r ≡ entry_line e ++ s → (d ≡ e) × (r ≡ s)
entry_once (AtHead due before) (Tells a v) (Tells b w) r s h k is = tells_once due a b before v w r s h k is
entry_once (AtHead due before) (Tells a v) (Part n) r s h k is = absurd k
entry_once (AtHead due before) (Tells a v) (Step l) r s h k is = absurd k
entry_once (AtHead due before) (Tells a v) End r s h k is = absurd k
entry_once (AtHead due before) (Part n) e r s h k is = absurd h
entry_once (AtHead due before) (Step l) e r s h k is = absurd h
entry_once (AtHead due before) End e r s h k is = absurd h
entry_once AtParts (Part m) (Part n) r s h k is = part_once 0 m n r s h k is
entry_once AtParts (Part m) (Tells b w) r s h k is = absurd k
entry_once AtParts (Part m) (Step l) r s h k is = absurd k
entry_once AtParts (Part m) End r s h k is = absurd k
entry_once AtParts (Tells a v) e r s h k is = absurd h
entry_once AtParts (Step l) e r s h k is = absurd h
entry_once AtParts End e r s h k is = absurd h
entry_once (AtStep p n) (Tells a v) e r s h k is = absurd h
entry_once (AtStep p n) (Part a) (Tells b w) r s h k is = absurd k
entry_once (AtStep p n) (Part a) (Part b) r s h k is = part_once _ a b r s h.0 k.0 is
entry_once (AtStep p n) (Part a) (Step m) r s h k is = absurd (not_part_step a m r s is)
entry_once (AtStep p n) (Part a) End r s h k is = absurd (not_part_end a r s is)
entry_once (AtStep p n) (Step l) (Tells b w) r s h k is = absurd k
entry_once (AtStep p n) (Step l) (Part b) r s h k is = absurd (not_part_step b l s r (sym is))
entry_once (AtStep p n) (Step l) (Step m) r s h k is = steps_once l m r s h k is
entry_once (AtStep p n) (Step l) End r s h k is = absurd (not_step_end l r s is)
entry_once (AtStep p n) End (Tells b w) r s h k is = absurd k
entry_once (AtStep p n) End (Part b) r s h k is = absurd (not_part_end b s r (sym is))
entry_once (AtStep p n) End (Step m) r s h k is = absurd (not_step_end m s r (sym is))
entry_once (AtStep p n) End End r s h k is = (refl, append_cancel_left (entry_line End) r s is)
entry_once AtEnd (Tells a v) e r s h k is = absurd h
entry_once AtEnd (Part a) e r s h k is = absurd h
entry_once AtEnd (Step l) e r s h k is = absurd h
entry_once AtEnd End e r s h k is = absurd h

-- behind the end nothing may stand
pub nothing_stands : (e : Entry) → CanStand AtEnd e → ⊥
nothing_stands (Tells told v) can = can
nothing_stands (Part n) can = can
nothing_stands (Step l) can = can
nothing_stands End can = can
