-- Lines that may not stand: a text begins with no good line where its first line is another, or where it has none.
use Rattle.std.proofs.Common.{◌≡◌, ℕ, ◌+◌, ◌^◌, ◌<◌, ◌≤◌, List, [], ◌∷◌, ◌++◌, map, length, get_or, codes, Option, Some, None, refl, sym, ap, ◌∙◌, subst, arith}
use Rattle.std.specs.Fmt.{decimal, digits}
use Rattle.std.specs.List.{AllByRecursion}
use Rattle.std.specs.Str.Parse.{digits_value, AllDigits}
use Rattle.std.proofs.lemmas.Fmt.{digits_value-decimal}
use Rattle.std.proofs.lemmas.Str.Parse.{numerals_by_value, tells_digits}
use Rattle.formats.specs.Bytes.{line, line_feed}
use Rattle.formats.specs.Refusals.{named_key}
use Rattle.formats.proofs.FrameEdgeLaws.{Avoids}
use Rattle.certificates.specs.declared.certificate.Line.{Line}
use Rattle.certificates.specs.declared.limits.TheConstants.{MOST_STEPS}
use Rattle.certificates.specs.Certificates.{IsLine}
use Rattle.certificates.specs.Texts.{BeginsWith, CanStand, CanTell, Entry, HeadLine, IsWithin, Lead, Next, entries_text, entry_line, entry_text, head_text, steps_text}
use Rattle.certificates.specs.Texts.Entry.{Tells, Part, Step, End}
use Rattle.certificates.specs.Texts.HeadLine.{Version, Heard, Start, Phase, Seconds, From, To, Ceiling, First, Second}
use Rattle.certificates.specs.Texts.Next.{AtHead, AtParts, AtStep, AtEnd}
use Rattle.certificates.proofs.FieldLaws.{IsSmall, apart, avoids_append, avoids_by, decimal_avoids, lines_once, named_avoids, stations_avoid}
use Rattle.certificates.proofs.StepLaws.{step_avoids}
use Rattle.certificates.proofs.EntryLaws.{named_small, within_small}

low : line_feed < 45
low = omega arith

word_avoids : (word : List ℕ) (v : Option ℕ) → Avoids line_feed word → IsSmall v → Avoids line_feed (word ++ named_key v)
word_avoids word v avoids small = avoids_append line_feed word (named_key v) avoids (named_avoids line_feed low v small)

names_avoid : (v : Option ℕ) → IsWithin 1 16 v → Avoids line_feed (head_text Heard v)
names_avoid None h = absurd h
names_avoid (Some mask) h = stations_avoid mask h.1

head_avoids : (told : HeadLine) (before v : Option ℕ) → CanTell told before v → Avoids line_feed (head_text told v)
head_avoids Version before v h = word_avoids (codes "tsbank certificate ") v (avoids_by line_feed (codes "tsbank certificate ") refl) (within_small _ _ v (omega arith) h)
head_avoids Heard before v h = names_avoid v h.0
head_avoids Start before v h = word_avoids (codes "start ") v (avoids_by line_feed (codes "start ") refl) (within_small _ _ v (omega arith) h)
head_avoids Phase before v h = word_avoids (codes "phase ") v (avoids_by line_feed (codes "phase ") refl) (within_small _ _ v (omega arith) h)
head_avoids Seconds before v h = word_avoids (codes "seconds ") v (avoids_by line_feed (codes "seconds ") refl) (within_small _ _ v (omega arith) h)
head_avoids From before v h = word_avoids (codes "from ") v (avoids_by line_feed (codes "from ") refl) (within_small _ _ v (omega arith) h)
head_avoids To before v h = word_avoids (codes "to ") v (avoids_by line_feed (codes "to ") refl) (within_small _ _ v (omega arith) h)
head_avoids Ceiling before v h = word_avoids (codes "ceiling ") v (avoids_by line_feed (codes "ceiling ") refl) (within_small _ _ v (omega arith) h)
head_avoids First before v h = word_avoids (codes "first ") v (avoids_by line_feed (codes "first ") refl) (named_small v h)
head_avoids Second before v h = word_avoids (codes "second ") v (avoids_by line_feed (codes "second ") refl) (named_small v h)

part_avoids : (n : ℕ) → n < 2 ^ 64 → Avoids line_feed (entry_text (Part n))
part_avoids n small = avoids_append line_feed (codes "worker ") (decimal n) (avoids_by line_feed (codes "worker ") refl) (decimal_avoids line_feed low n small)

-- no line that may stand somewhere has an LF within
entry_avoids : (next : Next) (e : Entry) → CanStand next e → Avoids line_feed (entry_text e)
entry_avoids (AtHead due before) (Tells told v) h = subst (λ t. Avoids line_feed (head_text t v)) (sym h.0) (head_avoids due before v h.1)
entry_avoids (AtHead due before) (Part n) h = absurd h
entry_avoids (AtHead due before) (Step l) h = absurd h
entry_avoids (AtHead due before) End h = absurd h
entry_avoids AtParts (Tells told v) h = absurd h
entry_avoids AtParts (Part n) h = part_avoids n (omega (arith, h))
entry_avoids AtParts (Step l) h = absurd h
entry_avoids AtParts End h = absurd h
entry_avoids (AtStep p n) (Tells told v) h = absurd h
entry_avoids (AtStep p n) (Part m) h = part_avoids m (omega (arith, h.1))
entry_avoids (AtStep p n) (Step l) h = step_avoids l h
entry_avoids (AtStep p n) End h = avoids_by line_feed (codes "end") refl
entry_avoids AtEnd (Tells told v) h = absurd h
entry_avoids AtEnd (Part n) h = absurd h
entry_avoids AtEnd (Step l) h = absurd h
entry_avoids AtEnd End h = absurd h

-- the first line is another
pub no_line : (next : Next) (bytes rest : List ℕ) → Avoids line_feed bytes → ((e : Entry) → CanStand next e → entry_text e ≡ bytes → ⊥)
    → (e : Entry) → CanStand next e → BeginsWith (entry_line e) (line bytes ++ rest) → ⊥
no_line next bytes rest avoids never e can begins =
    never e can (lines_once (entry_text e) bytes begins.0 rest (entry_avoids next e can) avoids (sym begins.1)).0

-- there is no whole line
not_avoided : (xs r : List ℕ) → Avoids line_feed (xs ++ line_feed ∷ r) → ⊥
not_avoided [] r a = a.0 refl
not_avoided (x ∷ xs) r a = not_avoided xs r a.1

pub no_end : (rest : List ℕ) → Avoids line_feed rest → (e : Entry) → BeginsWith (entry_line e) rest → ⊥
no_end rest avoids e begins = not_avoided (entry_text e) begins.0 (subst (Avoids line_feed) (begins.1 ∙ apart (entry_text e) begins.0) avoids)

-- 00 is no number
zero_twice : (n : ℕ) → decimal n ≡ codes "00" → n ≡ 0 → ⊥
unfolding digits
zero_twice n e none =
    let one : codes "0" ≡ codes "00" = sym (ap decimal none) ∙ e in
    omega (arith, ap (λ (l : List ℕ). length l) one)

pub no_zeros : (v : Option ℕ) → IsSmall v → named_key v ≡ codes "00" → ⊥
no_zeros None small e = omega (arith, ap (λ (l : List ℕ). get_or l 0 0) e)
no_zeros (Some n) small e =
    zero_twice n e (sym (digits_value-decimal (numerals_by_value (AllDigits 10) tells_digits) n small) ∙ ap (λ (l : List ℕ). digits_value 10 l) e)

-- steps lead on, and one more is one too many
pub steps_on : (part steps : ℕ) (ls : List Line) → AllByRecursion IsLine ls → steps + length ls ≤ MOST_STEPS
    → Lead (AtStep part steps) (map Step ls) (AtStep part (steps + length ls))
steps_on part steps [] all few = let same : steps + 0 ≡ steps = omega arith in ap (AtStep part) same
steps_on part steps (l ∷ ls) all few =
    let same : steps + length (l ∷ ls) ≡ (steps + 1) + length ls = omega arith in
    (all.0, omega (arith, few), subst (λ n. Lead (AtStep part (steps + 1)) (map Step ls) (AtStep part n)) (sym same) (steps_on part (steps + 1) ls all.1 (omega (arith, few))))

pub text_of_steps : (ls : List Line) → entries_text (map Step ls) ≡ steps_text ls
text_of_steps [] = refl
text_of_steps (l ∷ ls) = ap (λ m. entry_line (Step l) ++ m) (text_of_steps ls)
