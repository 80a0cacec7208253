-- Each text has one outcome: its lines lead on to the end, or up to the first bad line.
use Rattle.std.proofs.Common.{◌≡◌, ℕ, suc, ◌+◌, ◌⊎◌, inl, inr, List, [], ◌∷◌, ◌++◌, length, refl, sym, ap, ◌∙◌, subst}
use Rattle.definitions.specs.heard.Logs.{Records}
use Rattle.formats.specs.declared.fault.LineFault.{LineFault}
use Rattle.formats.specs.LogLines.{lines_of, ReadsOn, IsLog, IsBad, IsRefused, HasOutcome}
use Rattle.formats.specs.LogOrder.{IsOrderly}
use Rattle.formats.proofs.LineLaws.{Goes, goes_once, bad_stops, bad_once, judged}
use Rattle.formats.proofs.OrderLaws.{IsOrderly-push, IsOrderly-nil}

-- the first line leads on to the others
first : (before : Records) (line : List ℕ) (lines : List (List ℕ)) (all : Records) → ReadsOn before (line ∷ lines) all
    → (after : Records) × Goes before line after × ReadsOn after lines all
first before line lines all (inl h) = (before, inl (h.0, refl), h.1)
first before line lines all (inr h) = (before ++ h.0 ∷ [], inr (h.0, h.1, h.2, h.3, refl), h.4)

ReadsOn-cons : (before after : Records) (line : List ℕ) (lines : List (List ℕ)) (all : Records) → Goes before line after → ReadsOn after lines all
    → ReadsOn before (line ∷ lines) all
ReadsOn-cons before after line lines all (inl g) h = inl (g.0, subst (λ m. ReadsOn m lines all) g.1 h)
ReadsOn-cons before after line lines all (inr g) h = inr (g.0, g.1, g.2, g.3, subst (λ m. ReadsOn m lines all) g.4 h)

-- the first bad line of these lines, counted from 0, after the records before
abbrev StopsAt : Records → List (List ℕ) → ℕ → LineFault → Type 0
StopsAt before [] n fault = ⊥
StopsAt before (line ∷ lines) n fault =
    (IsBad before line fault × (n ≡ 0))
    ⊎ ((after : Records) × (m : ℕ) × Goes before line after × StopsAt after lines m fault × (n ≡ suc m))

-- it is found where a refusal says
from_front : (before : Records) (front : List (List ℕ)) (line : List ℕ) (back : List (List ℕ)) (records : Records) (fault : LineFault)
    → ReadsOn before front records → IsBad records line fault → StopsAt before (front ++ line ∷ back) (length front) fault
from_front before [] line back records fault good bad = inl (subst (λ b. IsBad b line fault) good bad, refl)
from_front before (l ∷ ls) line back records fault good bad =
    let (after, g, rest) = first before l ls records good in
    inr (after, length ls, g, from_front after ls line back records fault rest bad, refl)

stops_at : (text : List ℕ) (number : ℕ) (fault : LineFault) → IsRefused text number fault → (n : ℕ) × (number ≡ n + 1) × StopsAt [] (lines_of text) n fault
stops_at text number fault h =
    (length h.front, h.number, subst (λ ls. StopsAt [] ls (length h.front) fault) (sym h.lines) (from_front [] h.front h.line h.back h.records fault h.good h.bad))

-- and a refusal says where it is found
record Refuses (before : Records) (lines : List (List ℕ)) (n : ℕ) (fault : LineFault) : Type 0 where
  front : List (List ℕ)
  line : List ℕ
  back : List (List ℕ)
  records : Records
  parts : lines ≡ front ++ line ∷ back
  number : n ≡ length front
  good : ReadsOn before front records
  bad : IsBad records line fault

refuses : (before : Records) (lines : List (List ℕ)) (n : ℕ) (fault : LineFault) → StopsAt before lines n fault → Refuses before lines n fault
refuses before [] n fault h = absurd h
refuses before (line ∷ lines) n fault (inl h) =
    record { front = []; line = line; back = lines; records = before; parts = refl; number = h.1; good = refl; bad = h.0 }
refuses before (line ∷ lines) n fault (inr h) =
    let r = refuses h.0 lines h.1 fault h.3 in
    record {
      front = line ∷ r.front;
      line = r.line;
      back = r.back;
      records = r.records;
      parts = ap (λ ls. line ∷ ls) r.parts;
      number = h.4 ∙ ap suc r.number;
      good = ReadsOn-cons before h.0 line r.front r.records h.2 r.good;
      bad = r.bad;
    }

-- the lines lead to one end
reads_once : (before : Records) (lines : List (List ℕ)) (a b : Records) → ReadsOn before lines a → ReadsOn before lines b → a ≡ b
reads_once before [] a b h k = h ∙ sym k
reads_once before (line ∷ lines) a b h k =
    let (mid, g, rest) = first before line lines a h in
    let (other, g', rest') = first before line lines b k in
    reads_once other lines a b (subst (λ m. ReadsOn m lines a) (goes_once before line mid other g g') rest) rest'

stops_once : (before : Records) (lines : List (List ℕ)) (m n : ℕ) (a b : LineFault) → StopsAt before lines m a → StopsAt before lines n b → (m ≡ n) × (a ≡ b)
stops_once before [] m n a b h k = absurd h
stops_once before (line ∷ lines) m n a b (inl h) (inl k) = (h.1 ∙ sym k.1, bad_once before line a b h.0 k.0)
stops_once before (line ∷ lines) m n a b (inl h) (inr k) = absurd (bad_stops before line a k.0 h.0 k.2)
stops_once before (line ∷ lines) m n a b (inr h) (inl k) = absurd (bad_stops before line b h.0 k.0 h.2)
stops_once before (line ∷ lines) m n a b (inr h) (inr k) =
    let same = goes_once before line h.0 k.0 h.2 k.2 in
    let rest = stops_once k.0 lines h.1 k.1 a b (subst (λ r. StopsAt r lines h.1 a) same h.3) k.3 in
    (h.4 ∙ (ap suc rest.0 ∙ sym k.4), rest.1)

not_both : (before : Records) (lines : List (List ℕ)) (all : Records) (n : ℕ) (fault : LineFault) → ReadsOn before lines all → StopsAt before lines n fault → ⊥
not_both before [] all n fault h k = k
not_both before (line ∷ lines) all n fault h (inl k) =
    let (mid, g, rest) = first before line lines all h in bad_stops before line fault mid k.0 g
not_both before (line ∷ lines) all n fault h (inr k) =
    let (mid, g, rest) = first before line lines all h in
    not_both k.0 lines all k.1 fault (subst (λ m. ReadsOn m lines all) (goes_once before line mid k.0 g k.2) rest) k.3

-- and to one at least
abbrev Ends : Records → List (List ℕ) → Type 0
Ends before lines = ((all : Records) × ReadsOn before lines all) ⊎ ((n : ℕ) × (fault : LineFault) × StopsAt before lines n fault)

further : (before after : Records) (line : List ℕ) (lines : List (List ℕ)) → Goes before line after → Ends after lines → Ends before (line ∷ lines)
further before after line lines g (inl h) = inl (h.0, ReadsOn-cons before after line lines h.0 g h.1)
further before after line lines g (inr h) = inr (suc h.0, h.1, inr (after, h.0, g, h.2, refl))

ends : (lines : List (List ℕ)) (before : Records) → Ends before lines
ends [] before = inl (before, refl)
ends (line ∷ lines) before =
    elim (judged before line) [
      | inl h ↦ further before h.0 line lines h.1 (ends lines h.0)
      | inr h ↦ inr (0, h.0, inl (h.1, refl))
    ]

-- The same of a whole text.
pub text_has_outcome : (text : List ℕ) → HasOutcome text
text_has_outcome text =
    elim (ends (lines_of text) []) [
      | inl h ↦ inl h
      | inr h ↦ let r = refuses [] (lines_of text) h.0 h.1 h.2 in
          inr (h.0 + 1, h.1, record { front = r.front; line = r.line; back = r.back; records = r.records; lines = r.parts; number = ap (λ n. n + 1) r.number; good = r.good; bad = r.bad })
    ]

pub one_log : (text : List ℕ) (a b : Records) → IsLog text a → IsLog text b → a ≡ b
one_log text a b h k = reads_once [] (lines_of text) a b h k

pub one_fault : (text : List ℕ) (m n : ℕ) (a b : LineFault) → IsRefused text m a → IsRefused text n b → (m ≡ n) × (a ≡ b)
one_fault text m n a b h k =
    let (i, is, at) = stops_at text m a h in
    let (j, js, also) = stops_at text n b k in
    let same = stops_once [] (lines_of text) i j a b at also in
    (is ∙ (ap (λ n. n + 1) same.0 ∙ sym js), same.1)

pub log_not_refused : (text : List ℕ) (log : Records) (number : ℕ) (fault : LineFault) → IsLog text log → IsRefused text number fault → ⊥
log_not_refused text log number fault h k =
    let (n, is, at) = stops_at text number fault k in not_both [] (lines_of text) log n fault h at

-- whatever is read from orderly records on is orderly
reads_orderly : (before : Records) (lines : List (List ℕ)) (all : Records) → IsOrderly before → ReadsOn before lines all → IsOrderly all
reads_orderly before [] all orderly h = subst IsOrderly (sym h) orderly
reads_orderly before (line ∷ lines) all orderly (inl h) = reads_orderly before lines all orderly h.1
reads_orderly before (line ∷ lines) all orderly (inr h) =
    reads_orderly (before ++ h.0 ∷ []) lines all (IsOrderly-push before h.0 orderly h.1.0 h.2 h.3) h.4

pub log_is_orderly : (text : List ℕ) (log : Records) → IsLog text log → IsOrderly log
log_is_orderly text log h = reads_orderly [] (lines_of text) log IsOrderly-nil h
