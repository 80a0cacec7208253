-- What a line of the head tells, and which line may stand where.
use Rattle.std.proofs.Common.{◌≡◌, ◌≢◌, ℕ, ◌+◌, ◌<◌, ◌≤◌, ◌^◌, true, false, nat_eq, length, take, drop, List, ◌++◌, codes, ◌⊎◌, inl, inr, Option, Some, None, refl, sym, ap, ◌∙◌, subst, arith}
use Rattle.std.specs.Fmt.{decimal}
use Rattle.std.proofs.lemmas.Bool.{cases_eq}
use Rattle.std.specs.Cmp.Lexicographic.{other_text, pointwise, same_text}
use Rattle.std.proofs.Math.Seq.{take-append_seam}
use Rattle.std.proofs.lemmas.List.{append_cancel_left, take-append-drop}
use Rattle.formats.specs.Refusals.{named_key}
use Rattle.certificates.specs.declared.certificate.Line.{Line}
use Rattle.certificates.specs.declared.limits.TheConstants.{MOST_PARTS}
use Rattle.certificates.specs.Certificates.{CanBeNamed}
use Rattle.certificates.specs.Texts.{HeadLine, IsWithin, head_text}
use Rattle.certificates.specs.Texts.Entry.{Tells, Part, Step, End}
use Rattle.certificates.specs.Texts.HeadLine.{Heard}
use Rattle.certificates.specs.Texts.Next.{AtHead, AtParts, AtStep, AtEnd}
use Rattle.certificates.proofs.EntryLaws.{named_small}
use Rattle.certificates.proofs.FieldLaws.{named_once}
use Rattle.certificate_texts.specs.Lines.{IsOfMask, Spells, SpellsHead, SpellsNoHead, SpellsNone, SpellsNoStep, SpellsStep}

module _ (word text field : List ℕ) (is : word ++ field ≡ text) where
  pub ranged_none : (least most : ℕ) → ((n : ℕ) → least ≤ n → n ≤ most → decimal n ≢ field) → (v : Option ℕ) → IsWithin least (most + 1) v → word ++ named_key v ≢ text
  ranged_none least most none None within e = within
  ranged_none least most none (Some n) within e = none n within.0 (omega (arith, within.1)) (append_cancel_left word (decimal n) field (e ∙ sym is))

  pub key_none : ((v : Option ℕ) → CanBeNamed v → named_key v ≢ field) → (v : Option ℕ) → CanBeNamed v → word ++ named_key v ≢ text
  key_none none v can e = none v can (append_cancel_left word (named_key v) field (e ∙ sym is))

  pub behind_word : (v : Option ℕ) → named_key v ≡ field → word ++ named_key v ≡ text
  behind_word v e = ap (λ (x : List ℕ). word ++ x) e ∙ is

-- a field that is no -, and no number
pub no_key : (field : List ℕ) → (named_key None ≡ field → ⊥) → ((n : ℕ) → n < 2 ^ 64 → decimal n ≢ field) → (v : Option ℕ) → CanBeNamed v → named_key v ≢ field
no_key field dash none None can e = dash e
no_key field dash none (Some n) can e = none n (named_small (Some n) can) e

-- a field that is a number that can't be named
pub not_named : (field : List ℕ) (key : ℕ) → key < 2 ^ 64 → decimal key ≡ field → (CanBeNamed (Some key) → ⊥) → (v : Option ℕ) → CanBeNamed v → named_key v ≢ field
not_named field key small is never v can e =
    never (subst CanBeNamed (named_once v (Some key) (named_small v can) small (e ∙ sym is)) can)

pub no_mask : (before : Option ℕ) (text : List ℕ) → ((m : ℕ) → m < 16 → 1 ≤ m → IsOfMask before text m → ⊥) → SpellsNoHead Heard before text
no_mask before text none None can e = can.0
no_mask before text none (Some m) can e = none m can.0.1 can.0.0 (can.1, e)

pub mask_found : (before : Option ℕ) (text : List ℕ) (m : ℕ) → 1 ≤ m → m < 16 → IsOfMask before text m → SpellsHead Heard before text (Some m)
mask_found before text m some few is = record { can = ((some, few), is.0); text = is.1 }

pub none_before : (before : Option ℕ) (text : List ℕ) (mask : ℕ) → ((m : ℕ) → m < mask → 1 ≤ m → IsOfMask before text m → ⊥) → (IsOfMask before text mask → ⊥)
    → (m : ℕ) → m < mask + 1 → 1 ≤ m → IsOfMask before text m → ⊥
none_before before text mask none here m less some is = by_place (cases_eq m mask)
  where
    by_place : (m ≡ mask) ⊎ (m ≡ mask → ⊥) → ⊥
    by_place (inl e) = here (subst (IsOfMask before text) e is)
    by_place (inr other) = none m (omega (arith, less, other)) some is

-- what may stand in the head
pub head_spelled : (due : HeadLine) (before v : Option ℕ) (text : List ℕ) → SpellsHead due before text v → Spells (AtHead due before) text (Tells due v)
head_spelled due before v text is = record { can = (refl, is.can); text = is.text }

pub no_head : (due : HeadLine) (before : Option ℕ) (text : List ℕ) → SpellsNoHead due before text → SpellsNone (AtHead due before) text
no_head due before text none (Tells told v) can e = none v can.1 (ap (λ (t : HeadLine). head_text t v) (sym can.0) ∙ e)
no_head due before text none (Part n) can e = can
no_head due before text none (Step l) can e = can
no_head due before text none End can e = can

-- before the first part
pub first_part : (text : List ℕ) → codes "worker " ++ decimal 0 ≡ text → Spells AtParts text (Part 0)
first_part text e = record { can = refl; text = e }

pub no_first_part : (text : List ℕ) → (codes "worker " ++ decimal 0 ≡ text → ⊥) → SpellsNone AtParts text
no_first_part text none (Part n) can e = none (ap (λ (m : ℕ). codes "worker " ++ decimal m) (sym can) ∙ e)
no_first_part text none (Tells told v) can e = can
no_first_part text none (Step l) can e = can
no_first_part text none End can e = can

-- in a part
module _ (part steps : ℕ) (text : List ℕ) where
  pub end_here : codes "end" ≡ text → Spells (AtStep part steps) text End
  end_here e = record { can = tt; text = e }

  pub part_here : part + 1 < MOST_PARTS → codes "worker " ++ decimal (part + 1) ≡ text → Spells (AtStep part steps) text (Part (part + 1))
  part_here few e = record { can = (refl, few); text = e }

  pub step_here : (l : Line) → SpellsStep text l → Spells (AtStep part steps) text (Step l)
  step_here l is = record { can = is.is_line; text = is.text }

  pub none_here : (codes "end" ≡ text → ⊥) → (part + 1 < MOST_PARTS → codes "worker " ++ decimal (part + 1) ≡ text → ⊥) → SpellsNoStep text → SpellsNone (AtStep part steps) text
  none_here no_end no_part no_step (Tells told v) can e = can
  none_here no_end no_part no_step (Part n) can e =
      no_part (omega (arith, can.0, can.1)) (ap (λ (m : ℕ). codes "worker " ++ decimal m) (sym can.0) ∙ e)
  none_here no_end no_part no_step (Step l) can e = no_step l can e
  none_here no_end no_part no_step End can e = no_end e

pub nothing_here : (text : List ℕ) → SpellsNone AtEnd text
nothing_here text (Tells told v) can e = can
nothing_here text (Part n) can e = can
nothing_here text (Step l) can e = can
nothing_here text End can e = can

-- what stands behind a word
pub behind_is : (text word rest : List ℕ) → pointwise nat_eq (take (length word) text) word ≡ true → rest ≡ drop (length word) text → word ++ rest ≡ text
behind_is text word rest e is =
    ap (λ (x : List ℕ). x ++ rest) (sym (same_text (take (length word) text) word (sym e)))
    ∙ (ap (λ (x : List ℕ). take (length word) text ++ x) is ∙ take-append-drop (length word) text)

pub not_behind : (text word : List ℕ) → pointwise nat_eq (take (length word) text) word ≡ false → (rest : List ℕ) → word ++ rest ≢ text
not_behind text word e rest same =
    other_text (take (length word) text) word (sym e) (ap (λ (x : List ℕ). take (length word) x) (sym same) ∙ take-append_seam word rest)
