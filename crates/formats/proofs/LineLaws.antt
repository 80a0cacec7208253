-- One line after some records: it leads on to one list of records, or it is bad in one way.
use Rattle.std.proofs.Common.{◌≡◌, ℕ, ◌<◌, ◌≤◌, ◌⊎◌, inl, inr, Bool, true, false, List, [], ◌∷◌, ◌++◌, length, get_or, refl, sym, ap, ◌∙◌, subst, arith, append_assoc, length-append}
use Rattle.std.specs.Fmt.{decimal}
use Rattle.std.specs.Str.{bytes_eq}
use Rattle.std.specs.Str.Parse.{digits_value, AllDigits}
use Rattle.std.proofs.lemmas.Bool.{cases_eq, cases_lt, false≢true}
use Rattle.std.proofs.lemmas.Fmt.{decimal_is_IsNumeral, decimal_injective, digits_value-decimal}
use Rattle.std.proofs.lemmas.List.{get_or_append_left, same_from_push}
use Rattle.std.proofs.lemmas.Slice.Eq.{bytes_eq-Decides}
use Rattle.std.proofs.lemmas.Str.Parse.{digit_at, numerals_by_value, tells_digits}
use Rattle.definitions.specs.declared.level.Level.{Level}
use Rattle.definitions.specs.declared.level.Level.TheVariants.{High, Low, Unknown}
use Rattle.definitions.specs.heard.Logs.{Records}
use Rattle.definitions.proofs.ExistLaws.{Decided}
use Rattle.formats.specs.declared.limits.TheConstants.{MOST_RECORDS, TIME_LIMIT}
use Rattle.formats.specs.declared.fault.LineFault.{LineFault}
use Rattle.formats.specs.declared.fault.LineFault.TheVariants.{Shape, NotRising, TooManyRecords}
use Rattle.formats.specs.Bytes.{number_sign, space, letter_h, letter_l, letter_x}
use Rattle.formats.specs.LogLines.{without_cr, letter, IsSkipped, SpellsRecord, IsRecord, IsLater, IsBad}

-- each level has its own letter
pub letter-injective : (a b : Level) → letter a ≡ letter b → a ≡ b
letter-injective High High e = refl
letter-injective Low Low e = refl
letter-injective Unknown Unknown e = refl
letter-injective High Low e = absurd (omega arith)
letter-injective High Unknown e = absurd (omega arith)
letter-injective Low High e = absurd (omega arith)
letter-injective Low Unknown e = absurd (omega arith)
letter-injective Unknown High e = absurd (omega arith)
letter-injective Unknown Low e = absurd (omega arith)

-- the last two bytes of a record, and what stands before them
pub SpellsRecord-parts : (front : List ℕ) (gap byte : ℕ) (r : ℕ × Level)
    → SpellsRecord ((front ++ gap ∷ []) ++ byte ∷ []) r → (front ≡ decimal r.0) × (gap ≡ space) × (byte ≡ letter r.1)
SpellsRecord-parts front gap byte r h =
    let e : (front ++ gap ∷ []) ++ byte ∷ [] ≡ (decimal r.0 ++ space ∷ []) ++ letter r.1 ∷ [] = h.1 ∙ sym (append_assoc (decimal r.0) (space ∷ []) (letter r.1 ∷ [])) in
    let (fronts, bytes) = same_from_push (front ++ gap ∷ []) (decimal r.0 ++ space ∷ []) byte (letter r.1) e in
    let (digits, gaps) = same_from_push front (decimal r.0) gap space fronts in
    (digits, gaps, bytes)

-- a line is one record at most
record_once : (bytes : List ℕ) (r s : ℕ × Level) → SpellsRecord bytes r → SpellsRecord bytes s → r ≡ s
record_once bytes r s h k =
    let same : (decimal r.0 ++ space ∷ []) ++ letter r.1 ∷ [] ≡ decimal s.0 ++ space ∷ letter s.1 ∷ [] = append_assoc (decimal r.0) (space ∷ []) (letter r.1 ∷ []) ∙ (sym h.1 ∙ k.1) in
    let (digits, gap, byte) = SpellsRecord-parts (decimal r.0) space (letter r.1) s (k.0, same) in
    let times : r.0 ≡ s.0 = decimal_injective r.0 s.0 (omega (arith, h.0)) (omega (arith, k.0)) digits in
    let levels : r.1 ≡ s.1 = letter-injective r.1 s.1 byte in
    λ i. (times i, levels i)

-- a record is neither empty nor a comment
record_not_skipped : (line : List ℕ) (r : ℕ × Level) → IsRecord line r → IsSkipped line → ⊥
record_not_skipped line r h (inl e) = omega (arith, ap (λ (l : List ℕ). length l) (sym e ∙ h.1), length-append (decimal r.0) (space ∷ letter r.1 ∷ []))
record_not_skipped line r h (inr s) =
    let numeral = (decimal_is_IsNumeral r.0 (omega (arith, h.0))).0 in
    let first : number_sign ≡ get_or (decimal r.0) 0 0 = ap (λ (l : List ℕ). get_or l 0 0) (sym s.1 ∙ h.1) ∙ get_or_append_left (decimal r.0) (space ∷ letter r.1 ∷ []) 0 0 numeral.0 in
    let digit = digit_at (decimal r.0) 0 numeral.1 numeral.0 in
    omega (arith, digit.0, first)

-- bytes are a time's, or a level's, or they aren't
pub decide_bytes : (xs ys : List ℕ) → Decided (xs ≡ ys)
decide_bytes xs ys = go (bytes_eq xs ys) refl
  where
    go : (t : Bool) → bytes_eq xs ys ≡ t → Decided (xs ≡ ys)
    go true e = inl ((bytes_eq-Decides xs ys).0 e)
    go false e = inr (λ same. false≢true (sym e ∙ (bytes_eq-Decides xs ys).1 same))

decide_level : (byte : ℕ) → Decided ((level : Level) × (byte ≡ letter level))
decide_level byte = go (cases_eq byte letter_h) (cases_eq byte letter_l) (cases_eq byte letter_x)
  where
    none : (byte ≡ letter_h → ⊥) → (byte ≡ letter_l → ⊥) → (byte ≡ letter_x → ⊥) → (level : Level) → byte ≡ letter level → ⊥
    none h l x High e = h e
    none h l x Low e = l e
    none h l x Unknown e = x e

    go : Decided (byte ≡ letter_h) → Decided (byte ≡ letter_l) → Decided (byte ≡ letter_x) → Decided ((level : Level) × (byte ≡ letter level))
    go (inl e) l x = inl (High, e)
    go (inr h) (inl e) x = inl (Low, e)
    go (inr h) (inr l) (inl e) = inl (Unknown, e)
    go (inr h) (inr l) (inr x) = inr (λ f. none h l x f.0 f.1)

decide_time : (digits : List ℕ) → Decided ((time : ℕ) × (time < TIME_LIMIT) × (digits ≡ decimal time))
decide_time digits = go (cases_lt value TIME_LIMIT) (decide_bytes digits (decimal value))
  where
    value : ℕ
    value = digits_value 10 digits

    is_value : (time : ℕ) → time < TIME_LIMIT → digits ≡ decimal time → value ≡ time
    is_value time h e = ap (λ (l : List ℕ). digits_value 10 l) e ∙ digits_value-decimal (numerals_by_value (AllDigits 10) tells_digits) time (omega arith)

    go : (value < TIME_LIMIT) ⊎ (TIME_LIMIT ≤ value) → Decided (digits ≡ decimal value) → Decided ((time : ℕ) × (time < TIME_LIMIT) × (digits ≡ decimal time))
    go (inl h) (inl e) = inl (value, h, e)
    go (inl h) (inr n) = inr (λ t. n (t.2 ∙ ap decimal (sym (is_value t.0 t.1 t.2))))
    go (inr h) s = inr (λ t. omega (arith, h, t.1, is_value t.0 t.1 t.2))

-- no bytes, or a last byte with the bytes before it
pub by_end : (bs : List ℕ) → (bs ≡ []) ⊎ ((front : List ℕ) × (last : ℕ) × (bs ≡ front ++ last ∷ []))
by_end [] = inl refl
by_end (b ∷ bs) = inr (go (by_end bs))
  where
    go : (bs ≡ []) ⊎ ((front : List ℕ) × (last : ℕ) × (bs ≡ front ++ last ∷ [])) → (front : List ℕ) × (last : ℕ) × (b ∷ bs ≡ front ++ last ∷ [])
    go (inl e) = ([], b, ap (λ (l : List ℕ). b ∷ l) e)
    go (inr h) = (b ∷ h.0, h.1, ap (λ (l : List ℕ). b ∷ l) h.2)

-- a record has two bytes at least
two_bytes : (bytes : List ℕ) (r : ℕ × Level) → SpellsRecord bytes r → 2 ≤ length bytes
two_bytes bytes r h = omega (arith, ap (λ (l : List ℕ). length l) h.1, length-append (decimal r.0) (space ∷ letter r.1 ∷ []))

spelled : (front : List ℕ) (gap last time : ℕ) (level : Level) → front ≡ decimal time → gap ≡ space → last ≡ letter level
    → (front ++ gap ∷ []) ++ last ∷ [] ≡ decimal time ++ space ∷ letter level ∷ []
spelled front gap last time level d s l = append_assoc front (gap ∷ []) (last ∷ []) ∙ cc

decide_record : (bytes : List ℕ) → Decided ((r : ℕ × Level) × SpellsRecord bytes r)
decide_record bytes = from_last (by_end bytes)
  where
    from_parts : (front : List ℕ) (gap last : ℕ) → bytes ≡ (front ++ gap ∷ []) ++ last ∷ [] → Decided (gap ≡ space)
        → Decided ((time : ℕ) × (time < TIME_LIMIT) × (front ≡ decimal time)) → Decided ((level : Level) × (last ≡ letter level))
        → Decided ((r : ℕ × Level) × SpellsRecord bytes r)
    from_parts front gap last e (inr n) t l = inr (λ f. n (SpellsRecord-parts front gap last f.0 (f.1.0, sym e ∙ f.1.1)).1)
    from_parts front gap last e (inl s) (inr n) l = inr (λ f. n (f.0.0, f.1.0, (SpellsRecord-parts front gap last f.0 (f.1.0, sym e ∙ f.1.1)).0))
    from_parts front gap last e (inl s) (inl t) (inr n) = inr (λ f. n (f.0.1, (SpellsRecord-parts front gap last f.0 (f.1.0, sym e ∙ f.1.1)).2))
    from_parts front gap last e (inl s) (inl t) (inl l) = inl ((t.0, l.0), (t.1, e ∙ spelled front gap last t.0 l.0 t.2 s l.1))

    from_front : (front : List ℕ) (last : ℕ) → bytes ≡ front ++ last ∷ []
        → (front ≡ []) ⊎ ((back : List ℕ) × (gap : ℕ) × (front ≡ back ++ gap ∷ [])) → Decided ((r : ℕ × Level) × SpellsRecord bytes r)
    from_front front last e (inl none) = inr (λ f. omega (arith, two_bytes bytes f.0 f.1, ap (λ (l : List ℕ). length l) (e ∙ ap (λ (l : List ℕ). l ++ last ∷ []) none)))
    from_front front last e (inr h) = from_parts h.0 h.1 last (e ∙ ap (λ (l : List ℕ). l ++ last ∷ []) h.2) (cases_eq h.1 space) (decide_time h.0) (decide_level last)

    from_last : (bytes ≡ []) ⊎ ((front : List ℕ) × (last : ℕ) × (bytes ≡ front ++ last ∷ [])) → Decided ((r : ℕ × Level) × SpellsRecord bytes r)
    from_last (inl none) = inr (λ f. omega (arith, two_bytes bytes f.0 f.1, ap (λ (l : List ℕ). length l) none))
    from_last (inr h) = from_front h.0 h.1 h.2 (by_end h.0)

decide_skipped : (bytes : List ℕ) → Decided ((bytes ≡ []) ⊎ ((bs : List ℕ) × (bytes ≡ number_sign ∷ bs)))
decide_skipped [] = inl (inl refl)
decide_skipped (b ∷ bs) = go (cases_eq b number_sign)
  where
    none : (b ≡ number_sign → ⊥) → (b ∷ bs ≡ []) ⊎ ((rest : List ℕ) × (b ∷ bs ≡ number_sign ∷ rest)) → ⊥
    none n (inl e) = cc
    none n (inr h) = let e = h.1 in n cc

    go : Decided (b ≡ number_sign) → Decided ((b ∷ bs ≡ []) ⊎ ((rest : List ℕ) × (b ∷ bs ≡ number_sign ∷ rest)))
    go (inl e) = inl (inr (bs, ap (λ x. x ∷ bs) e))
    go (inr n) = inr (none n)

decide_later : (before : Records) (time : ℕ) → Decided (IsLater before time)
decide_later [] time = inl tt
decide_later (r ∷ []) time = elim (cases_lt r.0 time) [ inl h ↦ inl h | inr h ↦ inr (λ l. omega (arith, h, l)) ]
decide_later (r ∷ s ∷ rs) time = decide_later (s ∷ rs) time

module _ (before : Records) (line : List ℕ) where
  -- The line leads from the records before it to those after it.
  abbrev pub Goes : Records → Type 0
  Goes after =
      (IsSkipped line × (after ≡ before))
      ⊎ ((r : ℕ × Level) × IsRecord line r × IsLater before r.0 × (length before < MOST_RECORDS) × (after ≡ before ++ r ∷ []))

  later_once : (r s : ℕ × Level) → IsRecord line r → IsRecord line s → IsLater before r.0 → IsLater before s.0
  later_once r s h k later = subst (λ (t : ℕ × Level). IsLater before t.0) (record_once (without_cr line) r s h k) later

  -- it leads to one place
  pub goes_once : (a b : Records) → Goes a → Goes b → a ≡ b
  goes_once a b (inl h) (inl k) = h.1 ∙ sym k.1
  goes_once a b (inl h) (inr k) = absurd (record_not_skipped line k.0 k.1 h.0)
  goes_once a b (inr h) (inl k) = absurd (record_not_skipped line h.0 h.1 k.0)
  goes_once a b (inr h) (inr k) = h.4 ∙ (ap (λ r. before ++ r ∷ []) (record_once (without_cr line) h.0 k.0 h.1 k.1) ∙ sym k.4)

  -- a line that is bad leads nowhere
  pub bad_stops : (fault : LineFault) (after : Records) → IsBad before line fault → Goes after → ⊥
  bad_stops Shape after bad (inl g) = bad.0 g.0
  bad_stops Shape after bad (inr g) = bad.1 g.0 g.1
  bad_stops NotRising after bad (inl g) = record_not_skipped line bad.0 bad.1 g.0
  bad_stops NotRising after bad (inr g) = bad.2 (later_once g.0 bad.0 g.1 bad.1 g.2)
  bad_stops TooManyRecords after bad (inl g) = record_not_skipped line bad.0 bad.1 g.0
  bad_stops TooManyRecords after bad (inr g) = omega (arith, bad.3, g.3)

  -- a line is bad in one way
  pub bad_once : (a b : LineFault) → IsBad before line a → IsBad before line b → a ≡ b
  bad_once Shape Shape h k = refl
  bad_once NotRising NotRising h k = refl
  bad_once TooManyRecords TooManyRecords h k = refl
  bad_once Shape NotRising h k = absurd (h.1 k.0 k.1)
  bad_once Shape TooManyRecords h k = absurd (h.1 k.0 k.1)
  bad_once NotRising Shape h k = absurd (k.1 h.0 h.1)
  bad_once TooManyRecords Shape h k = absurd (k.1 h.0 h.1)
  bad_once NotRising TooManyRecords h k = absurd (h.2 (later_once k.0 h.0 k.1 h.1 k.2))
  bad_once TooManyRecords NotRising h k = absurd (k.2 (later_once h.0 k.0 h.1 k.1 h.2))

  -- it leads on, or it is bad
  abbrev pub IsJudged : Type 0
  IsJudged = ((after : Records) × Goes after) ⊎ ((fault : LineFault) × IsBad before line fault)

  judge_record : (r : ℕ × Level) → IsRecord line r → Decided (IsLater before r.0) → (length before < MOST_RECORDS) ⊎ (MOST_RECORDS ≤ length before) → IsJudged
  judge_record r is (inl later) (inl room) = inl (before ++ r ∷ [], inr (r, is, later, room, refl))
  judge_record r is (inl later) (inr full) = inr (TooManyRecords, (r, is, later, full))
  judge_record r is (inr not) room = inr (NotRising, (r, is, not))

  pub judged : IsJudged
  judged = go (decide_skipped (without_cr line)) (decide_record (without_cr line))
    where
      go : Decided (IsSkipped line) → Decided ((r : ℕ × Level) × IsRecord line r) → IsJudged
      go (inl s) r = inl (before, inl (s, refl))
      go (inr n) (inl r) = judge_record r.0 r.1 (decide_later before r.0.0) (cases_lt (length before) MOST_RECORDS)
      go (inr n) (inr m) = inr (Shape, (n, λ r is. m (r, is)))
