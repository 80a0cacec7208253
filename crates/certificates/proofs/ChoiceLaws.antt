-- Whether a text begins with a line that may stand there can be decided, since what lines tell has bounds.
use Rattle.std.proofs.Common.{◌≡◌, ℕ, suc, ◌+◌, ◌^◌, ◌<◌, ◌≤◌, inl, inr, Bool, true, false, List, [], ◌∷◌, ◌++◌, Option, Some, None, refl, ap, ◌∙◌, subst, arith}
use Rattle.std.proofs.lemmas.Bool.{cases_eq}
use Rattle.definitions.specs.declared.block.Span.{Span}
use Rattle.definitions.specs.declared.block.Span.TheVariants.{Year, Day, Hour, Minute}
use Rattle.definitions.specs.time.Calendar.{century_minutes}
use Rattle.definitions.specs.sequences.Keys.{cost_of, index_end}
use Rattle.definitions.proofs.ExistLaws.{Decided, decide_both, decide_le, decide_some}
use Rattle.signal_base.specs.declared.limits.TheConstants.{GREATEST_COST}
use Rattle.certificates.proofs.ListLaws.{decide_not}
use Rattle.certificates.specs.declared.certificate.Kind.{Kind}
use Rattle.certificates.specs.declared.certificate.Kind.TheVariants.{Opened, Pruned, Empty, Leaf}
use Rattle.certificates.specs.declared.certificate.Line.{Line}
use Rattle.certificates.specs.declared.limits.TheConstants.{MOST_PARTS, MOST_STEPS}
use Rattle.certificates.specs.Certificates.{CanBeNamed, IsCost, IsLine, IsShaped}
use Rattle.certificates.specs.Texts.{BeginsWith, CanStand, CanTell, Entry, HasRoom, HeadLine, IsOver, IsWithin, Next, entry_line, number_in, stations_by, version_of}
use Rattle.certificates.specs.Texts.Entry.{Tells, Part, Step, End}
use Rattle.certificates.specs.Texts.HeadLine.{Version, Heard, Start, Phase, Seconds, From, To, Ceiling, First, Second}
use Rattle.certificates.specs.Texts.Next.{AtHead, AtParts, AtStep, AtEnd}
use Rattle.certificates.proofs.FieldLaws.{IsSmall}
use Rattle.certificates.proofs.StepLaws.{shape_small}
use Rattle.certificates.proofs.EntryLaws.{named_small, nothing_stands, within_small}

-- whether a text begins with some bytes
begins_more : (x : ℕ) (xs text : List ℕ) → BeginsWith xs text → BeginsWith (x ∷ xs) (x ∷ text)
begins_more x xs text h = (h.0, ap (λ l. x ∷ l) h.1)

pub decide_begins : (xs text : List ℕ) → Decided (BeginsWith xs text)
decide_begins [] text = inl (text, refl)
decide_begins (x ∷ xs) [] = inr (λ h. absurd (none h.0 h.1))
  where
    none : (tail : List ℕ) → [] ≡ x ∷ (xs ++ tail) → ⊥
    none tail e = absurd cc
decide_begins (x ∷ xs) (y ∷ text) = go (cases_eq y x) (decide_begins xs text)
  where
    head : (tail : List ℕ) → y ∷ text ≡ x ∷ (xs ++ tail) → y ≡ x
    head tail e = cc

    rest : (tail : List ℕ) → y ∷ text ≡ x ∷ (xs ++ tail) → text ≡ xs ++ tail
    rest tail e = cc

    go : Decided (y ≡ x) → Decided (BeginsWith xs text) → Decided (BeginsWith (x ∷ xs) (y ∷ text))
    go (inl same) (inl h) = inl (h.0, ap (λ b. b ∷ text) same ∙ ap (λ l. x ∷ l) h.1)
    go (inl same) (inr n) = inr (λ h. n (h.0, rest h.0 h.1))
    go (inr n) d = inr (λ h. n (head h.0 h.1))

-- one of several
decide_kind : (P : Kind → Type 0) → ((k : Kind) → Decided (P k)) → Decided ((k : Kind) × P k)
decide_kind P each = go (each Opened) (each Pruned) (each Empty) (each Leaf)
  where
    none : (P Opened → ⊥) → (P Pruned → ⊥) → (P Empty → ⊥) → (P Leaf → ⊥) → (k : Kind) → P k → ⊥
    none a b c d Opened h = a h
    none a b c d Pruned h = b h
    none a b c d Empty h = c h
    none a b c d Leaf h = d h

    go : Decided (P Opened) → Decided (P Pruned) → Decided (P Empty) → Decided (P Leaf) → Decided ((k : Kind) × P k)
    go (inl h) b c d = inl (Opened, h)
    go (inr a) (inl h) c d = inl (Pruned, h)
    go (inr a) (inr b) (inl h) d = inl (Empty, h)
    go (inr a) (inr b) (inr c) (inl h) = inl (Leaf, h)
    go (inr a) (inr b) (inr c) (inr d) = inr (λ h. none a b c d h.0 h.1)

decide_span : (P : Span → Type 0) → ((s : Span) → Decided (P s)) → Decided ((s : Span) × P s)
decide_span P each = go (each Year) (each Day) (each Hour) (each Minute)
  where
    none : (P Year → ⊥) → (P Day → ⊥) → (P Hour → ⊥) → (P Minute → ⊥) → (s : Span) → P s → ⊥
    none a b c d Year h = a h
    none a b c d Day h = b h
    none a b c d Hour h = c h
    none a b c d Minute h = d h

    go : Decided (P Year) → Decided (P Day) → Decided (P Hour) → Decided (P Minute) → Decided ((s : Span) × P s)
    go (inl h) b c d = inl (Year, h)
    go (inr a) (inl h) c d = inl (Day, h)
    go (inr a) (inr b) (inl h) d = inl (Hour, h)
    go (inr a) (inr b) (inr c) (inl h) = inl (Minute, h)
    go (inr a) (inr b) (inr c) (inr d) = inr (λ h. none a b c d h.0 h.1)

decide_bool : (P : Bool → Type 0) → ((b : Bool) → Decided (P b)) → Decided ((b : Bool) × P b)
decide_bool P each = go (each true) (each false)
  where
    none : (P true → ⊥) → (P false → ⊥) → (b : Bool) → P b → ⊥
    none a b true h = a h
    none a b false h = b h

    go : Decided (P true) → Decided (P false) → Decided ((b : Bool) × P b)
    go (inl h) b = inl (true, h)
    go (inr a) (inl h) = inl (false, h)
    go (inr a) (inr b) = inr (λ h. none a b h.0 h.1)

-- a number, where none beyond a bound comes into question
decide_number : (P : ℕ → Type 0) (end : ℕ) → ((n : ℕ) → Decided (P n)) → ((n : ℕ) → P n → n < end) → Decided ((n : ℕ) × P n)
decide_number P end each bound = put (decide_some P each end)
  where
    put : Decided ((n : ℕ) × (n < end) × P n) → Decided ((n : ℕ) × P n)
    put (inl h) = inl (h.0, h.2)
    put (inr none) = inr (λ h. none (h.0, bound h.0 h.1, h.1))

decide_option : (P : Option ℕ → Type 0) → ((v : Option ℕ) → Decided (P v)) → ((v : Option ℕ) → P v → IsSmall v) → Decided ((v : Option ℕ) × P v)
decide_option P each small = go (each None) (decide_number (λ n. P (Some n)) (2 ^ 64) (λ n. each (Some n)) (λ n h. small (Some n) h))
  where
    none : (P None → ⊥) → (((n : ℕ) × P (Some n)) → ⊥) → (v : Option ℕ) → P v → ⊥
    none a b None h = a h
    none a b (Some n) h = b (n, h)

    go : Decided (P None) → Decided ((n : ℕ) × P (Some n)) → Decided ((v : Option ℕ) × P v)
    go (inl h) b = inl (None, h)
    go (inr a) (inl h) = inl (Some h.0, h.1)
    go (inr a) (inr b) = inr (λ h. none a b h.0 h.1)

-- what a line tells
decide_within : (least end : ℕ) (v : Option ℕ) → Decided (IsWithin least end v)
decide_within least end None = inr (λ h. h)
decide_within least end (Some n) = decide_both (decide_le least n) (decide_le (suc n) end)

decide_named : (v : Option ℕ) → Decided (CanBeNamed v)
decide_named None = inl tt
decide_named (Some key) = decide_both (decide_le _ index_end) (decide_le (cost_of key) GREATEST_COST)

decide_some_number : (v : Option ℕ) (n : ℕ) → Decided (v ≡ Some n)
decide_some_number None n = inr (λ e. absurd cc)
decide_some_number (Some m) n = go (cases_eq m n)
  where
    go : Decided (m ≡ n) → Decided (Some m ≡ Some n)
    go (inl e) = inl (ap Some e)
    go (inr other) = inr (λ e. other (cc))

decide_tells : (told : HeadLine) (before v : Option ℕ) → Decided (CanTell told before v)
decide_tells Version before v = decide_within _ _ v
decide_tells Heard before v = decide_both (decide_within 1 16 v) (decide_some_number before (version_of (stations_by (number_in v))))
decide_tells Start before v = decide_within _ _ v
decide_tells Phase before v = decide_within _ _ v
decide_tells Seconds before v = decide_within _ _ v
decide_tells From before v = decide_within _ _ v
decide_tells To before v = decide_within _ _ v
decide_tells Ceiling before v = decide_within _ _ v
decide_tells First before v = decide_named v
decide_tells Second before v = decide_named v

tells_small : (told : HeadLine) (before v : Option ℕ) → CanTell told before v → IsSmall v
tells_small Version before v h = within_small _ _ v (omega arith) h
tells_small Heard before v h = within_small _ _ v (omega arith) h.0
tells_small Start before v h = within_small _ _ v (omega arith) h
tells_small Phase before v h = within_small _ _ v (omega arith) h
tells_small Seconds before v h = within_small _ _ v (omega arith) h
tells_small From before v h = within_small _ _ v (omega arith) h
tells_small To before v h = within_small _ _ v (omega arith) h
tells_small Ceiling before v h = within_small _ _ v (omega arith) h
tells_small First before v h = named_small v h
tells_small Second before v h = named_small v h

-- what a step says
pub decide_minute : (s : Span) → Decided (s ≡ Minute)
decide_minute Year = inr (λ e. absurd cc)
decide_minute Day = inr (λ e. absurd cc)
decide_minute Hour = inr (λ e. absurd cc)
decide_minute Minute = inl refl

decide_cost : (v : Option ℕ) → Decided (IsCost v)
decide_cost None = inr (λ h. h)
decide_cost (Some n) = decide_le n GREATEST_COST

decide_none : (v : Option ℕ) → Decided (v ≡ None)
decide_none None = inl refl
decide_none (Some n) = inr (λ e. absurd cc)

decide_shape : (k : Kind) (s : Span) (v : Option ℕ) → Decided (IsShaped k s v)
decide_shape Opened s v = decide_both (decide_not (decide_minute s)) (decide_cost v)
decide_shape Pruned s v = decide_cost v
decide_shape Empty s v = decide_none v
decide_shape Leaf s v = decide_both (decide_minute s) (decide_cost v)

decide_line : (l : Line) → Decided (IsLine l)
decide_line l =
    put (decide_both (decide_le l.block.second 60) (decide_both (decide_le (1 + l.block.lo) l.block.hi)
    (decide_both (decide_le l.block.hi century_minutes) (decide_shape l.kind l.block.span l.bound))))
  where
    put : Decided ((l.block.second ≤ 60) × ((1 + l.block.lo ≤ l.block.hi) × ((l.block.hi ≤ century_minutes) × IsShaped l.kind l.block.span l.bound))) → Decided (IsLine l)
    put (inl h) = inl (record { second = h.0; not_empty = omega (arith, h.1.0); century = h.1.1.0; shape = h.1.1.1 })
    put (inr n) = inr (λ is. n (is.second, (omega (arith, is.not_empty), (is.century, is.shape))))

abbrev line_by : Kind → Span → Bool → ℕ → ℕ → ℕ → Option ℕ → Line
line_by k s a p lo hi v = record { kind = k; block = record { announced = a; second = p; span = s; lo = lo; hi = hi }; bound = v }

module _ (rest : List ℕ) where
  -- the rest begins with this step
  abbrev Fits : Line → Type 0
  Fits l = IsLine l × BeginsWith (entry_line (Step l)) rest

  decide_fits : (l : Line) → Decided (Fits l)
  decide_fits l = decide_both (decide_line l) (decide_begins (entry_line (Step l)) rest)

  abbrev FitsTo : Kind → Span → Bool → ℕ → ℕ → ℕ → Type 0
  FitsTo k s a p lo hi = (v : Option ℕ) × Fits (line_by k s a p lo hi v)

  by_bound : (k : Kind) (s : Span) (a : Bool) (p lo hi : ℕ) → Decided (FitsTo k s a p lo hi)
  by_bound k s a p lo hi =
      decide_option (λ v. Fits (line_by k s a p lo hi v)) (λ v. decide_fits (line_by k s a p lo hi v)) (λ v h. shape_small k s v h.0.shape)

  abbrev FitsFrom : Kind → Span → Bool → ℕ → ℕ → Type 0
  FitsFrom k s a p lo = (hi : ℕ) × FitsTo k s a p lo hi

  by_hi : (k : Kind) (s : Span) (a : Bool) (p lo : ℕ) → Decided (FitsFrom k s a p lo)
  by_hi k s a p lo = decide_number (FitsTo k s a p lo) (century_minutes + 1) (by_bound k s a p lo) (λ hi h. omega (arith, h.1.0.century))

  abbrev FitsWith : Kind → Span → Bool → ℕ → Type 0
  FitsWith k s a p = (lo : ℕ) × FitsFrom k s a p lo

  by_lo : (k : Kind) (s : Span) (a : Bool) (p : ℕ) → Decided (FitsWith k s a p)
  by_lo k s a p = decide_number (FitsFrom k s a p) century_minutes (by_hi k s a p) (λ lo h. omega (arith, h.1.1.0.not_empty, h.1.1.0.century))

  abbrev FitsAt : Kind → Span → Bool → Type 0
  FitsAt k s a = (p : ℕ) × FitsWith k s a p

  by_second : (k : Kind) (s : Span) (a : Bool) → Decided (FitsAt k s a)
  by_second k s a = decide_number (FitsWith k s a) 61 (by_lo k s a) (λ p h. omega (arith, h.1.1.1.0.second))

  abbrev FitsSome : Type 0
  FitsSome = (k : Kind) × ((s : Span) × ((a : Bool) × FitsAt k s a))

  pub decide_step : Decided ((l : Line) × Fits l)
  decide_step = put (decide_kind _ (λ k. decide_span _ (λ s. decide_bool _ (λ a. by_second k s a))))
    where
      put : Decided FitsSome → Decided ((l : Line) × Fits l)
      put (inl h) = let at = h.1.1.1 in inl (line_by h.0 h.1.0 h.1.1.0 at.0 at.1.0 at.1.1.0 at.1.1.1.0, at.1.1.1.1)
      put (inr n) = inr (λ h. let b = h.0.block in n (h.0.kind, (b.span, (b.announced, (b.second, (b.lo, (b.hi, (h.0.bound, h.1))))))))

  -- what may come next, if the rest begins with it
  abbrev pub Comes : Next → Type 0
  Comes next = (entry : Entry) × CanStand next entry × BeginsWith (entry_line entry) rest

  comes_head : (due : HeadLine) (before : Option ℕ) → Decided (Comes (AtHead due before))
  comes_head due before =
      put (decide_option (λ v. CanTell due before v × BeginsWith (entry_line (Tells due v)) rest)
      (λ v. decide_both (decide_tells due before v) (decide_begins (entry_line (Tells due v)) rest)) (λ v h. tells_small due before v h.0))
    where
      none : ((v : Option ℕ) → CanTell due before v → BeginsWith (entry_line (Tells due v)) rest → ⊥)
          → (e : Entry) → CanStand (AtHead due before) e → BeginsWith (entry_line e) rest → ⊥
      none n (Tells told v) h b = n v h.1 (subst (λ t. BeginsWith (entry_line (Tells t v)) rest) h.0 b)
      none n (Part m) h b = h
      none n (Step l) h b = h
      none n End h b = h

      put : Decided ((v : Option ℕ) × (CanTell due before v × BeginsWith (entry_line (Tells due v)) rest)) → Decided (Comes (AtHead due before))
      put (inl h) = inl (Tells due h.0, (refl, h.1.0), h.1.1)
      put (inr n) = inr (λ h. none (λ v can begins. n (v, (can, begins))) h.0 h.1 h.2)

  comes_part : Decided (Comes AtParts)
  comes_part = put (decide_begins (entry_line (Part 0)) rest)
    where
      none : (BeginsWith (entry_line (Part 0)) rest → ⊥) → (e : Entry) → CanStand AtParts e → BeginsWith (entry_line e) rest → ⊥
      none n (Tells told v) h b = h
      none n (Part m) h b = n (subst (λ m. BeginsWith (entry_line (Part m)) rest) h b)
      none n (Step l) h b = h
      none n End h b = h

      put : Decided (BeginsWith (entry_line (Part 0)) rest) → Decided (Comes AtParts)
      put (inl h) = inl (Part 0, refl, h)
      put (inr n) = inr (λ h. none n h.0 h.1 h.2)

  comes_step : (part steps : ℕ) → Decided (Comes (AtStep part steps))
  comes_step part steps =
      put (decide_step) (decide_both (decide_le (part + 2) MOST_PARTS) (decide_begins (entry_line (Part (part + 1))) rest)) (decide_begins (entry_line End) rest)
    where
      IsNextPart : Type 0
      IsNextPart = (part + 2 ≤ MOST_PARTS) × BeginsWith (entry_line (Part (part + 1))) rest

      none : (((l : Line) × Fits l) → ⊥) → (((part + 2 ≤ MOST_PARTS) × BeginsWith (entry_line (Part (part + 1))) rest) → ⊥) → (BeginsWith (entry_line End) rest → ⊥)
          → (e : Entry) → CanStand (AtStep part steps) e → BeginsWith (entry_line e) rest → ⊥
      none a b c (Tells told v) h begins = h
      none a b c (Part m) h begins = b (omega (arith, h.0, h.1), subst (λ m. BeginsWith (entry_line (Part m)) rest) h.0 begins)
      none a b c (Step l) h begins = a (l, (h, begins))
      none a b c End h begins = c begins

      put : Decided ((l : Line) × Fits l) → Decided ((part + 2 ≤ MOST_PARTS) × BeginsWith (entry_line (Part (part + 1))) rest) → Decided (BeginsWith (entry_line End) rest)
          → Decided (Comes (AtStep part steps))
      put (inl h) b c = inl (Step h.0, h.1.0, h.1.1)
      put (inr a) (inl h) c = inl (Part (part + 1), (refl, omega (arith, h.0)), h.1)
      put (inr a) (inr b) (inl h) = inl (End, tt, h)
      put (inr a) (inr b) (inr c) = inr (λ h. none a b c h.0 h.1 h.2)

  comes_end : Decided (Comes AtEnd)
  comes_end = inr (λ h. nothing_stands h.0 h.1)

  pub decide_comes : (next : Next) → Decided (Comes next)
  decide_comes (AtHead due before) = comes_head due before
  decide_comes AtParts = comes_part
  decide_comes (AtStep part steps) = comes_step part steps
  decide_comes AtEnd = comes_end

-- whether the text may end, and whether a step is one too many
pub decide_over : (next : Next) (rest : List ℕ) → Decided (IsOver next rest)
decide_over (AtHead due before) rest = inr (λ h. h)
decide_over AtParts rest = inr (λ h. h)
decide_over (AtStep part steps) rest = inr (λ h. h)
decide_over AtEnd [] = inl refl
decide_over AtEnd (b ∷ bs) = inr (λ e. absurd cc)

pub decide_room : (next : Next) (entry : Entry) → Decided (HasRoom next entry)
decide_room next (Tells told v) = inl tt
decide_room next (Part n) = inl tt
decide_room next (Step l) = decide_le _ MOST_STEPS
decide_room next End = inl tt
