-- The texts of lines, as they are put together.
use Rattle.std.proofs.Common.{◌≡◌, ℕ, suc, ◌+◌, ◌-◌, ◌<◌, ◌≤◌, Bool, true, false, nat_lt, if◌then◌else◌, List, [], ◌∷◌, ◌++◌, length, filter, codes, refl, sym, ap, ◌∙◌, arith, append_assoc, append-nil}
use Rattle.std.specs.Fmt.{decimal}
use Rattle.std.specs.List.{flat_map, join_with_byte}
use Rattle.signal_base.specs.declared.station.Station.{Station}
use Rattle.signal_base.specs.declared.station.Station.TheVariants.{Dcf77, Msf, Wwvb, Jjy}
use Rattle.formats.specs.Bytes.{line, space}
use Rattle.certificates.specs.Texts.{entries_text, part_entries}
use Rattle.certificate_texts.specs.Layout.{empty_parts}

-- seven fields, one after the other
pub seven_fields : (a b c d e f g : List ℕ)
    → ((((((((((((([] ++ a) ++ space ∷ []) ++ b) ++ space ∷ []) ++ c) ++ space ∷ []) ++ d) ++ space ∷ []) ++ e) ++ space ∷ []) ++ f) ++ space ∷ []) ++ g) ++ 10 ∷ []
    ≡ line (join_with_byte space (a ∷ b ∷ c ∷ d ∷ e ∷ f ∷ g ∷ []))
seven_fields a b c d e f g = simp append_assoc

-- the same, push by push
pub step_joined : (t0 t1 t2 t3 t4 t5 t6 t7 t8 t9 t10 t11 t12 t13 t14 a b c d e f g : List ℕ) → t0 ≡ [] → t1 ≡ t0 ++ a → t2 ≡ t1 ++ space ∷ [] → t3 ≡ t2 ++ b
    → t4 ≡ t3 ++ space ∷ [] → t5 ≡ t4 ++ c → t6 ≡ t5 ++ space ∷ [] → t7 ≡ t6 ++ d → t8 ≡ t7 ++ space ∷ [] → t9 ≡ t8 ++ e → t10 ≡ t9 ++ space ∷ [] → t11 ≡ t10 ++ f
    → t12 ≡ t11 ++ space ∷ [] → t13 ≡ t12 ++ g → t14 ≡ t13 ++ 10 ∷ [] → t14 ≡ line (join_with_byte space (a ∷ b ∷ c ∷ d ∷ e ∷ f ∷ g ∷ []))
step_joined t0 t1 t2 t3 t4 t5 t6 t7 t8 t9 t10 t11 t12 t13 t14 a b c d e f g e0 e1 e2 e3 e4 e5 e6 e7 e8 e9 e10 e11 e12 e13 e14 =
    rw (e14, e13, e12, e11, e10, e9, e8, e7, e6, e5, e4, e3, e2, e1, e0) (seven_fields a b c d e f g)

-- eleven lines, one after the other
pub eleven_lines : (a b c d e f g h i j k : List ℕ)
    → (((((((((([] ++ a) ++ b) ++ c) ++ d) ++ e) ++ f) ++ g) ++ h) ++ i) ++ j) ++ k
    ≡ (a ++ (b ++ (c ++ (d ++ (e ++ (f ++ (g ++ (h ++ (i ++ (j ++ [])))))))))) ++ k
eleven_lines a b c d e f g h i j k = simp (append_assoc, append-nil)

pub head_joined : (t0 t1 t2 t3 t4 t5 t6 t7 t8 t9 t10 t11 a b c d e f g h i j k : List ℕ) → t0 ≡ [] → t1 ≡ t0 ++ a → t2 ≡ t1 ++ b → t3 ≡ t2 ++ c → t4 ≡ t3 ++ d
    → t5 ≡ t4 ++ e → t6 ≡ t5 ++ f → t7 ≡ t6 ++ g → t8 ≡ t7 ++ h → t9 ≡ t8 ++ i → t10 ≡ t9 ++ j → t11 ≡ t10 ++ k
    → t11 ≡ (a ++ (b ++ (c ++ (d ++ (e ++ (f ++ (g ++ (h ++ (i ++ (j ++ [])))))))))) ++ k
head_joined t0 t1 t2 t3 t4 t5 t6 t7 t8 t9 t10 t11 a b c d e f g h i j k e0 e1 e2 e3 e4 e5 e6 e7 e8 e9 e10 e11 =
    rw (e11, e10, e9, e8, e7, e6, e5, e4, e3, e2, e1, e0) (eleven_lines a b c d e f g h i j k)

module _ (has : Station → Bool) where
  abbrev some : List Station
  some = filter has (Dcf77 ∷ Msf ∷ Wwvb ∷ Jjy ∷ [])

  abbrev one_if : Station → ℕ
  one_if s = if has s then 1 else 0

  count_more : (s : Station) (ss : List Station) → length (filter has (s ∷ ss)) ≡ one_if s + length (filter has ss)
  count_more s ss = by_test (has s)
    where
      by_test : (t : Bool) → length (if t then s ∷ filter has ss else filter has ss) ≡ (if t then 1 else 0) + length (filter has ss)
      by_test true = omega arith
      by_test false = omega arith

  pub counted : one_if Dcf77 + one_if Msf + one_if Wwvb + one_if Jjy ≡ length some
  counted =
      omega (arith, count_more Dcf77 (Msf ∷ Wwvb ∷ Jjy ∷ []), count_more Msf (Wwvb ∷ Jjy ∷ []), count_more Wwvb (Jjy ∷ []), count_more Jjy [])

  module _ (f : Station → List ℕ) where
    abbrev text_if : Station → List ℕ
    text_if s = if has s then f s else []

    text_more : (s : Station) (ss : List Station) → flat_map f (filter has (s ∷ ss)) ≡ text_if s ++ flat_map f (filter has ss)
    text_more s ss = by_test (has s)
      where
        by_test : (t : Bool) → flat_map f (if t then s ∷ filter has ss else filter has ss) ≡ (if t then f s else []) ++ flat_map f (filter has ss)
        by_test true = refl
        by_test false = refl

    pub four_texts : flat_map f some ≡ text_if Dcf77 ++ (text_if Msf ++ (text_if Wwvb ++ (text_if Jjy ++ [])))
    four_texts =
        text_more Dcf77 (Msf ∷ Wwvb ∷ Jjy ∷ [])
        ∙ ap (λ x. text_if Dcf77 ++ x) (text_more Msf (Wwvb ∷ Jjy ∷ [])
        ∙ ap (λ x. text_if Msf ++ x) (text_more Wwvb (Jjy ∷ [])
        ∙ ap (λ x. text_if Wwvb ++ x) (text_more Jjy [])))

-- the names of the stations, piece by piece
pub names_joined : (t w a b c d : List ℕ) → ((((t ++ w) ++ a) ++ b) ++ c) ++ d ≡ t ++ (w ++ (a ++ (b ++ (c ++ (d ++ [])))))
names_joined t w a b c d = simp (append_assoc, append-nil)

-- the lines of empty parts, one after the other
module _ (parts : ℕ) where
  abbrev from_part : ℕ → List ℕ
  from_part n = entries_text (part_entries n (empty_parts (parts - n)))

  part_more : (n : ℕ) → n < parts → from_part n ≡ line (codes "worker " ++ decimal n) ++ from_part (n + 1)
  part_more n less =
      let more : parts - n ≡ suc (parts - (n + 1)) = omega (arith, less) in
      rw more refl

  no_part : (n : ℕ) → parts ≤ n → from_part n ≡ codes "end\n"
  no_part n all =
      let none : parts - n ≡ 0 = omega (arith, all) in
      rw none refl

  pub worker_more : (t0 t1 t2 t3 whole : List ℕ) (n : ℕ) → n < parts → t1 ≡ t0 ++ codes "worker " → t2 ≡ t1 ++ decimal n → t3 ≡ t2 ++ 10 ∷ [] → t0 ++ from_part n ≡ whole
      → t3 ++ from_part (n + 1) ≡ whole
  worker_more t0 t1 t2 t3 whole n less e1 e2 e3 so_far =
      rw (e3, e2, e1)
      (append_assoc ((t0 ++ codes "worker ") ++ decimal n) (10 ∷ []) (from_part (n + 1))
      ∙ (append_assoc (t0 ++ codes "worker ") (decimal n) (10 ∷ from_part (n + 1))
      ∙ (append_assoc t0 (codes "worker ") (decimal n ++ 10 ∷ from_part (n + 1))
      ∙ (ap (λ (x : List ℕ). t0 ++ x)
      (sym (append_assoc (codes "worker ") (decimal n) (10 ∷ from_part (n + 1))) ∙ sym (append_assoc (codes "worker " ++ decimal n) (10 ∷ []) (from_part (n + 1)))
      ∙ sym (part_more n less))
      ∙ so_far))))

  pub tail_all : (t0 t1 whole : List ℕ) (n : ℕ) → parts ≤ n → t1 ≡ t0 ++ codes "end\n" → t0 ++ from_part n ≡ whole → t1 ≡ whole
  tail_all t0 t1 whole n all e so_far = e ∙ (ap (λ (x : List ℕ). t0 ++ x) (sym (no_part n all)) ∙ so_far)

pub names_pushed : (t0 t1 t2 t3 t4 t5 w a b c d names : List ℕ) → names ≡ a ++ (b ++ (c ++ (d ++ []))) → t1 ≡ t0 ++ w → t2 ≡ t1 ++ a → t3 ≡ t2 ++ b → t4 ≡ t3 ++ c
    → t5 ≡ t4 ++ d → t5 ≡ t0 ++ (w ++ names)
names_pushed t0 t1 t2 t3 t4 t5 w a b c d names is e1 e2 e3 e4 e5 = rw (e5, e4, e3, e2, e1, is) (names_joined t0 w a b c d)

pub counted_by : (has : Station → Bool) (a b c d : ℕ) → a ≡ (if has Dcf77 then 1 else 0) → b ≡ (if has Msf then 1 else 0) → c ≡ (if has Wwvb then 1 else 0)
    → d ≡ (if has Jjy then 1 else 0) → nat_lt 1 (a + b + c + d) ≡ nat_lt 1 (length (filter has (Dcf77 ∷ Msf ∷ Wwvb ∷ Jjy ∷ [])))
counted_by has a b c d ea eb ec ed = rw (ea, eb, ec, ed) (ap (λ (n : ℕ). nat_lt 1 n) (counted has))
