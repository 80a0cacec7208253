-- Lines and bytes that a checker takes, and what comes of them.
use Rattle.std.proofs.Common.{◌≡◌, ℕ, ◌+◌, ◌<◌, ◌≤◌, ◌⊎◌, inl, inr, Bool, true, false, is_some, List, [], ◌∷◌, ◌++◌, length, take, get_or, Option, Some, None, refl, sym, ap, ◌∙◌, subst, arith, append_assoc, append-nil, length-append, ⊎_elim}
use Rattle.std.proofs.lemmas.List.{take_all, take_more}
use Rattle.signal_base.specs.declared.window.Window.{Window}
use Rattle.definitions.specs.heard.Costs.{Costs}
use Rattle.certificates.specs.declared.certificate.Line.{Line}
use Rattle.certificates.specs.declared.fault.CertificateLineFault.{CertificateLineFault}
use Rattle.certificates.specs.declared.limits.TheConstants.{CERTIFICATE_LIMIT, MOST_STEPS}
use Rattle.certificates.specs.declared.verdict.Verdict.{Verdict}
use Rattle.certificates.specs.declared.verdict.Verdict.TheVariants.{OtherWindow}
use Rattle.certificates.specs.Certificates.{Certificate, lines_of}
use Rattle.certificates.specs.Texts.{Entry, HeadLine, IsRefused, Lead, Next, entries_of, first_line}
use Rattle.certificates.specs.Texts.Entry.{Tells, Part, Step, End}
use Rattle.certificates.specs.Texts.Next.{AtHead, AtEnd}
use Rattle.certificates.specs.Validity.{limit_named}
use Rattle.certificates.specs.Verdicts.{IsFoundOf, IsVerdict}
use Rattle.certificate_texts.specs.declared.reader.BadLine.{BadLine}
use Rattle.certificate_texts.specs.declared.reader.Reader.{Reader}
use Rattle.certificate_texts.specs.Reading.{IsRead, IsWhole, StandsBy}
use Rattle.certificate_texts.specs.Places.{next_of}
use Rattle.field_tables.specs.Scored.{Scored}
use Rattle.certificate_judge.specs.declared.checker.Checker.{Checker}
use Rattle.certificate_judge.specs.declared.heading.Heading.{Heading}
use Rattle.certificate_judge.specs.declared.judge.Judge.{Judge}
use Rattle.certificate_judge.specs.Checking.{AreFollowed, HasTaken, IsFollowed, IsFollowedBy, StandsFor}
use Rattle.certificate_judge.specs.Headings.{IsOfWindow, heading_after, heading_from, heading_of, heading_with, no_heading, step_in, steps_of}
use Rattle.certificate_judge.specs.Judging.{AreAlike, IsJudged}
use Rattle.certificate_judge.proofs.HeadingLaws.{few_steps, head_before_steps, heading_more, is_of_window, of_window, steps_more, whole_heading, whole_steps}

-- a line more
module _ (h : Heading) (j : Judge) (read : List Entry) (is : AreFollowed h j read) (e : Entry) (last : Next) (lead : Lead first_line (read ++ e ∷ []) last) where
  pub head_followed : (told : HeadLine) (value : Option ℕ) → e ≡ Tells told value → (new : Heading) → new ≡ heading_with told value h
      → AreFollowed new j (read ++ e ∷ [])
  head_followed told value same new now =
      subst (λ (d : Entry). AreFollowed new j (read ++ d ∷ [])) (sym same)
      (record {
        heading_is = now ∙ (ap (heading_with told value) is.heading_is ∙ sym (heading_more no_heading read (Tells told value)));
        judged = λ limit which. subst (λ (ls : List Line). IsJudged limit j ls) (sym steps) (is.judged limit (inl before));
      })
    where
      before : steps_of read ≡ []
      before = head_before_steps first_line read told value last (subst (λ (d : Entry). Lead first_line (read ++ d ∷ []) last) same lead)

      steps : steps_of (read ++ Tells told value ∷ []) ≡ steps_of read
      steps = steps_more read (Tells told value) ∙ append-nil (steps_of read)

  pub step_followed : (l : Line) → e ≡ Step l → (new : Judge) → new.ceiling ≡ j.ceiling
      → ((ls : List Line) → length ls < MOST_STEPS → IsJudged (limit_named j.ceiling h.second) j ls → IsJudged (limit_named j.ceiling h.second) new (ls ++ l ∷ []))
      → AreFollowed h new (read ++ e ∷ [])
  step_followed l same new alike more =
      subst (λ (d : Entry). AreFollowed h new (read ++ d ∷ [])) (sym same)
      (record {
        heading_is = is.heading_is ∙ sym (heading_more no_heading read (Step l));
        judged = λ limit which. ⊎_elim (λ none. absurd (never none)) (λ e. at limit e) which;
      })
    where
      steps : steps_of (read ++ Step l ∷ []) ≡ steps_of read ++ l ∷ []
      steps = steps_more read (Step l)

      counted : length (steps_of (read ++ Step l ∷ [])) ≡ length (steps_of read) + 1
      counted = ap (λ (ls : List Line). length ls) steps ∙ length-append (steps_of read) (l ∷ [])

      few : length (steps_of read) < MOST_STEPS
      few = omega (arith, counted, few_steps (read ++ Step l ∷ []) last (subst (λ (d : Entry). Lead first_line (read ++ d ∷ []) last) same lead))

      never : steps_of (read ++ Step l ∷ []) ≡ [] → ⊥
      never none = omega (arith, counted, ap (λ (ls : List Line). length ls) none)

      judged : IsJudged (limit_named j.ceiling h.second) new (steps_of read ++ l ∷ [])
      judged = more (steps_of read) few (is.judged (limit_named j.ceiling h.second) (inr refl))

      at : (limit : ℕ) → limit ≡ limit_named new.ceiling h.second → IsJudged limit new (steps_of (read ++ Step l ∷ []))
      at limit e =
          subst (λ (n : ℕ). IsJudged n new (steps_of (read ++ Step l ∷ []))) (sym (e ∙ ap (λ (n : ℕ). limit_named n h.second) alike))
          (subst (λ (ls : List Line). IsJudged (limit_named j.ceiling h.second) new ls) (sym steps) judged)

  other_followed : (d : Entry) → ((g : Heading) → heading_after g d ≡ g) → step_in d [] ≡ [] → e ≡ d → AreFollowed h j (read ++ e ∷ [])
  other_followed d still none same =
      subst (λ (d : Entry). AreFollowed h j (read ++ d ∷ [])) (sym same)
      (record {
        heading_is = is.heading_is ∙ (sym (still (heading_from no_heading read)) ∙ sym (heading_more no_heading read d));
        judged = λ limit which.
            subst (λ (ls : List Line). IsJudged limit j ls) (sym steps)
            (is.judged limit (⊎_elim (λ none. inl (sym steps ∙ none)) (λ e. inr e) which));
      })
    where
      steps : steps_of (read ++ d ∷ []) ≡ steps_of read
      steps = steps_more read d ∙ (ap (λ (ls : List Line). steps_of read ++ ls) none ∙ append-nil (steps_of read))

  pub part_followed : (n : ℕ) → e ≡ Part n → AreFollowed h j (read ++ e ∷ [])
  part_followed n same = other_followed (Part n) (λ g. refl) refl same

  pub end_followed : e ≡ End → AreFollowed h j (read ++ e ∷ [])
  end_followed same = other_followed End (λ g. refl) refl same

-- a byte more, where there weren't too many
pub read_stands : (o : Option BadLine) (r : Reader) (bytes : List ℕ) (read : List Entry) → o ≡ None → IsRead r bytes read → StandsBy o r bytes read
read_stands o r bytes read good is = subst (λ (b : Option BadLine). StandsBy b r bytes read) (sym good) is

pub good_followed : (o : Option BadLine) (r : Reader) (h : Heading) (j : Judge) (bytes : List ℕ) → o ≡ None → IsFollowedBy o r h j bytes → IsFollowed r h j bytes
good_followed o r h j bytes good is = subst (λ (b : Option BadLine). IsFollowedBy b r h j bytes) good is

followed_by : (o : Option BadLine) (r : Reader) (h : Heading) (j : Judge) (bytes : List ℕ) (read : List Entry) → StandsBy o r bytes read
    → (IsRead r bytes read → AreFollowed h j read) → IsFollowedBy o r h j bytes
followed_by None r h j bytes read stands to = record { read = read; is_read = stands; followed = to stands }
followed_by (Some bad) r h j bytes read stands to = stands

pub bad_followed : (o : Option BadLine) (r : Reader) (h : Heading) (j : Judge) (bytes : List ℕ) (byte : ℕ) → is_some o ≡ true → IsFollowedBy o r h j bytes
    → IsFollowedBy o r h j (bytes ++ byte ∷ [])
bad_followed None r h j bytes byte bad is = absurd cc
bad_followed (Some b) r h j bytes byte bad is =
    λ more. subst (λ (x : List ℕ). IsRefused x b.line b.fault) (sym (append_assoc bytes (byte ∷ []) more)) (is (byte ∷ more))

module _ (r s : Reader) (h : Heading) (j : Judge) (bytes : List ℕ) (byte : ℕ) (good : r.bad ≡ None) (is : IsFollowedBy r.bad r h j bytes) where
  so_far : IsFollowed r h j bytes
  so_far = good_followed r.bad r h j bytes good is

  pub byte_followed : ((bytes : List ℕ) (read : List Entry) → StandsBy r.bad r bytes read → StandsBy s.bad s (bytes ++ byte ∷ []) read)
      → IsFollowedBy s.bad s h j (bytes ++ byte ∷ [])
  byte_followed more =
      followed_by s.bad s h j (bytes ++ byte ∷ []) so_far.read (more bytes so_far.read (read_stands r.bad r bytes so_far.read good so_far.is_read))
      (λ is. so_far.followed)

  pub line_followed : (g : Heading) (k : Judge) (e : Entry)
      → ((bytes : List ℕ) (read : List Entry) → StandsBy r.bad r bytes read → StandsBy s.bad s (bytes ++ byte ∷ []) (read ++ e ∷ []))
      → ((read : List Entry) (last : Next) → AreFollowed h j read → Lead first_line (read ++ e ∷ []) last → AreFollowed g k (read ++ e ∷ []))
      → IsFollowedBy s.bad s g k (bytes ++ byte ∷ [])
  line_followed g k e more follow =
      followed_by s.bad s g k (bytes ++ byte ∷ []) (so_far.read ++ e ∷ []) (more bytes so_far.read (read_stands r.bad r bytes so_far.read good so_far.is_read))
      (λ is. follow so_far.read (next_of s.place) so_far.followed is.lead)

-- too many bytes, or not
pub large_taken : (t : Bool) (c : Checker) (bytes : List ℕ) → t ≡ true → CERTIFICATE_LIMIT < length bytes → HasTaken t c bytes
large_taken t c bytes e many = subst (λ (u : Bool). HasTaken u c bytes) (sym e) many

pub taken_large : (t : Bool) (c : Checker) (bytes : List ℕ) → t ≡ true → HasTaken t c bytes → CERTIFICATE_LIMIT < length bytes
taken_large t c bytes e taken = subst (λ (u : Bool). HasTaken u c bytes) e taken

pub few_taken : (t : Bool) (c : Checker) (bytes : List ℕ) → t ≡ false → c.bytes ≡ length bytes → IsFollowedBy c.reader.bad c.reader c.heading c.judge bytes
    → HasTaken t c bytes
few_taken t c bytes e counted is = subst (λ (u : Bool). HasTaken u c bytes) (sym e) (counted, is)

pub taken_few : (t : Bool) (c : Checker) (bytes : List ℕ) → t ≡ false → HasTaken t c bytes
    → (c.bytes ≡ length bytes) × IsFollowedBy c.reader.bad c.reader c.heading c.judge bytes
taken_few t c bytes e taken = subst (λ (u : Bool). HasTaken u c bytes) e taken

pub many_more : (bytes : List ℕ) (byte : ℕ) → CERTIFICATE_LIMIT ≤ length bytes → CERTIFICATE_LIMIT < length (bytes ++ byte ∷ [])
many_more bytes byte many = omega (arith, many, length-append bytes (byte ∷ []))

pub one_more : (n : ℕ) (bytes : List ℕ) (byte : ℕ) → n ≡ length bytes → n + 1 ≡ length (bytes ++ byte ∷ [])
one_more n bytes byte e = omega (arith, e, length-append bytes (byte ∷ []))

-- a checker takes a byte
module _ (c : Checker) (tables : Scored) (ceiling : ℕ) (before : List ℕ) (byte : ℕ) (stands : StandsFor c tables ceiling before) where
  pub still_large : c.large ≡ true → StandsFor c tables ceiling (before ++ byte ∷ [])
  still_large large = record {
    tables_are = stands.tables_are;
    ceiling_is = stands.ceiling_is;
    taken = large_taken c.large c (before ++ byte ∷ []) large
        (omega (arith, taken_large c.large c before large stands.taken, length-append before (byte ∷ [])));
  }

  module _ (few : c.large ≡ false) where
    so_many : (c.bytes ≡ length before) × IsFollowedBy c.reader.bad c.reader c.heading c.judge before
    so_many = taken_few c.large c before few stands.taken

    pub becomes_large : (n : Checker) → n.large ≡ true → n.judge ≡ c.judge → CERTIFICATE_LIMIT ≤ c.bytes → StandsFor n tables ceiling (before ++ byte ∷ [])
    becomes_large n large same full = record {
      tables_are = ap (λ (j : Judge). j.due.tables.now) same ∙ stands.tables_are;
      ceiling_is = ap (λ (j : Judge). j.ceiling) same ∙ stands.ceiling_is;
      taken = large_taken n.large n (before ++ byte ∷ []) large (many_more before byte (omega (arith, full, so_many.0)));
    }

    pub takes : (n : Checker) → n.large ≡ false → n.bytes ≡ c.bytes + 1 → AreAlike c.judge n.judge
        → (IsFollowedBy c.reader.bad c.reader c.heading c.judge before → IsFollowedBy n.reader.bad n.reader n.heading n.judge (before ++ byte ∷ []))
        → StandsFor n tables ceiling (before ++ byte ∷ [])
    takes n still counted alike follow = record {
      tables_are = alike.0 ∙ stands.tables_are;
      ceiling_is = alike.1 ∙ stands.ceiling_is;
      taken = few_taken n.large n (before ++ byte ∷ []) still (counted ∙ one_more c.bytes before byte so_many.0) (follow so_many.1);
    }

-- byte by byte
module _ (c : Checker) (tables : Scored) (ceiling : ℕ) (before bytes : List ℕ) where
  pub none_taken : StandsFor c tables ceiling before → StandsFor c tables ceiling (before ++ take 0 bytes)
  none_taken stands = subst (λ (x : List ℕ). StandsFor c tables ceiling x) (sym (append-nil before)) stands

  pub one_taken : (i byte d : ℕ) → i < length bytes → get_or bytes i d ≡ byte → StandsFor c tables ceiling ((before ++ take i bytes) ++ byte ∷ [])
      → StandsFor c tables ceiling (before ++ take (i + 1) bytes)
  one_taken i byte d within is stands =
      subst (λ (x : List ℕ). StandsFor c tables ceiling x)
      (append_assoc before (take i bytes) (byte ∷ [])
      ∙ ap (λ (x : List ℕ). before ++ x)
      (ap (λ (b : ℕ). take i bytes ++ b ∷ []) (sym is) ∙ sym (take_more bytes i d within)))
      stands

  pub all_taken : (i : ℕ) → length bytes ≤ i → StandsFor c tables ceiling (before ++ take i bytes) → StandsFor c tables ceiling (before ++ bytes)
  all_taken i over stands = subst (λ (x : List ℕ). StandsFor c tables ceiling (before ++ x)) (take_all i bytes over) stands

-- at the end
pub record IsWholeOf (h : Heading) (j : Judge) (bytes : List ℕ) : Type 0 where
  pub read : List Entry
  pub whole : IsWhole bytes read
  pub followed : AreFollowed h j read

not_first : AtEnd ≡ first_line → ⊥
not_first e = absurd cc

pub whole_followed : (o : Option BadLine) (r : Reader) (h : Heading) (j : Judge) (bytes : List ℕ) → IsFollowedBy o r h j bytes
    → ((read : List Entry) → StandsBy o r bytes read → IsWhole bytes read) → IsWholeOf h j bytes
whole_followed None r h j bytes is whole = record { read = is.read; whole = whole is.read is.is_read; followed = is.followed }
whole_followed (Some bad) r h j bytes is whole = absurd (not_first (whole [] is).lead)

pub refused_followed : (o : Option BadLine) (r : Reader) (h : Heading) (j : Judge) (bytes : List ℕ) (n : ℕ) (fault : CertificateLineFault) → IsFollowedBy o r h j bytes
    → ((read : List Entry) → StandsBy o r bytes read → IsRefused bytes n fault) → IsRefused bytes n fault
refused_followed None r h j bytes n fault is refused = refused is.read is.is_read
refused_followed (Some bad) r h j bytes n fault is refused = refused [] is

-- the verdict on a certificate that was read whole
module _ (costs : Costs) (window : Window) (h : Heading) (j : Judge) (read : List Entry) (c : Certificate) (is : AreFollowed h j read) (whole : read ≡ entries_of c) where
  pub heading_whole : h ≡ heading_of c.head
  heading_whole = is.heading_is ∙ whole_heading c read whole

  pub of_other : (IsOfWindow window j.ceiling h → ⊥) → IsVerdict costs window j.ceiling c OtherWindow
  of_other never = inl ((λ of_it. never (is_of_window window j.ceiling c h heading_whole of_it)), refl)

  pub of_this : IsOfWindow window j.ceiling h → length (lines_of c) ≤ MOST_STEPS → (v : Verdict)
      → ((ls : List Line) → length ls ≤ MOST_STEPS → IsJudged (limit_named j.ceiling h.second) j ls → IsFoundOf costs window j.ceiling h.first h.second ls v)
      → IsVerdict costs window j.ceiling c v
  of_this of_it few v found = inr (of_window window j.ceiling c h heading_whole of_it, lines)
    where
      steps : steps_of read ≡ lines_of c
      steps = whole_steps c read whole

      told : IsFoundOf costs window j.ceiling h.first h.second (steps_of read) v
      told = found (steps_of read) (omega (arith, few, ap (λ (ls : List Line). length ls) steps)) (is.judged (limit_named j.ceiling h.second) (inr refl))

      lines : IsFoundOf costs window j.ceiling c.head.first c.head.second (lines_of c) v
      lines =
          subst (λ (g : Heading). IsFoundOf costs window j.ceiling g.first g.second (lines_of c) v) heading_whole
          (subst (λ (ls : List Line). IsFoundOf costs window j.ceiling h.first h.second ls v) steps told)
