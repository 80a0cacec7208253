-- What is kept of lines, a line more, and of a whole certificate.
use Rattle.std.proofs.Common.{◌≡◌, ℕ, ◌+◌, ◌<◌, ◌≤◌, List, take, get_or, [], ◌∷◌, ◌++◌, map, length, Option, refl, sym, ap, ◌∙◌, subst, arith, append-nil}
use Rattle.std.proofs.lemmas.List.{take_all, take_more}
use Rattle.certificates.specs.declared.certificate.Line.{Line}
use Rattle.certificates.specs.Certificates.{Certificate}
use Rattle.certificates.specs.Texts.{Entry, HeadLine, entries_of, part_entries}
use Rattle.certificates.specs.Texts.Entry.{Tells, Part, Step, End}
use Rattle.certificate_texts.specs.declared.reader.Reader.{Reader}
use Rattle.certificate_judge.specs.declared.kept.Kept.{Kept}
use Rattle.certificate_judge.specs.Headings.{heading_after, heading_from, heading_with, no_heading, step_in, steps_of}
use Rattle.certificate_judge.specs.Kept.{IsKept, IsReadInto, starts_of}
use Rattle.certificate_judge.specs.WholeTexts.{part_starts}
use Rattle.certificate_judge.proofs.HeadingLaws.{heading_more, steps_more}

-- a line more
pub starts_more : (n : ℕ) (es : List Entry) (e : Entry) → starts_of n (es ++ e ∷ []) ≡ starts_of n es ++ starts_of (n + length (steps_of es)) (e ∷ [])
starts_more n [] e = ap (λ (m : ℕ). starts_of m (e ∷ [])) (omega arith)
starts_more n (Tells told value ∷ es) e = starts_more n es e
starts_more n (Part k ∷ es) e = ap (λ (xs : List ℕ). n ∷ xs) (starts_more n es e)
starts_more n (Step l ∷ es) e = starts_more (n + 1) es e ∙ ap (λ (m : ℕ). starts_of (n + 1) es ++ starts_of m (e ∷ [])) (omega arith)
starts_more n (End ∷ es) e = starts_more n es e

module _ (old new : Kept) (read : List Entry) (is : IsKept old read) where
  more_kept : (e : Entry) → new.heading ≡ heading_after old.heading e → new.lines.items ≡ old.lines.items ++ step_in e []
      → new.starts.items ≡ old.starts.items ++ starts_of (length old.lines.items) (e ∷ []) → IsKept new (read ++ e ∷ [])
  more_kept e heading lines starts = record {
    heading_is = heading ∙ (ap (λ h. heading_after h e) is.heading_is ∙ sym (heading_more no_heading read e));
    lines_are = lines ∙ (ap (λ (ls : List Line). ls ++ step_in e []) is.lines_are ∙ sym (steps_more read e));
    starts_are = starts
        ∙ (ap (λ (xs : List ℕ). xs ++ starts_of (length old.lines.items) (e ∷ [])) is.starts_are
        ∙ (ap (λ (m : ℕ). starts_of 0 read ++ starts_of m (e ∷ [])) before ∙ sym (starts_more 0 read e)));
  }
    where
      before : length old.lines.items ≡ 0 + length (steps_of read)
      before = omega (arith, ap (λ (ls : List Line). length ls) is.lines_are)

  pub head_kept : (told : HeadLine) (value : Option ℕ) (e : Entry) → e ≡ Tells told value → new.heading ≡ heading_with told value old.heading
      → new.lines.items ≡ old.lines.items → new.starts.items ≡ old.starts.items → IsKept new (read ++ e ∷ [])
  head_kept told value e same heading lines starts =
      subst (λ (d : Entry). IsKept new (read ++ d ∷ [])) (sym same)
      (more_kept (Tells told value) heading (lines ∙ sym (append-nil old.lines.items)) (starts ∙ sym (append-nil old.starts.items)))

  pub part_kept : (k : ℕ) (e : Entry) → e ≡ Part k → new.heading ≡ old.heading → new.lines.items ≡ old.lines.items
      → new.starts.items ≡ old.starts.items ++ length old.lines.items ∷ [] → IsKept new (read ++ e ∷ [])
  part_kept k e same heading lines starts =
      subst (λ (d : Entry). IsKept new (read ++ d ∷ [])) (sym same)
      (more_kept (Part k) heading (lines ∙ sym (append-nil old.lines.items)) starts)

  pub step_kept : (l : Line) (e : Entry) → e ≡ Step l → new.heading ≡ old.heading → new.lines.items ≡ old.lines.items ++ l ∷ []
      → new.starts.items ≡ old.starts.items → IsKept new (read ++ e ∷ [])
  step_kept l e same heading lines starts =
      subst (λ (d : Entry). IsKept new (read ++ d ∷ [])) (sym same)
      (more_kept (Step l) heading lines (starts ∙ sym (append-nil old.starts.items)))

-- the last line
pub end_kept : (kept : Kept) (read : List Entry) (e : Entry) → IsKept kept read → e ≡ End → IsKept kept (read ++ e ∷ [])
end_kept kept read e is same =
    subst (λ (d : Entry). IsKept kept (read ++ d ∷ [])) (sym same)
    (more_kept kept kept read is End refl (sym (append-nil kept.lines.items)) (sym (append-nil kept.starts.items)))

-- byte by byte
module _ (r : Reader) (k : Kept) (bytes : List ℕ) where
  pub one_read : (i byte d : ℕ) → i < length bytes → get_or bytes i d ≡ byte → IsReadInto r k (take i bytes ++ byte ∷ []) → IsReadInto r k (take (i + 1) bytes)
  one_read i byte d within is read =
      subst (IsReadInto r k) (ap (λ (b : ℕ). take i bytes ++ b ∷ []) (sym is) ∙ sym (take_more bytes i d within)) read

  pub all_read : (i : ℕ) → length bytes ≤ i → IsReadInto r k (take i bytes) → IsReadInto r k bytes
  all_read i over read = subst (IsReadInto r k) (take_all i bytes over) read

-- of a whole certificate
starts_of_part : (n : ℕ) (ls : List Line) (es : List Entry) → starts_of n (map Step ls ++ es) ≡ starts_of (n + length ls) es
starts_of_part n [] es = ap (λ (m : ℕ). starts_of m es) (omega arith)
starts_of_part n (l ∷ ls) es = starts_of_part (n + 1) ls es ∙ ap (λ (m : ℕ). starts_of m es) (omega arith)

starts_of_parts : (n k : ℕ) (parts : List (List Line)) → starts_of n (part_entries k parts) ≡ part_starts n parts
starts_of_parts n k [] = refl
starts_of_parts n k (part ∷ parts) =
    ap (λ (xs : List ℕ). n ∷ xs) (starts_of_part n part (part_entries (k + 1) parts) ∙ starts_of_parts (n + length part) (k + 1) parts)

pub whole_starts : (c : Certificate) (read : List Entry) → read ≡ entries_of c → starts_of 0 read ≡ part_starts 0 c.parts
whole_starts c read whole = ap (starts_of 0) whole ∙ starts_of_parts 0 0 c.parts
