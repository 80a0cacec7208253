-- What examples of certificates keep to.
use Rattle.std.proofs.Common.{◌≡◌, ℕ, ◌<◌, ◌≤◌, List, [], ◌∷◌, ◌++◌, get_or, refl, ap, subst, arith}
use Rattle.definitions.specs.time.Calendar.{century_minutes}
use Rattle.definitions.specs.sequences.Windows.{IsWindow}
use Rattle.definitions.specs.examples.Sequences.{window_of}
use Rattle.formats.specs.Bytes.{line_feed}
use Rattle.formats.proofs.FrameEdgeLaws.{Avoids}
use Rattle.certificates.specs.declared.fault.CertificateLineFault.TheVariants.{Shape}
use Rattle.certificates.specs.declared.certificate.Line.{Line}
use Rattle.certificates.specs.Certificates.{IsLine}
use Rattle.certificates.specs.Texts.{CanStand, Entry, IsRefused, Lead, Next, entry_line, entry_text, first_line, head_entries, step_text}
use Rattle.certificates.specs.Texts.Entry.{Tells, Part, Step, End}
use Rattle.certificates.specs.Texts.Next.{AtParts, AtStep}
use Rattle.certificates.specs.Examples.{last_head, text_to_steps}
use Rattle.certificates.proofs.BadLineLaws.{no_line}
use Rattle.certificates.proofs.LeadLaws.{head_leads}
use Rattle.certificates.proofs.StepLaws.{IsPlain, plain_line, step_tells}

pub in_range : (mask lo hi : ℕ) → 1 ≤ mask → mask ≤ 15 → lo < hi → hi ≤ century_minutes → IsWindow (window_of mask lo hi)
in_range mask lo hi some few less century = record {
  some_station = some;
  stations = few;
  start = omega arith;
  phase = omega arith;
  not_short = omega arith;
  not_long = omega arith;
  not_empty = less;
  century = century;
}

-- the head of the examples leads to the first part and to its steps
pub to_parts : (es : List Entry) (last : Next) → Lead AtParts es last → Lead first_line (head_entries last_head ++ es) last
to_parts es last lead = head_leads last_head (in_range 1 52_595_938 52_596_000 (omega arith) (omega arith) (omega arith) (omega arith)) (omega arith) (omega arith, omega arith) tt es last lead

pub to_steps : Lead first_line (head_entries last_head ++ Part 0 ∷ []) (AtStep 0 0)
to_steps = to_parts (Part 0 ∷ []) (AtStep 0 0) (refl, tt, refl)

-- a step that is written as a line which isn't one
no_step : (l : Line) → IsPlain l → (IsLine l → ⊥) → get_or (step_text l) 0 0 ≤ 80 → (e : Entry) → CanStand (AtStep 0 0) e → entry_text e ≡ step_text l → ⊥
no_step l plain never byte (Tells told v) can same = can
no_step l plain never byte (Part n) can same = omega (arith, byte, ap (λ (b : List ℕ). get_or b 0 0) same)
no_step l plain never byte (Step m) can same = never (subst IsLine (step_tells m l (plain_line m can) plain same) can)
no_step l plain never byte End can same = omega (arith, byte, ap (λ (b : List ℕ). get_or b 0 0) same)

pub bad_step : (l : Line) (rest : List ℕ) → IsPlain l → (IsLine l → ⊥) → get_or (step_text l) 0 0 ≤ 80 → Avoids line_feed (step_text l)
    → IsRefused (text_to_steps ++ (entry_line (Step l) ++ rest)) 12 Shape
bad_step l rest plain never byte avoids = record {
  read = head_entries last_head ++ Part 0 ∷ [];
  next = AtStep 0 0;
  rest = entry_line (Step l) ++ rest;
  lead = to_steps;
  parts = refl;
  is_due = refl;
  bad = ((λ over. over), no_line (AtStep 0 0) (step_text l) rest avoids (no_step l plain never byte));
}
