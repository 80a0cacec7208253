-- What lines of a certificate told, a line more, and of a whole certificate.
use Rattle.std.proofs.Common.{◌≡◌, ℕ, ◌+◌, ◌<◌, ◌≤◌, List, [], ◌∷◌, ◌++◌, map, flat_map, length, Option, Some, None, refl, sym, ap, ◌∙◌, subst, arith}
use Rattle.signal_base.specs.declared.window.Window.{Window}
use Rattle.certificates.specs.declared.certificate.Head.{Head}
use Rattle.certificates.specs.declared.certificate.Line.{Line}
use Rattle.certificates.specs.declared.limits.TheConstants.{MOST_STEPS}
use Rattle.certificates.specs.Certificates.{Certificate, lines_of}
use Rattle.certificates.specs.Texts.{Entry, HeadLine, Lead, Next, after, after_head, entries_of, first_line, head_entries, part_entries, steps_at}
use Rattle.certificates.specs.Texts.Entry.{Tells, Part, Step, End}
use Rattle.certificates.specs.Texts.HeadLine.{Version, Heard, Start, Phase, Seconds, From, To, Ceiling, First, Second}
use Rattle.certificates.specs.Texts.Next.{AtHead, AtParts, AtStep, AtEnd}
use Rattle.certificates.specs.Verdicts.{IsOf}
use Rattle.certificate_judge.specs.declared.heading.Heading.{Heading}
use Rattle.certificate_judge.specs.Headings.{IsOfWindow, heading_after, heading_from, heading_of, no_heading, step_in, steps_of}

-- a line more
pub heading_more : (h : Heading) (es : List Entry) (e : Entry) → heading_from h (es ++ e ∷ []) ≡ heading_after (heading_from h es) e
heading_more h [] e = refl
heading_more h (d ∷ es) e = heading_more (heading_after h d) es e

step_first : (d : Entry) (xs ys : List Line) → step_in d xs ++ ys ≡ step_in d (xs ++ ys)
step_first (Tells told value) xs ys = refl
step_first (Part n) xs ys = refl
step_first (Step l) xs ys = refl
step_first End xs ys = refl

pub steps_more : (es : List Entry) (e : Entry) → steps_of (es ++ e ∷ []) ≡ steps_of es ++ step_in e []
steps_more [] e = refl
steps_more (d ∷ es) e = ap (step_in d) (steps_more es e) ∙ sym (step_first d (steps_of es) (step_in e []))

-- no step stands before a line of the head
never_end : (es : List Entry) (told : HeadLine) (value : Option ℕ) (last : Next) → Lead AtEnd (es ++ Tells told value ∷ []) last → ⊥
never_end [] told value last lead = lead.0
never_end (Tells t v ∷ es) told value last lead = lead.0
never_end (Part n ∷ es) told value last lead = lead.0
never_end (Step l ∷ es) told value last lead = lead.0
never_end (End ∷ es) told value last lead = lead.0

never_step : (part steps : ℕ) (es : List Entry) (told : HeadLine) (value : Option ℕ) (last : Next) → Lead (AtStep part steps) (es ++ Tells told value ∷ []) last → ⊥
never_step part steps [] told value last lead = lead.0
never_step part steps (Tells t v ∷ es) told value last lead = lead.0
never_step part steps (Part n ∷ es) told value last lead = never_step n steps es told value last lead.2
never_step part steps (Step l ∷ es) told value last lead = never_step part (steps + 1) es told value last lead.2
never_step part steps (End ∷ es) told value last lead = never_end es told value last lead.2

pub head_before_steps : (next : Next) (es : List Entry) (told : HeadLine) (value : Option ℕ) (last : Next) → Lead next (es ++ Tells told value ∷ []) last → steps_of es ≡ []
head_before_steps next [] told value last lead = refl
head_before_steps next (Tells t v ∷ es) told value last lead = head_before_steps (after_head t v) es told value last lead.2
head_before_steps next (Part n ∷ es) told value last lead = absurd (never_step n (steps_at next) es told value last lead.2)
head_before_steps next (End ∷ es) told value last lead = absurd (never_end es told value last lead.2)
head_before_steps (AtHead due before) (Step l ∷ es) told value last lead = absurd lead.0
head_before_steps AtParts (Step l ∷ es) told value last lead = absurd lead.0
head_before_steps (AtStep part steps) (Step l ∷ es) told value last lead = absurd (never_step part (steps + 1) es told value last lead.2)
head_before_steps AtEnd (Step l ∷ es) told value last lead = absurd lead.0

-- there aren't too many steps
steps_end : (es : List Entry) (last : Next) → Lead AtEnd es last → length (steps_of es) ≡ 0
steps_end [] last lead = refl
steps_end (Tells t v ∷ es) last lead = absurd lead.0
steps_end (Part n ∷ es) last lead = absurd lead.0
steps_end (Step l ∷ es) last lead = absurd lead.0
steps_end (End ∷ es) last lead = absurd lead.0

few_in_parts : (part steps : ℕ) (es : List Entry) (last : Next) → steps ≤ MOST_STEPS → Lead (AtStep part steps) es last → steps + length (steps_of es) ≤ MOST_STEPS
few_in_parts part steps [] last few lead = omega (arith, few)
few_in_parts part steps (Tells t v ∷ es) last few lead = absurd lead.0
few_in_parts part steps (Part n ∷ es) last few lead = few_in_parts n steps es last few lead.2
few_in_parts part steps (Step l ∷ es) last few lead = omega (arith, few_in_parts part (steps + 1) es last (omega (arith, lead.1)) lead.2)
few_in_parts part steps (End ∷ es) last few lead = omega (arith, few, steps_end es last lead.2)

few_at_parts : (es : List Entry) (last : Next) → Lead AtParts es last → length (steps_of es) ≤ MOST_STEPS
few_at_parts [] last lead = omega arith
few_at_parts (Tells t v ∷ es) last lead = absurd lead.0
few_at_parts (Part n ∷ es) last lead = omega (arith, few_in_parts n 0 es last (omega arith) lead.2)
few_at_parts (Step l ∷ es) last lead = absurd lead.0
few_at_parts (End ∷ es) last lead = absurd lead.0

few_at_head : (due : HeadLine) (before : Option ℕ) (es : List Entry) (last : Next) → Lead (AtHead due before) es last → length (steps_of es) ≤ MOST_STEPS
few_at_head due before [] last lead = omega arith
few_at_head due before (Tells Version v ∷ es) last lead = few_at_head Heard v es last lead.2
few_at_head due before (Tells Heard v ∷ es) last lead = few_at_head Start v es last lead.2
few_at_head due before (Tells Start v ∷ es) last lead = few_at_head Phase v es last lead.2
few_at_head due before (Tells Phase v ∷ es) last lead = few_at_head Seconds v es last lead.2
few_at_head due before (Tells Seconds v ∷ es) last lead = few_at_head From v es last lead.2
few_at_head due before (Tells From v ∷ es) last lead = few_at_head To v es last lead.2
few_at_head due before (Tells To v ∷ es) last lead = few_at_head Ceiling v es last lead.2
few_at_head due before (Tells Ceiling v ∷ es) last lead = few_at_head First v es last lead.2
few_at_head due before (Tells First v ∷ es) last lead = few_at_head Second v es last lead.2
few_at_head due before (Tells Second v ∷ es) last lead = few_at_parts es last lead.2
few_at_head due before (Part n ∷ es) last lead = absurd lead.0
few_at_head due before (Step l ∷ es) last lead = absurd lead.0
few_at_head due before (End ∷ es) last lead = absurd lead.0

pub few_steps : (es : List Entry) (last : Next) → Lead first_line es last → length (steps_of es) ≤ MOST_STEPS
few_steps es last lead = few_at_head Version None es last lead

-- of a whole certificate
steps_of_part : (ls : List Line) (es : List Entry) → steps_of (map Step ls ++ es) ≡ ls ++ steps_of es
steps_of_part [] es = refl
steps_of_part (l ∷ ls) es = ap (λ (x : List Line). l ∷ x) (steps_of_part ls es)

steps_of_parts : (n : ℕ) (parts : List (List Line)) → steps_of (part_entries n parts) ≡ flat_map (λ part. part) parts
steps_of_parts n [] = refl
steps_of_parts n (part ∷ parts) = steps_of_part part (part_entries (n + 1) parts) ∙ ap (λ (x : List Line). part ++ x) (steps_of_parts (n + 1) parts)

heading_of_part : (h : Heading) (ls : List Line) (es : List Entry) → heading_from h (map Step ls ++ es) ≡ heading_from h es
heading_of_part h [] es = refl
heading_of_part h (l ∷ ls) es = heading_of_part h ls es

heading_of_parts : (h : Heading) (n : ℕ) (parts : List (List Line)) → heading_from h (part_entries n parts) ≡ h
heading_of_parts h n [] = refl
heading_of_parts h n (part ∷ parts) = heading_of_part h part (part_entries (n + 1) parts) ∙ heading_of_parts h (n + 1) parts

module _ (c : Certificate) (read : List Entry) (whole : read ≡ entries_of c) where
  pub whole_steps : steps_of read ≡ lines_of c
  whole_steps = ap steps_of whole ∙ steps_of_parts 0 c.parts

  pub whole_heading : heading_from no_heading read ≡ heading_of c.head
  whole_heading = ap (heading_from no_heading) whole ∙ heading_of_parts (heading_of c.head) 0 c.parts

-- of this window and under this ceiling
same_window : (v w : Window) → v.stations.mask ≡ w.stations.mask → v.start ≡ w.start → v.phase ≡ w.phase → v.seconds ≡ w.seconds → v.from ≡ w.from → v.to ≡ w.to → v ≡ w
same_window v w mask start phase seconds from to = λ i. record {
  stations = record { mask = mask i };
  start = start i;
  phase = phase i;
  seconds = seconds i;
  from = from i;
  to = to i;
}

module _ (window : Window) (ceiling : ℕ) (c : Certificate) (h : Heading) (is : h ≡ heading_of c.head) where
  pub of_window : IsOfWindow window ceiling h → IsOf window ceiling c
  of_window of_it =
      let it : IsOfWindow window ceiling (heading_of c.head) = subst (IsOfWindow window ceiling) is of_it in
      (same_window c.head.window window it.stations it.start it.phase it.seconds it.from it.to, it.ceiling_is)

  pub is_of_window : IsOf window ceiling c → IsOfWindow window ceiling h
  is_of_window of_it =
      subst (IsOfWindow window ceiling) (sym is)
      (record {
        stations = ap (λ (w : Window). w.stations.mask) of_it.0;
        start = ap (λ (w : Window). w.start) of_it.0;
        phase = ap (λ (w : Window). w.phase) of_it.0;
        seconds = ap (λ (w : Window). w.seconds) of_it.0;
        from = ap (λ (w : Window). w.from) of_it.0;
        to = ap (λ (w : Window). w.to) of_it.0;
        ceiling_is = of_it.1;
      })
