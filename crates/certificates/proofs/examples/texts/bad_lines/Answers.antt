-- The lines before the first bad one, and why none that may stand there is it.
use Rattle.std.proofs.Common.{◌≡◌, ℕ, ◌+◌, List, [], ◌∷◌, ◌++◌, map, length, get_or, codes, Option, Some, None, refl, sym, ap, ◌∙◌, arith}
use Rattle.std.specs.Fmt.{digits}
use Rattle.std.proofs.lemmas.List.{append_cancel_left}
use Rattle.std.proofs.lemmas.List.Concat.{flat_map-append}
use Rattle.definitions.specs.declared.block.Span.TheVariants.{Day, Minute}
use Rattle.definitions.specs.examples.Sequences.{block_of}
use Rattle.formats.specs.Bytes.{line, line_feed}
use Rattle.formats.specs.Refusals.{named_key}
use Rattle.certificates.specs.declared.certificate.Kind.TheVariants.{Opened, Empty, Leaf}
use Rattle.certificates.specs.declared.certificate.Line.{Line}
use Rattle.certificates.specs.Texts.{CanStand, Entry, entry_line, entry_text, first_line, head_entries, head_text}
use Rattle.certificates.specs.Texts.Entry.{Tells, Part, Step, End}
use Rattle.certificates.specs.Texts.HeadLine.{Version, Heard, Start}
use Rattle.certificates.specs.Texts.Next.{AtHead, AtParts, AtStep, AtEnd}
use Rattle.certificates.specs.Examples.{last_head, line_of, text_to_steps}
use Rattle.certificates.proofs.FieldLaws.{avoids_by}
use Rattle.certificates.proofs.EntryLaws.{nothing_stands, within_small}
use Rattle.certificates.proofs.BadLineLaws.{no_end, no_line, no_zeros, steps_on, text_of_steps}
use Rattle.certificates.proofs.ExampleLaws.{bad_step, to_parts, to_steps}
use Rattle.certificates.proofs.examples.texts.bad_lines.Goals as goal

pub returns-clause-nothing : goal.returns-clause-nothing
returns-clause-nothing c = record {
  read = [];
  next = first_line;
  rest = [];
  lead = refl;
  parts = refl;
  is_due = refl;
  bad = ((λ over. over), λ e can begins. no_end [] tt e begins);
}

no_start : (e : Entry) → CanStand (AtHead Start (Some 1)) e → entry_text e ≡ codes "start 00" → ⊥
no_start (Tells told v) can same =
    let at : head_text Start v ≡ codes "start " ++ codes "00" = ap (λ t. head_text t v) (sym can.0) ∙ same in
    no_zeros v (within_small _ _ v (omega arith) can.1) (append_cancel_left (codes "start ") (named_key v) (codes "00") at)
no_start (Part n) can same = can
no_start (Step l) can same = can
no_start End can same = can

pub returns-clause-zeros : goal.returns-clause-zeros
unfolding digits
returns-clause-zeros c rest = record {
  read = Tells Version (Some 1) ∷ Tells Heard (Some 1) ∷ [];
  next = AtHead Start (Some 1);
  rest = line (codes "start 00") ++ rest;
  lead = ((refl, (omega arith, omega arith)), tt, ((refl, ((omega arith, omega arith), refl)), tt, refl));
  parts = refl;
  is_due = refl;
  bad = ((λ over. over), no_line (AtHead Start (Some 1)) (codes "start 00") rest (avoids_by line_feed (codes "start 00") refl) no_start);
}

no_part : (e : Entry) → CanStand AtParts e → entry_text e ≡ codes "worker 1" → ⊥
unfolding digits
no_part (Tells told v) can same = can
no_part (Part n) can same =
    let at : codes "worker 0" ≡ codes "worker 1" = ap (λ n. entry_text (Part n)) (sym can) ∙ same in
    omega (arith, ap (λ (l : List ℕ). get_or l 7 0) at)
no_part (Step l) can same = can
no_part End can same = can

pub returns-clause-part : goal.returns-clause-part
returns-clause-part c rest = record {
  read = head_entries last_head;
  next = AtParts;
  rest = line (codes "worker 1") ++ rest;
  lead = to_parts [] AtParts refl;
  parts = refl;
  is_due = refl;
  bad = ((λ over. over), no_line AtParts (codes "worker 1") rest (avoids_by line_feed (codes "worker 1") refl) no_part);
}

pub returns-clause-minute_opened : goal.returns-clause-minute_opened
unfolding digits
returns-clause-minute_opened c rest =
    bad_step (line_of Opened (block_of Minute 700 701) (Some 0)) rest (record { second = omega arith; lo = omega arith; hi = omega arith; bound = omega arith })
    (λ is. is.shape.0 refl) (omega arith) (avoids_by line_feed (codes "O M 0 0 700 701 0") refl)

no_day : Day ≡ Minute → ⊥
no_day e = absurd cc

pub returns-clause-leaf_of_a_day : goal.returns-clause-leaf_of_a_day
unfolding digits
returns-clause-leaf_of_a_day c rest =
    bad_step (line_of Leaf (block_of Day 700 701) (Some 0)) rest (record { second = omega arith; lo = omega arith; hi = omega arith; bound = omega arith })
    (λ is. no_day is.shape.0) (omega arith) (avoids_by line_feed (codes "L D 0 0 700 701 0") refl)

no_bound : ◌≡◌ {A = Option ℕ} (Some 0) None → ⊥
no_bound e = absurd cc

pub returns-clause-empty_with_a_bound : goal.returns-clause-empty_with_a_bound
unfolding digits
returns-clause-empty_with_a_bound c rest =
    bad_step (line_of Empty (block_of Day 700 701) (Some 0)) rest (record { second = omega arith; lo = omega arith; hi = omega arith; bound = omega arith })
    (λ is. no_bound is.shape) (omega arith) (avoids_by line_feed (codes "E D 0 0 700 701 0") refl)

pub returns-clause-unended : goal.returns-clause-unended
returns-clause-unended c = record {
  read = head_entries last_head ++ Part 0 ∷ [];
  next = AtStep 0 0;
  rest = codes "end";
  lead = to_steps;
  parts = refl;
  is_due = refl;
  bad = ((λ over. over), λ e can begins. no_end (codes "end") (avoids_by line_feed (codes "end") refl) e begins);
}

pub returns-clause-behind : goal.returns-clause-behind
unfolding digits
returns-clause-behind c rest = record {
  read = head_entries last_head ++ Part 0 ∷ End ∷ [];
  next = AtEnd;
  rest = line (codes "x") ++ rest;
  lead = to_parts (Part 0 ∷ End ∷ []) AtEnd (refl, tt, (tt, tt, refl));
  parts = refl;
  is_due = refl;
  bad = ((λ over. absurd cc), λ e can begins. nothing_stands e can);
}

as_many : (ls : List Line) → length (map Step ls) ≡ length ls
as_many [] = refl
as_many (l ∷ ls) = omega (arith, as_many ls)

pub returns-clause-many : goal.returns-clause-many
returns-clause-many c ls l rest all many is = record {
  read = head_entries last_head ++ Part 0 ∷ map Step ls;
  next = AtStep 0 (0 + length ls);
  rest = entry_line (Step l) ++ rest;
  lead = to_parts (Part 0 ∷ map Step ls) (AtStep 0 (0 + length ls)) (refl, tt, steps_on 0 0 ls all (omega (arith, many)));
  parts = ap (λ b. b ++ (entry_line (Step l) ++ rest)) (ap (λ b. text_to_steps ++ b) (sym (text_of_steps ls)) ∙ sym (flat_map-append entry_line (head_entries last_head ++ Part 0 ∷ []) (map Step ls)));
  is_due = omega (arith, as_many ls, many);
  bad = (Step l, is, (λ room. omega (arith, room, many)), (rest, refl));
}
