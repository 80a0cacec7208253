-- A walk under way: a line more, or a fault in it.
use Rattle.std.proofs.Common.{◌≡◌, ℕ, ◌+◌, ◌<◌, ◌≤◌, drop, get_or, List, [], ◌∷◌, ◌++◌, length, min, Option, sym, ap, ◌∙◌, subst, arith, append_assoc, append-nil, length-append}
use Rattle.std.proofs.Math.Numerals.{add-one}
use Rattle.std.proofs.Math.Seq.{drop-cons}
use Rattle.std.proofs.lemmas.Grind.{flat_map-append}
use Rattle.std.proofs.lemmas.List.{drop_all}
use Rattle.definitions.specs.declared.block.Block.{Block}
use Rattle.definitions.specs.answers.Blocks.{IsBound}
use Rattle.field_tables.specs.Scored.{costs_of}
use Rattle.bank_files.specs.Fault.{greatest}
use Rattle.bank_files.specs.Seen.{Seen}
use Rattle.bank_files.specs.Told.{AppendsFront}
use Rattle.bank_files.proofs.Telling.{AppendsFront-longer}
use Rattle.certificates.specs.declared.certificate.Line.{Line}
use Rattle.certificates.specs.Texts.{entry_line, steps_text}
use Rattle.certificates.specs.Texts.Entry.{Step}
use Rattle.certificates.specs.Validity.{IsSaid, KeepsTo, opened_by}
use Rattle.certificate_texts.specs.Sending.{IsSent, WritesFront}
use Rattle.certificate_walks.specs.Walking.{Course, HasFailed, IsUnderWay, LeadTo, Walk}
use Rattle.certificate_walks.proofs.LeadLaws.{begin_with, one_more}

abbrev step_bytes : Line → List ℕ
step_bytes l = entry_line (Step l)

text_more : (before : List ℕ) (ls : List Line) (l : Line) → (before ++ steps_text ls) ++ step_bytes l ≡ before ++ steps_text (ls ++ l ∷ [])
text_more before ls l =
    append_assoc before (steps_text ls) (step_bytes l)
    ∙ ap (λ (x : List ℕ). before ++ x)
    (ap (λ (x : List ℕ). steps_text ls ++ x) (sym (append-nil (step_bytes l))) ∙ sym (flat_map-append (λ (k : Line). entry_line (Step k)) ls (l ∷ [])))

count_more : (steps n m : ℕ) → steps ≡ min n greatest → m ≡ n + 1 → min (steps + 1) greatest ≡ min m greatest
count_more steps n m is more = omega (arith, is, more)

module _ (walk : Walk) (course : Course) (old now : Seen) (held : List ℕ) (b : Block) (due : List Block) (steps : ℕ) (l : Line)
    (so_far : IsUnderWay walk course old held (b ∷ due) steps) (same : l.block ≡ b) (said : IsSaid (costs_of walk.tables) walk.tables.window walk.limit l)
    (keeps : KeepsTo walk.limit l.kind l.block l.bound) where
  leads : LeadTo (costs_of walk.tables) walk.tables.window walk.limit course.blocks (so_far.lines ++ l ∷ []) (opened_by l ++ due)
  leads = one_more (costs_of walk.tables) walk.tables.window walk.limit course.blocks so_far.lines b due l so_far.lead same said keeps

  -- a line more
  pub line_more : (more : List ℕ) (steps' : ℕ) → steps' ≡ min (steps + 1) greatest
      → IsSent walk.name course.old now more ((course.before ++ steps_text so_far.lines) ++ step_bytes l)
      → IsUnderWay walk course now more (opened_by l ++ due) steps'
  line_more more steps' counted sent = record {
    lines = so_far.lines ++ l ∷ [];
    lead = leads;
    sent = subst (λ (x : List ℕ). IsSent walk.name course.old now more x) (text_more course.before so_far.lines l) sent;
    count = counted ∙ count_more steps (length so_far.lines) (length (so_far.lines ++ l ∷ [])) so_far.count (length-append so_far.lines (l ∷ []));
  }

  -- or a front of it
  pub line_cut : ((c : Block) (m n : Option ℕ) → IsBound (costs_of walk.tables) walk.tables.window c m → IsBound (costs_of walk.tables) walk.tables.window c n → m ≡ n)
      → WritesFront walk.name course.old now ((course.before ++ steps_text so_far.lines) ++ step_bytes l) → HasFailed walk course now
  line_cut one_bound cut = record {
    front = λ whole walks tight.
        let rest = begin_with (costs_of walk.tables) walk.tables.window walk.limit one_bound course.blocks (so_far.lines ++ l ∷ []) (opened_by l ++ due) whole leads walks tight in
        subst (λ (x : List ℕ). AppendsFront (course.old.told walk.name) x (now.told walk.name))
        (append_assoc course.before (steps_text (so_far.lines ++ l ∷ [])) (steps_text rest.0)
        ∙ ap (λ (x : List ℕ). course.before ++ x)
        (sym (flat_map-append (λ (k : Line). entry_line (Step k)) (so_far.lines ++ l ∷ []) rest.0) ∙ ap steps_text rest.1))
        (AppendsFront-longer (course.old.told walk.name) (now.told walk.name) (course.before ++ steps_text (so_far.lines ++ l ∷ [])) (steps_text rest.0)
        (subst (λ (x : List ℕ). AppendsFront (course.old.told walk.name) x (now.told walk.name)) (text_more course.before so_far.lines l) cut.front));
    cause = cut.cause;
    only = cut.only;
  }

-- what a line opens comes first, then what waits, and then the rest
pub due_joined : (l : Line) (left rest more : List Block) → more ≡ opened_by l ++ left → opened_by l ++ (left ++ rest) ≡ more ++ rest
due_joined l left rest more e = sym (append_assoc (opened_by l) left rest) ∙ ap (λ (bs : List Block). bs ++ rest) (sym e)

module _ (walk : Walk) (course : Course) (seen : Seen) (held : List ℕ) (steps : ℕ) (b : Block) (left rest : List Block) where
  -- nothing waits behind a block
  pub none_behind : left ≡ [] → IsUnderWay walk course seen held (b ∷ rest) steps → IsUnderWay walk course seen held (b ∷ left ++ rest) steps
  none_behind e under = subst (λ (bs : List Block). IsUnderWay walk course seen held (b ∷ bs ++ rest) steps) (sym e) under

  -- nothing waits any more
  pub none_waits : left ≡ [] → IsUnderWay walk course seen held (left ++ rest) steps → IsUnderWay walk course seen held rest steps
  none_waits e under = subst (λ (bs : List Block). IsUnderWay walk course seen held (bs ++ rest) steps) e under

  -- the first of those that wait
  pub first_waits : (all : List Block) → all ≡ b ∷ left → IsUnderWay walk course seen held (all ++ rest) steps → IsUnderWay walk course seen held (b ∷ left ++ rest) steps
  first_waits all e under = subst (λ (bs : List Block). IsUnderWay walk course seen held (bs ++ rest) steps) e under

-- the next item
pub next_item : (walk : Walk) (course : Course) (seen : Seen) (held : List ℕ) (steps : ℕ) (items : List Block) (i : ℕ) (d : Block) → i < length items
    → IsUnderWay walk course seen held (drop i items) steps → IsUnderWay walk course seen held (get_or items i d ∷ drop (i + 1) items) steps
next_item walk course seen held steps items i d within under =
    subst (λ (bs : List Block). IsUnderWay walk course seen held bs steps)
    (drop-cons items i d within ∙ ap (λ (n : ℕ). get_or items i d ∷ drop n items) (sym (add-one i))) under

pub no_item : (walk : Walk) (course : Course) (seen : Seen) (held : List ℕ) (steps : ℕ) (items : List Block) (i : ℕ) → length items ≤ i
    → IsUnderWay walk course seen held (drop i items) steps → IsUnderWay walk course seen held [] steps
no_item walk course seen held steps items i all under = subst (λ (bs : List Block). IsUnderWay walk course seen held bs steps) (drop_all i items all) under
