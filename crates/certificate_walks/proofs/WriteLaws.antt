-- A certificate in parts: its head, its lines, and its end; and how its lines are those of a head.
use Rattle.std.proofs.Common.{◌≡◌, ℕ, ◌-◌, List, [], ◌∷◌, ◌++◌, map, Option, refl, sym, ap, ◌∙◌, subst, append_assoc, append-nil}
use Rattle.std.proofs.lemmas.Grind.{flat_map-append}
use Rattle.signal_base.specs.declared.window.Window.{Window}
use Rattle.definitions.specs.declared.block.Block.{Block}
use Rattle.definitions.specs.heard.Costs.{Costs}
use Rattle.definitions.specs.answers.Blocks.{IsBound, items}
use Rattle.field_tables.specs.Scored.{costs_of}
use Rattle.bank_files.specs.Seen.{Seen}
use Rattle.bank_files.specs.Told.{AppendsFront}
use Rattle.bank_files.proofs.Telling.{AppendsFront-longer}
use Rattle.certificates.specs.declared.certificate.Head.{Head}
use Rattle.certificates.specs.declared.certificate.Line.{Line}
use Rattle.certificates.specs.Texts.{certificate_text, entries_text, entry_line, head_entries, part_entries, steps_text}
use Rattle.certificates.specs.Texts.Entry.{Part, Step}
use Rattle.certificates.specs.Validity.{AreTight, AreWalks, limit_named}
use Rattle.certificates.proofs.BadLineLaws.{text_of_steps}
use Rattle.certificates.proofs.TightWalkLaws.{one_walks}
use Rattle.certificate_walks.specs.Appending.{IsAppended, IsCutShort}
use Rattle.certificate_texts.specs.Sending.{IsSent, WritesFront, WritesWhole}
use Rattle.certificate_walks.specs.Walking.{Course, HasFailed, IsUnderWay, Walk}
use Rattle.certificate_walks.specs.Written.{AreTightWalks}
use Rattle.certificate_texts.specs.Layout.{empty_parts, in_first_part}
use Rattle.certificate_walks.proofs.LeadLaws.{all_tight, all_walked}

module _ (walk : Walk) (head : Head) (parts : ℕ) (old : Seen) (is_window : head.window ≡ walk.tables.window)
    (is_limit : walk.limit ≡ limit_named head.ceiling head.second)
    (one_bound : (b : Block) (m n : Option ℕ) → IsBound (costs_of walk.tables) walk.tables.window b m → IsBound (costs_of walk.tables) walk.tables.window b n → m ≡ n) where
  abbrev costs : Costs
  costs = costs_of walk.tables

  abbrev front : List ℕ
  front = entries_text (head_entries head) ++ entry_line (Part 0)

  abbrev tail : List ℕ
  tail = entries_text (part_entries 1 (empty_parts (parts - 1)))

  abbrev text : List Line → List ℕ
  text lines = certificate_text (in_first_part head parts lines)

  abbrev pub course : Course
  course = record { old = old; blocks = items head.window; before = front }

  in_parts : (lines : List Line) → text lines ≡ (front ++ steps_text lines) ++ tail
  in_parts lines =
      flat_map-append entry_line (head_entries head) (Part 0 ∷ map Step lines ++ part_entries 1 (empty_parts (parts - 1)))
      ∙ (ap (λ (x : List ℕ). entries_text (head_entries head) ++ (entry_line (Part 0) ++ x))
      (flat_map-append entry_line (map Step lines) (part_entries 1 (empty_parts (parts - 1))) ∙ ap (λ (x : List ℕ). x ++ tail) (text_of_steps lines))
      ∙ (sym (append_assoc (entries_text (head_entries head)) (entry_line (Part 0)) (steps_text lines ++ tail))
      ∙ sym (append_assoc front (steps_text lines) tail)))

  walks_here : (lines : List Line) → AreTightWalks costs head lines → AreWalks costs walk.tables.window walk.limit (items head.window) lines
  walks_here lines are =
      subst (λ (w : Window). AreWalks costs w walk.limit (items head.window) lines) is_window
      (subst (λ (m : ℕ). AreWalks costs head.window m (items head.window) lines) (sym is_limit) are.walks)

  tight_here : (lines : List Line) → AreTightWalks costs head lines → AreTight walk.limit lines
  tight_here lines are = subst (λ (m : ℕ). AreTight m lines) (sym is_limit) are.tight

  of_head : (lines : List Line) → AreWalks costs walk.tables.window walk.limit (items head.window) lines → AreTight walk.limit lines → AreTightWalks costs head lines
  of_head lines walks tight = record {
    walks = subst (λ (w : Window). AreWalks costs w (limit_named head.ceiling head.second) (items head.window) lines) (sym is_window)
        (subst (λ (m : ℕ). AreWalks costs walk.tables.window m (items head.window) lines) is_limit walks);
    tight = subst (λ (m : ℕ). AreTight m lines) is_limit tight;
  }

  -- the head is written or held back, and all items are due
  pub all_due : (now : Seen) (held : List ℕ) (due : List Block) → due ≡ items head.window → IsSent walk.name old now held front
      → IsUnderWay walk course now held due 0
  all_due now held due are sent = record {
    lines = [];
    lead = sym are;
    sent = subst (λ (x : List ℕ). IsSent walk.name old now held x) (sym (append-nil front)) sent;
    count = refl;
  }

  -- a fault in the head
  pub cut_in_head : (now : Seen) → WritesFront walk.name old now front → IsCutShort costs head parts walk.name old now
  cut_in_head now cut = record {
    front = λ lines are.
        subst (λ (x : List ℕ). AppendsFront (old.told walk.name) x (now.told walk.name)) (sym (append_assoc front (steps_text lines) tail) ∙ sym (in_parts lines))
        (AppendsFront-longer (old.told walk.name) (now.told walk.name) front (steps_text lines ++ tail) cut.front);
    cause = cut.cause;
    only = cut.only;
  }

  -- a fault in the lines
  pub cut_in_lines : (now : Seen) → HasFailed walk course now → IsCutShort costs head parts walk.name old now
  cut_in_lines now cut = record {
    front = λ lines are.
        subst (λ (x : List ℕ). AppendsFront (old.told walk.name) x (now.told walk.name)) (sym (in_parts lines))
        (AppendsFront-longer (old.told walk.name) (now.told walk.name) (front ++ steps_text lines) tail (cut.front lines (walks_here lines are) (tight_here lines are)));
    cause = cut.cause;
    only = cut.only;
  }

  module _ (mid : Seen) (held : List ℕ) (steps : ℕ) (done : IsUnderWay walk course mid held [] steps) where
    these : AreTightWalks costs head done.lines
    these = of_head done.lines (all_walked costs walk.tables.window walk.limit (items head.window) done.lines done.lead)
        (all_tight costs walk.tables.window walk.limit (items head.window) done.lines [] done.lead)

    -- a fault behind the lines
    pub cut_in_tail : (now : Seen) → WritesFront walk.name old now ((front ++ steps_text done.lines) ++ tail) → IsCutShort costs head parts walk.name old now
    cut_in_tail now cut = record {
      front = λ lines are.
          let same : done.lines ≡ lines =
          one_walks costs walk.tables.window walk.limit one_bound done.lines lines (items head.window) (walks_here done.lines these) (tight_here done.lines these)
          (walks_here lines are) (tight_here lines are) in
          subst (λ (x : List ℕ). AppendsFront (old.told walk.name) x (now.told walk.name))
          (ap (λ (ls : List Line). (front ++ steps_text ls) ++ tail) same ∙ sym (in_parts lines)) cut.front;
      cause = cut.cause;
      only = cut.only;
    }

    -- no fault
    pub all_there : (now : Seen) → WritesWhole walk.name old now ((front ++ steps_text done.lines) ++ tail) → IsAppended costs head parts walk.name old now steps
    all_there now whole = record {
      lines = done.lines;
      walks = these;
      writes = subst (λ (x : List ℕ). WritesWhole walk.name old now x) (sym (in_parts done.lines)) whole;
      count = done.count;
    }
