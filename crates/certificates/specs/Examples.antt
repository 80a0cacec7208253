-- What examples of certificates are about.
use Rattle.std.specs.Prelude.{ℕ, ◌+◌, ◌*◌, ◌^◌, List, [], ◌∷◌, ◌++◌, Option, Some, None}
use Rattle.signal_base.specs.declared.window.Window.{Window}
use Rattle.definitions.specs.declared.block.Block.{Block}
use Rattle.definitions.specs.declared.block.Span.TheVariants.{Year, Day, Hour, Minute}
use Rattle.definitions.specs.examples.Sequences.{block_of, window_of}
use Rattle.certificates.specs.declared.certificate.Head.{Head}
use Rattle.certificates.specs.declared.certificate.Kind.{Kind}
use Rattle.certificates.specs.declared.certificate.Kind.TheVariants.{Opened, Empty, Leaf}
use Rattle.certificates.specs.declared.certificate.Line.{Line}
use Rattle.certificates.specs.Certificates.{Certificate}
use Rattle.certificates.specs.Texts.{entries_text, head_entries}
use Rattle.certificates.specs.Texts.Entry.{Part}
-- the digits of a number, which examples open by this name
pub use Rattle.std.specs.Fmt.{digits}

-- what became of a block
abbrev pub line_of : Kind → Block → Option ℕ → Line
line_of kind block bound = record { kind = kind; block = block; bound = bound }

-- of a window under a ceiling, and which keys are named
abbrev pub head_of : Window → ℕ → Option ℕ → Option ℕ → Head
head_of window ceiling first second = record { window = window; ceiling = ceiling; first = first; second = second }

-- the last minutes of the century that DCF77 can send, and those after them
abbrev pub last_head : Head
last_head = head_of (window_of 1 52_595_938 52_596_000) 1_920_000_000 (Some 52_595_938) None

-- two minutes of WWVB
abbrev pub two_minutes : Window
two_minutes = window_of 4 700 702

abbrev pub hour : Block
hour = block_of Hour 700 702

-- the first item of these minutes
abbrev pub year : Block
year = block_of Year 700 702

-- the hour was opened, and both minutes are leaves
abbrev pub opened_hour : List Line
opened_hour =
    line_of Opened hour (Some 112) ∷ line_of Leaf (block_of Minute 700 701) (Some 116) ∷ line_of Leaf (block_of Minute 701 702) (Some 118) ∷ []

-- a certificate of two parts that has these lines alone, in the first of them
abbrev pub hour_certificate : Certificate
hour_certificate = record { head = head_of two_minutes 1_000 (Some (116 * 2 ^ 33 + 700)) (Some (118 * 2 ^ 33 + 701)); parts = opened_hour ∷ [] ∷ [] }

-- a certificate of one part that has this line alone, and names no key
abbrev pub one_step : Line → Certificate
one_step l = record { head = head_of two_minutes 1_000 None None; parts = (l ∷ []) ∷ [] }

-- the text up to the first step
abbrev pub text_to_steps : List ℕ
text_to_steps = entries_text (head_entries last_head ++ Part 0 ∷ [])

-- the first steps of the certificate of these minutes
abbrev pub first_steps : List Line
first_steps =
    line_of Opened (block_of Year 52_595_938 52_596_000) (Some 0)
    ∷ line_of Opened (block_of Day 52_595_938 52_596_000) (Some 0)
    ∷ line_of Opened (block_of Hour 52_595_938 52_595_940) (Some 0)
    ∷ line_of Leaf (block_of Minute 52_595_938 52_595_939) (Some 0)
    ∷ line_of Empty (block_of Minute 52_595_939 52_595_940) None
    ∷ line_of Empty (block_of Hour 52_595_940 52_596_000) None
    ∷ []
