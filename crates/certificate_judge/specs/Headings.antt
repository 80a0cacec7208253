-- What the lines of a head told so far, and the steps among lines.
use Rattle.std.specs.Prelude.{ℕ, ◌≡◌, List, [], ◌∷◌, Option, None}
use Rattle.signal_base.specs.declared.window.Window.{Window}
use Rattle.certificates.specs.declared.certificate.Head.{Head}
use Rattle.certificates.specs.declared.certificate.Line.{Line}
use Rattle.certificates.specs.Texts.{Entry, HeadLine, number_in}
use Rattle.certificates.specs.Texts.Entry.{Tells, Part, Step, End}
use Rattle.certificates.specs.Texts.HeadLine.{Version, Heard, Start, Phase, Seconds, From, To, Ceiling, First, Second}
use Rattle.certificate_judge.specs.declared.heading.Heading.{Heading}

-- nothing was told
abbrev pub no_heading : Heading
no_heading = record { stations = 0; start = 0; phase = 0; seconds = 0; from = 0; to = 0; ceiling = 0; first = None; second = None }

-- what is known once a line of the head told this
abbrev pub heading_with : HeadLine → Option ℕ → Heading → Heading
heading_with Version value h = h
heading_with Heard value h = record h { stations = number_in value }
heading_with Start value h = record h { start = number_in value }
heading_with Phase value h = record h { phase = number_in value }
heading_with Seconds value h = record h { seconds = number_in value }
heading_with From value h = record h { from = number_in value }
heading_with To value h = record h { to = number_in value }
heading_with Ceiling value h = record h { ceiling = number_in value }
heading_with First value h = record h { first = value }
heading_with Second value h = record h { second = value }

abbrev pub heading_after : Heading → Entry → Heading
heading_after h (Tells told value) = heading_with told value h
heading_after h (Part n) = h
heading_after h (Step l) = h
heading_after h End = h

-- what these lines told, after others that told that
abbrev pub heading_from : Heading → List Entry → Heading
heading_from h [] = h
heading_from h (entry ∷ entries) = heading_from (heading_after h entry) entries

-- the steps among lines
abbrev pub step_in : Entry → List Line → List Line
step_in (Tells told value) ls = ls
step_in (Part n) ls = ls
step_in (Step l) ls = l ∷ ls
step_in End ls = ls

abbrev pub steps_of : List Entry → List Line
steps_of [] = []
steps_of (entry ∷ entries) = step_in entry (steps_of entries)

-- what a whole head tells
abbrev pub heading_of : Head → Heading
heading_of h = record {
  stations = h.window.stations.mask;
  start = h.window.start;
  phase = h.window.phase;
  seconds = h.window.seconds;
  from = h.window.from;
  to = h.window.to;
  ceiling = h.ceiling;
  first = h.first;
  second = h.second;
}

-- it is of this window and under this ceiling
pub record IsOfWindow (window : Window) (ceiling : ℕ) (h : Heading) : Type 0 where
  pub stations : h.stations ≡ window.stations.mask
  pub start : h.start ≡ window.start
  pub phase : h.phase ≡ window.phase
  pub seconds : h.seconds ≡ window.seconds
  pub from : h.from ≡ window.from
  pub to : h.to ≡ window.to
  pub ceiling_is : h.ceiling ≡ ceiling
