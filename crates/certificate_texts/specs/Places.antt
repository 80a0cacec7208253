-- What comes next in a text and what its lines tell, as the code has them.
use Rattle.certificates.specs.Texts.{Entry, HeadLine, Next}
use Rattle.certificates.specs.Texts.Entry.{Tells, Part, Step, End}
use Rattle.certificates.specs.Texts.HeadLine.{Version, Heard, Start, Phase, Seconds, From, To, Ceiling, First, Second}
use Rattle.certificates.specs.Texts.Next.{AtHead, AtParts, AtStep, AtEnd}
use Rattle.certificate_texts.specs.declared.place.HeadPart.{HeadPart}
use Rattle.certificate_texts.specs.declared.place.HeadPart.TheVariants as part
use Rattle.certificate_texts.specs.declared.place.Place.{Place}
use Rattle.certificate_texts.specs.declared.place.Place.TheVariants as place
use Rattle.certificate_texts.specs.declared.place.Told.{Told}
use Rattle.certificate_texts.specs.declared.place.Told.TheVariants as told

abbrev pub head_line_of : HeadPart → HeadLine
head_line_of part.Version = Version
head_line_of part.Heard = Heard
head_line_of part.Start = Start
head_line_of part.Phase = Phase
head_line_of part.Seconds = Seconds
head_line_of part.From = From
head_line_of part.To = To
head_line_of part.Ceiling = Ceiling
head_line_of part.First = First
head_line_of part.Second = Second

abbrev pub next_of : Place → Next
next_of (place.Head due before) = AtHead (head_line_of due) before
next_of place.Parts = AtParts
next_of (place.Steps part steps) = AtStep part steps
next_of place.End = AtEnd

abbrev pub entry_of : Told → Entry
entry_of (told.Head part value) = Tells (head_line_of part) value
entry_of (told.Part number) = Part number
entry_of (told.Step line) = Step line
entry_of told.End = End
