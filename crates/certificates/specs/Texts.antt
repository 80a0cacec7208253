-- The text of a certificate: its lines, which of them may stand where, and where any other text first goes wrong.
use Rattle.std.specs.Prelude.{ℕ, ◌≡◌, ◌+◌, ◌<◌, ◌≤◌, ◌⊎◌, Bool, nat_lt, if◌then◌else◌, List, [], ◌∷◌, ◌++◌, map, length, flat_map, Option, Some, None, codes}
use Rattle.std.specs.Fmt.{decimal}
use Rattle.std.specs.List.{join_with_byte}
use Rattle.signal_base.specs.declared.limits.TheConstants.{GREATEST_COST, LEAST_SECONDS, MOST_SECONDS, START_LIMIT}
use Rattle.signal_base.specs.declared.station.Stations.{Stations}
use Rattle.definitions.specs.declared.block.Span.{Span}
use Rattle.definitions.specs.declared.block.Span.TheVariants.{Year, Day, Hour, Minute}
use Rattle.definitions.specs.time.Calendar.{century_minutes}
use Rattle.definitions.specs.codes.Allowed.{stations_of}
use Rattle.formats.specs.Bytes.{line, space, station_name}
use Rattle.formats.specs.Refusals.{named_key}
use Rattle.certificates.specs.declared.certificate.Head.{Head}
use Rattle.certificates.specs.declared.certificate.Kind.{Kind}
use Rattle.certificates.specs.declared.certificate.Kind.TheVariants.{Opened, Pruned, Empty, Leaf}
use Rattle.certificates.specs.declared.certificate.Line.{Line}
use Rattle.certificates.specs.declared.fault.CertificateLineFault.{CertificateLineFault}
use Rattle.certificates.specs.declared.fault.CertificateLineFault.TheVariants.{Shape, TooManySteps}
use Rattle.certificates.specs.declared.limits.TheConstants.{MOST_PARTS, MOST_STEPS, ONE_STATION, SEVERAL_STATIONS}
use Rattle.certificates.specs.Certificates.{Certificate, CanBeNamed, IsLine, IsSpelled, lines_of}

-- The fields of a step: what became of the block, its span, whether its sequences announce a leap second
abbrev pub kind_text : Kind → List ℕ
kind_text Opened = codes "O"
kind_text Pruned = codes "P"
kind_text Empty = codes "E"
kind_text Leaf = codes "L"

abbrev pub span_text : Span → List ℕ
span_text Year = codes "Y"
span_text Day = codes "D"
span_text Hour = codes "H"
span_text Minute = codes "M"

abbrev pub announced_text : Bool → List ℕ
announced_text announced = if announced then codes "1" else codes "0"

-- the fields of a step, and its line without the LF: after these come the first second, the minutes, and the bound or -
abbrev pub step_fields : Line → List (List ℕ)
step_fields l =
    kind_text l.kind
    ∷ span_text l.block.span
    ∷ announced_text l.block.announced
    ∷ decimal l.block.second
    ∷ decimal l.block.lo
    ∷ decimal l.block.hi
    ∷ named_key l.bound
    ∷ []

abbrev pub step_text : Line → List ℕ
step_text l = join_with_byte space (step_fields l)

-- the version of a certificate of these stations
abbrev pub version_of : Stations → ℕ
version_of stations = if nat_lt 1 (length (stations_of stations)) then SEVERAL_STATIONS else ONE_STATION

-- the names of these stations in their order, behind a word
abbrev pub stations_text : Stations → List ℕ
stations_text stations =
    (if nat_lt 1 (length (stations_of stations)) then codes "stations" else codes "station")
    ++ flat_map (λ station. space ∷ station_name station) (stations_of stations)

-- the set of stations with this mask
abbrev pub stations_by : ℕ → Stations
stations_by mask = record { mask = mask }

-- The lines of the head, by what each tells
pub data HeadLine : Type 0 where
  Version : HeadLine
  Heard : HeadLine
  Start : HeadLine
  Phase : HeadLine
  Seconds : HeadLine
  From : HeadLine
  To : HeadLine
  Ceiling : HeadLine
  First : HeadLine
  Second : HeadLine

-- the number that is told, or 0 where none is
abbrev pub number_in : Option ℕ → ℕ
number_in None = 0
number_in (Some n) = n

-- a line of the head without its LF: the stations are told by their names, all else by a number or -
abbrev pub head_text : HeadLine → Option ℕ → List ℕ
head_text Version value = codes "tsbank certificate " ++ named_key value
head_text Heard value = stations_text (stations_by (number_in value))
head_text Start value = codes "start " ++ named_key value
head_text Phase value = codes "phase " ++ named_key value
head_text Seconds value = codes "seconds " ++ named_key value
head_text From value = codes "from " ++ named_key value
head_text To value = codes "to " ++ named_key value
head_text Ceiling value = codes "ceiling " ++ named_key value
head_text First value = codes "first " ++ named_key value
head_text Second value = codes "second " ++ named_key value

-- A line of a certificate: one of the head with what it tells, the first of a part with the part's number, a step, or the
-- last of all
pub data Entry : Type 0 where
  Tells : HeadLine → Option ℕ → Entry
  Part : ℕ → Entry
  Step : Line → Entry
  End : Entry

abbrev pub entry_text : Entry → List ℕ
entry_text (Tells told value) = head_text told value
entry_text (Part n) = codes "worker " ++ decimal n
entry_text (Step l) = step_text l
entry_text End = codes "end"

abbrev pub entry_line : Entry → List ℕ
entry_line entry = line (entry_text entry)

abbrev pub entries_text : List Entry → List ℕ
entries_text entries = flat_map entry_line entries

-- the lines of some steps
abbrev pub steps_text : List Line → List ℕ
steps_text ls = flat_map (λ l. entry_line (Step l)) ls

-- the lines of a head
abbrev pub head_entries : Head → List Entry
head_entries h =
    Tells Version (Some (version_of h.window.stations))
    ∷ Tells Heard (Some h.window.stations.mask)
    ∷ Tells Start (Some h.window.start)
    ∷ Tells Phase (Some h.window.phase)
    ∷ Tells Seconds (Some h.window.seconds)
    ∷ Tells From (Some h.window.from)
    ∷ Tells To (Some h.window.to)
    ∷ Tells Ceiling (Some h.ceiling)
    ∷ Tells First h.first
    ∷ Tells Second h.second
    ∷ []

-- the lines of parts, of which the first has this number, and the last line of all
abbrev pub part_entries : ℕ → List (List Line) → List Entry
part_entries n [] = End ∷ []
part_entries n (part ∷ parts) = Part n ∷ map Step part ++ part_entries (n + 1) parts

abbrev pub entries_of : Certificate → List Entry
entries_of c = head_entries c.head ++ part_entries 0 c.parts

-- the text of a certificate
abbrev pub certificate_text : Certificate → List ℕ
certificate_text c = entries_text (entries_of c)

-- the text is that of this certificate, which isn't too long
pub record IsText (c : Certificate) (text : List ℕ) : Type 0 where
  pub spelled : IsSpelled c
  pub few : length (lines_of c) ≤ MOST_STEPS
  pub same : text ≡ certificate_text c

-- What comes next in a text: a line of the head, after one that told this; the first part; a step, the next part or the end,
-- in the part of this number and after so many steps in all; nothing more.
pub data Next : Type 0 where
  AtHead : HeadLine → (before : Option ℕ) → Next
  AtParts : Next
  AtStep : (part steps : ℕ) → Next
  AtEnd : Next

-- the number lies in a range
abbrev pub IsWithin : ℕ → ℕ → Option ℕ → Type 0
IsWithin least end None = ⊥
IsWithin least end (Some n) = (least ≤ n) × (n < end)

-- what a line of the head may tell, after one that told what stands before
abbrev pub CanTell : HeadLine → Option ℕ → Option ℕ → Type 0
CanTell Version before value = IsWithin ONE_STATION (SEVERAL_STATIONS + 1) value
CanTell Heard before value = IsWithin 1 16 value × (before ≡ Some (version_of (stations_by (number_in value))))
CanTell Start before value = IsWithin 0 START_LIMIT value
CanTell Phase before value = IsWithin 0 1000 value
CanTell Seconds before value = IsWithin LEAST_SECONDS (MOST_SECONDS + 1) value
CanTell From before value = IsWithin 0 century_minutes value
CanTell To before value = IsWithin (number_in before + 1) (century_minutes + 1) value
CanTell Ceiling before value = IsWithin 0 (GREATEST_COST + 1) value
CanTell First before value = CanBeNamed value
CanTell Second before value = CanBeNamed value

-- the line may stand there, if there aren't too many steps
abbrev pub CanStand : Next → Entry → Type 0
CanStand (AtHead due before) (Tells told value) = (told ≡ due) × CanTell due before value
CanStand AtParts (Part n) = n ≡ 0
CanStand (AtStep part steps) (Part n) = (n ≡ part + 1) × (n < MOST_PARTS)
CanStand (AtStep part steps) (Step l) = IsLine l
CanStand (AtStep part steps) End = Unit {0}
CanStand next entry = ⊥

-- in which part the text is, and after how many steps
abbrev pub part_at : Next → ℕ
part_at (AtStep part steps) = part
part_at next = 0

abbrev pub steps_at : Next → ℕ
steps_at (AtStep part steps) = steps
steps_at next = 0

-- a step is not one too many
abbrev pub HasRoom : Next → Entry → Type 0
HasRoom next (Step l) = steps_at next < MOST_STEPS
HasRoom next entry = Unit {0}

-- what comes after a line of the head that told this
abbrev pub after_head : HeadLine → Option ℕ → Next
after_head Version value = AtHead Heard value
after_head Heard value = AtHead Start value
after_head Start value = AtHead Phase value
after_head Phase value = AtHead Seconds value
after_head Seconds value = AtHead From value
after_head From value = AtHead To value
after_head To value = AtHead Ceiling value
after_head Ceiling value = AtHead First value
after_head First value = AtHead Second value
after_head Second value = AtParts

-- what comes after a line
abbrev pub after : Next → Entry → Next
after next (Tells told value) = after_head told value
after next (Part n) = AtStep n (steps_at next)
after next (Step l) = AtStep (part_at next) (steps_at next + 1)
after next End = AtEnd

-- the lines may stand one after the other, and lead from what comes next to what comes behind them
abbrev pub Lead : Next → List Entry → Next → Type 0
Lead next [] last = last ≡ next
Lead next (entry ∷ entries) last = CanStand next entry × HasRoom next entry × Lead (after next entry) entries last

-- what comes first
abbrev pub first_line : Next
first_line = AtHead Version None

-- a text begins with these bytes
abbrev pub BeginsWith : List ℕ → List ℕ → Type 0
BeginsWith bytes text = (tail : List ℕ) × (text ≡ bytes ++ tail)

-- nothing is left, where the text may end
abbrev pub IsOver : Next → List ℕ → Type 0
IsOver AtEnd rest = rest ≡ []
IsOver next rest = ⊥

-- The line that comes next is bad in this way: the rest of the text doesn't begin with a whole line that may stand there; or
-- it begins with one, which is a step too many.
abbrev pub IsBadNext : Next → List ℕ → CertificateLineFault → Type 0
IsBadNext next rest Shape = ¬ (IsOver next rest) × ((entry : Entry) → CanStand next entry → ¬ (BeginsWith (entry_line entry) rest))
IsBadNext next rest TooManySteps = (entry : Entry) × CanStand next entry × ¬ (HasRoom next entry) × BeginsWith (entry_line entry) rest

-- the first bad line of the text has this number, counted from 1, and is bad in this way
pub record IsRefused (text : List ℕ) (number : ℕ) (fault : CertificateLineFault) : Type 0 where
  -- the lines before it, what comes after them, and the bytes behind them
  pub read : List Entry
  pub next : Next
  pub rest : List ℕ
  pub lead : Lead first_line read next
  pub parts : text ≡ entries_text read ++ rest
  pub is_due : number ≡ length read + 1
  pub bad : IsBadNext next rest fault

-- the text is that of a certificate, or it is refused for its first bad line
abbrev pub HasOutcome : List ℕ → Type 0
HasOutcome text =
    ((c : Certificate) × IsText c text)
    ⊎ ((number : ℕ) × (fault : CertificateLineFault) × IsRefused text number fault)
