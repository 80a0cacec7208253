-- The grammar of the command line: what each command takes, and what stands where in words that follow it.
use Rattle.std.specs.Prelude.{ℕ, Bool, true, false, ◌==◌, ◌&&◌, not, if◌then◌else◌, List, [], ◌∷◌, ◌++◌, length, take, drop, Option, Some, None, is_none, bytes_eq, codes}
use Rattle.std.specs.Option.{option_and_then}
use Rattle.std.specs.List.{find, list_all, list_any, starts_with}
use Rattle.signal_base.specs.declared.station.Station.TheVariants.{Dcf77, Msf, Wwvb, Jjy}
use Rattle.definitions.specs.time.Spelling.{dash}
use Rattle.formats.specs.declared.option.OptionName.TheVariants.{Start, Seconds, From, To, Workers, Leap, Step, Count, Readers}
use Rattle.formats.specs.declared.words.Command.{Command}
use Rattle.formats.specs.declared.words.Command.TheVariants.{Decode, Check, Feed, Encode, Trial, Follow, Sweep, Judge, Board, Irig, IrigRead}
use Rattle.formats.specs.Bytes.{station_name}
use Rattle.formats.specs.Options.{option_text}

-- what a command takes: the words that it begins with, how many places stand behind them, and which options
pub record Form : Type 0 where
  pub words : List (List ℕ)
  pub places : ℕ
  pub options : List (List ℕ)

-- the options of every command that reads logs, and of every command that searches
abbrev pub window_options : List (List ℕ)
window_options = option_text Start ∷ option_text Seconds ∷ option_text From ∷ option_text To ∷ []

abbrev pub search_options : List (List ℕ)
search_options = window_options ++ option_text Workers ∷ []

-- the option that names the file for a certificate
abbrev pub certificate_option : List ℕ
certificate_option = codes "--certificate"

-- The commands: `decode CONFIG`, `check CONFIG CERTIFICATE`, `feed CONFIG`, `encode STATION MINUTE`, `trial NUMBER`,
-- `follow CONFIG`, `sweep CONFIG`, `judge CONFIG CERTIFICATE`, `board CONFIG QUERIES`, `irig CONFIG`, `irig-read FILE`.
-- An encode of each station is a command of its own, so an unknown station is an unknown command.
abbrev pub form_of : Command → Form
form_of Decode = record { words = codes "decode" ∷ []; places = 1; options = search_options ++ certificate_option ∷ [] }
form_of Check = record { words = codes "check" ∷ []; places = 2; options = window_options }
form_of Feed = record { words = codes "feed" ∷ []; places = 1; options = search_options }
form_of (Encode station) = record { words = codes "encode" ∷ station_name station ∷ []; places = 1; options = option_text Leap ∷ [] }
form_of Trial = record { words = codes "trial" ∷ []; places = 1; options = option_text Workers ∷ [] }
form_of Follow = record { words = codes "follow" ∷ []; places = 1; options = search_options ++ option_text Step ∷ option_text Count ∷ [] }
form_of Sweep = record { words = codes "sweep" ∷ []; places = 1; options = search_options ++ certificate_option ∷ [] }
form_of Judge = record { words = codes "judge" ∷ []; places = 2; options = window_options }
form_of Board = record { words = codes "board" ∷ []; places = 2; options = search_options ++ option_text Step ∷ option_text Count ∷ option_text Readers ∷ [] }
form_of Irig = record { words = codes "irig" ∷ []; places = 1; options = search_options }
form_of IrigRead = record { words = codes "irig-read" ∷ []; places = 1; options = [] }

-- the commands of one run over files, and those that go beyond it
abbrev pub run_commands : List Command
run_commands = Decode ∷ Check ∷ Feed ∷ Encode Dcf77 ∷ Encode Msf ∷ Encode Wwvb ∷ Encode Jjy ∷ Trial ∷ []

abbrev pub reach_commands : List Command
reach_commands = Follow ∷ Sweep ∷ Judge ∷ Board ∷ Irig ∷ IrigRead ∷ []

-- whether a command is one of a run
abbrev pub is_run : Command → Bool
is_run Follow = false
is_run Sweep = false
is_run Judge = false
is_run Board = false
is_run Irig = false
is_run IrigRead = false
is_run other = true

-- what stands at a place or behind an option isn't empty and doesn't begin with -
abbrev pub is_value : List ℕ → Bool
is_value [] = false
is_value (b ∷ bs) = not (b == dash)

-- the word behind an option, if it stands among the pairs of an option and a value
abbrev pub value_behind : List ℕ → List (List ℕ) → Option (List ℕ)
value_behind option [] = None
value_behind option (word ∷ []) = None
value_behind option (word ∷ value ∷ words) = if bytes_eq word option then Some value else value_behind option words

-- pairs of one of these options and a value, each option at most once
abbrev pub are_pairs : List (List ℕ) → List (List ℕ) → Bool
are_pairs options [] = true
are_pairs options (word ∷ []) = false
are_pairs options (option ∷ value ∷ words) =
    list_any (bytes_eq option) options && is_value value && is_none (value_behind option words) && are_pairs options words

-- the parts of a command line: the command, the words at its places, and the pairs behind them
pub record Line : Type 0 where
  pub command : Command
  pub places : List (List ℕ)
  pub pairs : List (List ℕ)

-- the parts follow the grammar
abbrev pub is_line : Line → Bool
is_line line =
    length line.places == (form_of line.command).places && list_all is_value line.places
    && are_pairs (form_of line.command).options line.pairs

-- the line, if it follows the grammar
abbrev pub good_line : Line → Option Line
good_line line = if is_line line then Some line else None

-- the line of this command with these words behind its own
abbrev pub line_behind : Command → List (List ℕ) → Option Line
line_behind command behind =
    good_line (record { command = command; places = take (form_of command).places behind; pairs = drop (form_of command).places behind })

-- the words begin with those of the command
abbrev pub begins : List (List ℕ) → Command → Bool
begins words command = starts_with bytes_eq words (form_of command).words

-- the line of the one of these commands with which the words begin
abbrev pub line_of : List Command → List (List ℕ) → Option Line
line_of commands words =
    option_and_then
    (λ command. line_behind command (drop (length (form_of command).words) words))
    (find (begins words) commands)
