-- A minute as characters: one for each of its seconds, by what the second may carry.
use Rattle.std.specs.Prelude.{ℕ, ◌/◌, Bool, ◌==◌, if◌then◌else◌, List, [], ◌∷◌, map, codes}
use Rattle.std.specs.List.{range_with_len}
use Rattle.signal_base.specs.declared.station.Station.{Station}
use Rattle.signal_base.specs.declared.station.Station.TheVariants.{Dcf77, Msf, Wwvb, Jjy}
use Rattle.definitions.specs.time.Calendar.{minute_length}
use Rattle.definitions.specs.codes.Vocabulary.{free, unscored}
use Rattle.definitions.specs.codes.Allowed.{allowed}

-- the characters of a station's symbols, in their order
abbrev pub symbol_characters : Station → List ℕ
symbol_characters Dcf77 = codes "01-"
symbol_characters Msf = codes "0123M"
symbol_characters Wwvb = codes "01M"
symbol_characters Jjy = codes "01M"

-- the bytes of *, ? and space
abbrev pub star : ℕ
star = 42

abbrev pub question_mark : ℕ
question_mark = 63

abbrev pub blank : ℕ
blank = 32

-- the character of the only symbol of a set, and a blank for a set of none of the symbols, which no second has
abbrev pub character_of : List ℕ → ℕ → ℕ
character_of [] set = blank
character_of (c ∷ cs) set = if set == 1 then c else character_of cs (set / 2)

-- a second that isn't scored is listed `*`, one that may carry 0 or 1 `?`
abbrev pub listed : Station → ℕ → ℕ
listed station set =
    if set == unscored then star
    else if set == free then question_mark
    else character_of (symbol_characters station) set

-- the characters of the seconds of a minute that may carry these sets
abbrev pub characters_of : Station → Bool → ℕ → (ℕ → ℕ) → List ℕ
characters_of station announced t sets = map (λ s. listed station (sets s)) (range_with_len 0 (minute_length announced t))

-- the characters of what a station may send in the minute t
abbrev pub characters : Station → Bool → ℕ → List ℕ
characters station announced t = characters_of station announced t (λ s. allowed station announced (t, s))
