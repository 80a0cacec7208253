-- The names of the values that the words give.
use Rattle.std.specs.Prelude.{ℕ, List, codes}
use Rattle.formats.specs.declared.option.OptionName.{OptionName}
use Rattle.formats.specs.declared.option.OptionName.TheVariants.{Number, Minute, Start, Seconds, From, To, Workers, Leap, Step, Count, Readers}

-- the option, or the name of the place
abbrev pub option_text : OptionName → List ℕ
option_text Number = codes "NUMBER"
option_text Minute = codes "MINUTE"
option_text Start = codes "--start"
option_text Seconds = codes "--seconds"
option_text From = codes "--from"
option_text To = codes "--to"
option_text Workers = codes "--workers"
option_text Leap = codes "--leap"
option_text Step = codes "--step"
option_text Count = codes "--count"
option_text Readers = codes "--readers"
