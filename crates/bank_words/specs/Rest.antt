-- All values of a line, of which some are known.
use Rattle.std.specs.Prelude.{ℕ, ◌==◌, nat_le, if◌then◌else◌, Option, Ok, Err}
use Rattle.formats.specs.declared.option.OptionName.TheVariants as value
use Rattle.formats.specs.declared.words.Asked.{Asked}
use Rattle.formats.specs.declared.words.TheConstants.{DEFAULT_COUNT, DEFAULT_READERS, DEFAULT_STEP, DEFAULT_WORKERS}
use Rattle.formats.specs.declared.words.Values.{Values}
use Rattle.formats.specs.declared.words.WordFault.TheVariants.{EmptyRange}
use Rattle.formats.specs.Orders.{Checked, ◌>>=◌, valued}
use Rattle.formats.specs.Words.{Line}

-- those up to the range are known, and the range goes to the end of the minute `--to`
abbrev pub behind_range : (number minute : Option ℕ) → Asked → Line → Checked Values
behind_range number minute asked line =
    valued value.Workers DEFAULT_WORKERS line >>= (λ workers.
    valued value.Leap 0 line >>= (λ leap.
    valued value.Step DEFAULT_STEP line >>= (λ step.
    valued value.Count DEFAULT_COUNT line >>= (λ count.
    valued value.Readers DEFAULT_READERS line >>= (λ readers.
    if nat_le asked.to asked.from then Err EmptyRange
    else Ok (record {
      number = number;
      minute = minute;
      asked = asked;
      workers = workers;
      leap = leap == 1;
      step = step;
      count = count;
      readers = readers;
    }))))))
