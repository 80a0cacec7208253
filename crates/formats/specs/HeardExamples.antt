-- What examples of what was heard are about: small logs of three receivers, and costs by symbol.
use Rattle.std.specs.Prelude.{ℕ, List, [], ◌∷◌, Option, slice_index_or}
use Rattle.signal_base.specs.declared.station.Station.{Station}
use Rattle.signal_base.specs.declared.station.Station.TheVariants.{Dcf77, Jjy, Msf}
use Rattle.signal_base.specs.Table.{difference_table}
use Rattle.definitions.specs.declared.level.Level.TheVariants.{High, Low, Unknown}
use Rattle.definitions.specs.declared.sequence.Sequence.{Sequence}
use Rattle.definitions.specs.heard.Costs.{Costs}
use Rattle.definitions.specs.heard.Receivers.{Receiver}
use Rattle.definitions.specs.examples.Receivers.{heard, ones_heard}
use Rattle.definitions.specs.examples.Sequences.{from_place, window_of}
use Rattle.formats.specs.Heard.{Hearing, slot_heard, slot_line}

-- costs that are the same in every slot, of each symbol in their order
abbrev pub by_symbol : List ℕ → Costs
by_symbol costs station k x = slice_index_or costs x 0

-- the line of slot k of 60, by such costs
abbrev pub line_by_symbol : List ℕ → Sequence → ℕ → Station → List ℕ
line_by_symbol costs q k station = slot_line (slot_heard (by_symbol costs) 60 q k station)

-- the line of slot k of a minute of MSF of which these slots were heard as a 1, at 100 for a symbol that differs
abbrev pub line_by_ones : List ℕ → Sequence → ℕ → List ℕ
line_by_ones ones q k = slot_line (slot_heard (λ station. ones_heard 0 59 ones) 60 q k Msf)

-- DCF77 by two receivers, of which the second counts twice and hears 30 ms late: both heard a pulse in each of two
-- seconds, of 205 and 95 ms, and of 95 and 110 ms, and the second one nothing for 30 ms. Between them JJY, which was
-- heard to send a 0 and a 1.
abbrev pub three_receivers : List Receiver
three_receivers =
    heard Dcf77 0 1 ((500, Low) ∷ (705, High) ∷ (1500, Low) ∷ (1595, High) ∷ (2500, High) ∷ [])
    ∷ heard Jjy 0 1 ((500, High) ∷ (1300, Low) ∷ (1500, High) ∷ (2000, Low) ∷ (2500, High) ∷ [])
    ∷ heard Dcf77 30 2 ((530, Low) ∷ (625, High) ∷ (1530, Low) ∷ (1640, High) ∷ (2000, Unknown) ∷ (2030, High) ∷ (2530, High) ∷ []) ∷ []

-- the seconds 15 and 16 of 2000-01-01T12:00Z as receivers of these stations heard them, from millisecond 500 on, where the
-- next sequence costs this
abbrev pub two_seconds : ℕ → Option ℕ → List Receiver → Hearing
two_seconds mask next receivers =
    record {
      receivers = receivers;
      table = difference_table;
      window = record (window_of mask 0 60) { phase = 500; seconds = 2 };
      sequence = from_place 720 15;
      next = next;
    }
