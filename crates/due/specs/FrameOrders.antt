-- What words ask of the commands of frames, and what is refused of them.
use Rattle.std.specs.Prelude.{ℕ, ◌≡◌, List, Ok, Err}
use Rattle.formats.specs.declared.words.Asked.{Asked}
use Rattle.formats.specs.declared.words.WordFault.TheVariants.{Usage}
use Rattle.formats.specs.Orders.{Order, Checked, ◌>>=◌, order_of}
use Rattle.formats.specs.Orders.Order.{Irig, IrigRead}
use Rattle.formats.specs.Words.{reach_commands}

-- Of the orders beyond a run, those of frames. Any other is refused, as words are that no command takes.
abbrev pub of_frames : Order → Checked Order
of_frames (Irig config asked workers) = Ok (Irig config asked workers)
of_frames (IrigRead file) = Ok (IrigRead file)
of_frames other = Err Usage

-- what the words ask for, or why they are refused
abbrev pub frame_order_in : List (List ℕ) → Checked Order
frame_order_in words = order_of reach_commands words >>= of_frames

-- The words ask for the frames of the answer for a bank: that of the configuration in this file, in this window. How many workers
-- search doesn't matter.
abbrev pub AsksFrames : List (List ℕ) → List ℕ → Asked → Type 0
AsksFrames words config asked = (workers : ℕ) × (frame_order_in words ≡ Ok (Irig config asked workers))

-- the words ask what the frames in this file tell
abbrev pub AsksReading : List (List ℕ) → List ℕ → Type 0
AsksReading words file = frame_order_in words ≡ Ok (IrigRead file)
