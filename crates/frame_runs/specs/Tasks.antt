-- What a command of frames is asked to do, by its words.
use Rattle.std.specs.Prelude.{ℕ, List}
use Rattle.formats.specs.OrderRanges.{IsAsked, IsFile}
use Rattle.bank.specs.Tasks.{AreWorkers}
use Rattle.due.specs.FrameOrders.{AsksFrames, AsksReading}
use Rattle.frame_runs.specs.declared.words.FrameTask.{FrameTask}
use Rattle.frame_runs.specs.declared.words.FrameTask.TheVariants.{Print, Read}

-- the words ask for this
abbrev pub Asks : List (List ℕ) → FrameTask → Type 0
Asks words (Print config asked workers) = AsksFrames words config.now asked
Asks words (Read file) = AsksReading words file.now

-- a file is named, and numbers are in their ranges
abbrev pub IsInRange : FrameTask → Type 0
IsInRange (Print config asked workers) = IsFile config.now × IsAsked asked × AreWorkers workers
IsInRange (Read file) = IsFile file.now
