-- Which call runs some words, and what is then due: their first word decides.
use Rattle.std.specs.Prelude.{ℕ, Bool, ◌||◌, if◌then◌else◌, List, [], ◌∷◌, bytes_eq, codes}
use Rattle.due.specs.declared.frame_due.FrameDue.{FrameDue}
use Rattle.due.specs.Owed.{Owed as RunOwed}
use Rattle.due.specs.Plans.{Plan, frame_plan, run_plan}
use Rattle.check_due.specs.declared.check_owed.CheckOwed.{CheckOwed}
use Rattle.check_due.specs.CheckPlans.{check_plan}
use Rattle.follow_due.specs.declared.follow_due.FollowDue.{FollowDue}
use Rattle.follow_due.specs.FollowPlans.{follow_plan}
use Rattle.sweep_due.specs.SweepOwed.{SweepOwed}
use Rattle.sweep_due.specs.SweepPlans.{sweep_plan}
use Rattle.judge_due.specs.JudgePlans.{judge_plan}
use Rattle.judge_due.specs.JudgeTexts.{JudgeOwed}
use Rattle.board_due.specs.declared.board_due.BoardDue.{BoardDue}
use Rattle.board_due.specs.BoardPlans.{board_plan_by}
use Rattle.program.specs.declared.family.Family.{Family}
use Rattle.program.specs.declared.family.Family.TheVariants.{OfBoard, Returns}
use Rattle.program.specs.declared.family.Returning.{Returning}
use Rattle.program.specs.declared.family.Returning.TheVariants.{OfCheck, OfFollow, OfFrames, OfJudge, OfRun, OfSweep}

-- the word is the first of a command of frames
abbrev pub is_of_frames : List ℕ → Bool
is_of_frames word = bytes_eq word (codes "irig") || bytes_eq word (codes "irig-read")

-- the word is the command of windows that follow one another
abbrev pub is_follow : List ℕ → Bool
is_follow word = bytes_eq word (codes "follow")

-- the word is the command of a decode over several phases
abbrev pub is_sweep : List ℕ → Bool
is_sweep word = bytes_eq word (codes "sweep")

-- the word is the command of a certificate's check
abbrev pub is_check : List ℕ → Bool
is_check word = bytes_eq word (codes "check")

-- the word is the command of the judgement of a sweep's certificates
abbrev pub is_judge : List ℕ → Bool
is_judge word = bytes_eq word (codes "judge")

-- the word is the command of a board
abbrev pub is_board : List ℕ → Bool
is_board word = bytes_eq word (codes "board")

-- which call runs words with this first word
abbrev pub family_of_word : List ℕ → Family
family_of_word word =
    if is_of_frames word then Returns OfFrames
    else if is_follow word then Returns OfFollow
    else if is_sweep word then Returns OfSweep
    else if is_check word then Returns OfCheck
    else if is_judge word then Returns OfJudge
    else if is_board word then OfBoard
    else Returns OfRun

-- which call runs these words
abbrev pub family_of : List (List ℕ) → Family
family_of [] = Returns OfRun
family_of (first ∷ more) = family_of_word first

-- what commands can owe whose call waits for nobody, and their plan for some words
abbrev pub ReturningOwed : Returning → Type 0
ReturningOwed OfRun = RunOwed
ReturningOwed OfFrames = FrameDue
ReturningOwed OfFollow = FollowDue
ReturningOwed OfSweep = SweepOwed
ReturningOwed OfCheck = CheckOwed
ReturningOwed OfJudge = JudgeOwed

abbrev pub returning_plan : (commands : Returning) → List (List ℕ) → Plan (ReturningOwed commands)
returning_plan OfRun words = run_plan words
returning_plan OfFrames words = frame_plan words
returning_plan OfFollow words = follow_plan words
returning_plan OfSweep words = sweep_plan words
returning_plan OfCheck words = check_plan words
returning_plan OfJudge words = judge_plan words

-- What words can owe, and their plan. By so many entries a board answered its queries while windows were published: no other plan
-- asks for these numbers.
abbrev pub Owed : Family → Type 0
Owed (Returns commands) = ReturningOwed commands
Owed OfBoard = BoardDue

abbrev pub family_plan : (family : Family) → List ℕ → List (List ℕ) → Plan (Owed family)
family_plan (Returns commands) live words = returning_plan commands words
family_plan OfBoard live words = board_plan_by live words

-- the plan of the program for its words
abbrev pub plan_for : List ℕ → (words : List (List ℕ)) → Plan (Owed (family_of words))
plan_for live words = family_plan (family_of words) live words
