-- How the searches of a sweep are put together: at each offset two keys are found, and the first two sequences so far are kept.
use Rattle.std.specs.Prelude.{ℕ, ◌%◌, ◌^◌, Bool, ◌==◌, ◌&&◌, nat_lt, if◌then◌else◌, Option, Some, None, option_map, min}
use Rattle.signal_base.specs.declared.window.Window.{Window}
use Rattle.definitions.specs.declared.answer.Answer.{Answer}
use Rattle.definitions.specs.answers.FirstTwo.{answer_from}
use Rattle.definitions.specs.sequences.Keys.{cost_of}
use Rattle.sweep_due.specs.declared.standing.Placed.{Placed}
use Rattle.sweep_due.specs.declared.standing.Standing.{Standing}
use Rattle.sweep_due.specs.Phases.{window_at}

-- before any search
abbrev pub nothing_yet : Standing
nothing_yet = record { first = None; second = None }

-- keys of one sequence differ in their costs alone
abbrev pub is_same_sequence : ℕ → ℕ → Bool
is_same_sequence key other = (key % 2 ^ 33) == (other % 2 ^ 33)

-- of two keys of one sequence the lesser one, and of one key at two offsets the lesser offset
abbrev pub sooner : Placed → Placed → Placed
sooner first other =
    if nat_lt other.key first.key then other
    else if other.key == first.key && nat_lt other.offset first.offset then other
    else first

abbrev pub lesser_of : Option ℕ → ℕ → ℕ
lesser_of None key = key
lesser_of (Some second) key = min second key

-- A key that is found beside the first two: one of the first sequence may better it; one of another sequence comes before the
-- first, or it may better the second.
abbrev pub beside : Placed → Option ℕ → Placed → Standing
beside first second placed =
    if is_same_sequence first.key placed.key then record { first = Some (sooner first placed); second = second }
    else if nat_lt placed.key first.key then record { first = Some placed; second = Some first.key }
    else record { first = Some first; second = Some (lesser_of second placed.key) }

abbrev pub placed_among : Option Placed → Option ℕ → Placed → Standing
placed_among None second placed = record { first = Some placed; second = None }
placed_among (Some first) second placed = beside first second placed

abbrev pub with_key : Standing → ℕ → ℕ → Standing
with_key s offset key = placed_among s.first s.second (record { key = key; offset = offset })

abbrev pub with_one : Standing → ℕ → Option ℕ → Standing
with_one s offset None = s
with_one s offset (Some key) = with_key s offset key

-- what is known once a search at an offset has found these two keys, as far as there are any
abbrev pub with_two : Standing → ℕ → Option ℕ → Option ℕ → Standing
with_two s offset first second = with_one (with_one s offset first) offset second

-- The ceiling of the next search: no key of more than the second's cost can be among the first two.
abbrev pub ceiling_with : ℕ → Option ℕ → ℕ
ceiling_with ceiling None = ceiling
ceiling_with ceiling (Some second) = min ceiling (cost_of second)

abbrev pub ceiling_after : ℕ → Standing → ℕ
ceiling_after ceiling s = ceiling_with ceiling s.second

-- the answer and the window that a sweep comes to
abbrev pub first_key : Standing → Option ℕ
first_key s = option_map (λ (p : Placed). p.key) s.first

abbrev pub answer_told : Standing → Answer
answer_told s = answer_from (first_key s) s.second

abbrev pub window_with : Window → Option Placed → Window
window_with window None = window
window_with window (Some p) = window_at window p.offset

abbrev pub window_told : Window → Standing → Window
window_told window s = window_with window s.first
