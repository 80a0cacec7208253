-- Frames of IRIG-B: each tells a second by a hundred elements, and is written as the edges of their pulses.
use Rattle.std.specs.Prelude.{ℕ, ◌+◌, ◌-◌, ◌*◌, ◌/◌, ◌%◌, ◌==◌, if◌then◌else◌, List, [], ◌∷◌, ◌++◌, map, sum_by, slice_index_or, codes}
use Rattle.std.specs.Fmt.{decimal}
use Rattle.std.specs.List.{flat_map, range_with_len}
use Rattle.std.specs.Option.{option_map_or}
use Rattle.definitions.specs.declared.fields.Fields.{Fields}
use Rattle.definitions.specs.time.Calendar.{minutes_per_day, minutes_per_hour, utc_fields}
use Rattle.definitions.specs.time.Spelling.{minute_text}
use Rattle.definitions.specs.codes.Vocabulary.{Weighed, Field, carried_bit, is_one_of, its_second, its_weight, weight_of, weights_from}
use Rattle.formats.specs.declared.frame.Frame.{Frame}
use Rattle.formats.specs.declared.frame.TheConstants.{ELEMENTS, ELEMENT_TIME}
use Rattle.formats.specs.Bytes.{letter_h, letter_l, line, space}

-- An element is a zero, a one or a marker: 0, 1 and 2.
abbrev pub marker : ℕ
marker = 2

-- the elements that are markers
abbrev pub markers : List ℕ
markers = 0 ∷ 9 ∷ 19 ∷ 29 ∷ 39 ∷ 49 ∷ 59 ∷ 69 ∷ 79 ∷ 89 ∷ 99 ∷ []

-- The elements that carry the decimal fields, with their weights: the weights 1 to 8 carry a number's units, 10 to 80 its
-- tens, 100 and 200 its hundreds.
abbrev pub second_weights : List Weighed
second_weights = weights_from 1 (1 ∷ 2 ∷ 4 ∷ 8 ∷ []) ++ weights_from 6 (10 ∷ 20 ∷ 40 ∷ [])

abbrev pub minute_weights : List Weighed
minute_weights = weights_from 10 (1 ∷ 2 ∷ 4 ∷ 8 ∷ []) ++ weights_from 15 (10 ∷ 20 ∷ 40 ∷ [])

abbrev pub hour_weights : List Weighed
hour_weights = weights_from 20 (1 ∷ 2 ∷ 4 ∷ 8 ∷ []) ++ weights_from 25 (10 ∷ 20 ∷ [])

-- the day of the year, from 1
abbrev pub day_weights : List Weighed
day_weights =
    weights_from 30 (1 ∷ 2 ∷ 4 ∷ 8 ∷ []) ++ weights_from 35 (10 ∷ 20 ∷ 40 ∷ 80 ∷ []) ++ weights_from 40 (100 ∷ 200 ∷ [])

-- the last two digits of the year
abbrev pub year_weights : List Weighed
year_weights = weights_from 50 (1 ∷ 2 ∷ 4 ∷ 8 ∷ []) ++ weights_from 55 (10 ∷ 20 ∷ 40 ∷ 80 ∷ [])

-- the straight binary seconds of the day
abbrev pub binary_weights : List Weighed
binary_weights =
    weights_from 80 (1 ∷ 2 ∷ 4 ∷ 8 ∷ 16 ∷ 32 ∷ 64 ∷ 128 ∷ 256 ∷ [])
    ++ weights_from 90 (512 ∷ 1024 ∷ 2048 ∷ 4096 ∷ 8192 ∷ 16384 ∷ 32768 ∷ 65536 ∷ [])

-- The decimal fields of a second, and the seconds of the day before it. A leap second is second 60 of 23:59: its digits
-- are 60, and 86,400 seconds of the day are before it.
abbrev pub decimal_fields : Fields → ℕ → List Field
decimal_fields f second =
    (second_weights, second) ∷ (minute_weights, f.minute) ∷ (hour_weights, f.hour) ∷ (day_weights, f.day_of_year)
    ∷ (year_weights, f.year % 100) ∷ []

abbrev pub seconds_before : Fields → ℕ → ℕ
seconds_before f second = 3600 * f.hour + 60 * f.minute + second

-- the bit of a number in straight binary that has this weight
abbrev pub binary_bit : ℕ → ℕ → ℕ
binary_bit n weight = n / weight % 2

-- The element of this number, in UTC: a marker, a bit of the straight binary seconds, or one of a decimal field. All
-- others are zeros.
abbrev pub element : Fields → ℕ → ℕ → ℕ
element f second i =
    if is_one_of markers i then marker
    else option_map_or (binary_bit (seconds_before f second)) (weight_of binary_weights i) (carried_bit (decimal_fields f second) i)

abbrev pub elements_on : Fields → ℕ → List ℕ
elements_on f second = map (element f second) (range_with_len 0 ELEMENTS)

-- the elements of a second of a minute
abbrev pub elements : ℕ → ℕ → List ℕ
elements t second = elements_on (utc_fields t) second

-- for how many milliseconds an element is high
abbrev pub width : ℕ → ℕ
width element = if element == 0 then 2 else if element == 1 then 5 else 8

-- the line of an edge: its millisecond, and the level that begins there
abbrev pub edge : ℕ → ℕ → List ℕ
edge letter ms = line (decimal ms ++ space ∷ letter ∷ [])

-- the edges of elements, of which the first begins at a millisecond: each is high for its width and then low
abbrev pub pulses : ℕ → List ℕ → List ℕ
pulses ms [] = []
pulses ms (e ∷ es) = edge letter_h ms ++ (edge letter_l (ms + width e) ++ pulses (ms + ELEMENT_TIME) es)

-- the text of a frame, and of some frames
abbrev pub frame_text : Frame → List ℕ
frame_text frame = pulses frame.at (elements frame.minute frame.second)

abbrev pub frames_text : List Frame → List ℕ
frames_text frames = flat_map frame_text frames

-- What elements tell: the sum of the weights of a field's ones.
abbrev pub told : List Weighed → List ℕ → ℕ
told weights es = sum_by (λ w. its_weight w * slice_index_or es (its_second w) 0) weights

abbrev pub told_second : List ℕ → ℕ
told_second es = told second_weights es

-- the number of 1 January of the year 2000 + i, counted from 2000-01-01
abbrev pub new_year : ℕ → ℕ
new_year i = 365 * i + (i + 3) / 4

-- the minute that is told, counted from 2000-01-01T00:00Z
abbrev pub told_minute : List ℕ → ℕ
told_minute es =
    minutes_per_day * (new_year (told year_weights es) + told day_weights es - 1)
    + minutes_per_hour * told hour_weights es + told minute_weights es

-- what is printed of a frame that was read: when it begins, and the second that it tells
abbrev pub frame_line : Frame → List ℕ
frame_line frame =
    line (codes "at " ++ decimal frame.at ++ space ∷ minute_text frame.minute ++ space ∷ decimal frame.second)

abbrev pub frame_list : List Frame → List ℕ
frame_list frames = flat_map frame_line frames
