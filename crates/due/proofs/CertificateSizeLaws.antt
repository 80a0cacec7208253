-- How many bytes a certificate has.
use Rattle.std.proofs.Common.{◌≡◌, ℕ, ◌+◌, ◌*◌, ◌^◌, ◌<◌, ◌≤◌, Bool, true, false, nat_lt, if◌then◌else◌, List, [], ◌∷◌, ◌++◌, map, length, flat_map, Option, Some, None, codes, refl, sym, subst, arith, length-append}
use Rattle.std.specs.Fmt.{decimal}
use Rattle.std.specs.List.{AllByRecursion}
use Rattle.std.proofs.lemmas.Fmt.{length-decimal-le}
use Rattle.std.proofs.lemmas.List.Concat.{flat_map-append, length-flat_map}
use Rattle.signal_base.specs.declared.limits.TheConstants.{GREATEST_COST}
use Rattle.signal_base.specs.declared.station.Station.{Station}
use Rattle.signal_base.specs.declared.station.Stations.{Stations}
use Rattle.definitions.specs.declared.block.Span.{Span}
use Rattle.definitions.specs.declared.block.Span.TheVariants.{Year, Day, Hour, Minute}
use Rattle.definitions.specs.codes.Allowed.{stations_of}
use Rattle.definitions.specs.sequences.Windows.{IsWindow}
use Rattle.formats.specs.Bytes.{line, line_feed, space, station_name}
use Rattle.formats.specs.Refusals.{named_key}
use Rattle.certificates.specs.declared.certificate.Head.{Head}
use Rattle.certificates.specs.declared.certificate.Kind.{Kind}
use Rattle.certificates.specs.declared.certificate.Kind.TheVariants.{Opened, Pruned, Empty, Leaf}
use Rattle.certificates.specs.declared.certificate.Line.{Line}
use Rattle.certificates.specs.declared.limits.TheConstants.{CERTIFICATE_LIMIT, MOST_STEPS}
use Rattle.certificates.specs.Certificates.{CanBeNamed, Certificate, IsLine, IsShaped, IsSpelled, lines_of}
use Rattle.certificates.specs.Texts.{Entry, announced_text, certificate_text, entries_text, entry_line, head_entries, kind_text, part_entries, span_text, stations_text, step_text, version_of}
use Rattle.certificates.specs.Texts.Entry.{Part, Step, Tells}
use Rattle.certificates.specs.Texts.HeadLine.{Ceiling, First, From, Heard, Phase, Second, Seconds, Start, To, Version}
use Rattle.due.proofs.BoundRangeLaws.{sum_stations}

line_length : (text : List ℕ) → length (line text) ≡ length text + 1
line_length text = length-append text (line_feed ∷ [])

-- a step has at most 38 bytes
kind_one : (k : Kind) → length (kind_text k) ≡ 1
kind_one Opened = refl
kind_one Pruned = refl
kind_one Empty = refl
kind_one Leaf = refl

span_one : (s : Span) → length (span_text s) ≡ 1
span_one Year = refl
span_one Day = refl
span_one Hour = refl
span_one Minute = refl

announced_one : (a : Bool) → length (announced_text a) ≡ 1
announced_one true = refl
announced_one false = refl

bound_fits : (k : Kind) (s : Span) (bound : Option ℕ) → IsShaped k s bound → length (named_key bound) ≤ 10
bound_fits k s None shape = omega arith
bound_fits Opened s (Some n) shape = length-decimal-le 10 n (omega arith) (omega (arith, shape.1)) (omega (arith, shape.1))
bound_fits Pruned s (Some n) shape = length-decimal-le 10 n (omega arith) (omega (arith, shape)) (omega (arith, shape))
bound_fits Empty s (Some n) shape = absurd cc
bound_fits Leaf s (Some n) shape = length-decimal-le 10 n (omega arith) (omega (arith, shape.1)) (omega (arith, shape.1))

spaced : (xs ys : List ℕ) → length (xs ++ space ∷ ys) ≡ length xs + length ys + 1
spaced xs ys = omega (arith, length-append xs (space ∷ ys))

seven : (a b c d e f g : List ℕ) → length (a ++ space ∷ (b ++ space ∷ (c ++ space ∷ (d ++ space ∷ (e ++ space ∷ (f ++ space ∷ g))))))
    ≡ length a + length b + length c + length d + length e + length f + length g + 6
seven a b c d e f g =
    let g1 = spaced f g in
    let g2 = spaced e (f ++ space ∷ g) in
    let g3 = spaced d (e ++ space ∷ (f ++ space ∷ g)) in
    let g4 = spaced c (d ++ space ∷ (e ++ space ∷ (f ++ space ∷ g))) in
    let g5 = spaced b (c ++ space ∷ (d ++ space ∷ (e ++ space ∷ (f ++ space ∷ g)))) in
    let g6 = spaced a (b ++ space ∷ (c ++ space ∷ (d ++ space ∷ (e ++ space ∷ (f ++ space ∷ g))))) in
    omega (arith, g1, g2, g3, g4, g5, g6)

step_fits : (l : Line) → IsLine l → length (entry_line (Step l)) ≤ 38
step_fits l is =
    let second : length (decimal l.block.second) ≤ 2 = length-decimal-le 2 l.block.second (omega arith) (omega (arith, is.second)) (omega (arith, is.second)) in
    let lo : length (decimal l.block.lo) ≤ 8 = length-decimal-le 8 l.block.lo (omega arith) (omega (arith, is.not_empty, is.century)) (omega (arith, is.not_empty, is.century)) in
    let hi : length (decimal l.block.hi) ≤ 8 = length-decimal-le 8 l.block.hi (omega arith) (omega (arith, is.century)) (omega (arith, is.century)) in
    omega (
      arith,
      line_length (step_text l),
      seven (kind_text l.kind) (span_text l.block.span) (announced_text l.block.announced) (decimal l.block.second) (decimal l.block.lo) (decimal l.block.hi) (named_key l.bound),
      kind_one l.kind,
      span_one l.block.span,
      announced_one l.block.announced,
      second,
      lo,
      hi,
      bound_fits l.kind l.block.span l.bound is.shape,
    )

-- a number has at most 20
number_fits : (n : ℕ) → n < 2 ^ 64 → length (decimal n) ≤ 20
number_fits n small = length-decimal-le 20 n (omega arith) (omega (arith, small)) small

worded : (word : List ℕ) (n : ℕ) → n < 2 ^ 64 → length (line (word ++ decimal n)) ≤ length word + 21
worded word n small = omega (arith, line_length (word ++ decimal n), length-append word (decimal n), number_fits n small)

-- the lines of some steps, and of parts
entries_append : (xs ys : List Entry) → length (entries_text (xs ++ ys)) ≡ length (entries_text xs) + length (entries_text ys)
entries_append xs ys = subst (λ t. length t ≡ length (entries_text xs) + length (entries_text ys)) (sym (flat_map-append entry_line xs ys)) (length-append (entries_text xs) (entries_text ys))

steps_fit : (ls : List Line) → AllByRecursion IsLine ls → length (entries_text (map Step ls)) ≤ 38 * length ls
steps_fit [] all = omega arith
steps_fit (l ∷ ls) all = omega (arith, length-append (entry_line (Step l)) (entries_text (map Step ls)), step_fits l all.0, steps_fit ls all.1)

all_front : (xs ys : List Line) → AllByRecursion IsLine (xs ++ ys) → AllByRecursion IsLine xs
all_front [] ys all = tt
all_front (x ∷ xs) ys all = (all.0, all_front xs ys all.1)

all_back : (xs ys : List Line) → AllByRecursion IsLine (xs ++ ys) → AllByRecursion IsLine ys
all_back [] ys all = all
all_back (x ∷ xs) ys all = all_back xs ys all.1

abbrev joined : List (List Line) → List Line
joined parts = flat_map (λ part. part) parts

parts_fit : (n : ℕ) (parts : List (List Line)) → n + length parts ≤ 1_000_000 → AllByRecursion IsLine (joined parts)
    → length (entries_text (part_entries n parts)) ≤ 4 + 28 * length parts + 38 * length (joined parts)
parts_fit n [] few all = omega arith
parts_fit n (part ∷ parts) few all =
    let first = worded (codes "worker ") n (omega (arith, few)) in
    let steps = steps_fit part (all_front part (joined parts) all) in
    let rest = parts_fit (n + 1) parts (omega (arith, few)) (all_back part (joined parts) all) in
    omega (
      arith,
      length-append (entry_line (Part n)) (entries_text (map Step part ++ part_entries (n + 1) parts)),
      entries_append (map Step part) (part_entries (n + 1) parts),
      length-append part (joined parts),
      first,
      steps,
      rest,
    )

-- the head
version_small : (several : Bool) → (if several then 2 else 1) < 2 ^ 64
version_small true = omega arith
version_small false = omega arith

abbrev named_length : Station → ℕ
named_length station = length (space ∷ station_name station)

head_word : (several : Bool) → length (if several then codes "stations" else codes "station") ≤ 8
head_word true = omega arith
head_word false = omega arith

stations_fit : (stations : Stations) → length (line (stations_text stations)) ≤ 40
stations_fit stations =
    let several = nat_lt 1 (length (stations_of stations)) in
    let names = flat_map (λ station. space ∷ station_name station) (stations_of stations) in
    omega (
      arith,
      line_length (stations_text stations),
      length-append (if several then codes "stations" else codes "station") names,
      head_word several,
      length-flat_map (λ station. space ∷ station_name station) (stations_of stations),
      sum_stations named_length stations,
    )

key_fits : (word : List ℕ) (value : Option ℕ) → CanBeNamed value → length (line (word ++ named_key value)) ≤ length word + 21
key_fits word None can = omega (arith, line_length (word ++ named_key None), length-append word (named_key None))
key_fits word (Some key) can = worded word key (omega (arith, can.0, can.1))

head_fits : (h : Head) → IsWindow h.window → h.ceiling ≤ GREATEST_COST → CanBeNamed h.first → CanBeNamed h.second → length (entries_text (head_entries h)) ≤ 400
head_fits h window ceiling first second =
    let l1 : length (entry_line (Tells Version (Some (version_of h.window.stations)))) ≤ 40 = worded (codes "tsbank certificate ") (version_of h.window.stations) (version_small (nat_lt 1 (length (stations_of h.window.stations)))) in
    let l2 : length (entry_line (Tells Heard (Some h.window.stations.mask))) ≤ 40 = stations_fit h.window.stations in
    let l3 : length (entry_line (Tells Start (Some h.window.start))) ≤ 27 = worded (codes "start ") h.window.start (omega (arith, window.start)) in
    let l4 : length (entry_line (Tells Phase (Some h.window.phase))) ≤ 27 = worded (codes "phase ") h.window.phase (omega (arith, window.phase)) in
    let l5 : length (entry_line (Tells Seconds (Some h.window.seconds))) ≤ 29 = worded (codes "seconds ") h.window.seconds (omega (arith, window.not_long)) in
    let l6 : length (entry_line (Tells From (Some h.window.from))) ≤ 26 = worded (codes "from ") h.window.from (omega (arith, window.not_empty, window.century)) in
    let l7 : length (entry_line (Tells To (Some h.window.to))) ≤ 24 = worded (codes "to ") h.window.to (omega (arith, window.century)) in
    let l8 : length (entry_line (Tells Ceiling (Some h.ceiling))) ≤ 29 = worded (codes "ceiling ") h.ceiling (omega (arith, ceiling)) in
    let l9 : length (entry_line (Tells First h.first)) ≤ 27 = key_fits (codes "first ") h.first first in
    let l10 : length (entry_line (Tells Second h.second)) ≤ 28 = key_fits (codes "second ") h.second second in
    ten (entry_line (Tells Version (Some (version_of h.window.stations))))
    (entry_line (Tells Heard (Some h.window.stations.mask)))
    (entry_line (Tells Start (Some h.window.start)))
    (entry_line (Tells Phase (Some h.window.phase)))
    (entry_line (Tells Seconds (Some h.window.seconds)))
    (entry_line (Tells From (Some h.window.from)))
    (entry_line (Tells To (Some h.window.to)))
    (entry_line (Tells Ceiling (Some h.ceiling)))
    (entry_line (Tells First h.first))
    (entry_line (Tells Second h.second))
    l1 l2 l3 l4 l5 l6 l7 l8 l9 l10
  where
    ten : (a b c d e f g i j k : List ℕ) → length a ≤ 40 → length b ≤ 40 → length c ≤ 27 → length d ≤ 27 → length e ≤ 29 → length f ≤ 26 → length g ≤ 24 → length i ≤ 29 → length j ≤ 27
        → length k ≤ 28 → length (a ++ (b ++ (c ++ (d ++ (e ++ (f ++ (g ++ (i ++ (j ++ (k ++ [])))))))))) ≤ 400
    ten a b c d e f g i j k la lb lc ld le lf lg li lj lk =
        let s0 = length-append k [] in
        let s1 = length-append j (k ++ []) in
        let s2 = length-append i (j ++ (k ++ [])) in
        let s3 = length-append g (i ++ (j ++ (k ++ []))) in
        let s4 = length-append f (g ++ (i ++ (j ++ (k ++ [])))) in
        let s5 = length-append e (f ++ (g ++ (i ++ (j ++ (k ++ []))))) in
        let s6 = length-append d (e ++ (f ++ (g ++ (i ++ (j ++ (k ++ [])))))) in
        let s7 = length-append c (d ++ (e ++ (f ++ (g ++ (i ++ (j ++ (k ++ []))))))) in
        let s8 = length-append b (c ++ (d ++ (e ++ (f ++ (g ++ (i ++ (j ++ (k ++ [])))))))) in
        let s9 = length-append a (b ++ (c ++ (d ++ (e ++ (f ++ (g ++ (i ++ (j ++ (k ++ []))))))))) in
        omega (arith, s0, s1, s2, s3, s4, s5, s6, s7, s8, s9, la, lb, lc, ld, le, lf, lg, li, lj, lk)

-- what isn't too long isn't too large
pub certificate_fits : (c : Certificate) → IsSpelled c → length (lines_of c) ≤ MOST_STEPS → length (certificate_text c) ≤ CERTIFICATE_LIMIT
certificate_fits c spelled few =
    omega (
      arith,
      entries_append (head_entries c.head) (part_entries 0 c.parts),
      head_fits c.head spelled.window spelled.ceiling spelled.first spelled.second,
      parts_fit 0 c.parts (omega (arith, spelled.few_parts)) spelled.lines,
      spelled.few_parts,
      few,
    )
