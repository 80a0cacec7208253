-- The lines of a certificate may stand one after the other, and lines that may are those of a certificate.
use Rattle.std.proofs.Common.{◌≡◌, ℕ, zero, suc, ◌+◌, ◌<◌, ◌≤◌, Bool, true, false, nat_lt, if◌then◌else◌, List, [], ◌∷◌, ◌++◌, map, length, flat_map, Option, Some, None, refl, sym, ap, ◌∙◌, subst, arith, length-append}
use Rattle.std.specs.List.{AllByRecursion}
use Rattle.signal_base.specs.declared.limits.TheConstants.{GREATEST_COST}
use Rattle.signal_base.specs.declared.station.Stations.{Stations}
use Rattle.signal_base.specs.declared.window.Window.{Window}
use Rattle.definitions.specs.codes.Allowed.{stations_of}
use Rattle.definitions.specs.sequences.Windows.{IsWindow}
use Rattle.certificates.specs.declared.certificate.Head.{Head}
use Rattle.certificates.specs.declared.certificate.Line.{Line}
use Rattle.certificates.specs.declared.limits.TheConstants.{MOST_PARTS, MOST_STEPS, ONE_STATION, SEVERAL_STATIONS}
use Rattle.certificates.specs.Certificates.{CanBeNamed, Certificate, IsLine, IsSpelled, lines_of}
use Rattle.certificates.specs.Texts.{CanTell, Entry, HeadLine, IsWithin, Lead, Next, after_head, entries_of, first_line, head_entries, number_in, part_entries, stations_by, version_of}
use Rattle.certificates.specs.Texts.Entry.{Tells, Part, Step, End}
use Rattle.certificates.specs.Texts.HeadLine.{Version, Heard, Start, Phase, Seconds, From, To, Ceiling, First, Second}
use Rattle.certificates.specs.Texts.Next.{AtHead, AtParts, AtStep, AtEnd}
use Rattle.certificates.proofs.EntryLaws.{within_is}
use Rattle.certificates.proofs.ListLaws.{all_first, all_last}

abbrev joined : List (List Line) → List Line
joined parts = flat_map (λ part. part) parts

-- the steps of a part lead on to what comes behind them
steps_lead : (part steps : ℕ) (ls : List Line) (es : List Entry) → AllByRecursion IsLine ls → steps + length ls ≤ MOST_STEPS
    → Lead (AtStep part (steps + length ls)) es AtEnd → Lead (AtStep part steps) (map Step ls ++ es) AtEnd
steps_lead part steps [] es all few lead = let same : steps + 0 ≡ steps = omega arith in subst (λ n. Lead (AtStep part n) es AtEnd) same lead
steps_lead part steps (l ∷ ls) es all few lead =
    let same : steps + length (l ∷ ls) ≡ (steps + 1) + length ls = omega arith in
    (all.0, omega (arith, few), steps_lead part (steps + 1) ls es all.1 (omega (arith, few)) (subst (λ n. Lead (AtStep part n) es AtEnd) same lead))

parts_lead : (part steps : ℕ) (parts : List (List Line)) → AllByRecursion IsLine (joined parts) → steps + length (joined parts) ≤ MOST_STEPS
    → part + length parts < MOST_PARTS → Lead (AtStep part steps) (part_entries (part + 1) parts) AtEnd
parts_lead part steps [] all few small = (tt, tt, refl)
parts_lead part steps (p ∷ ps) all few small = (
  (refl, omega (arith, small)),
  tt,
  steps_lead (part + 1) steps p (part_entries (part + 1 + 1) ps) (all_first IsLine p (joined ps) all) (omega (arith, few, length-append p (joined ps)))
      (parts_lead (part + 1) (steps + length p) ps (all_last IsLine p (joined ps) all) (omega (arith, few, length-append p (joined ps))) (omega (arith, small))),
)

all_lead : (parts : List (List Line)) → AllByRecursion IsLine (joined parts) → length (joined parts) ≤ MOST_STEPS → 1 ≤ length parts → length parts ≤ MOST_PARTS
    → Lead AtParts (part_entries 0 parts) AtEnd
all_lead [] all few some most = absurd (omega (arith, some))
all_lead (p ∷ ps) all few some most = (
  refl,
  tt,
  steps_lead 0 0 p (part_entries 1 ps) (all_first IsLine p (joined ps) all) (omega (arith, few, length-append p (joined ps)))
      (parts_lead 0 (0 + length p) ps (all_last IsLine p (joined ps) all) (omega (arith, few, length-append p (joined ps))) (omega (arith, most))),
)

version_fits : (stations : Stations) → IsWithin ONE_STATION (SEVERAL_STATIONS + 1) (Some (version_of stations))
version_fits stations = by_test (nat_lt 1 (length (stations_of stations)))
  where
    by_test : (t : Bool) → IsWithin ONE_STATION (SEVERAL_STATIONS + 1) (Some (if t then SEVERAL_STATIONS else ONE_STATION))
    by_test true = (omega arith, omega arith)
    by_test false = (omega arith, omega arith)

-- the lines of a head lead on to what comes behind them
pub head_leads : (h : Head) → IsWindow h.window → h.ceiling ≤ GREATEST_COST → CanBeNamed h.first → CanBeNamed h.second → (es : List Entry) (last : Next)
    → Lead AtParts es last → Lead first_line (head_entries h ++ es) last
head_leads h w low first second es last lead = (
  (refl, version_fits h.window.stations),
  tt,
  (
    (refl, ((w.some_station, omega (arith, w.stations)), refl)),
    tt,
    (
      (refl, (omega arith, w.start)),
      tt,
      (
        (refl, (omega arith, w.phase)),
        tt,
        (
          (refl, (w.not_short, omega (arith, w.not_long))),
          tt,
          (
            (refl, (omega arith, omega (arith, w.not_empty, w.century))),
            tt,
            (
              (refl, (omega (arith, w.not_empty), omega (arith, w.century))),
              tt,
              (
                (refl, (omega arith, omega (arith, low))),
                tt,
                (
                  (refl, first),
                  tt,
                  ((refl, second), tt, lead),
                ),
              ),
            ),
          ),
        ),
      ),
    ),
  ),
)

pub certificate_leads : (c : Certificate) → IsSpelled c → length (lines_of c) ≤ MOST_STEPS → Lead first_line (entries_of c) AtEnd
certificate_leads c is few =
    head_leads c.head is.window is.ceiling is.first is.second (part_entries 0 c.parts) AtEnd
    (all_lead c.parts is.lines few is.some_part is.few_parts)

-- the other way round: the parts that lines make
record AreParts (part steps : ℕ) (es : List Entry) : Type 0 where
  first : List Line
  others : List (List Line)
  same : es ≡ map Step first ++ part_entries (part + 1) others
  lines : AllByRecursion IsLine (first ++ joined others)
  few : steps + length (first ++ joined others) ≤ MOST_STEPS
  small : part + length others < MOST_PARTS

ended : (es : List Entry) → Lead AtEnd es AtEnd → es ≡ []
ended [] lead = refl
ended (Tells told v ∷ es) lead = absurd lead.0
ended (Part n ∷ es) lead = absurd lead.0
ended (Step l ∷ es) lead = absurd lead.0
ended (End ∷ es) lead = absurd lead.0

not_over : (part steps : ℕ) → AtEnd ≡ AtStep part steps → ⊥
not_over part steps e = absurd cc

are_parts : (part steps : ℕ) (es : List Entry) → part < MOST_PARTS → steps ≤ MOST_STEPS → Lead (AtStep part steps) es AtEnd → AreParts part steps es
are_parts part steps [] small few lead = absurd (not_over part steps lead)
are_parts part steps (Tells told v ∷ es) small few lead = absurd lead.0
are_parts part steps (Part n ∷ es) small few lead =
    let rest = are_parts n steps es (omega (arith, lead.0.1)) few lead.2 in
    let next : n ≡ part + 1 = lead.0.0 in record {
      first = [];
      others = rest.first ∷ rest.others;
      same = ap (λ l. Part n ∷ l) rest.same ∙ ap (λ m. part_entries m (rest.first ∷ rest.others)) next;
      lines = rest.lines;
      few = rest.few;
      small = omega (arith, rest.small, next);
    }
are_parts part steps (Step l ∷ es) small few lead =
    let rest = are_parts part (steps + 1) es small (omega (arith, lead.1)) lead.2 in record {
      first = l ∷ rest.first;
      others = rest.others;
      same = ap (λ m. Step l ∷ m) rest.same;
      lines = (lead.0, rest.lines);
      few = omega (arith, rest.few);
      small = rest.small;
    }
are_parts part steps (End ∷ es) small few lead = record {
  first = [];
  others = [];
  same = ap (λ l. End ∷ l) (ended es lead.2);
  lines = tt;
  few = omega (arith, few);
  small = omega (arith, small);
}

-- the head that lines make, one by one: whatever holds of each way in which they go on holds of them
not_head : (due : HeadLine) (before : Option ℕ) → AtEnd ≡ AtHead due before → ⊥
not_head due before e = absurd cc

told_then : (Holds : List Entry → Type 0) (due : HeadLine) (before : Option ℕ)
    → ((v : Option ℕ) (es : List Entry) → CanTell due before v → Lead (after_head due v) es AtEnd → Holds (Tells due v ∷ es))
    → (es : List Entry) → Lead (AtHead due before) es AtEnd → Holds es
told_then Holds due before to [] lead = absurd (not_head due before lead)
told_then Holds due before to (Tells told v ∷ es) lead =
    subst (λ t. Holds (Tells t v ∷ es)) (sym lead.0.0) (to v es lead.0.1 (subst (λ t. Lead (after_head t v) es AtEnd) lead.0.0 lead.2))
told_then Holds due before to (Part n ∷ es) lead = absurd lead.0
told_then Holds due before to (Step l ∷ es) lead = absurd lead.0
told_then Holds due before to (End ∷ es) lead = absurd lead.0

record AreAllParts (es : List Entry) : Type 0 where
  parts : List (List Line)
  same : es ≡ part_entries 0 parts
  lines : AllByRecursion IsLine (joined parts)
  few : length (joined parts) ≤ MOST_STEPS
  some : 1 ≤ length parts
  most : length parts ≤ MOST_PARTS

not_parts : AtEnd ≡ AtParts → ⊥
not_parts e = absurd cc

are_all_parts : (es : List Entry) → Lead AtParts es AtEnd → AreAllParts es
are_all_parts [] lead = absurd (not_parts lead)
are_all_parts (Tells told v ∷ es) lead = absurd lead.0
are_all_parts (Part n ∷ es) lead =
    let rest = are_parts n 0 es (omega (arith, lead.0)) (omega arith) lead.2 in
    let first : n ≡ 0 = lead.0 in record {
      parts = rest.first ∷ rest.others;
      same = ap (λ l. Part n ∷ l) rest.same ∙ ap (λ m. part_entries m (rest.first ∷ rest.others)) first;
      lines = rest.lines;
      few = omega (arith, rest.few);
      some = omega arith;
      most = omega (arith, rest.small, first);
    }
are_all_parts (Step l ∷ es) lead = absurd lead.0
are_all_parts (End ∷ es) lead = absurd lead.0

-- the lines are those of a certificate
abbrev OfCertificate : List Entry → Type 0
OfCertificate es = (c : Certificate) × IsSpelled c × (length (lines_of c) ≤ MOST_STEPS) × (es ≡ entries_of c)

-- what the lines of a head told, and the parts behind them
record HeadTold (version heard start phase seconds from to ceiling first second : Option ℕ) (es : List Entry) : Type 0 where
  can_heard : CanTell Heard version heard
  can_start : CanTell Start heard start
  can_phase : CanTell Phase start phase
  can_seconds : CanTell Seconds phase seconds
  can_from : CanTell From seconds from
  can_to : CanTell To from to
  can_ceiling : CanTell Ceiling to ceiling
  can_first : CanTell First ceiling first
  can_second : CanTell Second first second
  parts : AreAllParts es

module _ (version heard start phase seconds from to ceiling first second : Option ℕ) (es : List Entry) (told : HeadTold version heard start phase seconds from to ceiling first second es) where
  of_head : OfCertificate (
      Tells Version version ∷ Tells Heard heard ∷ Tells Start start ∷ Tells Phase phase ∷ Tells Seconds seconds ∷ Tells From from ∷ Tells To to ∷ Tells Ceiling ceiling
      ∷ Tells First first ∷ Tells Second second ∷ es
      )
  of_head =
      let mask = within_is 1 16 heard told.can_heard.0 in
      let begin = within_is _ _ start told.can_start in
      let offset = within_is _ _ phase told.can_phase in
      let long = within_is _ _ seconds told.can_seconds in
      let low = within_is _ _ from told.can_from in
      let high = within_is _ _ to told.can_to in
      let cost = within_is _ _ ceiling told.can_ceiling in
      let window : Window = record { stations = stations_by mask.0; start = begin.0; phase = offset.0; seconds = long.0; from = low.0; to = high.0 } in
      let head : Head = record { window = window; ceiling = cost.0; first = first; second = second } in
      let versions : version ≡ Some (version_of (stations_by mask.0)) = told.can_heard.1 ∙ ap (λ v. Some (version_of (stations_by (number_in v)))) mask.1 in (
        record { head = head; parts = told.parts.parts },
        record {
          window = record {
            some_station = mask.2;
            stations = omega (arith, mask.3);
            start = begin.3;
            phase = offset.3;
            not_short = long.2;
            not_long = omega (arith, long.3);
            not_empty = omega (arith, high.2, ap number_in low.1);
            century = omega (arith, high.3);
          };
          ceiling = omega (arith, cost.3);
          first = told.can_first;
          second = told.can_second;
          some_part = told.parts.some;
          few_parts = told.parts.most;
          lines = told.parts.lines;
        },
        told.parts.few,
        λ i. Tells Version (versions i) ∷ Tells Heard (mask.1 i) ∷ Tells Start (begin.1 i) ∷ Tells Phase (offset.1 i) ∷ Tells Seconds (long.1 i) ∷ Tells From (low.1 i)
            ∷ Tells To (high.1 i) ∷ Tells Ceiling (cost.1 i) ∷ Tells First first ∷ Tells Second second ∷ told.parts.same i,
      )

pub leads_certificate : (es : List Entry) → Lead first_line es AtEnd → OfCertificate es
leads_certificate =
    told_then OfCertificate Version None (λ a es1 can_a lead1.
    told_then (λ es. OfCertificate (Tells Version a ∷ es)) Heard a (λ b es2 can_b lead2.
    told_then (λ es. OfCertificate (Tells Version a ∷ Tells Heard b ∷ es)) Start b (λ c es3 can_c lead3.
    told_then (λ es. OfCertificate (Tells Version a ∷ Tells Heard b ∷ Tells Start c ∷ es)) Phase c (λ d es4 can_d lead4.
    told_then (λ es. OfCertificate (Tells Version a ∷ Tells Heard b ∷ Tells Start c ∷ Tells Phase d ∷ es)) Seconds d (λ e es5 can_e lead5.
    told_then (λ es. OfCertificate (Tells Version a ∷ Tells Heard b ∷ Tells Start c ∷ Tells Phase d ∷ Tells Seconds e ∷ es)) From e (λ f es6 can_f lead6.
    told_then (λ es. OfCertificate (Tells Version a ∷ Tells Heard b ∷ Tells Start c ∷ Tells Phase d ∷ Tells Seconds e ∷ Tells From f ∷ es)) To f (λ g es7 can_g lead7.
    told_then (λ es. OfCertificate (Tells Version a ∷ Tells Heard b ∷ Tells Start c ∷ Tells Phase d ∷ Tells Seconds e ∷ Tells From f ∷ Tells To g ∷ es)) Ceiling g (λ h es8 can_h lead8.
    told_then (λ es. OfCertificate (Tells Version a ∷ Tells Heard b ∷ Tells Start c ∷ Tells Phase d ∷ Tells Seconds e ∷ Tells From f ∷ Tells To g ∷ Tells Ceiling h ∷ es)) First h (λ k es9 can_k lead9.
    told_then (λ es. OfCertificate (Tells Version a ∷ Tells Heard b ∷ Tells Start c ∷ Tells Phase d ∷ Tells Seconds e ∷ Tells From f ∷ Tells To g ∷ Tells Ceiling h ∷ Tells First k ∷ es)) Second k (λ l es10 can_l lead10.
    of_head a b c d e f g h k l es10 (record {
      can_heard = can_b;
      can_start = can_c;
      can_phase = can_d;
      can_seconds = can_e;
      can_from = can_f;
      can_to = can_g;
      can_ceiling = can_h;
      can_first = can_k;
      can_second = can_l;
      parts = are_all_parts es10 lead10;
    })) es9 lead9) es8 lead8) es7 lead7) es6 lead6) es5 lead5) es4 lead4) es3 lead3) es2 lead2) es1 lead1)

-- certificates of the same lines are the same: what the n-th line tells, and the parts
abbrev told_by : Entry → Option ℕ
told_by (Tells told v) = v
told_by entry = None

abbrev told_at : ℕ → List Entry → Option ℕ
told_at n [] = None
told_at zero (e ∷ es) = told_by e
told_at (suc n) (e ∷ es) = told_at n es

abbrev behind : ℕ → List Entry → List Entry
behind zero es = es
behind (suc n) [] = []
behind (suc n) (e ∷ es) = behind n es

-- the steps of the part that has begun, and the parts after it
abbrev gathered : List Entry → List Line × List (List Line)
gathered [] = ([], [])
gathered (Tells told v ∷ es) = ([], [])
gathered (Part n ∷ es) = ([], (gathered es).0 ∷ (gathered es).1)
gathered (Step l ∷ es) = (l ∷ (gathered es).0, (gathered es).1)
gathered (End ∷ es) = ([], [])

gathered_steps : (ls : List Line) (es : List Entry) → (gathered (map Step ls ++ es)).0 ≡ ls ++ (gathered es).0
gathered_steps [] es = refl
gathered_steps (l ∷ ls) es = ap (λ m. l ∷ m) (gathered_steps ls es)

gathered_parts : (ls : List Line) (es : List Entry) → (gathered (map Step ls ++ es)).1 ≡ (gathered es).1
gathered_parts [] es = refl
gathered_parts (l ∷ ls) es = gathered_parts ls es

append_none : (ls ms : List Line) → ms ≡ [] → ls ++ ms ≡ ls
append_none [] ms e = e
append_none (l ∷ ls) ms e = ap (λ m. l ∷ m) (append_none ls ms e)

none_begun : (n : ℕ) (parts : List (List Line)) → (gathered (part_entries n parts)).0 ≡ []
none_begun n [] = refl
none_begun n (p ∷ ps) = refl

parts_gathered : (n : ℕ) (parts : List (List Line)) → (gathered (part_entries n parts)).1 ≡ parts
parts_gathered n [] = refl
parts_gathered n (p ∷ ps) =
    let first = gathered_steps p (part_entries (n + 1) ps) ∙ append_none p _ (none_begun (n + 1) ps) in
    let others = gathered_parts p (part_entries (n + 1) ps) ∙ parts_gathered (n + 1) ps in
    λ i. first i ∷ others i

some_same : (m n : ℕ) → Some m ≡ Some n → m ≡ n
some_same m n e = ap number_in e

pub certificates_differ : (a b : Certificate) → entries_of a ≡ entries_of b → a ≡ b
certificates_differ a b e =
    let told : (n : ℕ) → told_at n (entries_of a) ≡ told_at n (entries_of b) = λ n. ap (told_at n) e in
    let mask = some_same a.head.window.stations.mask b.head.window.stations.mask (told 1) in
    let start = some_same a.head.window.start b.head.window.start (told 2) in
    let phase = some_same a.head.window.phase b.head.window.phase (told 3) in
    let seconds = some_same a.head.window.seconds b.head.window.seconds (told 4) in
    let from = some_same a.head.window.from b.head.window.from (told 5) in
    let to = some_same a.head.window.to b.head.window.to (told 6) in
    let ceiling = some_same a.head.ceiling b.head.ceiling (told 7) in
    let first : a.head.first ≡ b.head.first = told 8 in
    let second : a.head.second ≡ b.head.second = told 9 in
    let rests : part_entries 0 a.parts ≡ part_entries 0 b.parts = ap (behind 10) e in
    let parts : a.parts ≡ b.parts = sym (parts_gathered 0 a.parts) ∙ (ap (λ es. (gathered es).1) rests ∙ parts_gathered 0 b.parts) in
    λ i. record {
      head = record {
        window = record { stations = record { mask = mask i }; start = start i; phase = phase i; seconds = seconds i; from = from i; to = to i };
        ceiling = ceiling i;
        first = first i;
        second = second i;
      };
      parts = parts i;
    }
