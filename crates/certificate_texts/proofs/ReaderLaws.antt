-- Lines that are read one after the other, and bytes of which no line can be made.
use Rattle.std.proofs.Common.{◌≡◌, ℕ, ◌+◌, ◌<◌, ◌≤◌, ◌^◌, Bool, true, false, nat_lt, if◌then◌else◌, List, [], ◌∷◌, ◌++◌, length, codes, Option, Some, None, refl, sym, ap, ◌∙◌, subst, arith, append_assoc, append-nil, length-append}
use Rattle.std.specs.Fmt.{decimal}
use Rattle.std.proofs.lemmas.Fmt.{length-decimal-le}
use Rattle.std.proofs.lemmas.Grind.{flat_map-append}
use Rattle.signal_base.specs.declared.station.Station.{Station}
use Rattle.signal_base.specs.declared.station.Station.TheVariants.{Dcf77, Msf, Wwvb, Jjy}
use Rattle.definitions.specs.declared.block.Span.{Span}
use Rattle.definitions.specs.declared.block.Span.TheVariants.{Year, Day, Hour, Minute}
use Rattle.definitions.specs.codes.Allowed.{has_station, stations_of}
use Rattle.formats.specs.Bytes.{line, line_feed, space, station_name}
use Rattle.formats.specs.Refusals.{named_key}
use Rattle.certificates.specs.declared.certificate.Kind.{Kind}
use Rattle.certificates.specs.declared.certificate.Kind.TheVariants.{Opened, Pruned, Empty, Leaf}
use Rattle.certificates.specs.declared.certificate.Line.{Line}
use Rattle.certificates.specs.declared.fault.CertificateLineFault.TheVariants.{Shape, TooManySteps}
use Rattle.certificates.specs.Certificates.{IsLine}
use Rattle.certificates.specs.Texts.{CanStand, CanTell, Entry, HasRoom, HeadLine, IsOver, IsRefused, Lead, Next, after, announced_text, entries_text, entry_line, entry_text, first_line, head_text, kind_text, span_text, stations_by, stations_text, step_text}
use Rattle.certificates.specs.Texts.Entry.{Tells, Part, Step, End}
use Rattle.certificates.specs.Texts.HeadLine.{Version, Heard, Start, Phase, Seconds, From, To, Ceiling, First, Second}
use Rattle.certificates.specs.Texts.Next.{AtHead, AtParts, AtStep, AtEnd}
use Rattle.certificates.proofs.BadLineLaws.{no_end, no_line}
use Rattle.certificates.proofs.EntryLaws.{named_small, within_small}
use Rattle.certificates.proofs.FieldLaws.{IsSmall}
use Rattle.certificates.proofs.StepLaws.{plain_line}
use Rattle.certificate_texts.specs.Fields.{HasNo}
use Rattle.certificate_texts.specs.Lines.{SpellsNone}
use Rattle.certificate_texts.proofs.LineLaws.{four_texts}
use Rattle.certificate_texts.proofs.ReadStepLaws.{avoids, from_announced, from_hi, from_lo, from_second, from_span}

-- a line more
pub leads_on : (first : Next) (es : List Entry) (next : Next) (e : Entry) → Lead first es next → CanStand next e → HasRoom next e
    → Lead first (es ++ e ∷ []) (after next e)
leads_on first [] next e lead can room =
    subst (λ (n : Next). CanStand n e × HasRoom n e × (after next e ≡ after n e)) lead (can, room, refl)
leads_on first (d ∷ es) next e lead can room = (lead.0, lead.1, leads_on (after first d) es next e lead.2 can room)

pub text_on : (es : List Entry) (e : Entry) → entries_text (es ++ e ∷ []) ≡ entries_text es ++ entry_line e
text_on es e = flat_map-append entry_line es (e ∷ []) ∙ ap (λ (x : List ℕ). entries_text es ++ x) (append-nil (entry_line e))

-- lines are short
short_number : (n : ℕ) → n < 2 ^ 64 → length (decimal n) ≤ 20
short_number n small = length-decimal-le 20 n (omega arith) (omega (arith, small)) small

short_named : (v : Option ℕ) → IsSmall v → length (named_key v) ≤ 20
short_named None small = omega arith
short_named (Some n) small = short_number n small

short_behind : (word : List ℕ) (v : Option ℕ) → length word ≤ 19 → IsSmall v → length (word ++ named_key v) ≤ 96
short_behind word v short small = omega (arith, length-append word (named_key v), short_named v small, short)

short_kind : (k : Kind) → length (kind_text k) ≡ 1
short_kind Opened = refl
short_kind Pruned = refl
short_kind Empty = refl
short_kind Leaf = refl

short_span : (s : Span) → length (span_text s) ≡ 1
short_span Year = refl
short_span Day = refl
short_span Hour = refl
short_span Minute = refl

short_announced : (a : Bool) → length (announced_text a) ≡ 1
short_announced true = refl
short_announced false = refl

joined : (a b : List ℕ) → length (a ++ space ∷ b) ≡ length a + (1 + length b)
joined a b = omega (arith, length-append a (space ∷ b))

short_step : (l : Line) → IsLine l → length (step_text l) ≤ 96
short_step l is =
    let plain = plain_line l is in
    let hi = joined (decimal l.block.hi) (named_key l.bound) in
    let lo = joined (decimal l.block.lo) (from_hi l) in
    let second = joined (decimal l.block.second) (from_lo l) in
    let announced = joined (announced_text l.block.announced) (from_second l) in
    let span = joined (span_text l.block.span) (from_announced l) in
    let kind = joined (kind_text l.kind) (from_span l) in
    omega (
      arith,
      kind,
      span,
      announced,
      second,
      lo,
      hi,
      short_kind l.kind,
      short_span l.block.span,
      short_announced l.block.announced,
      short_number l.block.second plain.second,
      short_number l.block.lo plain.lo,
      short_number l.block.hi plain.hi,
      short_named l.bound plain.bound,
    )

short_name : (s : Station) → length (station_name s) ≤ 5
short_name Dcf77 = omega arith
short_name Msf = omega arith
short_name Wwvb = omega arith
short_name Jjy = omega arith

abbrev spaced : Station → List ℕ
spaced s = space ∷ station_name s

short_if : (t : Bool) (s : Station) → length (if t then spaced s else []) ≤ 6
short_if true s = omega (arith, short_name s)
short_if false s = omega arith

short_word : (t : Bool) → length (if t then codes "stations" else codes "station") ≤ 8
short_word true = omega arith
short_word false = omega arith

short_stations : (mask : ℕ) → length (stations_text (stations_by mask)) ≤ 96
short_stations mask =
    let has = has_station (stations_by mask) in
    let word = if nat_lt 1 (length (stations_of (stations_by mask))) then codes "stations" else codes "station" in
    let at = λ (s : Station). if has s then spaced s else [] in
    let names = ap (λ (x : List ℕ). length x) (four_texts has spaced) in
    omega (
      arith,
      short_word (nat_lt 1 (length (stations_of (stations_by mask)))),
      names,
      short_if (has Dcf77) Dcf77,
      short_if (has Msf) Msf,
      short_if (has Wwvb) Wwvb,
      short_if (has Jjy) Jjy,
      length-append word (at Dcf77 ++ (at Msf ++ (at Wwvb ++ (at Jjy ++ [])))),
      ap (λ (x : List ℕ). length (word ++ x)) (four_texts has spaced),
      length-append (at Dcf77) (at Msf ++ (at Wwvb ++ (at Jjy ++ []))),
      length-append (at Msf) (at Wwvb ++ (at Jjy ++ [])),
      length-append (at Wwvb) (at Jjy ++ []),
      length-append (at Jjy) [],
    )

short_heard : (v : Option ℕ) (before : Option ℕ) → CanTell Heard before v → length (head_text Heard v) ≤ 96
short_heard None before can = absurd can.0
short_heard (Some mask) before can = short_stations mask

short_head : (told : HeadLine) (before v : Option ℕ) → CanTell told before v → length (head_text told v) ≤ 96
short_head Version before v can = short_behind (codes "tsbank certificate ") v (omega arith) (within_small _ _ v (omega arith) can)
short_head Heard before v can = short_heard v before can
short_head Start before v can = short_behind (codes "start ") v (omega arith) (within_small _ _ v (omega arith) can)
short_head Phase before v can = short_behind (codes "phase ") v (omega arith) (within_small _ _ v (omega arith) can)
short_head Seconds before v can = short_behind (codes "seconds ") v (omega arith) (within_small _ _ v (omega arith) can)
short_head From before v can = short_behind (codes "from ") v (omega arith) (within_small _ _ v (omega arith) can)
short_head To before v can = short_behind (codes "to ") v (omega arith) (within_small _ _ v (omega arith) can)
short_head Ceiling before v can = short_behind (codes "ceiling ") v (omega arith) (within_small _ _ v (omega arith) can)
short_head First before v can = short_behind (codes "first ") v (omega arith) (named_small v can)
short_head Second before v can = short_behind (codes "second ") v (omega arith) (named_small v can)

short_tells : (due told : HeadLine) (before v : Option ℕ) → (told ≡ due) × CanTell due before v → length (head_text told v) ≤ 96
short_tells due told before v can = subst (λ (t : HeadLine). length (head_text t v) ≤ 96) (sym can.0) (short_head due before v can.1)

short_part : (n : ℕ) → n < 8 → length (codes "worker " ++ decimal n) ≤ 96
short_part n few = omega (arith, length-append (codes "worker ") (decimal n), short_number n (omega (arith, few)))

pub short_entry : (next : Next) (e : Entry) → CanStand next e → length (entry_text e) ≤ 96
short_entry (AtHead due before) (Tells told v) can = short_tells due told before v can
short_entry (AtHead due before) (Part n) can = absurd can
short_entry (AtHead due before) (Step l) can = absurd can
short_entry (AtHead due before) End can = absurd can
short_entry AtParts (Tells told v) can = absurd can
short_entry AtParts (Part n) can = short_part n (omega (arith, can))
short_entry AtParts (Step l) can = absurd can
short_entry AtParts End can = absurd can
short_entry (AtStep p n) (Tells told v) can = absurd can
short_entry (AtStep p n) (Part m) can = short_part m (omega (arith, can.1))
short_entry (AtStep p n) (Step l) can = short_step l can
short_entry (AtStep p n) End can = omega arith
short_entry AtEnd (Tells told v) can = absurd can
short_entry AtEnd (Part n) can = absurd can
short_entry AtEnd (Step l) can = absurd can
short_entry AtEnd End can = absurd can

-- a line that is too long is none
pub long_is_none : (next : Next) (rest : List ℕ) → 96 < length rest → SpellsNone next rest
long_is_none next rest long e can same = omega (arith, long, short_entry next e can, ap (λ (x : List ℕ). length x) same)

-- where lines were read and the next is none, it is refused, whatever follows
module _ (read : List Entry) (next : Next) (bytes rest : List ℕ) (lead : Lead first_line read next) (parts : bytes ≡ entries_text read ++ rest) (clear : HasNo line_feed rest) where
  with_line : (more : List ℕ) → (bytes ++ line_feed ∷ []) ++ more ≡ entries_text read ++ (line rest ++ more)
  with_line more =
      append_assoc bytes (line_feed ∷ []) more
      ∙ (ap (λ (x : List ℕ). x ++ line_feed ∷ more) parts
      ∙ (append_assoc (entries_text read) rest (line_feed ∷ more)
      ∙ ap (λ (x : List ℕ). entries_text read ++ x) (sym (append_assoc rest (line_feed ∷ []) more))))

  not_over : (n : Next) (more : List ℕ) → IsOver n (line rest ++ more) → ⊥
  not_over (AtHead due before) more over = over
  not_over AtParts more over = over
  not_over (AtStep part steps) more over = over
  not_over AtEnd more over =
      omega (arith, ap (λ (x : List ℕ). length x) over, length-append (line rest) more, length-append rest (line_feed ∷ []))

  pub refused_shape : SpellsNone next rest → (more : List ℕ) → IsRefused ((bytes ++ line_feed ∷ []) ++ more) (length read + 1) Shape
  refused_shape none more = record {
    read = read;
    next = next;
    rest = line rest ++ more;
    lead = lead;
    parts = with_line more;
    is_due = refl;
    bad = (not_over next more, no_line next rest more (avoids line_feed rest clear) (λ e can same. none e can same));
  }

  pub refused_room : (e : Entry) → CanStand next e → entry_text e ≡ rest → (HasRoom next e → ⊥) → (more : List ℕ)
      → IsRefused ((bytes ++ line_feed ∷ []) ++ more) (length read + 1) TooManySteps
  refused_room e can same full more = record {
    read = read;
    next = next;
    rest = line rest ++ more;
    lead = lead;
    parts = with_line more;
    is_due = refl;
    bad = (e, can, full, (more, ap (λ (x : List ℕ). line x ++ more) (sym same)));
  }

  -- a line that may stand there is read
  pub line_read : (e : Entry) → entry_text e ≡ rest → bytes ++ line_feed ∷ [] ≡ entries_text (read ++ e ∷ []) ++ []
  line_read e same =
      sym (append-nil (bytes ++ line_feed ∷ []))
      ∙ (with_line []
      ∙ (ap (λ (x : List ℕ). entries_text read ++ (line x ++ [])) (sym same)
      ∙ (sym (append_assoc (entries_text read) (entry_line e) []) ∙ ap (λ (x : List ℕ). x ++ []) (sym (text_on read e)))))

  -- no more comes
  pub refused_end : (IsOver next rest → ⊥) → IsRefused bytes (length read + 1) Shape
  refused_end more = record {
    read = read;
    next = next;
    rest = rest;
    lead = lead;
    parts = parts;
    is_due = refl;
    bad = (more, λ e can begins. no_end rest (avoids line_feed rest clear) e begins);
  }
