-- What was read of a text, one byte more, and at its end.
use Rattle.std.proofs.Common.{◌≡◌, ◌≢◌, ℕ, ◌+◌, Bool, true, false, List, [], ◌∷◌, ◌++◌, length, Option, Some, None, refl, sym, ap, ◌∙◌, subst, arith, append_assoc, append-nil, length-append}
use Rattle.formats.specs.Bytes.{line_feed}
use Rattle.certificates.specs.declared.fault.CertificateLineFault.TheVariants.{Shape, TooManySteps}
use Rattle.certificates.specs.Texts.{Entry, HasRoom, IsOver, IsRefused, Lead, Next, after, entries_text, entry_text, first_line}
use Rattle.certificate_texts.specs.declared.place.Place.{Place}
use Rattle.certificate_texts.specs.declared.place.Place.TheVariants as place
use Rattle.certificate_texts.specs.declared.reader.BadLine.{BadLine}
use Rattle.certificate_texts.specs.declared.reader.Reader.{Reader}
use Rattle.certificate_texts.specs.declared.reader.TheConstants.{LINE_ROOM}
use Rattle.certificate_texts.specs.Fields.{HasNo}
use Rattle.certificate_texts.specs.Lines.{Spells, SpellsNone}
use Rattle.certificate_texts.specs.Places.{next_of}
use Rattle.certificate_texts.specs.Reading.{IsHeld, IsRead, IsWhole, Stands, StandsBy}
use Rattle.certificate_texts.proofs.ReaderLaws.{leads_on, line_read, long_is_none, refused_end, refused_room, refused_shape}

-- where no line is bad
pub good_stands : (r : Reader) (bytes : List ℕ) (read : List Entry) → r.bad ≡ None → IsRead r bytes read → Stands r bytes read
good_stands r bytes read good is = subst (λ (b : Option BadLine). StandsBy b r bytes read) (sym good) is

pub stands_good : (r : Reader) (bytes : List ℕ) (read : List Entry) → r.bad ≡ None → Stands r bytes read → IsRead r bytes read
stands_good r bytes read good is = subst (λ (b : Option BadLine). StandsBy b r bytes read) good is

-- where one is
pub bad_stands : (r : Reader) (bad : BadLine) (bytes : List ℕ) (read : List Entry) → r.bad ≡ Some bad
    → ((more : List ℕ) → IsRefused (bytes ++ more) bad.line bad.fault) → Stands r bytes read
bad_stands r bad bytes read is refused = subst (λ (b : Option BadLine). StandsBy b r bytes read) (sym is) refused

pub stands_bad : (r : Reader) (bad : BadLine) (bytes : List ℕ) (read : List Entry) → r.bad ≡ Some bad → Stands r bytes read
    → (more : List ℕ) → IsRefused (bytes ++ more) bad.line bad.fault
stands_bad r bad bytes read is stands = subst (λ (b : Option BadLine). StandsBy b r bytes read) is stands

-- nothing more is told behind a bad line
pub stays_bad : (r : Reader) (bad : BadLine) (bytes : List ℕ) (read : List Entry) (byte : ℕ) → r.bad ≡ Some bad → Stands r bytes read
    → Stands r (bytes ++ byte ∷ []) read
stays_bad r bad bytes read byte is stands =
    bad_stands r bad (bytes ++ byte ∷ []) read is
    (λ more. subst (λ (x : List ℕ). IsRefused x bad.line bad.fault) (sym (append_assoc bytes (byte ∷ []) more)) (stands_bad r bad bytes read is stands (byte ∷ more)))

pub bad_at_end : (r : Reader) (bad : BadLine) (bytes : List ℕ) (read : List Entry) → r.bad ≡ Some bad → Stands r bytes read → IsRefused bytes bad.line bad.fault
bad_at_end r bad bytes read is stands =
    subst (λ (x : List ℕ). IsRefused x bad.line bad.fault) (append-nil bytes) (stands_bad r bad bytes read is stands [])

-- a byte more on the line at hand
clear_more : (byte : ℕ) (rest : List ℕ) → byte ≢ line_feed → HasNo line_feed rest → HasNo line_feed (rest ++ byte ∷ [])
clear_more byte [] inside clear = (inside, tt)
clear_more byte (b ∷ bs) inside clear = (clear.0, clear_more byte bs inside clear.1)

pub byte_more : (r s : Reader) (bytes : List ℕ) (read : List Entry) (byte : ℕ) → s.bad ≡ None → s.place ≡ r.place → s.lines ≡ r.lines → byte ≢ line_feed
    → ((rest : List ℕ) → IsHeld r.long r.held.items rest → IsHeld s.long s.held.items (rest ++ byte ∷ [])) → IsRead r bytes read → Stands s (bytes ++ byte ∷ []) read
byte_more r s bytes read byte good place lines inside keeps is =
    good_stands s (bytes ++ byte ∷ []) read good
    (record {
      rest = is.rest ++ byte ∷ [];
      lead = subst (λ (p : Place). Lead first_line read (next_of p)) (sym place) is.lead;
      parts = ap (λ (x : List ℕ). x ++ byte ∷ []) is.parts ∙ append_assoc (entries_text read) is.rest (byte ∷ []);
      clear = clear_more byte is.rest inside is.clear;
      held = keeps is.rest is.held;
      count = lines ∙ is.count;
    })

pub long_stays : (long : Bool) (held : List ℕ) (byte : ℕ) → long ≡ true → (rest : List ℕ) → IsHeld long held rest → IsHeld long held (rest ++ byte ∷ [])
long_stays true held byte e rest is = omega (arith, is, length-append rest (byte ∷ []))
long_stays false held byte e rest is = absurd cc

pub becomes_long : (long : Bool) (held : List ℕ) (byte : ℕ) → long ≡ false → length held ≡ LINE_ROOM → (rest : List ℕ) → IsHeld long held rest
    → IsHeld true held (rest ++ byte ∷ [])
becomes_long true held byte e full rest is = absurd cc
becomes_long false held byte e full rest is = omega (arith, ap (λ (x : List ℕ). length x) is, full, length-append rest (byte ∷ []))

pub is_kept : (long : Bool) (held more : List ℕ) (byte : ℕ) → long ≡ false → more ≡ held ++ byte ∷ [] → (rest : List ℕ) → IsHeld long held rest
    → IsHeld long more (rest ++ byte ∷ [])
is_kept true held more byte e kept rest is = absurd cc
is_kept false held more byte e kept rest is = kept ∙ ap (λ (x : List ℕ). x ++ byte ∷ []) is

-- a line ends
module _ (r : Reader) (bytes : List ℕ) (read : List Entry) (is : IsRead r bytes read) where
  abbrev next : Next
  next = next_of r.place

  held_is : (long : Bool) → IsHeld long r.held.items is.rest → long ≡ false → r.held.items ≡ is.rest
  held_is true held e = absurd cc
  held_is false held e = held

  no_line_here : (long : Bool) → IsHeld long r.held.items is.rest → (long ≡ false → SpellsNone next r.held.items) → SpellsNone next is.rest
  no_line_here true held none = long_is_none next is.rest held
  no_line_here false held none = subst (SpellsNone next) held (none refl)

  pub ends_badly : (r.long ≡ false → SpellsNone next r.held.items) → (more : List ℕ) → IsRefused ((bytes ++ line_feed ∷ []) ++ more) (r.lines + 1) Shape
  ends_badly none more =
      subst (λ (n : ℕ). IsRefused ((bytes ++ line_feed ∷ []) ++ more) (n + 1) Shape) (sym is.count)
      (refused_shape read next bytes is.rest is.lead is.parts is.clear (no_line_here r.long is.held none) more)

  module _ (e : Entry) (short : r.long ≡ false) (spells : Spells next r.held.items e) where
    told : entry_text e ≡ is.rest
    told = spells.text ∙ held_is r.long is.held short

    pub ends_full : (s : Reader) → s.bad ≡ Some (record { line = r.lines + 1; fault = TooManySteps }) → (HasRoom next e → ⊥) → Stands s (bytes ++ line_feed ∷ []) read
    ends_full s bad full =
        bad_stands s (record { line = r.lines + 1; fault = TooManySteps }) (bytes ++ line_feed ∷ []) read bad
        (λ more. subst (λ (n : ℕ). IsRefused ((bytes ++ line_feed ∷ []) ++ more) (n + 1) TooManySteps) (sym is.count)
        (refused_room read next bytes is.rest is.lead is.parts is.clear e spells.can told full more))

    pub ends_well : (s : Reader) → s.bad ≡ None → s.long ≡ false → s.held.items ≡ [] → s.lines ≡ r.lines + 1 → next_of s.place ≡ after next e → HasRoom next e
        → Stands s (bytes ++ line_feed ∷ []) (read ++ e ∷ [])
    ends_well s good short_too none counted place room =
        good_stands s (bytes ++ line_feed ∷ []) (read ++ e ∷ []) good
        (record {
          rest = [];
          lead = subst (λ (n : Next). Lead first_line (read ++ e ∷ []) n) (sym place) (leads_on first_line read next e is.lead spells.can room);
          parts = line_read read next bytes is.rest is.lead is.parts is.clear e told;
          clear = tt;
          held = subst (λ (t : Bool). IsHeld t s.held.items []) (sym short_too) none;
          count = omega (arith, counted, is.count, length-append read (e ∷ []));
        })

  -- the text ends
  held_none : (long : Bool) → IsHeld long r.held.items is.rest → long ≡ false → r.held.items ≡ [] → is.rest ≡ []
  held_none true held e none = absurd cc
  held_none false held e none = sym held ∙ none

  pub is_whole : r.place ≡ place.End → r.long ≡ false → r.held.items ≡ [] → IsWhole bytes read
  is_whole at short none =
      let empty = held_none r.long is.held short none in
      record {
        lead = subst (λ (p : Place). Lead first_line read (next_of p)) at is.lead;
        same = is.parts ∙ (ap (λ (x : List ℕ). entries_text read ++ x) empty ∙ append-nil (entries_text read));
      }

  short_none : (long : Bool) → IsHeld long r.held.items is.rest → is.rest ≡ [] → (long ≡ false) × (r.held.items ≡ [])
  short_none true held e = absurd (omega (arith, held, ap (λ (x : List ℕ). length x) e))
  short_none false held e = (refl, held ∙ e)

  over_at : (p : Place) → IsOver (next_of p) is.rest → (p ≡ place.End) × (is.rest ≡ [])
  over_at (place.Head due before) over = absurd over
  over_at place.Parts over = absurd over
  over_at (place.Steps part steps) over = absurd over
  over_at place.End over = (refl, over)

  pub no_end_here : ((r.place ≡ place.End) × (r.long ≡ false) × (r.held.items ≡ []) → ⊥) → IsRefused bytes (r.lines + 1) Shape
  no_end_here never =
      subst (λ (n : ℕ). IsRefused bytes (n + 1) Shape) (sym is.count)
      (refused_end read next bytes is.rest is.lead is.parts is.clear
      (λ over. let at = over_at r.place over in let none = short_none r.long is.held at.1 in never (at.0, none.0, none.1)))
