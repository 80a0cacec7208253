-- Each text has one outcome: its lines lead to the end of a certificate, or up to the first bad line.
use Rattle.std.proofs.Common.{◌≡◌, ℕ, zero, suc, ◌+◌, ◌<◌, ◌⊎◌, inl, inr, List, [], ◌∷◌, ◌++◌, length, refl, sym, ap, ◌∙◌, subst, arith, append_assoc, length-append}
use Rattle.std.proofs.lemmas.List.{append-nil}
use Rattle.definitions.proofs.ExistLaws.{Decided}
use Rattle.formats.specs.Bytes.{line_feed}
use Rattle.certificates.specs.declared.fault.CertificateLineFault.{CertificateLineFault}
use Rattle.certificates.specs.declared.fault.CertificateLineFault.TheVariants.{Shape, TooManySteps}
use Rattle.certificates.specs.Certificates.{Certificate}
use Rattle.certificates.specs.Texts.{BeginsWith, CanStand, Entry, HasOutcome, HasRoom, IsBadNext, IsOver, IsRefused, IsText, Lead, Next, after, entries_of, entries_text, entry_line, entry_text, first_line}
use Rattle.certificates.specs.Texts.Next.{AtHead, AtParts, AtStep, AtEnd}
use Rattle.certificates.proofs.EntryLaws.{entry_once, nothing_stands}
use Rattle.certificates.proofs.ChoiceLaws.{Comes, decide_comes, decide_over, decide_room}
use Rattle.certificates.proofs.LeadLaws.{certificate_leads, certificates_differ, leads_certificate}

-- no line leads on
abbrev IsStuck : Next → List ℕ → Type 0
IsStuck next rest = (e : Entry) → CanStand next e → HasRoom next e → BeginsWith (entry_line e) rest → ⊥

-- an entry with what comes after it in a text
entries_apart : (e : Entry) (es : List Entry) (r : List ℕ) → entries_text (e ∷ es) ++ r ≡ entry_line e ++ (entries_text es ++ r)
entries_apart e es r = append_assoc (entry_line e) (entries_text es) r

-- lines that lead on from one place to places where nothing leads on are the same
one_way : (next : Next) (es fs : List Entry) (m n : Next) (r s : List ℕ) → Lead next es m → Lead next fs n → entries_text es ++ r ≡ entries_text fs ++ s
    → IsStuck m r → IsStuck n s → (es ≡ fs) × (m ≡ n) × (r ≡ s)
one_way next [] [] m n r s a b e stuck also = (refl, a ∙ sym b, e)
one_way next [] (f ∷ fs) m n r s a b e stuck also =
    absurd (stuck f (subst (λ x. CanStand x f) (sym a) b.0) (subst (λ x. HasRoom x f) (sym a) b.1) (entries_text fs ++ s, e ∙ entries_apart f fs s))
one_way next (d ∷ es) [] m n r s a b e stuck also =
    absurd (also d (subst (λ x. CanStand x d) (sym b) a.0) (subst (λ x. HasRoom x d) (sym b) a.1) (entries_text es ++ r, sym e ∙ entries_apart d es r))
one_way next (d ∷ es) (f ∷ fs) m n r s a b e stuck also =
    let first = entry_once next d f (entries_text es ++ r) (entries_text fs ++ s) a.0 b.0 (sym (entries_apart d es r) ∙ (e ∙ entries_apart f fs s)) in
    let rest = one_way (after next d) es fs m n r s a.2 (subst (λ x. Lead (after next x) fs n) (sym first.0) b.2) first.1 stuck also in
    ((λ i. first.0 i ∷ rest.0 i), rest.1, rest.2)

end_stuck : IsStuck AtEnd []
end_stuck e can room begins = nothing_stands e can

-- of two lines with which a text begins, and which may stand there, there is one
same_entry : (next : Next) (rest : List ℕ) (d e : Entry) → CanStand next d → CanStand next e → BeginsWith (entry_line d) rest → BeginsWith (entry_line e) rest → d ≡ e
same_entry next rest d e can also h k = (entry_once next d e h.0 k.0 can also (sym h.1 ∙ k.1)).0

bad_stuck : (next : Next) (rest : List ℕ) (fault : CertificateLineFault) → IsBadNext next rest fault → IsStuck next rest
bad_stuck next rest Shape bad e can room begins = bad.1 e can begins
bad_stuck next rest TooManySteps bad e can room begins =
    bad.2 (subst (HasRoom next) (same_entry next rest e bad.0 can bad.1 begins bad.3) room)

bad_once : (next : Next) (rest : List ℕ) (a b : CertificateLineFault) → IsBadNext next rest a → IsBadNext next rest b → a ≡ b
bad_once next rest Shape Shape h k = refl
bad_once next rest Shape TooManySteps h k = absurd (h.1 k.0 k.1 k.3)
bad_once next rest TooManySteps Shape h k = absurd (k.1 h.0 h.1 h.3)
bad_once next rest TooManySteps TooManySteps h k = refl

end_not_bad : (fault : CertificateLineFault) → IsBadNext AtEnd [] fault → ⊥
end_not_bad Shape bad = bad.0 refl
end_not_bad TooManySteps bad = nothing_stands bad.0 bad.1

-- a text of a certificate leads to its end
text_leads : (text : List ℕ) (c : Certificate) → IsText c text → Lead first_line (entries_of c) AtEnd × (text ≡ entries_text (entries_of c) ++ [])
text_leads text c is = (certificate_leads c is.spelled is.few, is.same ∙ sym (append-nil (entries_text (entries_of c))))

pub one_certificate : (text : List ℕ) (a b : Certificate) → IsText a text → IsText b text → a ≡ b
one_certificate text a b h k =
    let r = text_leads text a h in
    let s = text_leads text b k in
    let same = one_way first_line (entries_of a) (entries_of b) AtEnd AtEnd [] [] r.0 s.0 (sym r.1 ∙ s.1) end_stuck end_stuck in
    certificates_differ a b same.0

pub one_refusal : (text : List ℕ) (m n : ℕ) (a b : CertificateLineFault) → IsRefused text m a → IsRefused text n b → (m ≡ n) × (a ≡ b)
one_refusal text m n a b h k =
    let same = one_way first_line h.read k.read h.next k.next h.rest k.rest h.lead k.lead (sym h.parts ∙ k.parts) (bad_stuck h.next h.rest a h.bad) (bad_stuck k.next k.rest b k.bad) in
    let moved : IsBadNext k.next k.rest a = subst (λ x. IsBadNext x k.rest a) same.1 (subst (λ l. IsBadNext h.next l a) same.2 h.bad) in
    (h.is_due ∙ (ap (λ (es : List Entry). length es + 1) same.0 ∙ sym k.is_due), bad_once k.next k.rest a b moved k.bad)

pub text_not_refused : (text : List ℕ) (c : Certificate) (n : ℕ) (fault : CertificateLineFault) → IsText c text → IsRefused text n fault → ⊥
text_not_refused text c n fault h k =
    let r = text_leads text c h in
    let same = one_way first_line (entries_of c) k.read AtEnd k.next [] k.rest r.0 k.lead (sym r.1 ∙ k.parts) end_stuck (bad_stuck k.next k.rest fault k.bad) in
    end_not_bad fault (subst (λ x. IsBadNext x [] fault) (sym same.1) (subst (λ l. IsBadNext k.next l fault) (sym same.2) k.bad))

-- From each place lines lead to the end of all, or to a bad one.
record Stops (next : Next) (text : List ℕ) (fault : CertificateLineFault) : Type 0 where
  read : List Entry
  last : Next
  rest : List ℕ
  lead : Lead next read last
  parts : text ≡ entries_text read ++ rest
  bad : IsBadNext last rest fault

abbrev Goes : Next → List ℕ → Type 0
Goes next text =
    ((es : List Entry) × Lead next es AtEnd × (text ≡ entries_text es)) ⊎ ((fault : CertificateLineFault) × Stops next text fault)

stops_here : (next : Next) (text : List ℕ) (fault : CertificateLineFault) → IsBadNext next text fault → Goes next text
stops_here next text fault bad = inr (fault, record { read = []; last = next; rest = text; lead = refl; parts = refl; bad = bad })

module _ (next : Next) (e : Entry) (tail : List ℕ) (can : CanStand next e) (room : HasRoom next e) where
  goes_on : Goes (after next e) tail → Goes next (entry_line e ++ tail)
  goes_on (inl h) = inl (e ∷ h.0, (can, room, h.1), ap (λ l. entry_line e ++ l) h.2)
  goes_on (inr h) = inr (
    h.0,
    record {
      read = e ∷ h.1.read;
      last = h.1.last;
      rest = h.1.rest;
      lead = (can, room, h.1.lead);
      parts = ap (λ l. entry_line e ++ l) h.1.parts ∙ sym (entries_apart e h.1.read h.1.rest);
      bad = h.1.bad;
    },
  )

-- a line has a byte at least
line_some : (e : Entry) (tail : List ℕ) → length tail < length (entry_line e ++ tail)
line_some e tail = omega (arith, length-append (entry_line e) tail, length-append (entry_text e) (line_feed ∷ []))

ended : (next : Next) (text : List ℕ) → IsOver next text → Goes next text
ended (AtHead due before) text over = absurd over
ended AtParts text over = absurd over
ended (AtStep part steps) text over = absurd over
ended AtEnd text over = inl ([], refl, over)

module _ (n : ℕ) (go_on : (next : Next) (text : List ℕ) → length text < n → Goes next text) (next : Next) (text : List ℕ) (small : length text < suc n) where
  with_entry : (h : Comes text next) → Decided (HasRoom next h.0) → Goes next text
  with_entry h (inl room) =
      subst (Goes next) (sym h.2.1)
      (goes_on next h.0 h.2.0 h.1 room (go_on (after next h.0) h.2.0
      (omega (arith, small, line_some h.0 h.2.0, ap (λ (l : List ℕ). length l) h.2.1))))
  with_entry h (inr full) = stops_here next text TooManySteps (h.0, h.1, full, h.2)

  judge : Decided (IsOver next text) → Decided (Comes text next) → Goes next text
  judge (inl over) comes = ended next text over
  judge (inr more) (inl h) = with_entry h (decide_room next h.0)
  judge (inr more) (inr none) = stops_here next text Shape (more, λ e can begins. none (e, can, begins))

goes : (n : ℕ) (next : Next) (text : List ℕ) → length text < n → Goes next text
goes zero next text small = absurd (omega (arith, small))
goes (suc n) next text small = judge n (goes n) next text small (decide_over next text) (decide_comes text next)

pub text_has_outcome : (text : List ℕ) → HasOutcome text
text_has_outcome text = put (goes (suc (length text)) first_line text (omega arith))
  where
    put : Goes first_line text → HasOutcome text
    put (inl h) =
        let c = leads_certificate h.0 h.1 in
        inl (c.0, record { spelled = c.1; few = c.2; same = h.2 ∙ ap entries_text c.3 })
    put (inr h) = inr (
      length h.1.read + 1,
      h.0,
      record {
        read = h.1.read;
        next = h.1.last;
        rest = h.1.rest;
        lead = h.1.lead;
        parts = h.1.parts;
        is_due = refl;
        bad = h.1.bad;
      },
    )
