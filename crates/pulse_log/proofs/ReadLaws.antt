-- What has been read so far, while the text is read line by line.
use Rattle.std.proofs.Common.{◌≡◌, ℕ, ◌+◌, ◌<◌, inl, inr, List, [], ◌∷◌, ◌++◌, length, refl, sym, ap, ◌∙◌, subst, append_assoc, append-nil}
use Rattle.std.specs.Prelude.{Err}
use Rattle.std.proofs.lemmas.List.{length_push}
use Rattle.definitions.specs.declared.level.Level.{Level}
use Rattle.definitions.specs.heard.Logs.{Records}
use Rattle.formats.specs.declared.limits.TheConstants.{MOST_RECORDS}
use Rattle.formats.specs.declared.fault.LineFault.{LineFault}
use Rattle.formats.specs.declared.fault.LineFault.TheVariants as lines
use Rattle.formats.specs.LogLines.{lines_of, IsSkipped, IsRecord, IsLater, ReadsOn, IsLog, IsBad, IsRefused}
use Rattle.formats.proofs.LineLaws.{Goes}
use Rattle.pulse_log.specs.declared.fault.LogFault.{LogFault}
use Rattle.pulse_log.specs.declared.fault.LogFault.TheVariants.{Shape, NotRising, TooManyRecords, NoMemory}
use Rattle.pulse_log.specs.Reading.{HasRefusedLine, IsFaultOf}

-- The lines before the rest of the text, this many, read as these records.
pub record HasRead (text rest : List ℕ) (count : ℕ) (records : Records) : Type 0 where
  pub front : List (List ℕ)
  pub lines : lines_of text ≡ front ++ lines_of rest
  pub number : count ≡ length front
  pub good : ReadsOn [] front records

-- at the start
pub HasRead-start : (text : List ℕ) → HasRead text text 0 []
HasRead-start text = record {
  front = [];
  lines = refl;
  number = refl;
  good = refl;
}

-- later than the last is later
pub IsLater-push : (front : Records) (last : ℕ × Level) (time : ℕ) → last.0 < time → IsLater (front ++ last ∷ []) time
IsLater-push [] last time h = h
IsLater-push (r ∷ []) last time h = h
IsLater-push (r ∷ s ∷ rs) last time h = IsLater-push (s ∷ rs) last time h

pub IsLater-pop : (front : Records) (last : ℕ × Level) (time : ℕ) → IsLater (front ++ last ∷ []) time → last.0 < time
IsLater-pop [] last time h = h
IsLater-pop (r ∷ []) last time h = h
IsLater-pop (r ∷ s ∷ rs) last time h = IsLater-pop (s ∷ rs) last time h

-- one more line at the end
ReadsOn-push : (before : Records) (front : List (List ℕ)) (line : List ℕ) (mid after : Records) → ReadsOn before front mid → Goes mid line after → ReadsOn before (front ++ line ∷ []) after
ReadsOn-push before [] line mid after h (inl g) = inl (g.0, g.1 ∙ h)
ReadsOn-push before [] line mid after h (inr g) = subst (λ b. ReadsOn b (line ∷ []) after) h (inr (g.0, g.1, g.2, g.3, g.4))
ReadsOn-push before (l ∷ ls) line mid after (inl h) g = inl (h.0, ReadsOn-push before ls line mid after h.1 g)
ReadsOn-push before (l ∷ ls) line mid after (inr h) g = inr (h.0, h.1, h.2, h.3, ReadsOn-push (before ++ h.0 ∷ []) ls line mid after h.4 g)

-- after one more line
HasRead-line : (text rest more line : List ℕ) (count : ℕ) (records after : Records) → HasRead text rest count records → lines_of rest ≡ line ∷ lines_of more → Goes records line after → HasRead text more (count + 1) after
HasRead-line text rest more line count records after h e g = record {
  front = h.front ++ line ∷ [];
  lines = h.lines ∙ (ap (λ ls. h.front ++ ls) e ∙ sym (append_assoc h.front (line ∷ []) (lines_of more)));
  number = ap (λ n. n + 1) h.number ∙ sym (length_push h.front line);
  good = ReadsOn-push [] h.front line records after h.good g;
}

-- after a line that is skipped, and after a record
pub HasRead-skipped : (text rest more line : List ℕ) (count : ℕ) (records : Records) → HasRead text rest count records → lines_of rest ≡ line ∷ lines_of more → IsSkipped line → HasRead text more (count + 1) records
HasRead-skipped text rest more line count records h e skipped = HasRead-line text rest more line count records records h e (inl (skipped, refl))

pub HasRead-record : (text rest more line : List ℕ) (count : ℕ) (records : Records) (r : ℕ × Level) → HasRead text rest count records → lines_of rest ≡ line ∷ lines_of more → IsRecord line r → IsLater records r.0 → length records < MOST_RECORDS → HasRead text more (count + 1) (records ++ r ∷ [])
HasRead-record text rest more line count records r h e spelled later room = HasRead-line text rest more line count records (records ++ r ∷ []) h e (inr (r, spelled, later, room, refl))

-- at the end, and at a bad line
pub IsLog-read : (text : List ℕ) (count : ℕ) (records : Records) → HasRead text [] count records → IsLog text records
IsLog-read text count records h = subst (λ ls. ReadsOn [] ls records) (sym (h.lines ∙ append-nil h.front)) h.good

pub IsRefused-read : (text rest more line : List ℕ) (count : ℕ) (records : Records) (fault : LineFault) → HasRead text rest count records → lines_of rest ≡ line ∷ lines_of more → IsBad records line fault → IsRefused text (count + 1) fault
IsRefused-read text rest more line count records fault h e bad = record {
  front = h.front;
  line = line;
  back = lines_of more;
  records = records;
  lines = h.lines ∙ ap (λ ls. h.front ++ ls) e;
  number = ap (λ n. n + 1) h.number;
  good = h.good;
  bad = bad;
}

-- a fault names the line that is refused, since one line is
pub fault_names : (text : List ℕ) → ((m n : ℕ) (a b : LineFault) → IsRefused text m a → IsRefused text n b → (m ≡ n) × (a ≡ b))
    → (found : LogFault) (line : ℕ) (fault : LineFault) → IsFaultOf text found → IsRefused text line fault → HasRefusedLine (Err found) line fault
fault_names text one (Shape at) line fault h owed = one at line lines.Shape fault h owed
fault_names text one (NotRising at) line fault h owed = one at line lines.NotRising fault h owed
fault_names text one (TooManyRecords at) line fault h owed = one at line lines.TooManyRecords fault h owed
fault_names text one NoMemory line fault h owed = tt
