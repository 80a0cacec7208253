-- Something is due of the commands of frames for all words and contents, and only one thing.
use Rattle.std.proofs.Common.{◌≡◌, ℕ, ◌<◌, ◌≤◌, ◌⊎◌, inl, inr, List, Ok, Err, length, refl, sym, ◌∙◌, ap, subst, arith}
use Rattle.std.proofs.lemmas.Bool.{cases_lt}
use Rattle.definitions.specs.declared.answer.Answer.{Answer}
use Rattle.definitions.specs.heard.Logs.{Records}
use Rattle.definitions.specs.time.Calendar.{century_minutes}
use Rattle.formats.specs.declared.frame.Frame.{Frame}
use Rattle.formats.specs.declared.frame.FrameLineFault.{FrameLineFault}
use Rattle.formats.specs.declared.frame.TheConstants.{FRAMES_LIMIT}
use Rattle.formats.specs.declared.refusal.Refusal.{Refusal}
use Rattle.formats.specs.declared.words.Asked.{Asked}
use Rattle.formats.specs.FrameTexts.{HasOutcome}
use Rattle.formats.specs.OrderRanges.{IsAsked, IsInRange}
use Rattle.formats.specs.Orders.{Checked, Order, order_of}
use Rattle.formats.specs.Orders.Order.{Decode, Check, Feed, Encode, Trial, Follow, Sweep, Judge, Board, Irig, IrigRead}
use Rattle.formats.specs.Words.{reach_commands}
use Rattle.formats.proofs.FrameOutcomeLaws as outcomes
use Rattle.formats.proofs.OrderRangeLaws.{along, order_in_range}
use Rattle.bank_config.specs.Configuration.{PlainConfig}
use Rattle.due.specs.declared.due.Due.TheVariants as dues
use Rattle.due.specs.declared.frame_due.FrameDue.{FrameDue}
use Rattle.due.specs.declared.frame_due.FrameDue.TheVariants as frame_dues
use Rattle.due.specs.Banks.{Bank, bank_of, window_of}
use Rattle.due.specs.FrameOrders.{AsksFrames, frame_order_in, of_frames}
use Rattle.due.specs.FrameRules.{Answered, Bad_bank, Bad_line, Bad_words, Good, IsFrameDue, IsFramed, IsToldOf, Of_text, Too_large, framed}
use Rattle.due.specs.Inputs.{Contents, FramesText}
use Rattle.due.specs.Loads.{IsBankLoaded, IsBankRefused}
use Rattle.due.specs.Orders.{word_refusal}
use Rattle.due.proofs.DueLaws.{IsBankJudged, bank_answer_is_one, bank_has_answer, bank_judged, not_both, one_bank, one_refusal}

-- an order of frames stays as it is
kept : (o order : Order) → of_frames o ≡ Ok order → o ≡ order
kept (Irig config asked workers) order e = cc
kept (IrigRead file) order e = cc
kept (Decode config asked workers certificate) order e = absurd cc
kept (Check config certificate asked) order e = absurd cc
kept (Feed config asked workers) order e = absurd cc
kept (Encode station minute announced) order e = absurd cc
kept (Trial number workers) order e = absurd cc
kept (Follow config asked workers step count) order e = absurd cc
kept (Sweep config asked workers certificate) order e = absurd cc
kept (Judge config certificate asked) order e = absurd cc
kept (Board config queries asked workers step count readers) order e = absurd cc

-- accepted words give an order of frames, in its ranges
pub is_of_frames : (words : List (List ℕ)) (order : Order) → frame_order_in words ≡ Ok order → (order_of reach_commands words ≡ Ok order) × (of_frames order ≡ Ok order)
is_of_frames words order e =
    along (order_of reach_commands words) of_frames order e (λ o is made.
    let same = kept o order made in
    (is ∙ ap Ok same, subst (λ p. of_frames p ≡ Ok order) same made))

pub asked_in_range : (words : List (List ℕ)) (config : List ℕ) (asked : Asked) → AsksFrames words config asked → IsAsked asked
asked_in_range words config asked (workers, is) = (order_in_range reach_commands words (Irig config asked workers) (is_of_frames words (Irig config asked workers) is).0).1

-- one thing is told of a text
same_line : (m n : ℕ) (a b : FrameLineFault) (x y : FrameDue) → m ≡ n → a ≡ b → x ≡ frame_dues.BadLine m a → y ≡ frame_dues.BadLine n b → x ≡ y
same_line m n a b x y e f g h = g ∙ ap (λ l. frame_dues.BadLine l a) e ∙ ap (frame_dues.BadLine n) f ∙ sym h

same_frames : (fs gs : List Frame) (x y : FrameDue) → fs ≡ gs → x ≡ frame_dues.Read fs → y ≡ frame_dues.Read gs → x ≡ y
same_frames fs gs x y e g h = g ∙ ap frame_dues.Read e ∙ sym h

one_told_of : (text : List ℕ) (x y : FrameDue) → IsToldOf text x → IsToldOf text y → x ≡ y
one_told_of text x y (Too_large large e) (Too_large also f) = e ∙ sym f
one_told_of text x y (Too_large large e) (Bad_line fits line fault bad f) = absurd (omega (arith, large, fits))
one_told_of text x y (Too_large large e) (Good fits frames is f) = absurd (omega (arith, large, fits))
one_told_of text x y (Bad_line fits line fault bad e) (Too_large large f) = absurd (omega (arith, large, fits))
one_told_of text x y (Bad_line fits line fault bad e) (Bad_line too other way also f) =
    let same = outcomes.one_refusal text line other fault way bad also in
    same_line line other fault way x y same.0 same.1 e f
one_told_of text x y (Bad_line fits line fault bad e) (Good too frames is f) = absurd (outcomes.text_not_refused text frames line fault is bad)
one_told_of text x y (Good fits frames is e) (Too_large large f) = absurd (omega (arith, large, fits))
one_told_of text x y (Good fits frames is e) (Bad_line too line fault bad f) = absurd (outcomes.text_not_refused text frames line fault is bad)
one_told_of text x y (Good fits frames is e) (Good too others also f) =
    same_frames frames others x y (outcomes.one_list text frames others is also) e f

-- and something is
some_told_of : (text : List ℕ) → (due : FrameDue) × IsToldOf text due
some_told_of text = by_size (cases_lt FRAMES_LIMIT (length text))
  where
    by_lines : length text ≤ FRAMES_LIMIT → HasOutcome text → (due : FrameDue) × IsToldOf text due
    by_lines fits (inl good) = (frame_dues.Read good.0, Good fits good.0 good.1 refl)
    by_lines fits (inr bad) = (frame_dues.BadLine bad.0 bad.1, Bad_line fits bad.0 bad.1 bad.2 refl)

    by_size : (FRAMES_LIMIT < length text) ⊎ (length text ≤ FRAMES_LIMIT) → (due : FrameDue) × IsToldOf text due
    by_size (inl large) = (frame_dues.TooLarge, Too_large large refl)
    by_size (inr fits) = by_lines fits (outcomes.text_has_outcome text)

module _ (contents : Contents) where
  -- what is due where a bank is asked about
  abbrev IsDueOfBank : Asked → FrameDue → Type 0
  IsDueOfBank asked due =
      ((refusal : Refusal) × IsBankRefused contents refusal × (due ≡ frame_dues.Told (dues.Refused refusal)))
      ⊎ ((plain : PlainConfig) × (records : List Records) × IsBankLoaded contents plain records × IsFramed asked (bank_of plain records) due)

  -- what is due for an order, and by what words come to
  abbrev IsDueOfOrder : Order → FrameDue → Type 0
  IsDueOfOrder (Irig config asked workers) due = IsDueOfBank asked due
  IsDueOfOrder (IrigRead file) due = IsToldOf (contents FramesText) due
  IsDueOfOrder other due = ⊥

  abbrev IsDueBy : Checked Order → FrameDue → Type 0
  IsDueBy (Err fault) due = due ≡ frame_dues.Told (dues.Refused (word_refusal fault))
  IsDueBy (Ok order) due = IsDueOfOrder order due

  by_order : (words : List (List ℕ)) (order : Order) (due : FrameDue) → frame_order_in words ≡ Ok order → IsDueOfOrder order due → IsDueBy (frame_order_in words) due
  by_order words order due is h = subst (λ (c : Checked Order). IsDueBy c due) (sym is) h

  rule : (words : List (List ℕ)) (due : FrameDue) → IsFrameDue words contents due → IsDueBy (frame_order_in words) due
  rule words due (Bad_words fault is e) = subst (λ (c : Checked Order). IsDueBy c due) (sym is) e
  rule words due (Bad_bank config asked asks refusal bad e) = by_order words (Irig config asked asks.0) due asks.1 (inl (refusal, bad, e))
  rule words due (Answered config asked asks plain records loaded told) = by_order words (Irig config asked asks.0) due asks.1 (inr (plain, records, loaded, told))
  rule words due (Of_text file asks told) = by_order words (IrigRead file) due asks told

  -- one thing is due
  same_refusal : (r s : Refusal) (x y : FrameDue) → r ≡ s → x ≡ frame_dues.Told (dues.Refused r) → y ≡ frame_dues.Told (dues.Refused s) → x ≡ y
  same_refusal r s x y e f g = cc

  same_told : (asked : Asked) (bank : Bank) (a b : Answer) (x y : FrameDue) → a ≡ b → x ≡ framed (window_of asked bank.receivers) bank a
      → y ≡ framed (window_of asked bank.receivers) bank b → x ≡ y
  same_told asked bank a b x y e f g = f ∙ ap (framed (window_of asked bank.receivers) bank) e ∙ sym g

  one_told : (asked : Asked) (bank : Bank) (x y : FrameDue) → asked.to ≤ century_minutes → IsFramed asked bank x → IsFramed asked bank y → x ≡ y
  one_told asked bank x y century h k = same_told asked bank h.0 k.0 x y (bank_answer_is_one asked bank h.0 k.0 century h.1 k.1) h.2 k.2

  one_of_bank : (asked : Asked) (x y : FrameDue) → asked.to ≤ century_minutes → IsDueOfBank asked x → IsDueOfBank asked y → x ≡ y
  one_of_bank asked x y century (inl h) (inl k) = same_refusal h.0 k.0 x y (one_refusal contents h.0 k.0 h.1 k.1) h.2 k.2
  one_of_bank asked x y century (inl h) (inr k) = absurd (not_both contents k.0 k.1 h.0 k.2 h.1)
  one_of_bank asked x y century (inr h) (inl k) = absurd (not_both contents h.0 h.1 k.0 h.2 k.1)
  one_of_bank asked x y century (inr h) (inr k) =
      one_told asked (bank_of k.0 k.1) x y century (subst (λ (b : Bank). IsFramed asked b x) (one_bank contents h.0 k.0 h.1 k.1 h.2 k.2) h.3) k.3

  one_of_order : (order : Order) (x y : FrameDue) → IsInRange order → IsDueOfOrder order x → IsDueOfOrder order y → x ≡ y
  one_of_order (Irig config asked workers) x y ranges h k = one_of_bank asked x y ranges.1.century h k
  one_of_order (IrigRead file) x y ranges h k = one_told_of (contents FramesText) x y h k
  one_of_order (Decode config asked workers certificate) x y ranges h k = absurd h
  one_of_order (Check config certificate asked) x y ranges h k = absurd h
  one_of_order (Feed config asked workers) x y ranges h k = absurd h
  one_of_order (Encode station minute announced) x y ranges h k = absurd h
  one_of_order (Trial number workers) x y ranges h k = absurd h
  one_of_order (Follow config asked workers step count) x y ranges h k = absurd h
  one_of_order (Sweep config asked workers certificate) x y ranges h k = absurd h
  one_of_order (Judge config certificate asked) x y ranges h k = absurd h
  one_of_order (Board config queries asked workers step count readers) x y ranges h k = absurd h

  one_by : (words : List (List ℕ)) (c : Checked Order) → frame_order_in words ≡ c → (x y : FrameDue) → IsDueBy c x → IsDueBy c y → x ≡ y
  one_by words (Err fault) is x y h k = h ∙ sym k
  one_by words (Ok order) is x y h k = one_of_order order x y (order_in_range reach_commands words order (is_of_frames words order is).0) h k

  pub one_frame_due : (words : List (List ℕ)) (x y : FrameDue) → IsFrameDue words contents x → IsFrameDue words contents y → x ≡ y
  one_frame_due words x y h k = one_by words (frame_order_in words) refl x y (rule words x h) (rule words y k)

  -- something is due
  bank_owes : (words : List (List ℕ)) (config : List ℕ) (asked : Asked) → AsksFrames words config asked → (due : FrameDue) × IsFrameDue words contents due
  bank_owes words config asked asks = go (bank_judged contents)
    where
      go : IsBankJudged contents → (due : FrameDue) × IsFrameDue words contents due
      go (inr bad) = (frame_dues.Told (dues.Refused bad.0), Bad_bank config asked asks bad.0 bad.1 refl)
      go (inl good) =
          let bank = bank_of good.0 good.1 in
          let found = bank_has_answer asked bank (asked_in_range words config asked asks).century in
          (framed (window_of asked bank.receivers) bank found.0, Answered config asked asks good.0 good.1 good.2 (found.0, found.1, refl))

  text_owes : (words : List (List ℕ)) (file : List ℕ) → frame_order_in words ≡ Ok (IrigRead file) → (due : FrameDue) × IsFrameDue words contents due
  text_owes words file asks = let told = some_told_of (contents FramesText) in (told.0, Of_text file asks told.1)

  order_owes : (words : List (List ℕ)) (order : Order) → frame_order_in words ≡ Ok order → of_frames order ≡ Ok order → (due : FrameDue) × IsFrameDue words contents due
  order_owes words (Irig config asked workers) is of = bank_owes words config asked (workers, is)
  order_owes words (IrigRead file) is of = text_owes words file is
  order_owes words (Decode config asked workers certificate) is of = absurd cc
  order_owes words (Check config certificate asked) is of = absurd cc
  order_owes words (Feed config asked workers) is of = absurd cc
  order_owes words (Encode station minute announced) is of = absurd cc
  order_owes words (Trial number workers) is of = absurd cc
  order_owes words (Follow config asked workers step count) is of = absurd cc
  order_owes words (Sweep config asked workers certificate) is of = absurd cc
  order_owes words (Judge config certificate asked) is of = absurd cc
  order_owes words (Board config queries asked workers step count readers) is of = absurd cc

  pub some_frame_due : (words : List (List ℕ)) → (due : FrameDue) × IsFrameDue words contents due
  some_frame_due words = go (frame_order_in words) refl
    where
      go : (c : Checked Order) → frame_order_in words ≡ c → (due : FrameDue) × IsFrameDue words contents due
      go (Err fault) is = (frame_dues.Told (dues.Refused (word_refusal fault)), Bad_words fault is refl)
      go (Ok order) is = order_owes words order is (is_of_frames words order is).1
