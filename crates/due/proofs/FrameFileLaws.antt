-- Which files the commands of frames read: none for refused words, and for a text of frames its file alone.
use Rattle.std.proofs.Common.{◌≡◌, ℕ, List, Ok, Err}
use Rattle.formats.specs.declared.words.Asked.{Asked}
use Rattle.formats.specs.declared.words.WordFault.{WordFault}
use Rattle.formats.specs.Orders.{Checked, Order}
use Rattle.formats.specs.Orders.Order.{Irig, IrigRead}
use Rattle.due.specs.FrameOrders.{AsksFrames, AsksReading, frame_order_in}
use Rattle.due.specs.FrameRules.{IsFrameRead, Reads_bank, Reads_frames}
use Rattle.due.specs.Inputs.{Contents, Input}

ok_or_err : (c : Checked Order) (order : Order) (fault : WordFault) → c ≡ Ok order → c ≡ Err fault → ⊥
ok_or_err c order fault e f = cc

pub bad_words_read_nothing : (words : List (List ℕ)) (contents : Contents) (fault : WordFault) (input : Input) (file : List ℕ) → frame_order_in words ≡ Err fault
    → ¬ (IsFrameRead words contents input file)
bad_words_read_nothing words contents fault input file bad (Reads_bank config asked asks read) = ok_or_err (frame_order_in words) (Irig config asked asks.0) fault asks.1 bad
bad_words_read_nothing words contents fault input file bad (Reads_frames asks is) = ok_or_err (frame_order_in words) (IrigRead file) fault asks bad

two_orders : (c : Checked Order) (config file : List ℕ) (asked : Asked) (workers : ℕ) → c ≡ Ok (Irig config asked workers) → c ≡ Ok (IrigRead file) → ⊥
two_orders c config file asked workers e f = cc

-- words that ask for an answer's frames don't ask what frames tell
pub one_question : (words : List (List ℕ)) (config file : List ℕ) (asked : Asked) → AsksFrames words config asked → AsksReading words file → ⊥
one_question words config file asked asks also = two_orders (frame_order_in words) config file asked asks.0 asks.1 also

one_name : (c : Checked Order) (file other : List ℕ) → c ≡ Ok (IrigRead file) → c ≡ Ok (IrigRead other) → file ≡ other
one_name c file other e f = cc

-- words that ask what frames tell name one file
pub one_file : (words : List (List ℕ)) (file other : List ℕ) → AsksReading words file → AsksReading words other → file ≡ other
one_file words file other asks also = one_name (frame_order_in words) file other asks also

one_bank : (c : Checked Order) (config other : List ℕ) (asked wanted : Asked) (m n : ℕ) → c ≡ Ok (Irig config asked m) → c ≡ Ok (Irig other wanted n)
    → (config ≡ other) × (asked ≡ wanted)
one_bank c config other asked wanted m n e f = (cc, cc)

-- words that ask for an answer's frames ask about one bank and one window
pub one_asked : (words : List (List ℕ)) (config other : List ℕ) (asked wanted : Asked) → AsksFrames words config asked → AsksFrames words other wanted
    → (config ≡ other) × (asked ≡ wanted)
one_asked words config other asked wanted asks also = one_bank (frame_order_in words) config other asked wanted asks.0 also.0 asks.1 also.1
