-- The lines of what was heard, put together from their parts.
use Rattle.std.proofs.Common.{◌≡◌, ℕ, List, [], ◌∷◌, ◌++◌, codes, append_assoc}
use Rattle.std.specs.Fmt.{decimal}
use Rattle.formats.specs.declared.heard.ReceiverHeard.{ReceiverHeard}
use Rattle.formats.specs.Bytes.{line, line_feed, space}
use Rattle.formats.specs.Heard.{receiver_text}

-- the beginning of a slot's line
pub head_parts : (t0 t1 t2 t3 t4 t5 slot minute second : List ℕ) → t0 ≡ [] → t1 ≡ t0 ++ codes "slot " → t2 ≡ t1 ++ slot → t3 ≡ t2 ++ codes " " → t4 ≡ t3 ++ minute
    → t5 ≡ t4 ++ codes " " → (t6 : List ℕ) → t6 ≡ t5 ++ second → t6 ≡ codes "slot " ++ slot ++ space ∷ minute ++ space ∷ second
head_parts t0 t1 t2 t3 t4 t5 slot minute second e0 e1 e2 e3 e4 e5 t6 e6 = rw (e6, e5, e4, e3, e2, e1, e0) (simp append_assoc)

-- a slot's line, in three parts
pub slot_parts : (t0 t1 t2 t3 a b d slot minute second station sent cost best least : List ℕ) → t1 ≡ t0 ++ a → t2 ≡ t1 ++ b → t3 ≡ t2 ++ d
    → a ≡ codes "slot " ++ slot ++ space ∷ minute ++ space ∷ second
    → b ≡ space ∷ station ++ codes " sent " ++ sent ++ codes " cost " ++ cost
    → d ≡ codes " best " ++ best ++ codes " cost " ++ least ++ line_feed ∷ []
    → t3 ≡ t0 ++ line (codes "slot " ++ slot ++ space ∷ minute ++ space ∷ second ++ space ∷ station ++ codes " sent " ++ sent ++ codes " cost " ++ cost
    ++ codes " best " ++ best ++ codes " cost " ++ least)
slot_parts t0 t1 t2 t3 a b d slot minute second station sent cost best least e1 e2 e3 is_a is_b is_d = rw (e3, e2, e1, is_a, is_b, is_d) (simp append_assoc)

-- a receiver's line, in two
pub receiver_parts : (t0 t1 t2 a b word : List ℕ) (r : ReceiverHeard) → t1 ≡ t0 ++ a → t2 ≡ t1 ++ b
    → a ≡ word ++ codes "receiver " ++ decimal r.number ++ codes " unknown " ++ decimal r.unknown
    → b ≡ codes " cost " ++ decimal r.cost ++ line_feed ∷ []
    → t2 ≡ t0 ++ line (word ++ receiver_text r)
receiver_parts t0 t1 t2 a b word r e1 e2 is_a is_b = rw (e2, e1, is_a, is_b) (simp append_assoc)
