-- One piece after the other.
use Rattle.std.proofs.Common.{◌≡◌, ℕ, List, [], ◌∷◌, ◌++◌, append_assoc}
use Rattle.board.proofs.minute.push_fields.Goals as goal

joined : (t0 t1 t2 t3 t4 t5 t6 date hour minute : List ℕ) (t colon z : ℕ) → t1 ≡ t0 ++ date → t2 ≡ t1 ++ t ∷ [] → t3 ≡ t2 ++ hour → t4 ≡ t3 ++ colon ∷ [] → t5 ≡ t4 ++ minute → t6 ≡ t5 ++ z ∷ []
    → t6 ≡ t0 ++ (date ++ t ∷ hour ++ colon ∷ minute ++ z ∷ [])
joined t0 t1 t2 t3 t4 t5 t6 date hour minute t colon z e1 e2 e3 e4 e5 e6 = rw (e6, e5, e4, e3, e2, e1) (simp append_assoc)

pub returns-clause-bytes : goal.returns-clause-bytes
returns-clause-bytes c =
    joined _ _ _ _ _ _ _ _ _ _ _ _ _ c.push_date.ensures.bytes c.push_str.ensures.bytes c.push_two_digits.ensures.bytes c.push_str-2.ensures.bytes c.push_two_digits-2.ensures.bytes c.push_str-3.ensures.bytes
