use Rattle.std.proofs.Common.{◌≡◌, ℕ, List, ◌++◌, append_assoc}
use Rattle.texts.proofs.trial.push_answer.Goals as goal

-- lines added one after the other
two : (t0 t1 t2 l1 l2 a b : List ℕ) → t1 ≡ t0 ++ l1 → t2 ≡ t1 ++ l2 → l1 ≡ a → l2 ≡ b → t2 ≡ t0 ++ (a ++ b)
two t0 t1 t2 l1 l2 a b e1 e2 is_a is_b = rw (e2, e1, is_a, is_b) (simp append_assoc)

three : (t0 t1 t2 t3 l1 l2 l3 a b c : List ℕ) → t1 ≡ t0 ++ l1 → t2 ≡ t1 ++ l2 → t3 ≡ t2 ++ l3 → l1 ≡ a → l2 ≡ b → l3 ≡ c
    → t3 ≡ t0 ++ (a ++ b ++ c)
three t0 t1 t2 t3 l1 l2 l3 a b c e1 e2 e3 is_a is_b is_c = rw (e3, e2, e1, is_a, is_b, is_c) (simp append_assoc)

pub returns-in-Decided : goal.returns-in-Decided
returns-in-Decided c =
    rw c.in-Decided.is (two _ _ _ _ _ _ _ c.push-in-Decided.ensures.bytes c.push-in-Decided-2.ensures.bytes
    c.words_line-in-Decided.ensures c.sequence_line.ensures)

pub returns-in-Undecided : goal.returns-in-Undecided
returns-in-Undecided c =
    rw c.in-Undecided.is (three _ _ _ _ _ _ _ _ _ _ c.push-in-Undecided.ensures.bytes c.push-in-Undecided-2.ensures.bytes
    c.push-in-Undecided-3.ensures.bytes c.words_line-in-Undecided.ensures c.sequence_line-in-Undecided.ensures
    c.sequence_line-in-Undecided-2.ensures)
