-- The slot's line, and its receivers' below it.
use Rattle.std.proofs.Common.{◌≡◌, ℕ, List, [], ◌++◌}
use Rattle.texts.proofs.heard.slot_page.Goals as goal

joined : (t0 t1 t2 a b : List ℕ) → t0 ≡ [] → t1 ≡ t0 ++ a → t2 ≡ t1 ++ b → t2 ≡ a ++ b
joined t0 t1 t2 a b e0 e1 e2 = rw (e2, e1, e0)

pub returns : goal.returns
returns c = joined _ _ _ _ _ c.new-page.ensures.bytes c.push_slot.ensures.bytes c.push_receivers.ensures
