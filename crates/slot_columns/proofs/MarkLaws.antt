-- Pairs of parts that agree in all seconds but some.
use Rattle.std.proofs.Common.{◌≡◌, ℕ, ◌<◌, Bool, true, false, not, List, length, get_or, refl}
use Rattle.slot_columns.specs.Layered.{AgreeBut, AreAlike, part_at}

unmarked : (b : Bool) → not b ≡ true → b ≡ false
unmarked true e = absurd cc
unmarked false e = refl

-- they are alike in each of the others
pub are_alike : (firsts rests : List (List ℕ)) (within : List Bool) (s : ℕ) → s < 60 → AgreeBut within (part_at firsts) (part_at rests) (length firsts)
    → not (get_or within s false) ≡ true → AreAlike firsts rests s
are_alike firsts rests within s second agree alike i lt = agree i s lt second (unmarked (get_or within s false) alike)
