-- The characters of a listing: of a set's only symbol, where the loop passes by the symbols before, and of one second more.
use Rattle.std.proofs.Common.{◌≡◌, ℕ, ◌+◌, ◌/◌, ◌<◌, List, [], ◌∷◌, ◌++◌, length, drop, map, add-one, zero-add}
use Rattle.std.specs.List.{range_with_len}
use Rattle.std.proofs.Math.Seq.{drop-cons}
use Rattle.std.proofs.lemmas.Bool.{ne_eqb}
use Rattle.std.proofs.lemmas.List.FromFn.{map-range_with_len_more}
use Rattle.definitions.specs.codes.Listing.{character_of}

-- a set whose symbol isn't this one is that of the symbols after it
pub next_character : (characters : List ℕ) (i set : ℕ) → i < length characters → (set ≡ 1 → ⊥)
    → character_of (drop i characters) set ≡ character_of (drop (i + 1) characters) (set / 2)
next_character characters i set within other = rw (drop-cons characters i 0 within, ne_eqb set 1 other, add-one)

-- one second more
pub one_more : (f : ℕ → ℕ) (n : ℕ) (before after : List ℕ) (c : ℕ) → before ≡ map f (range_with_len 0 n) → after ≡ before ++ c ∷ [] → c ≡ f n
    → after ≡ map f (range_with_len 0 (n + 1))
one_more f n before after c so_far more is = rw (more, so_far, is, map-range_with_len_more f 0 n n (zero-add n))
