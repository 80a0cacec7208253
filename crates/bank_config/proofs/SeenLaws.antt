-- What the entries of a list and the keys of a table are in the code.
use Rattle.std.proofs.Common.{ℕ, ◌≡◌, Bool, ◌&&◌, List, [], ◌∷◌, map, string_bytes, refl, ap}
use Rattle.std.specs.List.{list_all}
use Rattle.std.specs.Map.{keys_of}
use Rattle.toml.specs.declared.value.Value.{Value}
use Rattle.toml.specs.View.{view, items_view, members_view}
use Rattle.toml.proofs.Views.{Entry}
use Rattle.bank_config.specs.Values.{entries_of}
use Rattle.bank_config.specs.Places.{keys_in}

pub entries_of-view : (values : List Value) → entries_of (items_view values) ≡ map view values
entries_of-view [] = refl
entries_of-view (v ∷ vs) = ap (λ ds. view v ∷ ds) (entries_of-view vs)

pub keys_in-view : (p : List ℕ → Bool) (es : List Entry) → list_all p (keys_in (members_view es)) ≡ list_all (λ k. p (string_bytes k)) (keys_of es)
keys_in-view p [] = refl
keys_in-view p (e ∷ es) = ap (λ b. p (string_bytes e.0) && b) (keys_in-view p es)
