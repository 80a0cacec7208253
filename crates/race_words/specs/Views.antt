-- What a view is after each event that its seat takes.
use Rattle.std.specs.Prelude.{ℕ, zero, suc, ◌+◌, ◌-◌, min, max, [], ◌∷◌, ◌++◌}
use Rattle.race_words.specs.declared.view.View.{View}
use Rattle.race_words.specs.Keys.{no_key}

-- a view that has this share and did nothing yet
abbrev pub fresh_view : ℕ → View
fresh_view share = record { share = share; drawn = []; offered = []; reads = []; carried = no_key; low = no_key; floor = no_key }

-- the view of a seat that was taken into another
abbrev pub blank_view : View
blank_view = fresh_view 0

-- it drew this number
abbrev pub after_draw : ℕ → View → View
after_draw number v = record v { drawn = v.drawn ++ number ∷ [] }

-- it lowered the least word to the key, where `old` stood before, and carries the greater of the two
abbrev pub after_first_part : ℕ → ℕ → View → View
after_first_part key old v =
    record v { offered = v.offered ++ key ∷ []; carried = max key old; low = min v.low key; floor = min v.floor (max key old) }

-- it lowered the second word to what it carried
abbrev pub after_second_part : View → View
after_second_part v = record v { carried = no_key }

-- both parts of an offer
abbrev pub after_offer : ℕ → ℕ → View → View
after_offer key old v = after_second_part (after_first_part key old v)

-- it read this key from the second word
abbrev pub after_limit : ℕ → View → View
after_limit key v = record v { reads = v.reads ++ key ∷ []; floor = min v.floor key }

-- it read this key once, and then so many times more
abbrev pub after_limits : ℕ → ℕ → View → View
after_limits zero key v = after_limit key v
after_limits (suc n) key v = after_limit key (after_limits n key v)

-- it gave this share away
abbrev pub after_split : ℕ → View → View
after_split share v = record v { share = v.share - share }

-- the new view that has this share, which knows the same two keys
abbrev pub new_view : ℕ → View → View
new_view share v = record (fresh_view share) { low = v.low; floor = v.floor }

-- it took the other view in
abbrev pub after_join : View → View → View
after_join v w =
    record v {
      share = v.share + w.share;
      drawn = v.drawn ++ w.drawn;
      offered = v.offered ++ w.offered;
      reads = v.reads ++ w.reads;
      low = min v.low w.low;
      floor = min v.floor w.floor;
    }
