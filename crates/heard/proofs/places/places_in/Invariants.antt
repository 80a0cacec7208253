-- The places so far.
use Rattle.std.proofs.Common.{◌≡◌, map}
use Rattle.std.specs.List.{range_with_len}
use Rattle.heard.specs.Kept.{place_in}
use Rattle.heard.proofs.places.places_in.Given as goal

abbrev pub invariant-loop-i : goal.invariant-loop-i
invariant-loop-i l = l.places.items ≡ map (place_in l.stations) (range_with_len 0 l.i)
