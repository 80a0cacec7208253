use Rattle.std.proofs.Common.{◌≡◌, map}
use Rattle.std.specs.List.{range_with_len}
use Rattle.arrayvec.specs.ArrayString.{array_string_len}
use Rattle.definitions.specs.codes.Allowed.{allowed}
use Rattle.definitions.specs.codes.Listing.{listed}
use Rattle.texts.proofs.listing.characters_line.Given as goal

abbrev pub invariant-loop-second : goal.invariant-loop-second
invariant-loop-second l = record {
  bytes : l.text.bytes ≡ map (λ s. listed l.station (allowed l.station l.leap (l.minute, s))) (range_with_len 0 l.second);
  len : array_string_len l.text ≡ l.second;
}
