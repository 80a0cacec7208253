use Rattle.std.proofs.Common.{◌≡◌, drop}
use Rattle.definitions.specs.codes.Listing.{character_of}
use Rattle.texts.proofs.listing.character_of.Given as goal

abbrev pub invariant-loop-character : goal.invariant-loop-character
invariant-loop-character l = character_of l.characters l.set ≡ character_of (drop l.character-index l.characters) l.left
