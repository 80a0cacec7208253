use Rattle.std.proofs.Common.{◌∙◌}
use Rattle.texts.proofs.ListingLaws.{next_character}
use Rattle.texts.proofs.listing.character_of.Goals as goal

pub loop-character-preserved : goal.loop-character-preserved
loop-character-preserved c =
    c.loop-character.invariant ∙ next_character _ _ _ c.loop-character-test.true c.if-left-eq1.false
