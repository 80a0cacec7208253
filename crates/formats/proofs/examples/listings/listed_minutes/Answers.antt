-- A listing, whose minute's facts are computed once.
use Rattle.std.proofs.Common.{false, ◌++◌, refl, ap, ◌∙◌}
use Rattle.std.specs.Fmt.{digits}
use Rattle.signal_base.specs.declared.station.Station.TheVariants.{Jjy}
use Rattle.definitions.specs.time.Calendar.{day_at}
use Rattle.definitions.specs.examples.Dates.{at, on}
use Rattle.definitions.proofs.ListingLaws.{jjy_characters}
use Rattle.formats.specs.Bytes.{line}
use Rattle.formats.specs.Listing.{listing_head}
use Rattle.formats.proofs.examples.listings.listed_minutes.Goals as goal

pub returns-clause-jjy : goal.returns-clause-jjy
unfolding digits day_at
returns-clause-jjy c =
    ap (λ text. listing_head Jjy false (at (on 2024 6 10) 6 45) ++ line text) (jjy_characters false (at (on 2024 6 10) 6 45)) ∙ refl
