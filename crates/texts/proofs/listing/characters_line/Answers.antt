use Rattle.std.proofs.Common.{ℕ, ◌+◌, ap, ◌∙◌, arith}
use Rattle.definitions.specs.codes.Allowed.{allowed}
use Rattle.definitions.specs.codes.Listing.{listed}
use Rattle.texts.proofs.ListingLaws.{one_more}
use Rattle.texts.proofs.MinuteLaws.{at_most_61}
use Rattle.texts.proofs.listing.characters_line.Goals as goal

pub loop-second-preserved : goal.loop-second-preserved
loop-second-preserved c =
    let f = λ (s : ℕ). listed c.args.station (allowed c.args.station c.args.leap (c.args.minute, s)) in
    record {
      bytes = one_more f c.loop-second.second _ _ _ c.loop-second.invariant.bytes c.push_ascii.ensures.bytes
          (c.listed.ensures.character ∙ ap (listed c.args.station) c.set_in-set.ensures);
      len = c.push_ascii.ensures.len ∙ ap (λ (n : ℕ). n + 1) c.loop-second.invariant.len;
    }

pub push_ascii-requires-clause-room : goal.push_ascii-requires-clause-room
push_ascii-requires-clause-room c =
    omega (arith, at_most_61 c.args.leap c.args.minute, c.minute_length-second-end.ensures, c.loop-second-test.true, c.loop-second.invariant.len)
