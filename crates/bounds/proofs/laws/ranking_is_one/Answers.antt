use Rattle.std.proofs.Common.{◌<◌, ◌^◌}
use Rattle.definitions.specs.sequences.Keys.{index_of}
use Rattle.definitions.specs.answers.Blocks.{IsBlock, first_of}
use Rattle.bounds.proofs.OneRanking.{all_more, one_ranking, place_small}
use Rattle.bounds.proofs.laws.ranking_is_one.Goals as goal

pub returns : goal.returns
returns c = λ costs window items xs ys is blocks own moved others ranked rankeds.
    one_ranking costs window items xs ys own
    (all_more (IsBlock window) (λ b. index_of (first_of b) < 2 ^ 33) (λ b block. place_small window b is.century block) items blocks)
    moved others ranked rankeds
