-- Announcements show.
use Rattle.std.proofs.Common.{inl, inr}
use Rattle.definitions.proofs.laws.announcements_show.Goals as goal

pub returns : goal.returns
returns c = λ window q legal announced early walkable. elim (legal.1 announced) [
  | inl last ↦ absurd (early last)
  | inr rest ↦ elim rest [ inl not ↦ absurd (not walkable) | inr shows ↦ shows ]
]
