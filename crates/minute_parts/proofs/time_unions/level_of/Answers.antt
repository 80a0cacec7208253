use Rattle.std.proofs.Common.{◌<◌, ◌≤◌, ◌^◌, ℕ, inl, inr, arith}
use Rattle.std.proofs.Math.Pow.{pow_mono}
use Rattle.std.proofs.lemmas.Bool.{cases_lt}
use Rattle.minute_parts.proofs.time_unions.level_of.Goals as goal

-- 2,048 minutes are more than a day
low : (level n : ℕ) → 2 ^ level ≤ n → n ≤ 1440 → level < 11
low level n within day = elim (cases_lt level 11) [ inl lt ↦ lt | inr le ↦ absurd (omega (arith, within, day, pow_mono {i = 11} {j = level} le)) ]

pub returns-clause-is_level : goal.returns-clause-is_level
returns-clause-is_level c = low c.ilog2.result c.args.n (omega (arith, c.ilog2.ensures.power_le)) c.requires.day
