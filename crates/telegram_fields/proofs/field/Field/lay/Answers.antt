use Rattle.std.proofs.Common.{ℕ, zero, suc, ◌*◌, ◌<◌, arith}
use Rattle.telegram_fields.proofs.field.Field.lay.Goals as goal

small : (one bit : ℕ) → one < 8 → bit < 2 → one * bit < 8
small one zero symbol within = omega arith
small one (suc zero) symbol within = omega (arith, symbol)
small one (suc (suc bit)) symbol within = absurd (omega (arith, within))

pub only-requires : goal.only-requires
only-requires c = small c.args.one _ c.requires.symbol c.digit_bit.ensures.bound

pub overflow_mul-one : goal.overflow_mul-one
overflow_mul-one c = omega (arith, small c.args.one _ c.requires.symbol c.digit_bit.ensures.bound)
