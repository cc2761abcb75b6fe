-- `misfits::words::cycles_misfit` meets its contract: both numbers have 16 bits exactly where the cycles fit. Assumes nothing.
use Rattle.std.proofs.Common.{ℕ, ◌*◌, ◌/◌, ◌%◌, ◌^◌, ◌≤◌, mul-le-mul, arith}
use Rattle.misfits.proofs.Misfits.{cycles-are}
use Rattle.misfits.proofs.words.cycles_misfit.Goals as goal

-- the product is small: neither of its factors has more than 16 bits
product : (held min : ℕ) → held ≤ 65535 → min ≤ 65535 → held * min ≤ 65535 * 65535
product held min h l = mul-le-mul {n₂ = 65535} {m₂ = 65535} h l

pub overflow_mul-too_many : goal.overflow_mul-too_many
overflow_mul-too_many c = omega (arith, product (c.args.word / 2 ^ 48) c.args.c.min (omega (arith, c.ranges.word)) (omega (arith, c.requires)))

pub overflow_add-too_many : goal.overflow_add-too_many
overflow_add-too_many c = omega (arith, product (c.args.word / 2 ^ 48) c.args.c.min (omega (arith, c.ranges.word)) (omega (arith, c.requires)))

pub overflow_add-too_many-2 : goal.overflow_add-too_many-2
overflow_add-too_many-2 c = omega (arith, product (c.args.word / 2 ^ 48) c.args.c.min (omega (arith, c.ranges.word)) (omega (arith, c.requires)))

pub returns : goal.returns
returns c =
    cycles-are (c.args.word % 2 ^ 16) (c.args.word / 2 ^ 48) c.args.c.min c.args.c.n c.wrapping_sub_u64.result (omega arith) (omega (arith, c.ranges.word)) c.requires.0 (omega (arith, c.wrapping_sub_u64.type_inv)) c.wrapping_sub_u64.ensures.value
