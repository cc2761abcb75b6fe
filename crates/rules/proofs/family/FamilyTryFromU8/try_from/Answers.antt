-- `Family::try_from` meets its contract: the ranges of the kinds are those of the definition. Assumes nothing.
use mathlib.Core.Path.{sym}
use native.Mathlib.Omega.{arith}
use Rattle.rules.proofs.Good.{family-sequence, family-time, family-transition, family-value, family-stability, family-none}
use Rattle.rules.proofs.family.FamilyTryFromU8.try_from.Goals as goal

pub returns-in-6 : goal.returns-in-6
returns-in-6 c = sym (family-transition c.args.kind c.in-6.is)

pub returns-in-7 : goal.returns-in-7
returns-in-7 c = sym (family-value c.args.kind c.in-7.is)

pub returns-in-8 : goal.returns-in-8
returns-in-8 c = sym (family-stability c.args.kind c.in-8.is)

pub returns-in-0-to-2 : goal.returns-in-0-to-2
returns-in-0-to-2 c = sym (family-sequence c.args.kind (omega arith))

pub returns-in-3-to-5 : goal.returns-in-3-to-5
returns-in-3-to-5 c = sym (family-time c.args.kind (omega arith) (omega arith))

pub returns-in-9-to-255 : goal.returns-in-9-to-255
returns-in-9-to-255 c = family-none c.args.kind (omega arith)
