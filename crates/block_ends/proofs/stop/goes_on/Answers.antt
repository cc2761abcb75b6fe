-- `block_ends::stop::goes_on` meets its contract: each test is read as what it says of the numbers. Assumes nothing.
use native.Mathlib.Omega.{arith}
use borrow.Author.Tests.{ltb-true, ltb-false, leb-true, leb-false, eqb-true}
use Rattle.bits.proofs.Tests.{of-false, differ-true, differ-false}
use Rattle.block_ends.proofs.stop.goes_on.Goals as goal

pub returns-then-t-b : goal.returns-then-t-b
returns-then-t-b c = (λ h l e. omega (arith, ltb-true, leb-true), λ h. absurd (of-false h tt))

pub returns : goal.returns
returns c = (λ h l e. omega (arith, ltb-false, leb-false, differ-true, eqb-true), λ h. omega (arith, ltb-false, leb-false, differ-false))
