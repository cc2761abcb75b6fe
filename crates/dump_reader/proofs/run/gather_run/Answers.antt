use Rattle.dump_reader.proofs.RunLaws as runs
use lib.ListN.{length}
use mathlib.Core.Path.{◌≡◌, refl, ◌∙◌, sym}
use native.Mathlib.Omega.{arith}
use Rattle.dump_reader.proofs.run.gather_run.Goals as goal

pub loop-i-init : goal.loop-i-init
loop-i-init g c = λ d a k. refl

pub returns-then-is_blank : goal.returns-then-is_blank
returns-then-is_blank g c = (c.loop-i.auto.i, omega (arith, c.loop-i-test.true), c.loop-i.invariant)

pub loop-i-preserved : goal.loop-i-preserved
loop-i-preserved g c = λ d a k. c.loop-i.invariant d a k ∙ runs.gather_more _ _ c.loop-i-test.true (sym c.is_blank.ensures ∙ c.if-is_blank.false) _ _ d c.add-kept.ensures.1 c.add-kept.ensures.2 c.add-kept.ensures.0 a k

pub returns : goal.returns
returns g c =
    let e : c.loop-i.i ≡ length c.args.bytes.now = omega (arith, c.loop-i.auto.i-end c.requires, c.loop-i-test.false) in
    (c.requires, omega arith, λ d. rw (← e) (c.loop-i.invariant d))
