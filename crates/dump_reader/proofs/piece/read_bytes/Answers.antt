use Rattle.dump_reader.proofs.RunLaws as runs
use mathlib.Core.Path.{refl, ◌∙◌, sym}
use native.Mathlib.Omega.{arith}
use Rattle.dump_reader.proofs.piece.read_bytes.Goals as goal

pub loop-i-init : goal.loop-i-init
loop-i-init c = (omega arith, refl)

pub ahead-p-requires : goal.ahead-p-requires
ahead-p-requires c = (c.loop-i.auto.store ∙ c.requires.0, c.loop-i.auto.digits ∙ c.requires.1, omega (arith, c.loop-i.auto.frames, c.requires.2), c.loop-i-test.true)

pub returns-then-at-bytes : goal.returns-then-at-bytes
returns-then-at-bytes c = runs.gone-end _ _ _ c.loop-i.i c.loop-i.invariant.1 _ c.ahead-p.result.at c.ahead-p.ensures.2 c.if-at-bytes.true c.ahead-p.ensures.1

pub returns-then-is_refused : goal.returns-then-is_refused
returns-then-is_refused c = runs.gone-stop _ _ _ c.loop-i.i c.loop-i.invariant.1 _ c.ahead-p.result.at c.ahead-p.ensures.2 (sym c.is_refused.ensures ∙ c.if-is_refused.true)

pub read_byte-s-requires : goal.read_byte-s-requires
read_byte-s-requires c = (c.ahead-p.auto.store ∙ c.loop-i.auto.store ∙ c.requires.0, c.ahead-p.auto.digits ∙ c.loop-i.auto.digits ∙ c.requires.1, omega (arith, c.ahead-p.auto.frames, c.loop-i.auto.frames, c.requires.2))

pub overflow_add-i : goal.overflow_add-i
overflow_add-i c = omega (arith, c.if-at-bytes.false, c.well_formed)

pub loop-i-smaller : goal.loop-i-smaller
loop-i-smaller c = omega (arith, c.if-at-bytes.false, c.ahead-p.ensures.0, c.loop-i-test.true)

pub loop-i-preserved : goal.loop-i-preserved
loop-i-preserved c = (omega (arith, c.if-at-bytes.false), runs.gone-more _ _ _ c.loop-i.i c.loop-i.invariant.1 _ c.ahead-p.result.at c.ahead-p.ensures.2 _ c.if-at-bytes.false (sym c.is_refused.ensures ∙ c.if-is_refused.false) c.read_byte-s.ensures)

pub returns : goal.returns
returns c = runs.at-end _ _ _ c.loop-i.i c.loop-i.invariant.1 c.loop-i-test.false c.loop-i.invariant.0
