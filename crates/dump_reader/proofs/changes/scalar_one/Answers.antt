use Rattle.dump_reader.proofs.RunLaws as runs
use mathlib.Core.Path.{refl, ◌∙◌, sym}
use native.Mathlib.Omega.{arith}
use Rattle.dump_reader.proofs.changes.scalar_one.Goals as goal

pub overflow_add-to : goal.overflow_add-to
overflow_add-to c = omega (arith, c.if-to-bytes.false, c.well_formed)

pub returns-then-scalar_good : goal.returns-then-scalar_good
returns-then-scalar_good c = runs.scalar-whole _ _ c.requires.2 _ _ _ c.if-to-bytes.false c.gather_run-run.ensures.0 (sym c.is_blank.ensures ∙ c.if-is_blank.true) _ _ _ _ c.requires.3 c.add_text-first.ensures c.gather_run-run.ensures.2 (c.scalar_good.ensures.0 c.if-scalar_good.true) c.requires.4 (runs.behind-past c.args.c _ _ _ _ _ c.behind_word.ensures c.past_blank.ensures)

pub returns-then-is_blank : goal.returns-then-is_blank
returns-then-is_blank c = (omega arith, omega (arith, c.requires.2.inside), λ d f. rw (c.scalar_good.ensures.1 c.if-scalar_good.false) (λ h p q. refl))
