use Rattle.dump_reader.proofs.RunLaws as runs
use mathlib.Core.Path.{◌∙◌, sym}
use native.Mathlib.Omega.{arith}
use Rattle.dump_reader.proofs.changes.past_text.Goals as goal

pub overflow_add-to : goal.overflow_add-to
overflow_add-to c = omega (arith, c.if-to-bytes.false, c.well_formed)

pub returns-then-is_blank : goal.returns-then-is_blank
returns-then-is_blank c = runs.text-whole _ _ c.requires.4 _ _ _ c.if-to-bytes.false c.gather_run-run.ensures.0 (sym c.is_blank.ensures ∙ c.if-is_blank.true) _ _ _ _ _ _ (runs.behind-past c.args.c _ _ _ _ _ c.behind_word.ensures c.past_blank.ensures) _ _ c.requires.5 c.add_text-first.ensures (c.gather_run-run.ensures.2 _) c.change_word-wave.ensures.0 c.change_word-wave.ensures.1 c.change_word-wave.ensures.2
