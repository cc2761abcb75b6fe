use Rattle.dump_reader.proofs.RunLaws as runs
use mathlib.Core.Path.{◌∙◌, sym}
use native.Mathlib.Omega.{arith}
use Rattle.dump_reader.proofs.changes.vector_one.Goals as goal

pub returns-then-c-ne0 : goal.returns-then-c-ne0
returns-then-c-ne0 c = (omega (arith, c.vector_run-run.ensures.0), c.vector_run-run.ensures.1, λ f. runs.vector-open _ _ c.requires.3 _ _ _ _ f c.vector_run-run.result.count c.vector_run-run.result.at c.requires.4 c.vector_run-run.ensures.3)

pub returns-then-to-bytes : goal.returns-then-to-bytes
returns-then-to-bytes c = (omega (arith, c.vector_run-run.ensures.0), c.vector_run-run.ensures.1, λ f. runs.vector-open _ _ c.requires.3 _ _ _ _ f c.vector_run-run.result.count c.vector_run-run.result.at c.requires.4 c.vector_run-run.ensures.3)

pub returns-then-from-bytes : goal.returns-then-from-bytes
returns-then-from-bytes c = (omega (arith, c.vector_run-run.ensures.0), c.vector_run-run.ensures.1, λ f. runs.vector-open _ _ c.requires.3 _ _ _ _ f c.vector_run-run.result.count c.vector_run-run.result.at c.requires.4 c.vector_run-run.ensures.3)

pub returns-then-run-eq0 : goal.returns-then-run-eq0
returns-then-run-eq0 c = (omega (arith, c.vector_run-run.ensures.0), c.vector_run-run.ensures.1, λ f. runs.vector-open _ _ c.requires.3 _ _ _ _ f c.vector_run-run.result.count c.vector_run-run.result.at c.requires.4 c.vector_run-run.ensures.3)

pub returns-then-is_blank-2 : goal.returns-then-is_blank-2
returns-then-is_blank-2 c = runs.vector-passed _ _ c.requires.3 _ _ _ _ c.vector_run-run.result.count c.vector_run-run.result.at c.requires.5 c.if-run-eq0.false c.if-to-bytes.false c.vector_run-run.ensures.0 (sym c.is_blank-then-is_blank.ensures ∙ c.if-is_blank-2.true) _ c.requires.4 c.vector_run-run.ensures.3 (runs.behind-past c.args.c _ _ _ _ _ c.behind_word.ensures c.past_blank.ensures)

pub returns-then-is_blank : goal.returns-then-is_blank
returns-then-is_blank c = (omega (arith, c.vector_run-run.ensures.0), c.vector_run-run.ensures.1, λ f. runs.vector-open _ _ c.requires.3 _ _ _ _ f c.vector_run-run.result.count c.vector_run-run.result.at c.requires.4 c.vector_run-run.ensures.3)

pub returns-then-end-bytes : goal.returns-then-end-bytes
returns-then-end-bytes c = (omega (arith, c.vector_run-run.ensures.0), c.vector_run-run.ensures.1, λ f. runs.vector-open _ _ c.requires.3 _ _ _ _ f c.vector_run-run.result.count c.vector_run-run.result.at c.requires.4 c.vector_run-run.ensures.3)

pub vector_good-requires : goal.vector_good-requires
vector_good-requires c = (c.requires.0, c.requires.1, c.vector_run-run.auto.digits ∙ c.requires.2, c.vector_run-run.ensures.2)

pub overflow_add-end : goal.overflow_add-end
overflow_add-end c = omega (arith, c.if-end-bytes.false, c.well_formed)

pub shape_of-digits-then-vector_good : goal.shape_of-digits-then-vector_good
shape_of-digits-then-vector_good c = c.vector_run-run.auto.digits

pub returns-then-vector_good : goal.returns-then-vector_good
returns-then-vector_good c = runs.vectored-whole _ _ c.requires.3 _ _ _ _ c.vector_run-run.result.count c.vector_run-run.result.at c.gather_run-code.result.at c.requires.5 c.if-c-ne0.false c.if-to-bytes.false c.vector_run-run.ensures.0 (sym c.is_blank-2.ensures ∙ c.if-is_blank-3.true) c.if-from-bytes.false (sym c.is_blank.ensures ∙ c.if-is_blank.false) c.if-end-bytes.false c.gather_run-code.ensures.0 (sym c.is_blank-then-is_blank-3.ensures ∙ c.if-is_blank-4.true) _ _ (c.vector_good.ensures.0 c.if-vector_good.true) _ _ _ c.requires.4 c.vector_run-run.ensures.3 c.add_text-first.ensures c.gather_run-code.ensures.2 (runs.behind-past c.args.c _ _ _ _ _ c.behind_word-then-vector_good.ensures c.past_blank-next.ensures) (runs.behind-past c.past_blank-next.result _ _ _ _ _ c.behind_word-then-vector_good-2.ensures c.past_blank-then-vector_good.ensures)

pub shape_of-digits-then-is_blank-4 : goal.shape_of-digits-then-is_blank-4
shape_of-digits-then-is_blank-4 c = c.vector_run-run.auto.digits

pub returns-then-is_blank-4 : goal.returns-then-is_blank-4
returns-then-is_blank-4 c = (omega (arith, c.vector_run-run.ensures.0), c.vector_run-run.ensures.1, λ f. rw (c.vector_good.ensures.1 c.if-vector_good.false) (runs.vector-open _ _ c.requires.3 _ _ _ _ f c.vector_run-run.result.count c.vector_run-run.result.at c.requires.4 c.vector_run-run.ensures.3))

pub returns-then-is_blank-3 : goal.returns-then-is_blank-3
returns-then-is_blank-3 c = (omega (arith, c.vector_run-run.ensures.0), c.vector_run-run.ensures.1, λ f. runs.vector-open _ _ c.requires.3 _ _ _ _ f c.vector_run-run.result.count c.vector_run-run.result.at c.requires.4 c.vector_run-run.ensures.3)

pub returns : goal.returns
returns c = (omega (arith, c.vector_run-run.ensures.0), c.vector_run-run.ensures.1, λ f. runs.vector-open _ _ c.requires.3 _ _ _ _ f c.vector_run-run.result.count c.vector_run-run.result.at c.requires.4 c.vector_run-run.ensures.3)
