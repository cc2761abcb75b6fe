-- `recheck::edit::recheck` meets its contract: what is refused comes before any store, and what is not refused is what `resume` takes. Assumes nothing.
use Prim.Native.Nat.{ℕ}
use mathlib.Core.Path.{◌≡◌, refl, sym}
use mathlib.Core.List.{List}
use Rattle.std.proofs.lemmas.Result.{err_from_is_err_and}
use Rattle.rules.specs.declared.config.Config.{Config}
use Rattle.recheck_refusals.specs.Refusals.{Refused}
use Rattle.recheck_refusals.proofs.Refusals.{Taken, taken}
use Rattle.recheck.proofs.Answers.{a-in-words, resumable, not_done, all_done, counts-high}
use Rattle.recheck.proofs.edit.recheck.Goals as goal

-- what is taken, where the tests refuse nothing
ok : (k : Config) (ts rs ws : List ℕ) (a b : ℕ) → Refused k ts rs ws a b 0 0 → Taken k ts rs ws a b
ok k ts rs ws a b is = taken k ts rs ws a b (sym is.refusal_is)

pub returns-in_err-recheck_refusal : goal.returns-in_err-recheck_refusal
returns-in_err-recheck_refusal c =
    let a = c.args in
    let p = err_from_is_err_and c.from_residual.result c.from_residual.ensures.1 in
    rw (p.1, p.2)
    (not_done a.c a.trace.now a.rows.now a.words.now a.a a.b c.in_err-recheck_refusal.field-0.0 (c.in_err-recheck_refusal.ensures a.trace.now a.rows.now refl refl))

pub kept_before-word-requires : goal.kept_before-word-requires
kept_before-word-requires c =
    let a = c.args in
    let is = c.in_ok-recheck_refusal.ensures a.trace.now a.rows.now refl refl in
    a-in-words a.c a.trace.now a.rows.now a.words.now a.a a.b (ok a.c a.trace.now a.rows.now a.words.now a.a a.b is)

pub resume-run-requires : goal.resume-run-requires
resume-run-requires c =
    let a = c.args in
    let is = c.in_ok-recheck_refusal.ensures a.trace.now a.rows.now refl refl in
    resumable a.c a.trace.now a.rows.now a.words.now a.a a.b (ok a.c a.trace.now a.rows.now a.words.now a.a a.b is) c.kept_before-word.result c.kept_before-word.ensures

pub changes_of-requires : goal.changes_of-requires
changes_of-requires c =
    let a = c.args in
    let is = c.in_ok-recheck_refusal.ensures a.trace.now a.rows.now refl refl in
    let ready = resumable a.c a.trace.now a.rows.now a.words.now a.a a.b (ok a.c a.trace.now a.rows.now a.words.now a.a a.b is) c.kept_before-word.result c.kept_before-word.ensures in
    counts-high a.c a.trace.now a.rows.now a.words.now a.a a.b c.kept_before-word.result ready _ _ _ _ c.resume-run.ensures

pub returns : goal.returns
returns c =
    let a = c.args in
    let is = c.in_ok-recheck_refusal.ensures a.trace.now a.rows.now refl refl in
    let ready = resumable a.c a.trace.now a.rows.now a.words.now a.a a.b (ok a.c a.trace.now a.rows.now a.words.now a.a a.b is) c.kept_before-word.result c.kept_before-word.ensures in
    all_done a.c a.trace.now a.rows.now a.words.now a.a a.b _ _ c.resume-run.result.end c.resume-run.result.tally.counts c.changes_of.result is ready.low
    c.changes_of.ensures.0 c.changes_of.ensures.1 c.resume-run.ensures
