-- `time::step::time_step` meets its contract: each way out is a case of the definition (`TimeCode`), from what the ports' wires
-- say. The ports have width 1, as a configuration of these kinds has. Assumes nothing.
use Prim.Native.Nat.{ℕ, ◌-◌}
use mathlib.Core.Path.{◌≡◌, sym, ap, ◌∙◌}
use mathlib.Core.Bool.{Bool, true, false}
use lib.Dec.{eqb}
use Rattle.bus.specs.declared.range.Range.{Range}
use Rattle.bus.specs.Range.{value_of}
use Rattle.rules.specs.Time.{test_missed, test_unknown}
use Rattle.rules.proofs.Good.{p-within, q-within, time-config}
use Rattle.time.proofs.TimeCode.{time-steps, time-opens, time-restarts, time-tests, test-unknown, test-missed}
use Rattle.time.proofs.step.time_step.Goals as goal

-- what a port's wire says
wire_is : (p : Range) (wires word : ℕ) (b : Bool) → b ≡ eqb (value_of p wires) 1 → wires ≡ word → b ≡ eqb (value_of p word) 1
wire_is p wires word b is same = is ∙ ap (λ (x : ℕ). eqb (value_of p x) 1) same

pub wire-start-requires : goal.wire-start-requires
wire-start-requires c = let s = c in (p-within s.args.c s.requires.0, (time-config s.args.c s.requires.0 s.requires.1).p-width)

pub returns-then-start : goal.returns-then-start
returns-then-start c =
    let w = c in
    let a = w.args in
    time-steps a.c a.word a.frame true 4 a.c.n (sym c.if-start.true ∙ wire_is a.c.p c.sample.result _ c.wire-start.result c.wire-start.ensures c.sample.ensures)
    (time-opens a.c.kind a.c.n a.word (test_missed a.c a.frame) (test_unknown a.c a.frame) true c.if-word-eq0.true)

pub returns-else-start : goal.returns-else-start
returns-else-start c =
    let w = c in
    let a = w.args in
    time-steps a.c a.word a.frame false 0 0 (sym c.if-start.false ∙ wire_is a.c.p c.sample.result _ c.wire-start.result c.wire-start.ensures c.sample.ensures)
    (time-opens a.c.kind a.c.n a.word (test_missed a.c a.frame) (test_unknown a.c a.frame) false c.if-word-eq0.true)

pub returns-then-start-c : goal.returns-then-start-c
returns-then-start-c c =
    let w = c in
    let a = w.args in
    time-steps a.c a.word a.frame w.wire-start.result 20 a.c.n (wire_is a.c.p c.sample.result _ c.wire-start.result c.wire-start.ensures c.sample.ensures)
    (time-restarts a.c.kind a.c.n a.word (test_missed a.c a.frame) (test_unknown a.c a.frame) c.if-word-eq0.false w.wire-start.result c.if-start-c.true)

pub wire-test-requires : goal.wire-test-requires
wire-test-requires c =
    let s = c in (q-within s.args.c s.requires.0, (time-config s.args.c s.requires.0 s.requires.1).q-width)

pub wire-unknown-requires : goal.wire-unknown-requires
wire-unknown-requires c =
    let s = c in (q-within s.args.c s.requires.0, (time-config s.args.c s.requires.0 s.requires.1).q-width)

pub returns : goal.returns
returns c =
    let q = c in
    let e = q in
    let w = e in
    let s = w in
    let a = s.args in
    let one = (time-config a.c s.requires.0 s.requires.1).q-width in
    let test = q.wire-test in
    let opened = c.default.ensures.1.1.0 in
    let restarted = c.default.ensures.1.1.1.1.0 in
    let unknown = test-unknown a.c a.word a.frame one q.wire-unknown.result q.wire-unknown.ensures in
    let missed = test-missed a.c a.word a.frame one test.result q.wire-unknown.result (wire_is a.c.q c.sample-2.result _ c.wire-test.result c.wire-test.ensures c.sample-2.ensures) q.wire-unknown.ensures in
    time-steps a.c a.word a.frame w.wire-start.result c.row.result (a.word - 1) (wire_is a.c.p c.sample.result _ c.wire-start.result c.wire-start.ensures c.sample.ensures)
    (time-tests a.c.kind a.c.n a.word (test_missed a.c a.frame) (test_unknown a.c a.frame) e.if-word-eq0.false w.wire-start.result
    c.row.result e.if-start-c.false (rw (← missed, ← unknown) (rw (opened, restarted) at c.row.ensures)))
