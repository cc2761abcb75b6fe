-- `marks_line::line::Line::put` meets its contract: the bytes so far are put. Assumes nothing.
use mathlib.Core.Path.{◌∙◌, ap}
use mathlib.Core.List.{List, [], ◌∷◌}
use Prim.Native.Nat.{ℕ}
use lib.ListN.{get_or}
use Rattle.marks_line.specs.Lines.{with_bytes}
use Rattle.marks_line.proofs.Laws as laws
use Rattle.marks_line.proofs.line.Line.put.Goals as goal

pub loop-b-init : goal.loop-b-init
loop-b-init c = laws.put-none c.args.self.now

pub loop-b-preserved : goal.loop-b-preserved
loop-b-preserved c =
    c.put_byte.ensures
    ∙ ap (λ (r : List ℕ). with_bytes r (get_or c.as_bytes-b-items.result.now c.loop-b.b-index 0 ∷ [])) c.loop-b.invariant
    ∙ laws.put-next c.args.self.now c.as_bytes-b-items.result.now c.loop-b.b-index c.loop-b-test.true
