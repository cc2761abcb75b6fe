-- `marks_line::line::Line::put_spaces` meets its contract: the spaces so far are put. Assumes nothing.
use mathlib.Core.Path.{◌∙◌, ap}
use mathlib.Core.List.{List, [], ◌∷◌}
use Prim.Native.Nat.{ℕ}
use Rattle.marks_line.specs.Lines.{with_bytes}
use Rattle.marks_line.proofs.Laws as laws
use Rattle.marks_line.proofs.line.Line.put_spaces.Goals as goal

pub loop-init : goal.loop-init
loop-init c = laws.put-none c.args.self.now

pub loop-preserved : goal.loop-preserved
loop-preserved c = c.put_byte.ensures ∙ ap (λ (r : List ℕ). with_bytes r (32 ∷ [])) c.loop.invariant ∙ laws.put-again c.args.self.now 32 c.loop.counter
