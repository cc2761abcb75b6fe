use Rattle.dump_cut.proofs.Cutting as laws
use native.Mathlib.Omega.{arith}
use Rattle.dump_gathered.proofs.Codes.{bytes-at}
use Rattle.dump_cut.proofs.cuts.load_cut.Goals as goal

pub returns : goal.returns
returns c = laws.loads-cut c.args.front.now c.args.back.now c.args.wires.now c.args.frames.now _ _ _ _ _ _ _ c.begin-first.ensures (c.piece-second.ensures.0, c.piece-second.ensures.1) (c.piece-third.ensures.0, c.piece-third.ensures.1) (c.end-last.ensures.0, c.end-last.ensures.1) (bytes-at c.args.front.now (λ i h. (c.type_inv.front i).fits)) (bytes-at c.args.back.now (λ i h. (c.type_inv.back i).fits)) (omega (arith, c.well_formed)) (omega (arith, c.well_formed))
