use Rattle.dump_load.specs.Loading.{refused_with}
use Rattle.dump_load.proofs.Laws as laws
use Rattle.dump_load.proofs.Meets.{meets}
use Rattle.dump_gathered.proofs.Codes.{bytes-at}
use mathlib.Core.Path.{◌∙◌, sym, ap}
use native.Mathlib.Omega.{arith}
use Rattle.dump_load.proofs.load.load_dump.Goals as goal

pub read_dump-requires : goal.read_dump-requires
read_dump-requires c = (c.if-wires-eq258.true, laws.fits-most _ (sym c.frames_fit.ensures ∙ c.if-frames_fit.true))

pub returns-then-wires-eq258 : goal.returns-then-wires-eq258
returns-then-wires-eq258 c =
    let m = meets c.args.dump.now c.args.wires.now c.args.frames.now (bytes-at c.args.dump.now (λ i h. (c.type_inv.dump i).fits)) (omega (arith, c.well_formed)) c.if-wires-eq258.true (laws.fits-most _ (sym c.frames_fit.ensures ∙ c.if-frames_fit.true)) in
    (laws.good-answer c.args.dump.now c.args.wires.now c.args.frames.now (sym c.frames_fit.ensures ∙ c.if-frames_fit.true) c.if-wires-eq258.true _ (c.read_dump.ensures.0 ∙ m.0), laws.good-frames c.args.dump.now c.args.wires.now c.args.frames.now (sym c.frames_fit.ensures ∙ c.if-frames_fit.true) c.if-wires-eq258.true _ (c.read_dump.ensures.1 ∙ m.1))

pub returns-then-frames_fit : goal.returns-then-frames_fit
returns-then-frames_fit c = let l = laws.wrong-table c.args.dump.now c.args.wires.now c.args.frames.now (sym c.frames_fit.ensures ∙ c.if-frames_fit.true) c.if-wires-eq258.false in (c.refused_with.ensures ∙ ap refused_with c.number.ensures ∙ l.0, l.1)

pub returns : goal.returns
returns c = let l = laws.wrong-frames c.args.dump.now c.args.wires.now c.args.frames.now (sym c.frames_fit.ensures ∙ c.if-frames_fit.false) in (c.refused_with-2.ensures ∙ ap refused_with c.number-2.ensures ∙ l.0, l.1)
