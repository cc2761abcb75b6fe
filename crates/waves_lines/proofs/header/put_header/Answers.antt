-- `waves_lines::header::put_header` meets its contract: behind j turns the lines of the wires from j on and the end are left. Assumes nothing.
use Prim.Native.Nat.{ℕ, suc, ◌-◌, ◌*◌, ◌<◌, ◌≤◌}
use mathlib.Core.Path.{◌≡◌, refl, sym, ap, ◌∙◌}
use mathlib.Core.List.{List, ◌++◌, append-nil, append_assoc}
use native.Mathlib.Numerals.{add-one}
use native.Mathlib.Omega.{arith}
use lib.ListN.{length, length-append}
use Rattle.waves.specs.Text.{text, each}
use Rattle.waves.specs.Waves.{header}
use Rattle.waves.proofs.Each.{each_first, each_none}
use Rattle.waves_put.proofs.Putting.{putting-none, putting-all, putting-room, putting-more, put-length}
use Rattle.waves_lines.proofs.Lines.{wire_text, opened, closed, header-parts}
use Rattle.waves_lines.proofs.header.put_header.Goals as goal

pub put_text-next-requires : goal.put_text-next-requires
put_text-next-requires c =
    let k = c.args.checkers in
    omega (arith, c.requires.1, ap length (header-parts k), length-append opened (each wire_text 0 (6 * k) ++ closed))

pub loop-j-init : goal.loop-j-init
loop-j-init c =
    let k = c.args.checkers in
    let all : 6 * k - 0 ≡ 6 * k = omega arith in
    rw all (omega arith, refl, putting-more (putting-none (text (header k)) c.args.out.now c.args.at) (header-parts k) c.put_text-next.ensures)

-- one wire more
next-wire : (j m : ℕ) → j < m → each wire_text j (m - j) ++ closed ≡ wire_text j ++ (each wire_text (suc j) (m - suc j) ++ closed)
next-wire j m h = ap (λ (l : List ℕ). l ++ closed) (each_first wire_text j m h) ∙ append_assoc (wire_text j) (each wire_text (suc j) (m - suc j)) closed

pub put_wire-next-requires : goal.put_wire-next-requires
put_wire-next-requires c =
    let k = c.args.checkers in
    let l = c.loop-j in
    let below : l.j < 6 * k = omega (arith, l.invariant.1, c.loop-j-test.true) in
    (omega (arith, below, c.requires.0), omega (arith, putting-room l.invariant.2 c.requires.1, ap length (next-wire l.j (6 * k) below), length-append (wire_text l.j) (each wire_text (suc l.j) (6 * k - suc l.j) ++ closed)))

pub loop-j-preserved : goal.loop-j-preserved
loop-j-preserved c =
    let k = c.args.checkers in
    let l = c.loop-j in
    let below : l.j < 6 * k = omega (arith, l.invariant.1, c.loop-j-test.true) in
    rw (add-one l.j) (omega (arith, c.loop-j-test.true), l.invariant.1, putting-more l.invariant.2 (next-wire l.j (6 * k) below) c.put_wire-next.ensures)

-- no wire is left
no-wire : (j m : ℕ) → m ≤ j → each wire_text j (m - j) ++ closed ≡ closed
no-wire j m h = ap (λ (l : List ℕ). l ++ closed) (each_none wire_text j m h)

pub put_text-requires : goal.put_text-requires
put_text-requires c =
    let k = c.args.checkers in
    let l = c.loop-j in
    let past : 6 * k ≤ l.j = omega (arith, l.invariant.1, c.loop-j-test.false) in
    omega (arith, putting-room l.invariant.2 c.requires.1, ap length (no-wire l.j (6 * k) past))

pub returns : goal.returns
returns c =
    let l = c.loop-j in
    let past : 6 * c.args.checkers ≤ l.j = omega (arith, l.invariant.1, c.loop-j-test.false) in
    putting-all (putting-more l.invariant.2 (no-wire l.j (6 * c.args.checkers) past ∙ sym (append-nil closed)) c.put_text.ensures) refl

pub shape_of-out : goal.shape_of-out
shape_of-out c = put-length (returns c)
