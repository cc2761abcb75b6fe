-- `waves_lines::header::put_wire` meets its contract: five parts, one behind the other. Assumes nothing.
use Prim.Native.Nat.{ℕ, ◌*◌, ◌/◌, ◌%◌, ◌^◌, ◌<◌}
use mathlib.Core.Path.{◌≡◌}
use native.Mathlib.Omega.{arith}
use Rattle.bits.proofs.Bits.{shifted_one}
use Rattle.waves.specs.Waves.{name_of}
use Rattle.waves_put.proofs.Putting.{put-length, put-more}
use Rattle.waves_lines.proofs.Lines.{declaration-parts, wire-length, name-is, small-mark}
use Rattle.waves_lines.proofs.header.put_wire.Goals as goal

-- the mark of a wire
shifted : (j : ℕ) → (1 * 2 ^ (j % 6)) % 4294967296 ≡ 2 ^ (j % 6)
shifted j = shifted_one (j % 6) 32 (omega arith)

below : (j : ℕ) → 2 ^ (j % 6) < 100
below j = omega (arith, small-mark (j % 6) (omega arith))

pub put_text-code-requires : goal.put_text-code-requires
put_text-code-requires c = omega (arith, c.requires.1, wire-length c.args.j)

pub put_name-blank-requires : goal.put_name-blank-requires
put_name-blank-requires c =
    let j = c.args.j in
    let code = c.put_text-code.ensures in
    rw (shifted j) (omega arith, below j, omega (arith, c.requires.1, wire-length j, code.next_is, put-length code))

pub put_text-name-requires : goal.put_text-name-requires
put_text-name-requires c =
    let j = c.args.j in
    let code = c.put_text-code.ensures in
    let blank = rw (shifted j) at c.put_name-blank.ensures in
    omega (arith, c.requires.1, wire-length j, code.next_is, put-length code, blank.next_is, put-length blank)

pub put_name-end-requires : goal.put_name-end-requires
put_name-end-requires c =
    let j = c.args.j in
    let code = c.put_text-code.ensures in
    let blank = rw (shifted j) at c.put_name-blank.ensures in
    let name = c.put_text-name.ensures in
    rw (shifted j) (omega arith, below j, omega (arith, c.requires.1, wire-length j, code.next_is, put-length code, blank.next_is, put-length blank, name.next_is, put-length name))

pub put_text-requires : goal.put_text-requires
put_text-requires c =
    let j = c.args.j in
    let code = c.put_text-code.ensures in
    let blank = rw (shifted j) at c.put_name-blank.ensures in
    let name = c.put_text-name.ensures in
    let end = rw (shifted j) at c.put_name-end.ensures in
    omega (arith, c.requires.1, wire-length j, code.next_is, put-length code, blank.next_is, put-length blank, name.next_is, put-length name, end.next_is, put-length end)

pub returns : goal.returns
returns c =
    let j = c.args.j in
    let blank = rw (shifted j) at c.put_name-blank.ensures in
    let end = rw (shifted j) at c.put_name-end.ensures in
    rw (name-is j, declaration-parts (name_of (j / 6) (2 ^ (j % 6)))) (put-more c.put_text-code.ensures (put-more blank (put-more c.put_text-name.ensures (put-more end c.put_text.ensures))))
