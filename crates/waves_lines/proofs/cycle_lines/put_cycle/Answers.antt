-- `waves_lines::cycle_lines::put_cycle` meets its contract: behind k turns the lines of the checkers from k on and the end are left. Assumes nothing.
use Prim.Native.Nat.{ℕ, suc, ◌-◌, ◌<◌, ◌≤◌}
use mathlib.Core.Path.{◌≡◌, refl, sym, ap, ◌∙◌}
use mathlib.Core.List.{List, ◌++◌, append-nil, append_assoc}
use native.Mathlib.Numerals.{add-one}
use native.Mathlib.Omega.{arith}
use lib.ListN.{length, length-append}
use Rattle.waves.specs.Text.{text, each}
use Rattle.waves.specs.Waves.{cycle_lines}
use Rattle.waves.proofs.Each.{each_first, each_none}
use Rattle.waves_put.proofs.Putting.{put-length, putting-none, putting-all, putting-room, putting-more}
use Rattle.waves_lines.proofs.Cycles.{checker_text, falling, rising, cycle-parts}
use Rattle.waves_lines.proofs.cycle_lines.put_cycle.Goals as goal

pub put_stamp-next-requires : goal.put_stamp-next-requires
put_stamp-next-requires c =
    let a = c.args in
    let f = checker_text a.cycles a.rows.now a.t in
    (omega (arith, c.requires.0.short), omega (arith, c.requires.2, ap length (cycle-parts a.checkers a.cycles a.rows.now c.requires.0.marks a.t), length-append (falling a.t) (each f 0 a.checkers ++ rising a.t)))

pub loop-k-init : goal.loop-k-init
loop-k-init c =
    let a = c.args in
    let all : a.checkers - 0 ≡ a.checkers = omega arith in
    rw all (omega arith, putting-more (putting-none (text (cycle_lines a.checkers a.cycles a.rows.now a.t)) a.out.now a.at) (cycle-parts a.checkers a.cycles a.rows.now c.requires.0.marks a.t) c.put_stamp-next.ensures)

-- one checker more
next-checker : (f : ℕ → List ℕ) (k m : ℕ) (end : List ℕ) → k < m → each f k (m - k) ++ end ≡ f k ++ (each f (suc k) (m - suc k) ++ end)
next-checker f k m end h = ap (λ (l : List ℕ). l ++ end) (each_first f k m h) ∙ append_assoc (f k) (each f (suc k) (m - suc k)) end

pub put_checker-next-requires : goal.put_checker-next-requires
put_checker-next-requires c =
    let a = c.args in
    let l = c.loop-k in
    let f = checker_text a.cycles a.rows.now a.t in
    rw c.row_before.ensures (omega (arith, c.loop-k-test.true, c.requires.0.few), omega (arith, putting-room l.invariant.1 c.requires.2, ap length (next-checker f l.k a.checkers (rising a.t) c.loop-k-test.true), length-append (f l.k) (each f (suc l.k) (a.checkers - suc l.k) ++ rising a.t)))

pub loop-k-preserved : goal.loop-k-preserved
loop-k-preserved c =
    let a = c.args in
    let l = c.loop-k in
    let f = checker_text a.cycles a.rows.now a.t in
    let made = rw c.row_before.ensures at c.put_checker-next.ensures in
    rw (add-one l.k) (omega (arith, c.loop-k-test.true), putting-more l.invariant.1 (next-checker f l.k a.checkers (rising a.t) c.loop-k-test.true) made)

-- no checker is left
no-checker : (f : ℕ → List ℕ) (k m : ℕ) (end : List ℕ) → m ≤ k → each f k (m - k) ++ end ≡ end
no-checker f k m end h = ap (λ (l : List ℕ). l ++ end) (each_none f k m h)

pub put_stamp-requires : goal.put_stamp-requires
put_stamp-requires c =
    let a = c.args in
    let l = c.loop-k in
    let f = checker_text a.cycles a.rows.now a.t in
    (omega (arith, c.requires.0.short), omega (arith, putting-room l.invariant.1 c.requires.2, ap length (no-checker f l.k a.checkers (rising a.t) c.loop-k-test.false)))

pub returns : goal.returns
returns c =
    let a = c.args in
    let l = c.loop-k in
    let f = checker_text a.cycles a.rows.now a.t in
    putting-all (putting-more l.invariant.1 (no-checker f l.k a.checkers (rising a.t) c.loop-k-test.false ∙ sym (append-nil (rising a.t))) c.put_stamp.ensures) refl

pub shape_of-out : goal.shape_of-out
shape_of-out c = put-length (returns c)
