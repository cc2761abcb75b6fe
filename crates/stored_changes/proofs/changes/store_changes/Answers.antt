-- `stored_changes::changes::store_changes` meets its contract: behind the end, the changes take the place of all the numbers that there are. Assumes nothing.
use Prim.Native.Nat.{suc, ◌-◌}
use mathlib.Core.Path.{◌≡◌, ap, ◌∙◌}
use mathlib.Core.List.{List, [], ◌∷◌, ◌++◌, append-nil}
use native.Mathlib.Omega.{arith}
use borrow.Rule.Slice.PartMut.{put_mid}
use mir.Facts.{to_z-of_z}
use lib.IntN.{ℤ}
use lib.ListN.{length, set}
use lib.Seq.{drop-length}
use Rattle.stored_changes.proofs.changes.store_changes.Goals as goal

behind : (l s : List ℤ) (z : ℤ) → length l ≡ suc (length s) → put_mid 1 (length (set l 0 z) - 1) (set l 0 z) s ≡ z ∷ s
behind [] s z h = absurd (omega arith)
behind (x ∷ xs) s z h =
    let all : suc (length xs) - 1 ≡ length xs = omega arith in
    rw all (ap (λ (l : List ℤ). z ∷ (s ++ l)) (drop-length xs) ∙ ap (λ (l : List ℤ). z ∷ l) (append-nil s))

pub returns : goal.returns
returns c =
    let a = c.args in
    let is : length a.answer.now ≡ suc (length a.changes) = omega (arith, c.requires.0, c.requires.1) in
    rw c.copy_from_slice.ensures.after (behind a.answer.now a.changes _ is ∙ ap (λ (z : ℤ). z ∷ a.changes) (to_z-of_z c.ranges.end))
