-- `signed_changes::changes::changes_of` meets its contract. The loop's invariant: the entries before i are the changes. A turn writes entry i and no other. The measure
-- is what is left of the entries. Assumes nothing.
use Prim.Native.Nat.{ℕ, ◌<◌}
use mathlib.Core.Path.{◌≡◌, ◌∙◌}
use native.Mathlib.Omega.{arith}
use borrow.Author.Count.{below_none, below_more}
use borrow.Author.Rules.{rules}
use lib.IntN.{pos, sub_ℕ}
use lib.ListN.{length, get_or, set, length-set}
use lib.Seq.{get_or-set_same, get_or-set_other}
use Rattle.rules.specs.Rules.{marks}
use Rattle.signed_changes.proofs.Signed.{less-kept}
use Rattle.signed_changes.proofs.changes.changes_of.Goals as goal

pub loop-i-init : goal.loop-i-init
loop-i-init c = (omega arith, search rules, below_none _)

pub bounds-counts-i : goal.bounds-counts-i
bounds-counts-i c = c.loop-i-test.true

pub signed-requires : goal.signed-requires
signed-requires c = c.requires c.loop-i.i c.loop-i-test.true

pub bounds-changes-i : goal.bounds-changes-i
bounds-changes-i c = c.loop-i-test.true

pub loop-i-preserved : goal.loop-i-preserved
loop-i-preserved c =
    let at = c.loop-i in
    let s = c.before in
    let counts = s.args.tally.counts in
    let low : at.i < marks = c.loop-i-test.true in
    let here : at.i < length at.changes = omega (arith, at.invariant.1) in (
      omega arith,
      length-set at.changes at.i _ ∙ at.invariant.1,
      below_more (λ (k : ℕ). get_or (set at.changes at.i _) k (pos 0) ≡ sub_ℕ (get_or counts k 0) 65536) at.i
          (λ k b. get_or-set_other at.changes at.i k _ (pos 0) (omega arith) ∙ at.invariant.2 k b)
          (get_or-set_same at.changes at.i _ (pos 0) here ∙ less-kept c.signed.result (get_or counts at.i 0) (s.requires at.i low) c.signed.ensures),
    )

pub returns : goal.returns
returns c = let at = c.loop-i in (at.invariant.1, λ i h. at.invariant.2 i (omega arith))
