-- The attempts that a word names, one bit for each: the entry of the highest bit comes first and the others follow, so there are as many entries as ones.
-- Assumes nothing.
use Prim.Native.Nat.{ℕ, zero, suc, ◌+◌, ◌-◌, ◌*◌, ◌^◌, ◌<◌, ◌≤◌}
use mathlib.Core.Path.{◌≡◌, sym, ap, ◌∙◌}
use mathlib.Core.Bool.{true, false}
use mathlib.Core.List.{[], ◌∷◌, map}
use mathlib.Core.Logic.{⊎_elim}
use native.Mathlib.Nat.{one-mul, two-pow-succ}
use native.Mathlib.Omega.{arith}
use lib.Dec.{T, leb}
use borrow.Author.Tests.{leb-true, leb-false}
use native.Mathlib.Numerals.{one-add}
use lib.Count.{ones, ones_cat}
use lib.ListN.{length}
use Rattle.bits.specs.Bits.{bit}
use Rattle.bits.proofs.Tests.{either, of-true}
use Rattle.listed.specs.Lists.{entry}
use Rattle.entries.specs.Entries.{attempt_entries}
use Rattle.listed.proofs.Highest.{top_set, within, highest-first, none_first}

-- the oldest attempt's entry and those of the others
pub oldest-first : (x t j : ℕ) → 2 ^ j ≤ x → x < 2 ^ suc j → j < t
    → attempt_entries x t ≡ entry t 1 (t - 1 - j) ∷ attempt_entries (x - 2 ^ j) t
unfolding attempt_entries
oldest-first x t j h l k = ap (map (entry t 1)) (highest-first x t j h l k)

pub no-attempts : (t : ℕ) → attempt_entries 0 t ≡ []
unfolding attempt_entries
no-attempts t = ap (map (entry t 1)) (none_first t)

pub ones-entries : (k x t : ℕ) → x < 2 ^ k → ((j : ℕ) → T (bit x j) → j < t) → ones x ≡ length (attempt_entries x t)
unfolding ones
ones-entries zero x t h l =
    let none : x ≡ 0 = omega arith in
    ap ones none ∙ sym (ap length (ap (λ (y : ℕ). attempt_entries y t) none ∙ no-attempts t))
ones-entries (suc k) x t h l =
    ⊎_elim
    (λ (e : leb (2 ^ k) x ≡ true).
    let high = leb-true (2 ^ k) x e in
    let r = x - 2 ^ k in
    let small : r < 2 ^ k = omega (arith, two-pow-succ k) in
    let parts : x ≡ 1 * 2 ^ k + r = omega (arith, one-mul (2 ^ k)) in
    let low : k < t = l k (of-true (top_set x k high h)) in
    ap ones parts ∙ ones_cat k 1 r small ∙ one-add (ones r) ∙ ap suc (ones-entries k r t small (λ j b. omega (arith, low, within r k j small b)))
    ∙ sym (ap length (oldest-first x t k high h low)))
    (λ (e : leb (2 ^ k) x ≡ false). ones-entries k x t (leb-false (2 ^ k) x e) l)
    (either (leb (2 ^ k) x))
