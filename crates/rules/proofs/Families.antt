-- The kinds of each family, and that a kind which is not refused has one. Assumes nothing.
use Prim.Native.Nat.{ℕ, ◌≤◌, ◌<◌}
use mathlib.Core.Path.{◌≡◌, refl}
use mathlib.Core.Bool.{Bool, true, false}
use Rattle.std.specs.Prelude.{Result, Ok, Err, IsOk}
use native.Mathlib.Omega.{arith}
use borrow.Author.Tests.{leb-false}
use lib.Dec.{leb, leb→le}
use Rattle.bits.proofs.Tests.{of-true}
use Rattle.rules.specs.declared.family.Family as code
use Rattle.rules.specs.declared.family.NoSuchKind.{NoSuchKind}
use Rattle.rules.specs.Config.{Family, pick, family, max_kind}
use Rattle.rules.specs.Config.Family.{sequence, time, transition, value, stability, none}
use Rattle.rules.specs.Families.{Names}

-- the kinds of a family
abbrev pub KindsOf : Family → ℕ → Type 0
KindsOf sequence kind = kind ≤ 2
KindsOf time kind = (2 < kind) × (kind ≤ 5)
KindsOf transition kind = kind ≡ 6
KindsOf value kind = kind ≡ 7
KindsOf stability kind = kind ≡ 8
KindsOf none kind = max_kind < kind

pub kinds-of : (kind : ℕ) → KindsOf (family kind) kind
unfolding family
kinds-of k = by (leb k 2) (leb k 5) (leb k 6) (leb k 7) (leb k 8) refl refl refl refl refl
  where
    low : (m : ℕ) → leb k m ≡ true → k ≤ m
    low m e = leb→le k m (of-true e)

    by : (a b d e f : Bool) → leb k 2 ≡ a → leb k 5 ≡ b → leb k 6 ≡ d → leb k 7 ≡ e → leb k 8 ≡ f
        → KindsOf (pick a sequence (pick b time (pick d transition (pick e value (pick f stability none))))) k
    by true b d e f p q r s t = low 2 p
    by false true d e f p q r s t = (leb-false k 2 p, low 5 q)
    by false false true e f p q r s t = omega (arith, leb-false k 5 q, low 6 r)
    by false false false true f p q r s t = omega (arith, leb-false k 6 r, low 7 s)
    by false false false false true p q r s t = omega (arith, leb-false k 7 s, low 8 t)
    by false false false false false p q r s t = leb-false k 8 t

-- the kinds, where the family is known
pub kinds : (kind : ℕ) (f : Family) → f ≡ family kind → KindsOf f kind
kinds kind f e = rw e (kinds-of kind)

pub has-family : (kind : ℕ) → kind ≤ max_kind → (r : Result code.Family NoSuchKind) → Names kind r → IsOk r
has-family kind l (Ok f) n = refl
has-family kind l (Err e) n = absurd (let above : max_kind < kind = rw n at (kinds-of kind) in omega arith)
