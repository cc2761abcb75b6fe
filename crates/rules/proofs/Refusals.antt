-- What an answer's number says of it, and what `?` passes up. Assumes nothing.
use Prim.Native.Nat.{ℕ, ◌<◌}
use mathlib.Core.Path.{◌≡◌, refl}
use native.Mathlib.Omega.{arith}
use Rattle.std.specs.Prelude.{Result, Ok, Err, IsErrAnd}
use Rattle.std.proofs.lemmas.Result.{err_from_is_err_and}
use Rattle.rules.specs.declared.refusal.Refusal.{Refusal}
use Rattle.rules.specs.declared.refusal.Refusal.TheVariants.{Kind, Limits, Ports, TraceLength, SliceLength, EditRange, OpenWord, ListRoom, Checkers}
use Rattle.rules.specs.Refusals.{number_of, cycle_named, refusal_of, cycle_of}

-- no refusal has the number 0
pub is-refused : (e : Refusal) → 0 < number_of e
is-refused Kind = omega arith
is-refused Limits = omega arith
is-refused Ports = omega arith
is-refused TraceLength = omega arith
is-refused SliceLength = omega arith
is-refused EditRange = omega arith
is-refused (OpenWord cycle) = omega arith
is-refused ListRoom = omega arith
is-refused Checkers = omega arith

-- only number 7 names a cycle
pub no-cycle : {A : Type 0} (r : Result A Refusal) (n : ℕ) → refusal_of r ≡ n → n < 7 → cycle_of r ≡ 0
no-cycle (Ok a) n e l = refl
no-cycle (Err Kind) n e l = refl
no-cycle (Err Limits) n e l = refl
no-cycle (Err Ports) n e l = refl
no-cycle (Err TraceLength) n e l = refl
no-cycle (Err SliceLength) n e l = refl
no-cycle (Err EditRange) n e l = refl
no-cycle (Err (OpenWord cycle)) n e l = absurd (omega arith)
no-cycle (Err ListRoom) n e l = refl
no-cycle (Err Checkers) n e l = refl

-- the refusal that `?` passes up is the one that it got
pub passes-number : {A : Type 0} (r : Result A Refusal) (e : Refusal) → IsErrAnd r (λ y. y ≡ e) → refusal_of r ≡ number_of e
passes-number r e h = let p = err_from_is_err_and r h in rw (p.1, p.2) refl

pub passes-cycle : {A : Type 0} (r : Result A Refusal) (e : Refusal) → IsErrAnd r (λ y. y ≡ e) → cycle_of r ≡ cycle_named e
passes-cycle r e h = let p = err_from_is_err_and r h in rw (p.1, p.2) refl
