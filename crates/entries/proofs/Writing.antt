-- The entries of attempts, written one by one from the oldest on: what is written, with what is left, is all. Assumes nothing.
use Prim.Native.Nat.{ℕ, ◌+◌, ◌-◌, ◌*◌, ◌^◌, ◌<◌, ◌≤◌}
use mathlib.Core.Path.{◌≡◌, refl, sym, ap, subst, ◌∙◌}
use mathlib.Core.List.{List, [], ◌∷◌, ◌++◌, append-nil, append_assoc}
use native.Mathlib.Nat.{two-pow-succ}
use native.Mathlib.Omega.{arith}
use lib.Dec.{T}
use lib.ListN.{length, length-append}
use Rattle.bits.specs.Bits.{bit}
use Rattle.bits.proofs.Tests.{of-true}
use Rattle.listed.specs.Lists.{Entry, entry}
use Rattle.listed.proofs.Highest.{top_set, within, highest, Highest, highest-one}
use Rattle.entries.specs.Entries.{attempt_entries, Stored}
use Rattle.entries.proofs.Stored.{stored-none, stored-length, stored_on}
use Rattle.entries.proofs.Attempts.{oldest-first, no-attempts}

pub record Writing (lost t : ℕ) (list₀ : List ℕ) (at : ℕ) (list : List ℕ) (rest next : ℕ) : Type 0 where
  pub written : List Entry
  pub stored : Stored written list₀ at list next
  pub left : written ++ attempt_entries rest t ≡ attempt_entries lost t
  pub young : (j : ℕ) → T (bit rest j) → j < t
  pub small : rest < 2 ^ 64

pub writing-none : (lost t : ℕ) (list₀ : List ℕ) (at : ℕ) → ((j : ℕ) → T (bit lost j) → j < t) → lost < 2 ^ 64 → Writing lost t list₀ at list₀ lost at
writing-none lost t list₀ at young small =
    record { written = []; stored = stored-none list₀ at; left = refl; young = young; small = small }

module _ {lost t : ℕ} {list₀ : List ℕ} {at : ℕ} {list : List ℕ} {rest next : ℕ} (w : Writing lost t list₀ at list rest next) where
  pub writing-all : rest ≡ 0 → Stored (attempt_entries lost t) list₀ at list next
  writing-all z =
      let all : w.written ≡ attempt_entries lost t =
      sym (append-nil w.written) ∙ ap (λ (es : List Entry). w.written ++ es) (sym (ap (λ (x : ℕ). attempt_entries x t) z ∙ no-attempts t)) ∙ w.left in
      subst (λ (es : List Entry). Stored es list₀ at list next) all w.stored

  module _ (some : 0 < rest) where
    pub top : Highest 64 rest
    top = highest-one 64 rest some w.small

    -- its attempt began after cycle 0
    pub top-young : highest 64 rest < t
    top-young = w.young (highest 64 rest) (of-true (top_set rest (highest 64 rest) top.below top.above))

    abbrev oldest : Entry
    oldest = entry t 1 (t - 1 - highest 64 rest)

    first : attempt_entries rest t ≡ oldest ∷ attempt_entries (rest - 2 ^ highest 64 rest) t
    first = oldest-first rest t (highest 64 rest) top.below top.above (top-young)

    pub room : at + 3 * length (attempt_entries lost t) ≤ length list₀ → next + 3 ≤ length list
    room h =
        omega (
          arith,
          h,
          stored-length w.stored,
          w.stored.next_is,
          ap length w.left,
          length-append w.written (attempt_entries rest t),
          ap length first,
        )

    pub writing_more : {list' : List ℕ} {next' : ℕ} → Stored (oldest ∷ []) list next list' next'
        → Writing lost t list₀ at list' (rest - 2 ^ highest 64 rest) next'
    writing_more s =
        let small : rest - 2 ^ highest 64 rest < 2 ^ highest 64 rest = omega (arith, top.below, top.above, two-pow-succ (highest 64 rest)) in
        record {
          written = w.written ++ oldest ∷ [];
          stored = stored_on w.stored s;
          left = append_assoc w.written (oldest ∷ []) (attempt_entries (rest - 2 ^ highest 64 rest) t)
              ∙ ap (λ (es : List Entry). w.written ++ es) (sym first) ∙ w.left;
          young = λ j b. omega (arith, within (rest - 2 ^ highest 64 rest) (highest 64 rest) j small b, top-young);
          small = omega (arith, w.small);
        }
