-- Entries that are stored behind others are stored with them as one list, since the words of two lists in a row are the words of the whole.
-- Assumes nothing.
use Prim.Native.Nat.{ℕ}
use mathlib.Core.Path.{◌≡◌, refl, ap, ◌∙◌}
use mathlib.Core.List.{List, [], ◌++◌}
use native.Mathlib.Omega.{arith}
use lib.ListN.{length, length-append}
use lib.Seq.{sets, length-sets}
use Rattle.listed.specs.Lists.{Entry, words_of}
use Rattle.listed.proofs.Chosen.{sets-entries}
use Rattle.entries.specs.Entries.{Stored}

pub stored-none : (list : List ℕ) (at : ℕ) → Stored [] list at list at
unfolding words_of
stored-none list at = record { next_is = omega arith; list_is = refl }

pub stored-length : {es : List Entry} {list : List ℕ} {at : ℕ} {list' : List ℕ} {next : ℕ} → Stored es list at list' next → length list' ≡ length list
stored-length {es} {list} {at} s = ap length s.list_is ∙ length-sets list at (words_of es)

pub stored_on : {es fs : List Entry} {list list' list'' : List ℕ} {at next last : ℕ} → Stored es list at list' next → Stored fs list' next list'' last
    → Stored (es ++ fs) list at list'' last
stored_on {es} {fs} {list} {at = at} {next} s u = record {
  next_is = omega (arith, s.next_is, u.next_is, length-append es fs);
  list_is =
      u.list_is ∙ ap (λ (l : List ℕ). sets l next (words_of fs)) s.list_is ∙ sets-entries list at next es fs s.next_is;
}
