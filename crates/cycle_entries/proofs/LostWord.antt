-- The word of the attempts that fail in a cycle: those of the open word that missed their event, and of kind 0 the oldest alone, which a mask leaves. Assumes nothing.
use Prim.Native.Nat.{ℕ, suc, ◌-◌, ◌/◌, ◌%◌, ◌^◌, ◌<◌, ◌≤◌, zero-le}
use mathlib.Core.Path.{◌≡◌, refl, sym, ap, ap₂, ◌∙◌}
use mathlib.Core.Bool.{Bool, true, false, not, ◌&&◌, ◌||◌, and-true}
use mathlib.Core.Logic.{⊎_elim}
use native.Mathlib.Nat.{le_refl, eq-or-lt_of_le, lt_of_le_of_lt, two-pow-succ}
use native.Mathlib.Omega.{arith}
use lib.Dec.{eqb, ltb, eqb→eq}
use borrow.Author.Tests.{ltb-true, ltb-false, eq-eqb, ne_eqb}
use lib.Pow.{pow_pos}
use native.Mathlib.Numerals.{one-add}
use lib.Bits.{bit_and, and_le_l}
use Rattle.bits.specs.Bits.{bit, number}
use Rattle.bits.proofs.Tests.{either, of-true, iff-eq}
use Rattle.bits.proofs.Bits.{bit-mod, bit_past, bit-and, bit-shr, bit-number, number_is}
use Rattle.rules.specs.declared.config.Config.{Config}
use Rattle.rules.specs.declared.frame.Frame.{Frame}
use Rattle.rules.specs.Sequence.{event_missed}
use Rattle.listed.proofs.Highest.{top_set, without-top}

bit-power : (k i : ℕ) → bit (2 ^ k) i ≡ eqb i k
bit-power k i =
    let double : 2 ^ k < 2 ^ suc k = omega (arith, two-pow-succ k, pow_pos k) in
    let rest : 2 ^ k % 2 ^ k ≡ 0 = omega (arith, without-top (2 ^ k) k (le_refl (2 ^ k)) double) in
    ⊎_elim
    (λ (q : ltb i k ≡ true).
    sym (bit-mod (2 ^ k) k i (ltb-true i k q)) ∙ ap (λ (y : ℕ). bit y i) rest ∙ bit_past 0 0 i (le_refl 1) zero-le
    ∙ sym (ne_eqb i k (λ e. omega (arith, ltb-true i k q, e))))
    (λ (q : ltb i k ≡ false).
    ⊎_elim (λ (e : k ≡ i). rw (sym e) (top_set (2 ^ k) k (le_refl (2 ^ k)) double ∙ sym (eq-eqb k k refl)))
    (λ (l : k < i). bit_past (2 ^ k) (suc k) i double l ∙ sym (ne_eqb i k (λ e. omega (arith, l, e)))) (eq-or-lt_of_le (ltb-false i k q)))
    (either (ltb i k))

module _
    (c : Config) (w : ℕ) (f : Frame) (e : ℕ) (two : 2 ≤ c.n) (low : w < 2 ^ (c.n - 1))
    (missed : e ≡ number c.n (λ (i : ℕ). event_missed c f (c.n - 1 - i))) where
  abbrev lost : ℕ
  lost = bit_and w (e / 2)

  lost-lt : lost < 2 ^ (c.n - 1)
  lost-lt = lt_of_le_of_lt (and_le_l w (e / 2)) low

  -- the attempt that started j + 1 cycles ago missed its event
  lost-event : (j : ℕ) → j < c.n - 1 → bit lost j ≡ (bit w j && event_missed c f (c.n - 1 - suc j))
  lost-event j l =
      let event : bit (e / 2) j ≡ event_missed c f (c.n - 1 - suc j) =
      bit-shr e 1 j ∙ ap (bit e) (one-add j) ∙ ap (λ (x : ℕ). bit x (suc j)) missed
      ∙ bit-number c.n (λ (i : ℕ). event_missed c f (c.n - 1 - i)) (suc j) (omega arith) in
      bit-and w (e / 2) j ∙ ap (λ (b : Bool). bit w j && b) event

  abbrev Lost : ℕ → Bool
  Lost j = bit w j && event_missed c f (c.n - 1 - suc j) && (not (eqb c.kind 0) || eqb (suc j) (c.n - 1))

  pub lost-all : eqb c.kind 0 ≡ false → lost ≡ number (c.n - 1) Lost
  lost-all k =
      number_is (c.n - 1) lost Lost lost-lt
      (λ j l. rw k (lost-event j l ∙ sym (and-true (bit w j && event_missed c f (c.n - 1 - suc j)))))

  pub lost-oldest : eqb c.kind 0 ≡ true → bit_and lost (2 ^ (c.n - 2)) ≡ number (c.n - 1) Lost
  lost-oldest k =
      number_is (c.n - 1) (bit_and lost (2 ^ (c.n - 2))) Lost (omega (arith, lost-lt, and_le_l lost (2 ^ (c.n - 2))))
      (λ j l.
      let oldest : eqb j (c.n - 2) ≡ eqb (suc j) (c.n - 1) =
      iff-eq (eqb j (c.n - 2)) (eqb (suc j) (c.n - 1))
      (λ q. of-true (eq-eqb (suc j) (c.n - 1) (omega (arith, eqb→eq j (c.n - 2) q))))
      (λ q. of-true (eq-eqb j (c.n - 2) (omega (arith, eqb→eq (suc j) (c.n - 1) q)))) in
      rw k (bit-and lost (2 ^ (c.n - 2)) j ∙ ap₂ (λ (a b : Bool). a && b) (lost-event j l) (bit-power (c.n - 2) j ∙ oldest)))
