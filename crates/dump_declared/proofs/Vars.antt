-- The width and the code of a variable: places 8 and 9. Assumes nothing.
use mathlib.Core.Path.{◌≡◌, refl}
use mathlib.Core.Bool.{Bool, true, false, cond, not, ◌&&◌, ◌||◌}
use mathlib.Core.List.{List, ◌∷◌}
use Prim.Native.Nat.{ℕ, ◌+◌, ◌^◌, ◌<◌}
use native.Mathlib.Omega.{arith}
use lib.Dec.{eqb, ltb}
use lib.ListN.{length, get_or}
use borrow.Author.Tests.{lt-ltb, eq-eqb, ne_eqb, ltb-true, ltb-false}
use Rattle.dump.specs.Text.{code_of, is_code, is_end, is_number, value}
use Rattle.dump.specs.State.{State, refuse, with_var}
use Rattle.dump.specs.Ranges.{no_range}
use Rattle.dump.specs.Declarations as D
use Rattle.dump_words.specs.Gather.{no_text, no_number}
use Rattle.dump_gathered.specs.Gathered.{text_of, number_of, Bytes, kept, lost, numbered}
use Rattle.dump_gathered.proofs.Texts.{text-long, text-plain, text-code}
use Rattle.dump_gathered.proofs.Numbers.{number-of}
use Rattle.dump_find.specs.Find.{bounded, lookup}
use Rattle.dump_declare.specs.declared.head.Head.{Head}
use Rattle.dump_declare.specs.Declare as C
use Rattle.dump_declared.specs.Declared.{part, state_of, declared_of, var_of, Sound}
use Rattle.dump_declared.proofs.Says.{Says, says, by-same}
use Rattle.dump_declared.proofs.Parts.{get_d_part}
use Rattle.dump_declared.proofs.Lookup.{codes-length, codes-bounded, lookup-is-index}
use Rattle.dump_declared.proofs.Commands.{end_is}

module _ (h : Head) (store : List ℕ) where
  abbrev s : State
  s = state_of h store

  abbrev sized : ℕ → State
  sized v = with_var s 9 (record { real = s.var.real; width = v; code = 0; misfit = false; range = no_range })

  -- WIDTH: a number above 64 bits is above 4,096
  width_of : (a : Bool) (v : ℕ) → Says (C.on_width h (cond a (kept v) lost)) store (cond (a && ltb 0 v) (cond (ltb 4096 v) (refuse s 12) (sized v)) (refuse s 10))
  unfolding C.on_width
  width_of false v = says _ _
  width_of true v = go (ltb v (2 ^ 64)) refl (ltb 0 v) refl
    where
      go : (t : Bool) → ltb v (2 ^ 64) ≡ t → (u : Bool) → ltb 0 v ≡ u → Says (C.on_width h (kept v)) store (cond (ltb 0 v) (cond (ltb 4096 v) (refuse s 12) (sized v)) (refuse s 10))
      go true e true f = let z : (v ≡ 0 → ⊥) = λ z. omega (arith, ltb-true 0 v f) in rw (e, f, ne_eqb v 0 z) (by-same (ltb 4096 v) (says _ _) (says _ _))
      go true e false f = rw (e, f, eq-eqb v 0 (omega (arith, ltb-false 0 v f))) (says _ _)
      go false e u f = let k = ltb-false v (2 ^ 64) e in rw (e, lt-ltb 0 v (omega arith), lt-ltb 4096 v (omega arith)) (says _ _)

  pub width_is : (b : ℕ) (w : List ℕ) → Says (C.on_width h (number_of no_number (b ∷ w))) store (D.on_width s (b ∷ w))
  unfolding D.on_width numbered
  width_is b w = rw (number-of (b ∷ w)) (width_of (is_number (b ∷ w)) (value 0 (b ∷ w)))

  -- CODE: a code of the same width and sort
  agrees-is : (i : ℕ) → i < h.codes → C.agrees h store i ≡ D.agrees (declared_of h store) (var_of h) i
  unfolding C.agrees D.agrees
  agrees-is i k =
      rw (get_d_part 1024 h.codes store i k, get_d_part 2048 h.codes store i k)
      (go (eqb (get_or store (1024 + i) 0) h.width) (eqb (get_or store (2048 + i) 0) 2) (eqb h.real 1))
    where
      go : (x y z : Bool) → cond x (cond y z (not z)) false ≡ x && cond z y (not y)
      go false y z = refl
      go true false false = refl
      go true false true = refl
      go true true false = refl
      go true true true = refl

  abbrev coded : ℕ → State
  coded x = with_var s 10 (record { real = s.var.real; width = s.var.width; code = x; misfit = false; range = no_range })

  code-cases : (x : ℕ) (a c k p q : Bool) → (k ≡ true → p ≡ q)
      → Says (cond a (C.at h 110) (cond c (cond k (cond p (C.coded h x) (C.at h 110)) (C.coded h x)) (C.at h 110))) store (cond (a || not c || k && not q) (refuse s 10) (coded x))
  code-cases x true c k p q e = says _ _
  code-cases x false false k p q e = says _ _
  code-cases x false true false p q e = says _ _
  code-cases x false true true p q e = rw (e refl) (go q)
    where
      go : (q : Bool) → Says (cond q (C.coded h x) (C.at h 110)) store (cond (not q) (refuse s 10) (coded x))
      go true = says _ _
      go false = says _ _

  module _ (sound : Sound h store) (w : List ℕ) (g : Bytes w) where
    abbrev x : ℕ
    x = code_of w

    abbrev i : ℕ
    i = D.index_of (part 0 h.codes store) x

    found-is : (y : ℕ) → y ≡ x → C.code_at h y (lookup store (bounded h.codes) y) (bounded h.codes) store
        ≡ cond (ltb i h.codes) (cond (C.agrees h store i) (C.coded h x) (C.at h 110)) (C.coded h x)
    unfolding C.code_at part
    found-is y e = rw (e, lookup-is-index h store sound x, codes-bounded h store sound)

    known_is : D.known (declared_of h store) x ≡ ltb i h.codes
    unfolding part
    known_is = rw (codes-length h store sound)

    pub code_is : Says (C.on_var_code h (text_of no_text w) store) store (D.on_var_code s w)
    unfolding C.on_var_code D.on_var_code
    code_is = rw (text-long w) (go (ltb 8 (length w)) refl)
      where
        go : (l : Bool) → ltb 8 (length w) ≡ l
            → Says (cond l (C.at h 112) (cond (C.is_end (text_of no_text w)) (C.at h 110) (cond (eqb (text_of no_text w).plain 1) (C.code_at h (text_of no_text w).low (lookup store (bounded h.codes) (text_of no_text w).low) (bounded h.codes) store) (C.at h 110)))) store
            (cond l (refuse s 12) (cond (is_end w || not (is_code w) || D.known (declared_of h store) x && not (D.agrees (declared_of h store) (var_of h) i)) (refuse s 10) (coded x)))
        go true e = says _ _
        go false e =
            rw (end_is h store w g, text-plain w, found-is (text_of no_text w).low (text-code w g (ltb-false 8 (length w) e)), known_is)
            (code-cases x (is_end w) (is_code w) (ltb i h.codes) (C.agrees h store i) (D.agrees (declared_of h store) (var_of h) i) (λ k. agrees-is i (ltb-true i h.codes k)))
