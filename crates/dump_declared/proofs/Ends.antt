-- The end of a variable: place 12, and place 11 where no range is given. A code that is known gets its first range, any other is put behind those known. Assumes nothing.
use mathlib.Core.Path.{◌≡◌, refl, ◌∙◌}
use mathlib.Core.Bool.{Bool, true, false, cond, not, ◌&&◌}
use mathlib.Core.List.{List, [], ◌∷◌, ◌++◌}
use Prim.Native.Nat.{ℕ, suc, ◌+◌, ◌<◌, ◌≤◌}
use native.Mathlib.Omega.{arith}
use native.Mathlib.Numerals.{add-one}
use lib.Dec.{eqb, ltb}
use lib.ListN.{length, get_or, set, take, length-set}
use borrow.Author.Tests.{lt-ltb, eq-eqb, ne_eqb, ltb-true, ltb-false}
use Rattle.dump.specs.Text.{is_end}
use Rattle.dump.specs.State.{State, Declared, refuse, with_declared}
use Rattle.dump.specs.Declarations as D
use Rattle.dump_words.specs.Gather.{no_text}
use Rattle.dump_gathered.specs.Gathered.{text_of, Bytes}
use Rattle.dump_declare.specs.declared.head.Head.{Head}
use Rattle.dump_declare.specs.Declare as C
use Rattle.dump_declared.specs.Declared.{part, state_of, declared_of, var_of, Sound}
use Rattle.dump_declared.proofs.Says.{Says, says}
use Rattle.dump_declared.proofs.Parts.{part-front, part-behind, part-within, part-next, get_d_part}
use Rattle.dump_declared.proofs.Lookup.{codes-length, codes-bounded, lookup-is-index}
use Rattle.dump_declared.proofs.Commands.{end_is}

-- A NEW CODE, as code n: six words are set. Each of the five parts gets one word more, and the others are set in front of it or behind it.
module _ (n a b c d e f p : ℕ) (store : List ℕ) (k : n < 1024) (long : length store ≡ 8468) where
  abbrev one : List ℕ
  one = set store n a

  abbrev two : List ℕ
  two = set one (1024 + n) b

  abbrev three : List ℕ
  three = set two (2048 + n) c

  abbrev four : List ℕ
  four = set three (3072 + n) d

  abbrev six : List ℕ
  six = set (set four (4096 + n) e) (6144 + p) f

  behind : (m i v : ℕ) → m + suc n ≤ i → (l : List ℕ) → part m (suc n) (set l i v) ≡ part m (suc n) l
  behind m i v h l = part-behind m (suc n) l i v h

  front : (m i v : ℕ) → i < m → (l : List ℕ) → part m n (set l i v) ≡ part m n l
  front m i v h l = part-front m n l i v h

  next : (m v : ℕ) (l : List ℕ) → m ≤ 4096 → length l ≡ 8468 → part m (suc n) (set l (m + n) v) ≡ part m n l ++ (v ∷ [])
  next m v l h g = part-next m n l (m + n) v refl (omega arith)

  pub codes-new : part 0 (suc n) six ≡ part 0 n store ++ (a ∷ [])
  codes-new =
      rw (behind 0 (6144 + p) f (omega arith), behind 0 (4096 + n) e (omega arith), behind 0 (3072 + n) d (omega arith), behind 0 (2048 + n) c (omega arith), behind 0 (1024 + n) b (omega arith))
      (part-next 0 n store n a (omega arith) (omega arith))

  widths-new : part 1024 (suc n) six ≡ part 1024 n store ++ (b ∷ [])
  widths-new =
      rw (behind 1024 (6144 + p) f (omega arith), behind 1024 (4096 + n) e (omega arith), behind 1024 (3072 + n) d (omega arith), behind 1024 (2048 + n) c (omega arith))
      (next 1024 b one (omega arith) (simp length-set long) ∙ rw (front 1024 n a (omega arith)))

  sorts-new : part 2048 (suc n) six ≡ part 2048 n store ++ (c ∷ [])
  sorts-new =
      rw (behind 2048 (6144 + p) f (omega arith), behind 2048 (4096 + n) e (omega arith), behind 2048 (3072 + n) d (omega arith))
      (next 2048 c two (omega arith) (simp length-set long) ∙ rw (front 2048 (1024 + n) b (omega arith), front 2048 n a (omega arith)))

  lefts-new : part 3072 (suc n) six ≡ part 3072 n store ++ (d ∷ [])
  lefts-new =
      rw (behind 3072 (6144 + p) f (omega arith), behind 3072 (4096 + n) e (omega arith))
      (next 3072 d three (omega arith) (simp length-set long) ∙ rw (front 3072 (2048 + n) c (omega arith), front 3072 (1024 + n) b (omega arith), front 3072 n a (omega arith)))

  rights-new : part 4096 (suc n) six ≡ part 4096 n store ++ (e ∷ [])
  rights-new =
      rw (behind 4096 (6144 + p) f (omega arith))
      (next 4096 e four (omega arith) (simp length-set long) ∙ rw (front 4096 (3072 + n) d (omega arith), front 4096 (2048 + n) c (omega arith), front 4096 (1024 + n) b (omega arith), front 4096 n a (omega arith)))

-- AN ALIAS of code i, with the first range: three words are set
module _ (n i c d e : ℕ) (store : List ℕ) (k : n ≤ 1024) (j : i < n) where
  abbrev three-set : List ℕ
  three-set = set (set (set store (2048 + i) c) (3072 + i) d) (4096 + i) e

  pub early : (m : ℕ) → m ≤ 1024 → part m n three-set ≡ part m n store
  early m h = rw (part-behind m n _ (4096 + i) e (omega arith), part-behind m n _ (3072 + i) d (omega arith), part-behind m n _ (2048 + i) c (omega arith))

  sorts-set : part 2048 n three-set ≡ set (part 2048 n store) i c
  sorts-set = rw (part-behind 2048 n _ (4096 + i) e (omega arith), part-behind 2048 n _ (3072 + i) d (omega arith)) (part-within 2048 n store (2048 + i) i c refl j)

  lefts-set : part 3072 n three-set ≡ set (part 3072 n store) i d
  lefts-set = rw (part-behind 3072 n _ (4096 + i) e (omega arith), part-within 3072 n _ (3072 + i) i d refl j, part-front 3072 n _ (2048 + i) c (omega arith))

  rights-set : part 4096 n three-set ≡ set (part 4096 n store) i e
  rights-set = rw (part-within 4096 n _ (4096 + i) i e refl j, part-front 4096 n _ (3072 + i) d (omega arith), part-front 4096 n _ (2048 + i) c (omega arith))

module _ (h : Head) (store : List ℕ) (sound : Sound h store) where
  abbrev s : State
  s = state_of h store

  abbrev n : ℕ
  n = h.codes

  abbrev declaring : List ℕ → List ℕ → List ℕ → List ℕ → List ℕ → Declared
  declaring codes widths sorts lefts rights = record { depth = h.depth; vars = h.vars; codes = codes; widths = widths; sorts = sorts; lefts = lefts; rights = rights }

  new_is : n < 1024 → Says (C.commanded 0 h.depth h.vars (n + 1)) (C.declare_new h n store) (with_declared s 0 (D.declare_new (declared_of h store) (var_of h)))
  unfolding C.declare_new D.declare_new C.sort_of C.left_of C.right_of
  new_is k =
      rw add-one (record { same = rw (codes-new n _ _ _ _ _ _ _ store k sound.long, widths-new n _ _ _ _ _ _ _ store k sound.long, sorts-new n _ _ _ _ _ _ _ store k sound.long, lefts-new n _ _ _ _ _ _ _ store k sound.long, rights-new n _ _ _ _ _ _ _ store k sound.long) })

  again-is : (i : ℕ) → i < n → Says (C.commanded 0 h.depth h.vars n) (C.declare_again h i store) (with_declared s 0 (D.declare_again (declared_of h store) (var_of h) i))
  unfolding C.declare_again D.declare_again
  again-is i j = rw (get_d_part 2048 n store i j) (go (eqb (get_or store (2048 + i) 0) 0) (ltb 0 h.ends) refl)
    where
      go : (x y : Bool) → ltb 0 h.ends ≡ y
          → Says (C.commanded 0 h.depth h.vars n) (cond x (cond (eqb h.ends 0) store (three-set n i 1 h.left h.right store (omega arith) j)) store)
          (with_declared s 0 (cond (x && ltb 0 h.ends) (declaring (part 0 n store) (part 1024 n store) (set (part 2048 n store) i 1) (set (part 3072 n store) i h.left) (set (part 4096 n store) i h.right)) (declared_of h store)))
      go false y e = says _ _
      go true false e = rw (e, eq-eqb h.ends 0 (omega (arith, ltb-false 0 h.ends e))) (says _ _)
      go true true e =
          let l : n ≤ 1024 = omega arith in
          let z : (h.ends ≡ 0 → ⊥) = λ z. omega (arith, ltb-true 0 h.ends e) in
          rw (e, ne_eqb h.ends 0 z)
          (record { same = rw (early n i _ _ _ store l j 0 (omega arith), early n i _ _ _ store l j 1024 (omega arith), sorts-set n i _ _ _ store l j, lefts-set n i _ _ _ store l j, rights-set n i _ _ _ store l j) })

  -- In `$var` there is room for one more code.
  module _ (room : n < 1024) where
    abbrev found : ℕ
    found = D.index_of (take n store) h.code

    pub head-is : C.declared_head h store ≡ cond (ltb found n) (C.commanded 0 h.depth h.vars n) (C.commanded 0 h.depth h.vars (n + 1))
    unfolding C.declared_head C.found_at
    head-is = rw (lookup-is-index h store sound h.code, codes-bounded h store sound, lt-ltb n 1024 room)

    pub store_is : C.declared_store h store ≡ cond (ltb found n) (C.declare_again h found store) (C.declare_new h n store)
    unfolding C.declared_store C.found_at
    store_is = rw (lookup-is-index h store sound h.code, codes-bounded h store sound, lt-ltb n 1024 room)

    declare-is : Says (C.declared_head h store) (C.declared_store h store) (with_declared s 0 (D.declare (declared_of h store) (var_of h)))
    unfolding D.declare part
    declare-is = rw (head-is, store_is, codes-length h store sound) (go (ltb found n) refl)
      where
        go : (t : Bool) → ltb found n ≡ t
            → Says (cond t (C.commanded 0 h.depth h.vars n) (C.commanded 0 h.depth h.vars (n + 1))) (cond t (C.declare_again h found store) (C.declare_new h n store))
            (with_declared s 0 (cond t (D.declare_again (declared_of h store) (var_of h) found) (D.declare_new (declared_of h store) (var_of h))))
        go true e = again-is found (ltb-true found n e)
        go false e = new_is room

    pub var-end-is : (w : List ℕ) → Bytes w → Says (C.end_head h (text_of no_text w) store) (C.end_store h (text_of no_text w) store) (D.on_var_end s w)
    unfolding C.end_head C.end_store D.on_var_end
    var-end-is w g = rw (end_is h store w g) (go (is_end w) (eqb h.misfit 0))
      where
        go : (x y : Bool) → Says (cond x (cond y (C.declared_head h store) (C.at h 110)) (C.at h 110)) (cond x (cond y (C.declared_store h store) store) store)
            (cond (x && not (not y)) (with_declared s 0 (D.declare (declared_of h store) (var_of h))) (refuse s 10))
        go false y = says _ _
        go true false = says _ _
        go true true = declare-is
