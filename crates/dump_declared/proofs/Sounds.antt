-- What holds between two words holds behind the next: `sound-step`. Assumes nothing.
use mathlib.Core.Path.{◌≡◌, refl, ◌∙◌, sym, ap}
use mathlib.Core.Bool.{Bool, true, false, cond}
use mathlib.Core.Logic.{◌⊎◌, inl, inr}
use mathlib.Core.List.{List, [], ◌∷◌, ◌++◌}
use Prim.Native.Nat.{ℕ, suc, ◌+◌, ◌<◌, ◌≤◌}
use native.Mathlib.Omega.{arith}
use native.Mathlib.Numerals.{add-one}
use lib.Dec.{eqb, ltb, leb}
use lib.ListN.{length, get_or, set, take, length-set, get_or-append}
use lib.Seq.{get_or_at}
use borrow.Author.Tests.{eqb-true, ltb-true, ltb-false, leb-true, leb-false, le-leb, lt-leb, ne_eqb}
use Rattle.dump.specs.State.{at_start}
use Rattle.dump.specs.Declarations as D
use Rattle.dump_words.specs.declared.text.Text.{Text}
use Rattle.dump_words.specs.declared.number.Number.{Number}
use Rattle.dump_words.specs.declared.scan.Scan.{Scan}
use Rattle.dump_find.specs.Find.{bounded}
use Rattle.dump_declare.specs.declared.head.Head.{Head}
use Rattle.dump_declare.specs.Declare as C
use Rattle.dump_declared.specs.Declared.{part, state_of, Sound}
use Rattle.dump_declared.proofs.Parts.{getD-first, length_part}
use Rattle.dump_declared.proofs.Lookup.{at-index}
use Rattle.dump_declared.proofs.Trees.{outside, within, if, in-command, in-var}
use Rattle.dump_declared.proofs.Ends.{codes-new, early, head-is, store_is}

module _ (h : Head) (store : List ℕ) (sound : Sound h store) where
  -- a head with the same counts
  same : (x : Head) → x.codes ≡ h.codes → x.vars ≡ h.vars → (7 ≤ x.place → x.place ≤ 12 → h.codes < h.vars) → Sound x store
  same x codes vars f = record {
    long = sound.long;
    few = omega arith;
    most = omega arith;
    inside = λ p q. omega (arith, f p q);
    apart = λ i j p q e. sound.apart i j (omega arith) (omega arith) e;
  }

  out : (x : Head) → x.codes ≡ h.codes → x.vars ≡ h.vars → outside x.place ≡ true → Sound x store
  out x codes vars e = same x codes vars (λ p q. absurd (never p q))
    where
      never : 7 ≤ x.place → x.place ≤ 12 → ⊥
      never p q =
          let z : ◌≡◌ {A = ℕ} 0 1 = cc (rw (lt-leb x.place 6 p, ne_eqb x.place 13 (λ f. omega arith), lt-leb 100 x.place (omega arith)) at e) in
          omega arith

  in-command-sound : (t : Text) → Sound (C.in_command h t) store
  in-command-sound = in-command (λ (x : Head). Sound x store) h out more sound
    where
      -- one `$var` more, and not yet its code
      more : h.vars < 1024 → Sound (C.commanded 7 h.depth (h.vars + 1) h.codes) store
      more k = record { long = sound.long; few = omega arith; most = omega arith; inside = λ p q. omega arith; apart = sound.apart }

  in-var-sound : (t : Text) (n : Number) (s : Scan) → Sound (C.in_var h t n s store) store
  in-var-sound t n s = in-var (λ (x : Head). Sound x store) h store t n s (λ p q x e f g. same x e f (λ u v. sound.inside p q)) sound

  -- THE END OF A VARIABLE. A store of the same length with the same first codes
  same_codes : (x : List ℕ) → length x ≡ 8468 → part 0 h.codes x ≡ part 0 h.codes store → Sound (C.commanded 0 h.depth h.vars h.codes) x
  same_codes x l e = record {
    long = l;
    few = sound.few;
    most = sound.most;
    inside = λ p q. absurd (omega arith);
    apart = λ i j p q f. sound.apart i j p q (sym (was i p) ∙ f ∙ was j q);
  }
    where
      was : (i : ℕ) → i < h.codes → get_or x i 0 ≡ get_or store i 0
      was i p = sym (getD-first 0 h.codes x i p) ∙ ap (λ (l : List ℕ). get_or l i 0) e ∙ getD-first 0 h.codes store i p

  again-sound : (i : ℕ) → i < h.codes → Sound (C.commanded 0 h.depth h.vars h.codes) (C.declare_again h i store)
  unfolding C.declare_again
  again-sound i k = go (eqb (get_or store (2048 + i) 0) 0) (eqb h.ends 0)
    where
      go : (x y : Bool) → Sound (C.commanded 0 h.depth h.vars h.codes) (cond x (cond y store (set (set (set store (2048 + i) 1) (3072 + i) h.left) (4096 + i) h.right)) store)
      go false y = same_codes store sound.long refl
      go true true = same_codes store sound.long refl
      go true false = same_codes _ (simp length-set sound.long) (early h.codes i 1 h.left h.right store (omega arith) k 0 (omega arith))

  -- a code that was not found is none of those before it
  module _ (more : h.codes < h.vars) (new : h.codes ≤ D.index_of (take h.codes store) h.code) where
    abbrev n : ℕ
    n = h.codes

    abbrev grown : List ℕ
    grown = C.declare_new h n store

    grown-long : length grown ≡ 8468
    unfolding C.declare_new
    grown-long = simp length-set sound.long

    codes-are : part 0 (suc n) grown ≡ part 0 n store ++ (h.code ∷ [])
    unfolding C.declare_new
    codes-are = codes-new n _ _ _ _ _ _ _ store (omega arith) sound.long

    before : (i : ℕ) → i < n → get_or grown i 0 ≡ get_or store i 0
    before i k =
        let l : i < length (part 0 n store) = rw (length_part 0 n store (omega arith)) k in
        sym (getD-first 0 (suc n) grown i (omega arith)) ∙ ap (λ (l : List ℕ). get_or l i 0) codes-are ∙ get_or-append (part 0 n store) (h.code ∷ []) 0 i l ∙ getD-first 0 n store i k

    last : get_or grown n 0 ≡ h.code
    last =
        sym (getD-first 0 (suc n) grown n (omega arith)) ∙ ap (λ (l : List ℕ). get_or l n 0) codes-are ∙ get_or_at (part 0 n store) h.code [] 0 n (length_part 0 n store (omega arith))

    other : (i : ℕ) → i < n → get_or store i 0 ≡ h.code → ⊥
    other i k e = omega (arith, at-index h store sound h.code i k e)

    pairwise : (i j : ℕ) → i < suc n → j < suc n → get_or grown i 0 ≡ get_or grown j 0 → i ≡ j
    pairwise i j p q e = go (ltb i n) refl (ltb j n) refl
      where
        go : (x : Bool) → ltb i n ≡ x → (y : Bool) → ltb j n ≡ y → i ≡ j
        go true f true g = let k = ltb-true i n f in let l = ltb-true j n g in sound.apart i j k l (sym (before i k) ∙ e ∙ before j l)
        go true f false g = let k = ltb-true i n f in let l : j ≡ n = omega (arith, ltb-false j n g) in absurd (other i k (sym (before i k) ∙ e ∙ rw l last))
        go false f true g = let k = ltb-true j n g in let l : i ≡ n = omega (arith, ltb-false i n f) in absurd (other j k (sym (before j k) ∙ sym e ∙ rw l last))
        go false f false g = omega (arith, ltb-false i n f, ltb-false j n g)

    new-sound : Sound (C.commanded 0 h.depth h.vars (n + 1)) grown
    new-sound = rw add-one (record { long = grown-long; few = more; most = sound.most; inside = λ p q. absurd (omega arith); apart = pairwise })

  declared-sound : h.codes < h.vars → Sound (C.declared_head h store) (C.declared_store h store)
  declared-sound more = rw (head-is h store sound (omega arith), store_is h store sound (omega arith)) (go (ltb i h.codes) refl)
    where
      i : ℕ
      i = D.index_of (take h.codes store) h.code

      go : (x : Bool) → ltb i h.codes ≡ x → Sound (cond x (C.commanded 0 h.depth h.vars h.codes) (C.commanded 0 h.depth h.vars (h.codes + 1))) (cond x (C.declare_again h i store) (C.declare_new h h.codes store))
      go true e = again-sound i (ltb-true i h.codes e)
      go false e = new-sound more (ltb-false i h.codes e)

  end-sound : (t : Text) → h.codes < h.vars → Sound (C.end_head h t store) (C.end_store h t store)
  unfolding C.end_head C.end_store
  end-sound t more = go (C.is_end t) (eqb h.misfit 0)
    where
      go : (x y : Bool) → Sound (cond x (cond y (C.declared_head h store) (C.at h 110)) (C.at h 110)) (cond x (cond y (C.declared_store h store) store) store)
      go false y = out _ refl refl refl
      go true false = out _ refl refl refl
      go true true = declared-sound more

  ends_more : (s : Scan) → C.ends_var h s ≡ true → h.codes < h.vars
  unfolding C.ends_var
  ends_more s = go (eqb h.place 12) refl (eqb h.place 11) refl
    where
      go : (x : Bool) → eqb h.place 12 ≡ x → (y : Bool) → eqb h.place 11 ≡ y → cond x true (cond y (ltb s.phase 3) false) ≡ true → h.codes < h.vars
      go true e y f g = let k = eqb-true h.place 12 e in sound.inside (omega arith) (omega arith)
      go false e true f g = let k = eqb-true h.place 11 f in sound.inside (omega arith) (omega arith)
      go false e false f g = let z : ◌≡◌ {A = ℕ} 0 1 = cc in absurd (omega arith)

-- ONE WORD, whatever was kept of it
pub sound-step : (h : Head) (store : List ℕ) (t : Text) (n : Number) (s : Scan) → Sound h store → Sound (C.declaration_head h t n s store) (C.declaration_store h t s store)
unfolding C.declaration_head C.declaration_store
sound-step h store t n s sound = go (ltb h.place 7) (C.ends_var h s) refl
  where
    go : (x y : Bool) → C.ends_var h s ≡ y → Sound (cond x (C.in_command h t) (cond y (C.end_head h t store) (C.in_var h t n s store))) (cond x store (cond y (C.end_store h t store) store))
    go true y e = in-command-sound h store sound t
    go false true e = end-sound h store sound t (ends_more h store sound s e)
    go false false e = in-var-sound h store sound t n s

-- AT THE START
pub sound-start : (store : List ℕ) → length store ≡ 8468 → Sound (C.commanded 0 0 0 0) store × (state_of (C.commanded 0 0 0 0) store ≡ at_start)
unfolding part
sound-start store l = (record { long = l; few = omega arith; most = omega arith; inside = λ p q. absurd (omega arith); apart = λ i j p q e. absurd (omega arith) }, refl)

-- THE PLACES of the declarations lead to each other, to the end of `$enddefinitions`, and to refusals
abbrev Stays : Head → Type 0
Stays x = (x.place < 14) ⊎ (100 ≤ x.place)

stays : (x : Head) → (13 < x.place → 100 ≤ x.place) → Stays x
stays x f = go (leb x.place 13) refl
  where
    go : (t : Bool) → leb x.place 13 ≡ t → Stays x
    go true e = inl (omega (arith, leb-true x.place 13 e))
    go false e = inr (f (leb-false x.place 13 e))

out_stays : (x : Head) → outside x.place ≡ true → Stays x
out_stays x e = stays x (λ k. leb-true 100 x.place (rw (lt-leb x.place 6 (omega arith), ne_eqb x.place 13 (λ f. omega arith)) at e))

within-stays : (x : Head) → within x.place ≡ true → Stays x
within-stays x e = stays x (λ k. leb-true 100 x.place (rw (le-leb 8 x.place (omega arith), lt-leb x.place 12 (omega arith)) at e))

end_stays : (h : Head) (t : Text) (store : List ℕ) → Stays (C.end_head h t store)
unfolding C.end_head C.declared_head
end_stays h t store =
    if Stays (C.is_end t)
    (if Stays (eqb h.misfit 0) (if Stays (ltb (C.found_at h store) (bounded h.codes)) (inl (omega arith)) (if Stays (ltb (bounded h.codes) 1024) (inl (omega arith)) (inr (omega arith)))) (inr (omega arith)))
    (inr (omega arith))

pub declared-stays : (h : Head) (store : List ℕ) (t : Text) (n : Number) (s : Scan) → h.place < 13 → ((C.declaration_head h t n s store).place < 14) ⊎ (100 ≤ (C.declaration_head h t n s store).place)
unfolding C.declaration_head
declared-stays h store t n s k =
    if Stays (ltb h.place 7) (in-command Stays h (λ x e f g. out_stays x g) (λ e. inl (omega arith)) (inl (omega arith)) t)
    (if Stays (C.ends_var h s) (end_stays h t store)
    (in-var Stays h store t n s (λ p q x e f g. within-stays x g) (inl (omega arith))))
