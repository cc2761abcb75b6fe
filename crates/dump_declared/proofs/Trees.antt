-- The heads that a word of the declarations can lead to: a property of heads holds behind the word if it holds of each. Assumes nothing.
use mathlib.Core.Path.{◌≡◌, refl}
use mathlib.Core.Bool.{Bool, true, false, cond, ◌&&◌, ◌||◌}
use mathlib.Core.List.{List}
use Prim.Native.Nat.{ℕ, ◌+◌, ◌<◌, ◌≤◌}
use native.Mathlib.Omega.{arith}
use lib.Dec.{eqb, ltb, leb}
use borrow.Author.Tests.{ltb-true, eqb-true}
use Rattle.dump_words.specs.declared.text.Text.{Text}
use Rattle.dump_words.specs.declared.number.Number.{Number}
use Rattle.dump_words.specs.declared.scan.Scan.{Scan}
use Rattle.dump_words.specs.Gather.{text_is, text_in}
use Rattle.dump_declare.specs.declared.head.Head.{Head}
use Rattle.dump_declare.specs.Declare as C

-- the places outside of `$var`, and in it
abbrev pub outside : ℕ → Bool
outside p = leb p 6 || eqb p 13 || leb 100 p

abbrev pub within : ℕ → Bool
within p = leb 8 p && leb p 12 || leb 100 p

module _ (P : Head → Type 0) where
  by_cases : {x y : Head} (t : Bool) → (t ≡ true → P x) → P y → P (cond t x y)
  by_cases true f y = f refl
  by_cases false f y = y

  pub if : {x y : Head} (t : Bool) → P x → P y → P (cond t x y)
  if t x y = by_cases t (λ e. x) y

  -- COMMANDS: the counts stay, but for one more `$var`
  module _ (h : Head) (go : (x : Head) → x.codes ≡ h.codes → x.vars ≡ h.vars → outside x.place ≡ true → P x)
      (var : h.vars < 1024 → P (C.commanded 7 h.depth (h.vars + 1) h.codes)) (stay : P h) (t : Text) where
    to : (p : ℕ) → outside p ≡ true → P (C.at h p)
    to p e = go (C.at h p) refl refl e

    on-command : P (C.on_command h t)
    unfolding C.on_command C.opens C.closes C.declares C.ends_all
    on-command =
        if (text_in t C.skipped) (to 1 refl)
        (if (text_is t 10 7017579523837883428 25964) (to 2 refl)
        (if (text_is t 6 111533579531044 0) (if (ltb h.depth 32) (go _ refl refl refl) (to 111 refl))
        (if (text_is t 8 7309464668151510308 0) (if (eqb h.depth 0) (to 110 refl) (go _ refl refl refl))
        (if (text_is t 4 1918989860 0) (by_cases (ltb h.vars 1024) (λ e. var (ltb-true h.vars 1024 e)) (to 112 refl))
        (if (text_is t 15 7594869303463011620 32491047111387502) (if (eqb h.depth 0) (to 13 refl) (to 110 refl))
        (to 110 refl))))))

    pub in-command : P (C.in_command h t)
    unfolding C.in_command C.on_comment C.on_scale C.on_unit C.on_command_end C.on_scope_type C.on_scope_name
    in-command =
        if (eqb h.place 0) on-command
        (if (eqb h.place 1) (if (C.is_end t) (to 0 refl) stay)
        (if (eqb h.place 2) (if (text_in t C.ones) (to 3 refl) (if (text_in t C.scales) (to 4 refl) (to 110 refl)))
        (if (eqb h.place 3) (if (text_in t C.units) (to 4 refl) (to 110 refl))
        (if (eqb h.place 4) (if (C.is_end t) (to 0 refl) (to 110 refl))
        (if (eqb h.place 5) (if (text_in t C.scope_types) (to 6 refl) (to 110 refl))
        (if (eqb h.place 6) (if (C.is_end t) (to 110 refl) (to 4 refl))
        stay))))))

  -- WITHIN `$var`: the counts stay
  module _ (h : Head) (store : List ℕ) (t : Text) (n : Number) (s : Scan) where
    module _ (go : (x : Head) → x.codes ≡ h.codes → x.vars ≡ h.vars → within x.place ≡ true → P x) where
      on-type : P (C.on_var_type h t)
      unfolding C.on_var_type
      on-type = if (text_in t C.bit_types) (go _ refl refl refl) (if (text_in t C.real_types) (go _ refl refl refl) (go _ refl refl refl))

      on-width : P (C.on_width h n)
      unfolding C.on_width
      on-width =
          if (eqb n.state 2) (go _ refl refl refl)
          (if (eqb n.state 1) (if (eqb n.value 0) (go _ refl refl refl) (if (ltb 4096 n.value) (go _ refl refl refl) (go _ refl refl refl)))
          (go _ refl refl refl))

      code_at : (x i m : ℕ) → P (C.code_at h x i m store)
      unfolding C.code_at
      code_at x i m = if (ltb i m) (if (C.agrees h store i) (go _ refl refl refl) (go _ refl refl refl)) (go _ refl refl refl)

      on-code : P (C.on_var_code h t store)
      unfolding C.on_var_code
      on-code = if (ltb 8 t.length) (go _ refl refl refl) (if (C.is_end t) (go _ refl refl refl) (if (eqb t.plain 1) (code_at _ _ _) (go _ refl refl refl)))

      name-with : (k : ℕ) (l r : Number) → P (C.name_with h k l r)
      unfolding C.name_with
      name-with k l r = if (C.numbers_fit h.width l r) (go _ refl refl refl) (go _ refl refl refl)

      on-name : P (C.on_var_name h t s)
      unfolding C.on_var_name
      on-name =
          if (C.is_end t) (go _ refl refl refl)
          (if (eqb h.real 1) (go _ refl refl refl)
          (if (eqb s.phase 4) (name-with 1 s.left s.right)
          (if (eqb s.phase 3) (if (eqb h.width 1) (name-with 2 s.left s.left) (go _ refl refl refl))
          (go _ refl refl refl))))

      range-with : (k : ℕ) (l r : Number) → P (C.range_with h k l r)
      unfolding C.range_with
      range-with k l r = if (C.numbers_fit h.width l r) (go _ refl refl refl) (go _ refl refl refl)

      on-range : P (C.on_range_word h s)
      unfolding C.on_range_word
      on-range = if (eqb s.phase 4) (range-with 1 s.left s.right) (range-with 2 s.left s.left)

    pub in-var : (7 ≤ h.place → h.place ≤ 12 → (x : Head) → x.codes ≡ h.codes → x.vars ≡ h.vars → within x.place ≡ true → P x) → P h → P (C.in_var h t n s store)
    unfolding C.in_var
    in-var go stay =
        by_cases (eqb h.place 7) (λ e. on-type (due 7 (omega arith) (omega arith) e))
        (by_cases (eqb h.place 8) (λ e. on-width (due 8 (omega arith) (omega arith) e))
        (by_cases (eqb h.place 9) (λ e. on-code (due 9 (omega arith) (omega arith) e))
        (by_cases (eqb h.place 10) (λ e. on-name (due 10 (omega arith) (omega arith) e))
        (by_cases (eqb h.place 11) (λ e. on-range (due 11 (omega arith) (omega arith) e))
        stay))))
      where
        due : (k : ℕ) → 7 ≤ k → k ≤ 12 → eqb h.place k ≡ true → (x : Head) → x.codes ≡ h.codes → x.vars ≡ h.vars → within x.place ≡ true → P x
        due k p q e = let f = eqb-true h.place k e in go (omega arith) (omega arith)
