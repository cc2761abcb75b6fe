-- Where a word leads: from a place of the changes to such a place or to a refusal, `changed-stays`; and no place is above 116, `head-low`. Assumes nothing.
use mathlib.Core.Bool.{Bool, true, false, cond}
use mathlib.Core.List.{List}
use Prim.Native.Nat.{ℕ, ◌+◌, ◌/◌, ◌≤◌}
use native.Mathlib.Omega.{arith}
use lib.Dec.{eqb, ltb}
use lib.ListN.{length, get_or}
use Rattle.dump.specs.Changes.{value_of}
use Rattle.dump_words.specs.declared.text.Text.{Text}
use Rattle.dump_words.specs.declared.number.Number.{Number}
use Rattle.dump_words.specs.declared.scan.Scan.{Scan}
use Rattle.dump_words.specs.Gather.{text_is, text_in}
use Rattle.dump_find.specs.Find.{bounded, lookup}
use Rattle.dump_declare.specs.declared.head.Head.{Head}
use Rattle.dump_declare.specs.Declare as D
use Rattle.dump_change.specs.declared.wave.Wave.{Wave}
use Rattle.dump_change.specs.Change as C

if : {A : Type 0} (P : A → Type 0) (t : Bool) {x y : A} → P x → P y → P (cond t x y)
if P true p q = p
if P false p q = q

-- THE DECLARATIONS
abbrev Low : Head → Type 0
Low h = h.place ≤ 116

module _ (h : Head) (low : h.place ≤ 116) (t : Text) (n : Number) (s : Scan) (store : List ℕ) where
  on-command : Low (D.on_command h t)
  unfolding D.on_command D.opens D.closes D.declares D.ends_all
  on-command =
      if Low (text_in t D.skipped) (omega arith)
      (if Low (text_is t 10 7017579523837883428 25964) (omega arith)
      (if Low (text_is t 6 111533579531044 0) (if Low (ltb h.depth 32) (omega arith) (omega arith))
      (if Low (text_is t 8 7309464668151510308 0) (if Low (eqb h.depth 0) (omega arith) (omega arith))
      (if Low (text_is t 4 1918989860 0) (if Low (ltb h.vars 1024) (omega arith) (omega arith))
      (if Low (text_is t 15 7594869303463011620 32491047111387502) (if Low (eqb h.depth 0) (omega arith) (omega arith))
      (omega arith))))))

  in-command : Low (D.in_command h t)
  unfolding D.in_command D.on_comment D.on_scale D.on_unit D.on_command_end D.on_scope_type D.on_scope_name
  in-command =
      if Low (eqb h.place 0) on-command
      (if Low (eqb h.place 1) (if Low (D.is_end t) (omega arith) low)
      (if Low (eqb h.place 2) (if Low (text_in t D.ones) (omega arith) (if Low (text_in t D.scales) (omega arith) (omega arith)))
      (if Low (eqb h.place 3) (if Low (text_in t D.units) (omega arith) (omega arith))
      (if Low (eqb h.place 4) (if Low (D.is_end t) (omega arith) (omega arith))
      (if Low (eqb h.place 5) (if Low (text_in t D.scope_types) (omega arith) (omega arith))
      (if Low (eqb h.place 6) (if Low (D.is_end t) (omega arith) (omega arith))
      low))))))

  on-width : Low (D.on_width h n)
  unfolding D.on_width
  on-width = if Low (eqb n.state 2) (omega arith) (if Low (eqb n.state 1) (if Low (eqb n.value 0) (omega arith) (if Low (ltb 4096 n.value) (omega arith) (omega arith))) (omega arith))

  on-code : Low (D.on_var_code h t store)
  unfolding D.on_var_code D.code_at
  on-code =
      if Low (ltb 8 t.length) (omega arith)
      (if Low (D.is_end t) (omega arith)
      (if Low (eqb t.plain 1) (if Low (ltb (lookup store (bounded h.codes) t.low) (bounded h.codes)) (if Low (D.agrees h store (lookup store (bounded h.codes) t.low)) (omega arith) (omega arith)) (omega arith)) (omega arith)))

  named : (ends : ℕ) (x y : Number) → Low (D.name_with h ends x y)
  unfolding D.name_with
  named ends x y = if Low (D.numbers_fit h.width x y) (omega arith) (omega arith)

  on-name : Low (D.on_var_name h t s)
  unfolding D.on_var_name
  on-name =
      if Low (D.is_end t) (omega arith)
      (if Low (eqb h.real 1) (omega arith)
      (if Low (eqb s.phase 4) (named 1 s.left s.right)
      (if Low (eqb s.phase 3) (if Low (eqb h.width 1) (named 2 s.left s.left) (omega arith)) (omega arith))))

  ranged : (ends : ℕ) (x y : Number) → Low (D.range_with h ends x y)
  unfolding D.range_with
  ranged ends x y = if Low (D.numbers_fit h.width x y) (omega arith) (omega arith)

  in-var : Low (D.in_var h t n s store)
  unfolding D.in_var D.on_var_type D.on_range_word
  in-var =
      if Low (eqb h.place 7) (if Low (text_in t D.bit_types) (omega arith) (if Low (text_in t D.real_types) (omega arith) (omega arith)))
      (if Low (eqb h.place 8) on-width
      (if Low (eqb h.place 9) on-code
      (if Low (eqb h.place 10) on-name
      (if Low (eqb h.place 11) (if Low (eqb s.phase 4) (ranged 1 s.left s.right) (ranged 2 s.left s.left))
      low))))

  on-end : Low (D.end_head h t store)
  unfolding D.end_head D.declared_head
  on-end =
      if Low (D.is_end t)
      (if Low (eqb h.misfit 0) (if Low (ltb (D.found_at h store) (bounded h.codes)) (omega arith) (if Low (ltb (bounded h.codes) 1024) (omega arith) (omega arith))) (omega arith))
      (omega arith)

  pub head-low : (D.declaration_head h t n s store).place ≤ 116
  unfolding D.declaration_head
  head-low = if Low (ltb h.place 7) in-command (if Low (D.ends_var h s) on-end in-var)

-- THE CHANGES
pub data Place (p : ℕ) : Type 0 where
  near : 20 ≤ p → p ≤ 23 → Place p
  far : 100 ≤ p → p ≤ 116 → Place p

abbrev To : Wave → Type 0
To w = Place w.place

ill : Place 110
ill = far (omega arith) (omega arith)

long : Place 112
long = far (omega arith) (omega arith)

again : Place 20
again = near (omega arith) (omega arith)

module _ (w : Wave) (low : 20 ≤ w.place) (high : w.place ≤ 23) (t : Text) (number : Number) (n : ℕ) (store frames : List ℕ) where
  stay : Place w.place
  stay = near low high

  on-scalar : To (C.on_scalar w t n store)
  unfolding C.on_scalar C.scalar_test
  on-scalar =
      if To (ltb t.length 2) ill
      (if To (ltb 9 t.length) long
      (if To (eqb t.plain 1)
      (if To (ltb (lookup store n (C.tail_code t)) n)
      (if To (eqb (get_or store (1024 + lookup store n (C.tail_code t)) 0) 1) (if To (eqb (get_or store (2048 + lookup store n (C.tail_code t)) 0) 2) ill again) ill) ill) ill))

  on-dollar : To (C.on_dollar w t)
  unfolding C.on_dollar C.in_dump
  on-dollar =
      if To (eqb w.dumping 0)
      (if To (text_in t C.dump_words) again (if To (text_is t 8 8389754676499669796 0) (near (omega arith) (omega arith)) ill))
      (if To (C.is_end t) again ill)

  on-real : To (C.on_real w t)
  unfolding C.on_real
  on-real = if To (ltb t.length 2) ill (near (omega arith) (omega arith))

  on-text : To (C.text_wave w t n store)
  unfolding C.text_wave
  on-text =
      if To (ltb (value_of (C.first_byte t)) 3) on-scalar
      (if To (eqb (C.first_byte t) 36) on-dollar
      (if To (eqb (C.first_byte t) 114) on-real
      (if To (eqb (C.first_byte t) 82) on-real
      ill)))

  pub closed-stays : Place (C.closed w store frames).place
  unfolding C.closed
  closed-stays = if To (C.rises w store) (if To (ltb w.frames (length frames / 8)) stay (far (omega arith) (omega arith))) stay

  on-stamp : To (C.on_stamp w number store frames)
  unfolding C.on_stamp C.stamp_wave C.next_wave
  on-stamp =
      if To (eqb w.dumping 0)
      (if To (eqb number.state 1)
      (if To (eqb (C.stamp_order w number.value) 0) (if To (eqb (C.closed w store frames).place 116) closed-stays again)
      (if To (eqb (C.stamp_order w number.value) 1) stay (far (omega arith) (omega arith)))) ill) ill

  on-vector : (count wrong : ℕ) → To (C.on_vector w count wrong)
  unfolding C.on_vector
  on-vector count wrong = if To (eqb count 0) ill (if To (eqb wrong 0) (near (omega arith) (omega arith)) ill)

  on-vector-code : To (C.on_vector_code w t n store)
  unfolding C.on_vector_code C.vector_test
  on-vector-code =
      if To (ltb 8 t.length) long
      (if To (C.is_end t) ill
      (if To (eqb t.plain 1)
      (if To (ltb (lookup store n t.low) n)
      (if To (eqb (get_or store (2048 + lookup store n t.low) 0) 2) ill (if To (ltb (get_or store (1024 + lookup store n t.low) 0) w.count) ill again)) ill) ill))

  on-real-code : To (C.on_real_code w t n store)
  unfolding C.on_real_code C.real_test
  on-real-code =
      if To (ltb 8 t.length) long
      (if To (C.is_end t) ill
      (if To (eqb t.plain 1) (if To (ltb (lookup store n t.low) n) (if To (eqb (get_or store (2048 + lookup store n t.low) 0) 2) again ill) ill) ill))

  on-code-word : To (C.code_wave w t n store)
  unfolding C.code_wave C.on_comment
  on-code-word =
      if To (eqb w.place 21) on-vector-code
      (if To (eqb w.place 22) on-real-code
      (if To (eqb w.place 23) (if To (C.is_end t) again stay) stay))

  pub changed-stays : (class count wrong : ℕ) → Place (C.word_wave w class t number count wrong n store frames).place
  unfolding C.word_wave C.change_wave
  changed-stays class count wrong = if To (eqb w.place 20) (if To (eqb class 2) on-stamp (if To (eqb class 4) (on-vector count wrong) on-text)) on-code-word
