-- The words of commands: places 0 to 7. What is kept of the word passes the tests that the word passes, and then both sides are the same cases. Assumes nothing.
use mathlib.Core.Path.{◌≡◌, refl}
use mathlib.Core.Bool.{Bool, true, false, cond, not, ◌&&◌}
use mathlib.Core.List.{List}
use Prim.Native.Nat.{ℕ}
use native.Mathlib.Numerals.{add-one}
use lib.Dec.{eqb, ltb}
use Rattle.dump.specs.Text.{bytes, code_of, same, one_of, is_end}
use Rattle.dump.specs.State.{State, expect}
use Rattle.dump.specs.Declarations as D
use Rattle.dump.specs.Load.{on_comment}
use Rattle.dump_words.specs.declared.text.Text.{Text}
use Rattle.dump_words.specs.Gather.{no_text}
use Rattle.dump_gathered.specs.Gathered.{text_of, Bytes, all_short, all_bytes}
use Rattle.dump_gathered.proofs.Texts.{text-keyword, text-one-of}
use Rattle.dump_declare.specs.declared.head.Head.{Head}
use Rattle.dump_declare.specs.Declare as C
use Rattle.dump_declared.specs.Declared.{state_of}
use Rattle.dump_declared.proofs.Says.{Says, says, by-test, by-same}

module _ (h : Head) (store : List ℕ) where
  abbrev s : State
  s = state_of h store

  opens-is : Says (C.opens h) store (D.opens s)
  unfolding C.opens D.opens
  opens-is = rw add-one (by-same (ltb h.depth 32) (says _ _) (says _ _))

  closes-is : Says (C.closes h) store (D.closes s)
  unfolding C.closes D.closes
  closes-is = by-same (eqb h.depth 0) (says _ _) (says _ _)

  declares-is : Says (C.declares h) store (D.declares s)
  unfolding C.declares D.declares
  declares-is = rw add-one (by-same (ltb h.vars 1024) (says _ _) (says _ _))

  ends-all-is : (t : Bool) → Says (cond t (C.ends_all h) (C.at h 110)) store (expect s (t && eqb h.depth 0) 13)
  unfolding C.ends_all
  ends-all-is true = by-same (eqb h.depth 0) (says _ _) (says _ _)
  ends-all-is false = says _ _

  module _ (w : List ℕ) (g : Bytes w) where
    abbrev t : Text
    t = text_of no_text w

    pub end_is : C.is_end t ≡ is_end w
    unfolding code_of all_bytes
    end_is = text-keyword w (bytes "$end") g refl

    pub command-is : Says (C.on_command h t) store (D.on_command s w)
    unfolding C.on_command D.on_command code_of all_short all_bytes
    command-is =
        by-test (text-one-of D.skipped w g refl) (says _ _)
        (by-test (text-keyword w (bytes "$timescale") g refl) (says _ _)
        (by-test (text-keyword w (bytes "$scope") g refl) opens-is
        (by-test (text-keyword w (bytes "$upscope") g refl) closes-is
        (by-test (text-keyword w (bytes "$var") g refl) declares-is
        (rw (text-keyword w (bytes "$enddefinitions") g refl) (ends-all-is (same w (bytes "$enddefinitions"))))))))

    pub comment-is : Says (C.on_comment h t) store (on_comment s w 0)
    unfolding C.on_comment
    comment-is = by-test end_is (says _ _) (says _ _)

    pub scale-is : Says (C.on_scale h t) store (D.on_scale s w)
    unfolding C.on_scale D.on_scale code_of all_short all_bytes
    scale-is = by-test (text-one-of D.ones w g refl) (says _ _) (by-test (text-one-of D.scales w g refl) (says _ _) (says _ _))

    pub unit-is : Says (C.on_unit h t) store (expect s (one_of D.units w) 4)
    unfolding C.on_unit code_of all_short all_bytes
    unit-is = by-test (text-one-of D.units w g refl) (says _ _) (says _ _)

    pub command-end-is : Says (C.on_command_end h t) store (expect s (is_end w) 0)
    unfolding C.on_command_end
    command-end-is = by-test end_is (says _ _) (says _ _)

    pub scope-type-is : Says (C.on_scope_type h t) store (expect s (one_of D.scope_types w) 6)
    unfolding C.on_scope_type code_of all_short all_bytes
    scope-type-is = by-test (text-one-of D.scope_types w g refl) (says _ _) (says _ _)

    pub scope-name-is : Says (C.on_scope_name h t) store (D.on_scope_name s w)
    unfolding C.on_scope_name D.on_scope_name
    scope-name-is = rw end_is (go (is_end w))
      where
        go : (e : Bool) → Says (cond e (C.at h 110) (C.at h 4)) store (expect s (not e) 4)
        go true = says _ _
        go false = says _ _

    pub var-type-is : Says (C.on_var_type h t) store (D.on_var_type s w)
    unfolding C.on_var_type D.on_var_type code_of all_short all_bytes
    var-type-is = by-test (text-one-of D.bit_types w g refl) (says _ _) (by-test (text-one-of D.real_types w g refl) (says _ _) (says _ _))
