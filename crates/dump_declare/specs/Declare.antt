-- One word of the declarations, on what is kept of it and of those before. Assumes nothing.
use Rattle.std.specs.Prelude.{Bool, true, false, cond, not, List, [], ◌∷◌, ℕ, suc, ◌+◌, ◌-◌, eqb, ltb, get_or, set}
use Rattle.dump.specs.Ranges.{distance}
use Rattle.dump_words.specs.declared.text.Text.{Text}
use Rattle.dump_words.specs.declared.number.Number.{Number}
use Rattle.dump_words.specs.declared.scan.Scan.{Scan}
use Rattle.dump_words.specs.Gather.{text_is, text_in}
use Rattle.dump_find.specs.Find.{slot, bounded, lookup}
use Rattle.dump_declare.specs.declared.head.Head.{Head}

abbrev pub at : Head → ℕ → Head
at h place = record { place = place; depth = h.depth; vars = h.vars; codes = h.codes; real = h.real; width = h.width; code = h.code; misfit = h.misfit; ends = h.ends; left = h.left; right = h.right }

abbrev pub commanded : ℕ → ℕ → ℕ → ℕ → Head
commanded place depth vars codes = record { place = place; depth = depth; vars = vars; codes = codes; real = 0; width = 0; code = 0; misfit = 0; ends = 0; left = 0; right = 0 }

abbrev pub named : Head → ℕ → ℕ → ℕ → ℕ → ℕ → Head
named h place misfit ends left right = record { place = place; depth = h.depth; vars = h.vars; codes = h.codes; real = h.real; width = h.width; code = h.code; misfit = misfit; ends = ends; left = left; right = right }

-- COMMANDS
unfoldable pub opens : Head → Head
opens h = cond (ltb h.depth 32) (commanded 5 (h.depth + 1) h.vars h.codes) (at h 111)

unfoldable pub closes : Head → Head
closes h = cond (eqb h.depth 0) (at h 110) (commanded 4 (h.depth - 1) h.vars h.codes)

unfoldable pub declares : Head → Head
declares h = cond (ltb h.vars 1024) (commanded 7 h.depth (h.vars + 1) h.codes) (at h 112)

unfoldable pub ends_all : Head → Head
ends_all h = cond (eqb h.depth 0) (at h 13) (at h 110)

-- $comment $date $version
abbrev pub skipped : List ℕ
skipped = 8 ∷ 8389754676499669796 ∷ 0 ∷ 5 ∷ 435744236580 ∷ 0 ∷ 8 ∷ 7957695011148363300 ∷ 0 ∷ []

-- $end
abbrev pub is_end : Text → Bool
is_end t = text_is t 4 1684956452 0

unfoldable pub on_command : Head → Text → Head
on_command h t =
    cond (text_in t skipped) (at h 1)
    (cond (text_is t 10 7017579523837883428 25964) (at h 2)
    (cond (text_is t 6 111533579531044 0) (opens h)
    (cond (text_is t 8 7309464668151510308 0) (closes h)
    (cond (text_is t 4 1918989860 0) (declares h)
    (cond (text_is t 15 7594869303463011620 32491047111387502) (ends_all h)
    (at h 110))))))

unfoldable pub on_comment : Head → Text → Head
on_comment h t = cond (is_end t) (at h 0) h

-- 1 10 100
abbrev pub ones : List ℕ
ones = 1 ∷ 49 ∷ 0 ∷ 2 ∷ 12337 ∷ 0 ∷ 3 ∷ 3158065 ∷ 0 ∷ []

-- 1s 1ms 1us 1ns 1ps 1fs 10s 10ms 10us 10ns 10ps 10fs 100s 100ms 100us 100ns 100ps 100fs
abbrev pub scales : List ℕ
scales = 2 ∷ 29489 ∷ 0 ∷ 3 ∷ 7564593 ∷ 0 ∷ 3 ∷ 7566641 ∷ 0 ∷ 3 ∷ 7564849 ∷ 0 ∷ 3 ∷ 7565361 ∷ 0 ∷ 3 ∷ 7562801 ∷ 0 ∷ 3 ∷ 7548977 ∷ 0 ∷ 4 ∷ 1936535601 ∷ 0 ∷ 4 ∷ 1937059889 ∷ 0 ∷ 4 ∷ 1936601137 ∷ 0 ∷ 4 ∷ 1936732209 ∷ 0 ∷ 4 ∷ 1936076849 ∷ 0 ∷ 4 ∷ 1932537905 ∷ 0 ∷ 5 ∷ 495753113649 ∷ 0 ∷ 5 ∷ 495887331377 ∷ 0 ∷ 5 ∷ 495769890865 ∷ 0 ∷ 5 ∷ 495803445297 ∷ 0 ∷ 5 ∷ 495635673137 ∷ 0 ∷ []

unfoldable pub on_scale : Head → Text → Head
on_scale h t = cond (text_in t ones) (at h 3) (cond (text_in t scales) (at h 4) (at h 110))

-- s ms us ns ps fs
abbrev pub units : List ℕ
units = 1 ∷ 115 ∷ 0 ∷ 2 ∷ 29549 ∷ 0 ∷ 2 ∷ 29557 ∷ 0 ∷ 2 ∷ 29550 ∷ 0 ∷ 2 ∷ 29552 ∷ 0 ∷ 2 ∷ 29542 ∷ 0 ∷ []

unfoldable pub on_unit : Head → Text → Head
on_unit h t = cond (text_in t units) (at h 4) (at h 110)

unfoldable pub on_command_end : Head → Text → Head
on_command_end h t = cond (is_end t) (at h 0) (at h 110)

-- begin fork function module task
abbrev pub scope_types : List ℕ
scope_types = 5 ∷ 474214786402 ∷ 0 ∷ 4 ∷ 1802661734 ∷ 0 ∷ 8 ∷ 7957695015192261990 ∷ 0 ∷ 6 ∷ 111516500389741 ∷ 0 ∷ 4 ∷ 1802723700 ∷ 0 ∷ []

unfoldable pub on_scope_type : Head → Text → Head
on_scope_type h t = cond (text_in t scope_types) (at h 6) (at h 110)

unfoldable pub on_scope_name : Head → Text → Head
on_scope_name h t = cond (is_end t) (at h 110) (at h 4)

-- THE WORDS OF A VARIABLE
-- event integer parameter reg supply0 supply1 time tri triand trior trireg tri0 tri1 wand wire wor
abbrev pub bit_types : List ℕ
bit_types = 5 ∷ 500068349541 ∷ 0 ∷ 7 ∷ 32199642103180905 ∷ 0 ∷ 9 ∷ 7310579615589884272 ∷ 114 ∷ 3 ∷ 6776178 ∷ 0 ∷ 7 ∷ 13644305531958643 ∷ 0 ∷ 7 ∷ 13925780508669299 ∷ 0 ∷ 4 ∷ 1701669236 ∷ 0 ∷ 3 ∷ 6910580 ∷ 0 ∷ 6 ∷ 110425243480692 ∷ 0 ∷ 5 ∷ 491495453300 ∷ 0 ∷ 6 ∷ 113685408871028 ∷ 0 ∷ 4 ∷ 812216948 ∷ 0 ∷ 4 ∷ 828994164 ∷ 0 ∷ 4 ∷ 1684955511 ∷ 0 ∷ 4 ∷ 1701996919 ∷ 0 ∷ 3 ∷ 7499639 ∷ 0 ∷ []

-- real realtime
abbrev pub real_types : List ℕ
real_types = 4 ∷ 1818322290 ∷ 0 ∷ 8 ∷ 7308613719047628146 ∷ 0 ∷ []

abbrev pub typed : Head → ℕ → Head
typed h real = record { place = 8; depth = h.depth; vars = h.vars; codes = h.codes; real = real; width = 0; code = 0; misfit = 0; ends = 0; left = 0; right = 0 }

unfoldable pub on_var_type : Head → Text → Head
on_var_type h t = cond (text_in t bit_types) (typed h 0) (cond (text_in t real_types) (typed h 1) (at h 110))

abbrev pub sized : Head → ℕ → Head
sized h width = record { place = 9; depth = h.depth; vars = h.vars; codes = h.codes; real = h.real; width = width; code = 0; misfit = 0; ends = 0; left = 0; right = 0 }

unfoldable pub on_width : Head → Number → Head
on_width h n =
    cond (eqb n.state 2) (at h 112)
    (cond (eqb n.state 1) (cond (eqb n.value 0) (at h 110) (cond (ltb 4096 n.value) (at h 112) (sized h n.value))) (at h 110))

abbrev pub coded : Head → ℕ → Head
coded h code = record { place = 10; depth = h.depth; vars = h.vars; codes = h.codes; real = h.real; width = h.width; code = code; misfit = 0; ends = 0; left = 0; right = 0 }

unfoldable pub agrees : Head → List ℕ → ℕ → Bool
agrees h store i = cond (eqb (get_or store (1024 + i) 0) h.width) (cond (eqb (get_or store (2048 + i) 0) 2) (eqb h.real 1) (not (eqb h.real 1))) false

unfoldable pub code_at : Head → ℕ → ℕ → ℕ → List ℕ → Head
code_at h x i n store = cond (ltb i n) (cond (agrees h store i) (coded h x) (at h 110)) (coded h x)

unfoldable pub on_var_code : Head → Text → List ℕ → Head
on_var_code h t store =
    cond (ltb 8 t.length) (at h 112)
    (cond (is_end t) (at h 110)
    (cond (eqb t.plain 1) (code_at h t.low (lookup store (bounded h.codes) t.low) (bounded h.codes) store) (at h 110)))

-- RANGES
unfoldable pub range_fits : ℕ → ℕ → ℕ → Bool
range_fits width left right = eqb (suc (distance left right)) width

unfoldable pub numbers_fit : ℕ → Number → Number → Bool
numbers_fit width left right = cond (eqb left.state 1) (cond (eqb right.state 1) (range_fits width left.value right.value) false) false

unfoldable pub name_with : Head → ℕ → Number → Number → Head
name_with h ends left right = cond (numbers_fit h.width left right) (named h 11 0 ends left.value right.value) (named h 11 1 0 0 0)

unfoldable pub on_var_name : Head → Text → Scan → Head
on_var_name h t s =
    cond (is_end t) (at h 110)
    (cond (eqb h.real 1) (named h 11 0 0 0 0)
    (cond (eqb s.phase 4) (name_with h 1 s.left s.right)
    (cond (eqb s.phase 3) (cond (eqb h.width 1) (name_with h 2 s.left s.left) (named h 11 0 0 0 0)) (named h 11 0 0 0 0))))

unfoldable pub range_with : Head → ℕ → Number → Number → Head
range_with h ends left right = cond (numbers_fit h.width left right) (named h 12 0 ends left.value right.value) (at h 110)

unfoldable pub on_range_word : Head → Scan → Head
on_range_word h s = cond (eqb s.phase 4) (range_with h 1 s.left s.right) (range_with h 2 s.left s.left)

-- THE END OF A VARIABLE
unfoldable pub sort_of : Head → ℕ
sort_of h = cond (eqb h.real 1) 2 (cond (ltb 0 h.ends) 1 0)

unfoldable pub left_of : Head → ℕ
left_of h = cond (ltb 0 h.ends) h.left (h.width - 1)

unfoldable pub right_of : Head → ℕ
right_of h = cond (ltb 0 h.ends) h.right 0

unfoldable pub declare_again : Head → ℕ → List ℕ → List ℕ
declare_again h i store = cond (eqb (get_or store (2048 + i) 0) 0) (cond (eqb h.ends 0) store (set (set (set store (2048 + i) 1) (3072 + i) h.left) (4096 + i) h.right)) store

unfoldable pub declare_new : Head → ℕ → List ℕ → List ℕ
declare_new h n store = set (set (set (set (set (set store n h.code) (1024 + n) h.width) (2048 + n) (sort_of h)) (3072 + n) (left_of h)) (4096 + n) (right_of h)) (6144 + slot h.code) n

unfoldable pub found_at : Head → List ℕ → ℕ
found_at h store = lookup store (bounded h.codes) h.code

unfoldable pub declared_head : Head → List ℕ → Head
declared_head h store =
    cond (ltb (found_at h store) (bounded h.codes)) (commanded 0 h.depth h.vars h.codes)
    (cond (ltb (bounded h.codes) 1024) (commanded 0 h.depth h.vars (bounded h.codes + 1)) (at h 112))

unfoldable pub declared_store : Head → List ℕ → List ℕ
declared_store h store =
    cond (ltb (found_at h store) (bounded h.codes)) (declare_again h (found_at h store) store)
    (cond (ltb (bounded h.codes) 1024) (declare_new h (bounded h.codes) store) store)

unfoldable pub end_head : Head → Text → List ℕ → Head
end_head h t store = cond (is_end t) (cond (eqb h.misfit 0) (declared_head h store) (at h 110)) (at h 110)

unfoldable pub end_store : Head → Text → List ℕ → List ℕ
end_store h t store = cond (is_end t) (cond (eqb h.misfit 0) (declared_store h store) store) store

-- ONE WORD, by the word that is due
unfoldable pub in_command : Head → Text → Head
in_command h t =
    cond (eqb h.place 0) (on_command h t)
    (cond (eqb h.place 1) (on_comment h t)
    (cond (eqb h.place 2) (on_scale h t)
    (cond (eqb h.place 3) (on_unit h t)
    (cond (eqb h.place 4) (on_command_end h t)
    (cond (eqb h.place 5) (on_scope_type h t)
    (cond (eqb h.place 6) (on_scope_name h t)
    h))))))

unfoldable pub in_var : Head → Text → Number → Scan → List ℕ → Head
in_var h t n s store =
    cond (eqb h.place 7) (on_var_type h t)
    (cond (eqb h.place 8) (on_width h n)
    (cond (eqb h.place 9) (on_var_code h t store)
    (cond (eqb h.place 10) (on_var_name h t s)
    (cond (eqb h.place 11) (on_range_word h s)
    h))))

-- whether the word would be the end of a variable
unfoldable pub ends_var : Head → Scan → Bool
ends_var h s = cond (eqb h.place 12) true (cond (eqb h.place 11) (ltb s.phase 3) false)

unfoldable pub declaration_head : Head → Text → Number → Scan → List ℕ → Head
declaration_head h t n s store = cond (ltb h.place 7) (in_command h t) (cond (ends_var h s) (end_head h t store) (in_var h t n s store))

unfoldable pub declaration_store : Head → Text → Scan → List ℕ → List ℕ
declaration_store h t s store = cond (ltb h.place 7) store (cond (ends_var h s) (end_store h t store) store)
