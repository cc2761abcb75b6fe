-- The declarations of a dump, word by word, from document 02, §1: for each word that is due, which words may stand there, and the refusals that it shows. Assumes nothing.
use Rattle.std.specs.Prelude.{Bool, true, false, cond, not, ◌&&◌, ◌||◌, List, [], ◌∷◌, ◌++◌, ℕ, suc, ◌+◌, ◌-◌, ◌/◌, eqb, ltb, length, get_or, set}
use Rattle.dump.specs.Text.{bytes, same, one_of, is_end, is_number, value, is_code, code_of}
use Rattle.dump.specs.Ranges.{Range, no_range, given, bracket, name_range, fits}
use Rattle.dump.specs.State.{Declared, Var, State, goto, refuse, expect, with_var, with_declared, command, comment, scale, unit, command_end, scope_type, scope_name, var_type, width, var_code, var_name, range, var_end, last_end}

-- "`$comment`, `$date`, `$version`: any words other than `$end`"
abbrev pub skipped : List (List ℕ)
skipped = bytes "$comment" ∷ bytes "$date" ∷ bytes "$version" ∷ []

-- "`1`, `10` or `100`, then `s`, `ms`, `us`, `ns`, `ps` or `fs`; in one word or in two"
abbrev pub ones : List (List ℕ)
ones = bytes "1" ∷ bytes "10" ∷ bytes "100" ∷ []

abbrev pub units : List (List ℕ)
units = bytes "s" ∷ bytes "ms" ∷ bytes "us" ∷ bytes "ns" ∷ bytes "ps" ∷ bytes "fs" ∷ []

abbrev pub scales : List (List ℕ)
scales =
    bytes "1s" ∷
    bytes "1ms" ∷
    bytes "1us" ∷
    bytes "1ns" ∷
    bytes "1ps" ∷
    bytes "1fs" ∷
    bytes "10s" ∷
    bytes "10ms" ∷
    bytes "10us" ∷
    bytes "10ns" ∷
    bytes "10ps" ∷
    bytes "10fs" ∷
    bytes "100s" ∷
    bytes "100ms" ∷
    bytes "100us" ∷
    bytes "100ns" ∷
    bytes "100ps" ∷
    bytes "100fs" ∷
    []

-- "a type (`begin`, `fork`, `function`, `module`, `task`)"
abbrev pub scope_types : List (List ℕ)
scope_types = bytes "begin" ∷ bytes "fork" ∷ bytes "function" ∷ bytes "module" ∷ bytes "task" ∷ []

-- "`real` and `realtime` are reals, all others bits."
abbrev pub bit_types : List (List ℕ)
bit_types =
    bytes "event" ∷
    bytes "integer" ∷
    bytes "parameter" ∷
    bytes "reg" ∷
    bytes "supply0" ∷
    bytes "supply1" ∷
    bytes "time" ∷
    bytes "tri" ∷
    bytes "triand" ∷
    bytes "trior" ∷
    bytes "trireg" ∷
    bytes "tri0" ∷
    bytes "tri1" ∷
    bytes "wand" ∷
    bytes "wire" ∷
    bytes "wor" ∷
    []

abbrev pub real_types : List (List ℕ)
real_types = bytes "real" ∷ bytes "realtime" ∷ []

abbrev pub counted : Declared → ℕ → ℕ → Declared
counted d depth vars = record { depth = depth; vars = vars; codes = d.codes; widths = d.widths; sorts = d.sorts; lefts = d.lefts; rights = d.rights }

-- "11 a scope that would be the 33rd open one: `$scope`"
unfoldable pub opens : State → State
opens s = cond (ltb s.declared.depth 32) (with_declared s scope_type (counted s.declared (suc s.declared.depth) s.declared.vars)) (refuse s 11)

-- "10 `$upscope` without a scope: the keyword"
unfoldable pub closes : State → State
closes s = cond (eqb s.declared.depth 0) (refuse s 10) (with_declared s command_end (counted s.declared (s.declared.depth - 1) s.declared.vars))

-- "12 the 1,025th `$var`: `$var`"
unfoldable pub declares : State → State
declares s = cond (ltb s.declared.vars 1024) (with_declared s var_type (counted s.declared s.declared.depth (suc s.declared.vars))) (refuse s 12)

-- "Commands one after the other"; "`$enddefinitions` with an open one" is 10 at the keyword
unfoldable pub on_command : State → List ℕ → State
on_command s w =
    cond (one_of skipped w) (goto s comment)
    (cond (same w (bytes "$timescale")) (goto s scale)
    (cond (same w (bytes "$scope")) (opens s)
    (cond (same w (bytes "$upscope")) (closes s)
    (cond (same w (bytes "$var")) (declares s)
    (expect s (same w (bytes "$enddefinitions") && eqb s.declared.depth 0) last_end)))))

unfoldable pub on_scale : State → List ℕ → State
on_scale s w = cond (one_of ones w) (goto s unit) (expect s (one_of scales w) command_end)

-- "Name: any word other than `$end`."
unfoldable pub on_scope_name : State → List ℕ → State
on_scope_name s w = expect s (not (is_end w)) command_end

abbrev pub typed : Bool → Var
typed real = record { real = real; width = 0; code = 0; misfit = false; range = no_range }

unfoldable pub on_var_type : State → List ℕ → State
on_var_type s w = cond (one_of bit_types w) (with_var s width (typed false)) (cond (one_of real_types w) (with_var s width (typed true)) (refuse s 10))

-- "Width: a decimal number; 0 is 10, above 4,096 (however long) is 12; for reals too."
unfoldable pub on_width : State → List ℕ → State
on_width s w =
    cond (is_number w && ltb 0 (value 0 w))
    (cond (ltb 4096 (value 0 w)) (refuse s 12) (with_var s var_code (record { real = s.var.real; width = value 0 w; code = 0; misfit = false; range = no_range })))
    (refuse s 10)

-- the first place of x, or the length where it has none
unfoldable pub index_of : List ℕ → ℕ → ℕ
index_of [] x = 0
index_of (a ∷ l) x = cond (eqb a x) 0 (suc (index_of l x))

abbrev pub known : Declared → ℕ → Bool
known d x = ltb (index_of d.codes x) (length d.codes)

abbrev pub width_at : Declared → ℕ → ℕ
width_at d i = get_or d.widths i 0

abbrev pub real_at : Declared → ℕ → Bool
real_at d i = eqb (get_or d.sorts i 0) 2

-- "A code may be declared again (an alias) with the same width, and bits stay bits and reals reals."
unfoldable pub agrees : Declared → Var → ℕ → Bool
agrees d v i = eqb (width_at d i) v.width && cond v.real (real_at d i) (not (real_at d i))

-- "Longer is 12, ahead of everything else about that word. `$end` in its place is no code but ill-formed."
unfoldable pub on_var_code : State → List ℕ → State
on_var_code s w =
    cond (ltb 8 (length w)) (refuse s 12)
    (cond (is_end w || not (is_code w) || known s.declared (code_of w) && not (agrees s.declared s.var (index_of s.declared.codes (code_of w)))) (refuse s 10)
    (with_var s var_name (record { real = s.var.real; width = s.var.width; code = code_of w; misfit = false; range = no_range })))

-- the variable whose name has this range, which may not fit
unfoldable pub named : Var → Range → Var
named v r =
    cond (given r && not (fits v.width r))
    (record { real = v.real; width = v.width; code = v.code; misfit = true; range = no_range })
    (record { real = v.real; width = v.width; code = v.code; misfit = false; range = r })

unfoldable pub on_var_name : State → List ℕ → State
on_var_name s w = cond (is_end w) (refuse s 10) (with_var s range (named s.var (name_range s.var.real s.var.width w)))

-- "Its range is the first range that any of its declarations gives; width−1 to 0 where none does."
unfoldable pub declare_new : Declared → Var → Declared
declare_new d v =
    record { depth = d.depth; vars = d.vars; codes = d.codes ++ (v.code ∷ []); widths = d.widths ++ (v.width ∷ []); sorts = d.sorts ++ (cond v.real 2 (cond (given v.range) 1 0) ∷ []); lefts = d.lefts ++ (cond (given v.range) v.range.left (v.width - 1) ∷ []); rights = d.rights ++ (cond (given v.range) v.range.right 0 ∷ []) }

unfoldable pub declare_again : Declared → Var → ℕ → Declared
declare_again d v i =
    cond (eqb (get_or d.sorts i 0) 0 && given v.range)
    (record { depth = d.depth; vars = d.vars; codes = d.codes; widths = d.widths; sorts = set d.sorts i 1; lefts = set d.lefts i v.range.left; rights = set d.rights i v.range.right })
    d

unfoldable pub declare : Declared → Var → Declared
declare d v = cond (known d v.code) (declare_again d v (index_of d.codes v.code)) (declare_new d v)

-- the command's `$end`; "10 a range at the end of the name: another width, or above 64 bits: the command's `$end`"
unfoldable pub on_var_end : State → List ℕ → State
on_var_end s w = cond (is_end w && not s.var.misfit) (with_declared s command (declare s.declared s.var)) (refuse s 10)

-- a range word; "any other word there is ill-formed", and "10 a range word of another width: the range word"
unfoldable pub on_range : State → List ℕ → State
on_range s w =
    cond (given (bracket w))
    (cond (fits s.var.width (bracket w)) (with_var s var_end (record { real = s.var.real; width = s.var.width; code = s.var.code; misfit = false; range = bracket w })) (refuse s 10))
    (on_var_end s w)
