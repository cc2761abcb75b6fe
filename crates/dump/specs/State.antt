-- What the words of a dump up to some place have said, from document 02, §1. Assumes nothing.
use Rattle.std.specs.Prelude.{Bool, true, false, cond, List, [], ◌∷◌, ℕ, suc, ◌+◌, leb}
use Rattle.dump.specs.Ranges.{Range, no_range}

-- the declared codes in the order of their first declaration, each with its width, sort and range; how many scopes are open, and how many `$var` there were
pub record Declared : Type 0 where
  pub depth : ℕ
  pub vars : ℕ
  pub codes : List ℕ
  pub widths : List ℕ
  -- 0 bits with no range given, 1 bits with one, 2 real
  pub sorts : List ℕ
  pub lefts : List ℕ
  pub rights : List ℕ

-- the `$var` command that is read
pub record Var : Type 0 where
  pub real : Bool
  pub width : ℕ
  pub code : ℕ
  -- the range at the end of its name does not fit
  pub misfit : Bool
  pub range : Range

abbrev pub no_var : Var
no_var = record { real = false; width = 0; code = 0; misfit = false; range = no_range }

-- The changes so far. A value is 0, 1 or 2, which is unknown; values are kept for each pair of the table, the clock first.
pub record Changed : Type 0 where
  -- within `$dumpall`, `$dumpoff`, `$dumpon` or `$dumpvars`
  pub dumping : Bool
  -- the digits of the vector whose code is due
  pub vector : List ℕ
  pub values : List ℕ
  -- the values before the changes of the stamp
  pub before : List ℕ
  pub stamped : Bool
  pub stamp : ℕ
  -- the frames sampled, of eight words each
  pub frames : List (List ℕ)

-- Where the reader is: which word is due, or 100 and the refusal.
pub record State : Type 0 where
  pub place : ℕ
  -- the identifier that a refusal names
  pub identifier : ℕ
  pub declared : Declared
  pub var : Var
  pub changed : Changed

-- THE PLACES: what is due. In the declarations a command; the words of a comment; the parts of `$timescale`, `$scope` and `$var`; the `$end` of a command; that of `$enddefinitions`.
abbrev pub command : ℕ
command = 0

abbrev pub comment : ℕ
comment = 1

abbrev pub scale : ℕ
scale = 2

abbrev pub unit : ℕ
unit = 3

abbrev pub command_end : ℕ
command_end = 4

abbrev pub scope_type : ℕ
scope_type = 5

abbrev pub scope_name : ℕ
scope_name = 6

abbrev pub var_type : ℕ
var_type = 7

abbrev pub width : ℕ
width = 8

abbrev pub var_code : ℕ
var_code = 9

abbrev pub var_name : ℕ
var_name = 10

abbrev pub range : ℕ
range = 11

abbrev pub var_end : ℕ
var_end = 12

abbrev pub last_end : ℕ
last_end = 13

-- behind them a change; the code of a vector or a real; the words of a comment
abbrev pub change : ℕ
change = 20

abbrev pub vector_code : ℕ
vector_code = 21

abbrev pub real_code : ℕ
real_code = 22

abbrev pub later_comment : ℕ
later_comment = 23

abbrev pub none_declared : Declared
none_declared = record { depth = 0; vars = 0; codes = []; widths = []; sorts = []; lefts = []; rights = [] }

abbrev pub none_changed : List ℕ → Changed
none_changed values = record { dumping = false; vector = []; values = values; before = []; stamped = false; stamp = 0; frames = [] }

abbrev pub at_start : State
at_start = record { place = command; identifier = 0; declared = none_declared; var = no_var; changed = none_changed [] }

abbrev pub goto : State → ℕ → State
goto s m = record { place = m; identifier = s.identifier; declared = s.declared; var = s.var; changed = s.changed }

abbrev pub refuse : State → ℕ → State
refuse s r = goto s (100 + r)

abbrev pub refused : State → Bool
refused s = leb 100 s.place

-- refused for a code that is not declared
abbrev pub undeclared : State → ℕ → State
undeclared s x = record { place = 110; identifier = x; declared = s.declared; var = s.var; changed = s.changed }

-- refused with 10 where a test fails
abbrev pub expect : State → Bool → ℕ → State
expect s t m = cond t (goto s m) (refuse s 10)

abbrev pub with_var : State → ℕ → Var → State
with_var s m v = record { place = m; identifier = s.identifier; declared = s.declared; var = v; changed = s.changed }

abbrev pub with_declared : State → ℕ → Declared → State
with_declared s m d = record { place = m; identifier = s.identifier; declared = d; var = no_var; changed = s.changed }

abbrev pub with_changed : State → ℕ → Changed → State
with_changed s m c = record { place = m; identifier = s.identifier; declared = s.declared; var = s.var; changed = c }
