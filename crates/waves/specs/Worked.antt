-- Waves worked by hand from document 02, §9. Assumes nothing.
use Rattle.std.specs.Prelude.{◌≡◌, List, [], ◌∷◌, ◌++◌, ℕ, replicate}
use Rattle.dump.specs.Text.{bytes}
use Rattle.waves.specs.Text.{text}
use Rattle.waves.specs.Waves.{name, falls, rises, cycle_lines, waves}
use Rattle.waves.specs.Answer.{waves_refusal}

-- two checkers over three cycles: the first has rows 4, 0 and 1, the second 20, 20 and 32
abbrev pub rows : List ℕ
rows = 4 ∷ 0 ∷ 1 ∷ 20 ∷ 20 ∷ 32 ∷ []

abbrev pub two_declared : List ℕ
two_declared =
    bytes "$scope module marks $end\n$var wire 1 clk clk $end\n"
    ++ bytes "$var wire 1 k0m1 k0m1 $end\n$var wire 1 k0m2 k0m2 $end\n$var wire 1 k0m4 k0m4 $end\n$var wire 1 k0m8 k0m8 $end\n$var wire 1 k0m16 k0m16 $end\n$var wire 1 k0m32 k0m32 $end\n"
    ++ bytes "$var wire 1 k1m1 k1m1 $end\n$var wire 1 k1m2 k1m2 $end\n$var wire 1 k1m4 k1m4 $end\n$var wire 1 k1m8 k1m8 $end\n$var wire 1 k1m16 k1m16 $end\n$var wire 1 k1m32 k1m32 $end\n"
    ++ bytes "$upscope $end\n$enddefinitions $end\n"

pub record Worked : Type 0 where
  -- Every wire in cycle 0. In cycle 1 mark 4 of the first checker goes; in cycle 2 its mark 1 comes, and of the second checker marks 4 and 16 go and 32 comes.
  pub two_checkers :
      waves 2 3 rows
      ≡ two_declared
      ++ bytes "#0\n0clk\n0k0m1\n0k0m2\n1k0m4\n0k0m8\n0k0m16\n0k0m32\n0k1m1\n0k1m2\n1k1m4\n0k1m8\n1k1m16\n0k1m32\n#1\n1clk\n"
      ++ bytes "#2\n0clk\n0k0m4\n#3\n1clk\n"
      ++ bytes "#4\n0clk\n1k0m1\n0k1m4\n0k1m16\n1k1m32\n#5\n1clk\n"
  -- the document's own lines: cycle 3 where mark 32 of checker 3 comes; and names and stamps of two digits
  pub cycle_3 : text (cycle_lines 4 4 (replicate 15 0 ++ 32 ∷ []) 3) ≡ bytes "#6\n0clk\n1k3m32\n#7\n1clk\n"
  pub two_digits : (name 381 ≡ bytes "k63m8") × (text (falls 50) ≡ bytes "#100\n0clk\n") × (text (rises 49) ≡ bytes "#99\n1clk\n")
  -- no checker: the clock alone
  pub no_checker : waves 0 1 [] ≡ bytes "$scope module marks $end\n$var wire 1 clk clk $end\n$upscope $end\n$enddefinitions $end\n#0\n0clk\n#1\n1clk\n"
  -- no cycle: the header alone
  pub no_cycle : waves 2 0 [] ≡ two_declared
  -- the refusals, each ahead of those that would come behind it: 65 checkers, 65,537 cycles, too few rows, bit 6 of a row, and one byte too few
  pub refusals :
      (waves_refusal 65 65537 (64 ∷ []) 0 ≡ 9)
      × (waves_refusal 64 65537 (64 ∷ []) 0 ≡ 4)
      × (waves_refusal 2 1 (64 ∷ []) 0 ≡ 5)
      × (waves_refusal 1 1 (64 ∷ []) 0 ≡ 18)
      × (waves_refusal 0 1 [] 100 ≡ 19)
      × (waves_refusal 0 1 [] 101 ≡ 0)
