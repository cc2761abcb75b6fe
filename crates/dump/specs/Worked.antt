-- Dumps worked by hand from document 02, §1 and §8, and what is read from each. Assumes nothing.
use Rattle.std.specs.Prelude.{◌≡◌, List, [], ◌∷◌, ◌++◌, ℕ, zero, suc, ◌*◌, set}
use Prim.Native.String.{String}
use Rattle.dump.specs.Text.{bytes, code_of}
use Rattle.dump.specs.Load.{Answer, load}

unfoldable pub zeros : ℕ → List ℕ
zeros zero = []
zeros (suc n) = 0 ∷ zeros n

-- n times the same text
unfoldable pub times : ℕ → List ℕ → List ℕ
times zero text = []
times (suc n) text = text ++ times n text

-- wire `index` of a code, at an entry of the table
pub record Wire : Type 0 where
  pub entry : ℕ
  pub code : String
  pub index : ℕ

unfoldable pub table : List Wire → List ℕ
table [] = zeros 258
table (w ∷ ws) = set (set (table ws) (2 * w.entry) (code_of (bytes w.code))) (suc (2 * w.entry)) w.index

-- the entries of the clock and of wire i of reset, P and Q
abbrev pub clock : String → Wire
clock c = record { entry = 0; code = c; index = 0 }

abbrev pub reset : String → Wire
reset c = record { entry = 1; code = c; index = 0 }

abbrev pub p0 : String → ℕ → Wire
p0 c i = record { entry = 33; code = c; index = i }

abbrev pub p1 : String → ℕ → Wire
p1 c i = record { entry = 34; code = c; index = i }

abbrev pub p2 : String → ℕ → Wire
p2 c i = record { entry = 35; code = c; index = i }

abbrev pub p3 : String → ℕ → Wire
p3 c i = record { entry = 36; code = c; index = i }

abbrev pub q0 : String → ℕ → Wire
q0 c i = record { entry = 65; code = c; index = i }

abbrev pub q1 : String → ℕ → Wire
q1 c i = record { entry = 66; code = c; index = i }

abbrev pub q2 : String → ℕ → Wire
q2 c i = record { entry = 67; code = c; index = i }

abbrev pub q3 : String → ℕ → Wire
q3 c i = record { entry = 68; code = c; index = i }

-- a text, with room for `room` words of frames
unfoldable pub loaded : List Wire → ℕ → List ℕ → Answer
loaded wires room text = load text (table wires) (zeros room)

abbrev pub done : List (List ℕ) → Answer
done frames = record { refusal = 0; line = 0; identifier = 0; frames = frames }

-- refused in a line, with the frames before it
abbrev pub no : ℕ → ℕ → List (List ℕ) → Answer
no refusal line frames = record { refusal = refusal; line = line; identifier = 0; frames = frames }

-- a frame of reset, P and Q with their unknown bits
abbrev pub frame : ℕ → ℕ → ℕ → ℕ → ℕ → ℕ → List ℕ
frame r p q rx px qx = r ∷ p ∷ q ∷ 0 ∷ rx ∷ px ∷ qx ∷ 0 ∷ []

-- the declarations of a clock `!` and of four bits `d`, in three lines
abbrev pub declarations : List ℕ
declarations = bytes "$var wire 1 ! clk $end\n$var reg 4 d bus [3:0] $end\n$enddefinitions $end\n"

-- the clock, and P [3:0] of `d`
abbrev pub bus : List Wire
bus = clock "!" ∷ p0 "d" 0 ∷ p1 "d" 1 ∷ p2 "d" 2 ∷ p3 "d" 3 ∷ []

pub record Worked : Type 0 where
  -- 1000 is wire 3 of [3:0], but wire 0 of [0:3]. Stamp 5 is closed by stamp 10, stamp 15 by the end; `b1` is 0001.
  pub both_orders :
      loaded (q0 "u" 0 ∷ q1 "u" 1 ∷ q2 "u" 2 ∷ q3 "u" 3 ∷ bus) 24 (bytes "$scope module top $end\n$var wire 1 ! clk $end\n$var wire 4 d down [3:0] $end\n$scope module in $end\n$var wire 4 u up [0:3] $end\n$upscope $end\n$upscope $end\n$enddefinitions $end\n#0\n0!\nb1000 d\nb1000 u\n#5\n1!\nb1 d\n#10\n0!\n#15\n1!\n")
      ≡ done (frame 0 8 1 0 0 0 ∷ frame 0 1 1 0 0 0 ∷ [])
  -- The clock's step from x to 1 is no edge. `bx1` is xxx1. The reset has no value yet.
  pub unknown :
      loaded (reset "r" ∷ bus) 8 (bytes "$timescale 1 ns $end\n$var wire 1 ! clk $end\n$var reg 4 d bus $end $var wire 1 r rst_n $end\n$enddefinitions $end\n$dumpvars\nx!\n$end\n#0 1!\n#1 0!\nbx1 d\n#2 1!")
      ≡ done (frame 0 1 0 1 14 0 ∷ [])
  -- Equal stamps in a row are one: the sample is from before both, and there is one.
  pub equal_stamps : loaded bus 8 (declarations ++ bytes "0! b10 d\n#7 1! b11 d\n#7 0! b100 d\n#07 1!\n#9 0!\n#9\n") ≡ done (frame 0 2 0 0 0 0 ∷ [])
  -- Ranges at the end of names: [0:3], [7], and none where a name begins with a backslash. The first range that a code is given counts. A real is skipped.
  pub names :
      loaded (clock "!" ∷ p0 "a" 0 ∷ p1 "m" 7 ∷ p2 "e" 0 ∷ p3 "z" 4 ∷ []) 8 (bytes "$var wire 1 ! clk $end $var wire 4 a bus[0:3] $end $var wire 1 m mem[7] $end\n$var wire 1 e \\odd[5] $end $var wire 4 z one $end\n$var wire 4 z two [4:1] $end $var wire 4 z three [7:4] $end $var real 64 f level[0] $end $comment no $var here $end\n$enddefinitions $end\n#1 0! b1000 a 1m 1e bz000 z r3.5 f\n#2 1!")
      ≡ done (frame 0 7 0 0 8 0 ∷ [])
  -- the clock as a bit of a vector, and a frame with nothing connected
  pub vector_clock :
      loaded (record { entry = 0; code = "d"; index = 2 } ∷ []) 8 (declarations ++ bytes "#0 b1011 d #1 b1111 d #2") ≡ done (frame 0 0 0 0 0 0 ∷ [])
  -- no stamp, so no sample
  pub no_stamp : loaded bus 8 (declarations ++ bytes "0! 1!") ≡ done []
  -- 4 and 5, before the text is looked at
  pub lengths : (loaded bus 7 (bytes "?") ≡ no 4 0 []) × (load (bytes "?") (zeros 256) (zeros 8) ≡ no 5 0 [])
  -- 10: a word that is not allowed there, in line 4, behind one frame; what follows it does not matter
  pub ill_formed : loaded bus 8 (declarations ++ bytes "#0 0! #1 1! #2 #3x\n1?\n#1") ≡ no 10 4 (frame 0 0 0 0 15 0 ∷ [])
  -- 10 with the identifier that is not declared, which is `?`, 63
  pub not_declared : loaded bus 8 (declarations ++ bytes "#0 0!\n1?\n") ≡ record { refusal = 10; line = 5; identifier = 63; frames = [] }
  -- 10 at the code of a vector that is too long; at the `$end` of a name's range of another width
  pub other_width :
      (loaded bus 8 (declarations ++ bytes "#0 b10101\nd\n") ≡ no 10 5 [])
      × (loaded bus 8 (bytes "$var wire 4 a\nbus[4:0]\n$end $enddefinitions $end") ≡ no 10 3 [])
  -- 10 at the end, where the line is the line count, with a last byte 10 and without
  pub unfinished : (loaded bus 8 (bytes "$var wire 1 ! clk $end\n\n") ≡ no 10 2 []) × (loaded bus 8 (declarations ++ bytes "#0\nb1") ≡ no 10 5 [])
  -- 11 at the 33rd `$scope`
  pub scopes : loaded bus 8 (times 33 (bytes "$scope module a $end\n")) ≡ no 11 33 []
  -- 12 at a code of nine bytes, ahead of 10; at a width of 4,097
  pub long :
      (loaded bus 8 (declarations ++ bytes "#0 0! b1\n!!!!!!!!! ?") ≡ no 12 5 []) × (loaded bus 8 (bytes "$var wire 04097 ! clk $end") ≡ no 12 1 [])
  -- 13 at the `$end` of `$enddefinitions`: index 4 of [3:0]; a clock that is not connected
  pub not_connected :
      (loaded (clock "!" ∷ p0 "d" 4 ∷ []) 8 (bytes "$var wire 1 ! c $end $var reg 4 d b [3:0] $end $enddefinitions\n$end #0 0!") ≡ no 13 2 [])
      × (loaded [] 8 declarations ≡ no 13 3 [])
  -- A real is declared, but not as bits: to connect one is 13.
  pub real_connected : loaded (clock "!" ∷ p0 "f" 0 ∷ []) 8 (bytes "$var wire 1 ! clk $end\n$var real 64 f level $end\n$enddefinitions $end\n#0 r1 f\n") ≡ no 13 3 []
  -- 14 at a stamp that goes back: it takes no sample
  pub back : loaded bus 8 (declarations ++ bytes "#0 0!\n#2 1!\n#1\n") ≡ no 14 6 []
  -- 16 at what closes the stamp of the second sample: the first frame stays
  pub full : loaded bus 8 (declarations ++ bytes "#0 0! b101 d\n#1 1!\n#2 0!\n#3 1!\n#4\n") ≡ no 16 8 (frame 0 5 0 0 0 0 ∷ [])
  -- 16 at the end
  pub full_at_the_end : loaded bus 0 (declarations ++ bytes "#0 0!\n#1 1!\n") ≡ no 16 5 []
