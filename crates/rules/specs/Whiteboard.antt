-- The twelve cases of document 01, "Whiteboard table", with the rows and words that it shows; the rows of H are those of document 02, §2. Below them six cases of
-- document 02, §4, four of §7 and seven of §8, worked by hand (`docs/requests/04.md`, `07.md` and `08.md`). That the rules give these is `whiteboard` of `proofs/Cases.antt`. Assumes nothing.
use Rattle.std.specs.Prelude.{ℕ, zero, suc, List, [], ◌∷◌, get_or, length}
use Rattle.bus.specs.declared.range.Range.{Range}
use Rattle.rules.specs.declared.config.Config.{Config}
use Rattle.rules.specs.Config.{fatally}
use Rattle.rules.specs.Frame.{Trace}
use Rattle.rules.specs.Rules.{stopped_word, row, word}

-- what is sampled in each cycle, or which wires are unknown
pub record Words : Type 0 where
  pub resets : List ℕ
  pub p : List ℕ
  pub q : List ℕ
  pub r : List ℕ

abbrev pub no_words : Words
no_words = record { resets = []; p = []; q = []; r = [] }

-- a checker, and what is sampled at P, Q and R in each cycle: "Reset_n is 1." The reset words are 1 where none are given, and the wires known.
pub record Case : Type 0 where
  pub config : Config
  pub sampled : Words
  pub unknown : Words

abbrev pub trace_of : Case → Trace
trace_of k t =
    let s = k.sampled in
    let u = k.unknown in
    record { samples = get_or s.resets t 1 ∷ get_or s.p t 0 ∷ get_or s.q t 0 ∷ get_or s.r t 0 ∷ get_or u.resets t 0 ∷ get_or u.p t 0 ∷ get_or u.q t 0 ∷ get_or u.r t 0 ∷ [] }

-- f 0 to f (n − 1)
abbrev pub tab_from : ℕ → (ℕ → ℕ) → ℕ → List ℕ
tab_from zero f at = []
tab_from (suc n) f at = f at ∷ tab_from n f (suc at)

abbrev range : ℕ → ℕ → Range
range left right = record { left = left; right = right }

-- kinds 0 to 2: P alone; kinds 3 to 5: P and Q, one wire each
abbrev pub sequence_case : ℕ → ℕ → Range → List ℕ → Case
sequence_case kind n p samples = record {
  config = record { kind = kind; n = n; p = p; q = range 0 0; r = range 0 0; min = 0; value = 0; severity = 0 };
  sampled = record { resets = []; p = samples; q = []; r = [] };
  unknown = no_words;
}

abbrev pub time_case : ℕ → ℕ → List ℕ → List ℕ → Case
time_case kind n starts tests = record {
  config = record { kind = kind; n = n; p = range 0 0; q = range 0 0; r = range 0 0; min = 0; value = 0; severity = 0 };
  sampled = record { resets = []; p = starts; q = tests; r = [] };
  unknown = no_words;
}

-- the same, with these reset words
abbrev under : List ℕ → Case → Case
under resets k = record {
  config = k.config;
  sampled = record { resets = resets; p = k.sampled.p; q = k.sampled.q; r = k.sampled.r };
  unknown = k.unknown;
}

-- the same, with these wires unknown
abbrev with : Words → Case → Case
with unknown k = record { config = k.config; sampled = k.sampled; unknown = unknown }

-- the same, with the test on another wire
abbrev test_on : Range → Case → Case
test_on q k = record {
  config = record { kind = k.config.kind; n = k.config.n; p = k.config.p; q = q; r = k.config.r; min = 0; value = 0; severity = 0 };
  sampled = k.sampled;
  unknown = k.unknown;
}

-- kind 6, all [2:0]
abbrev pub transition_case : List ℕ → List ℕ → List ℕ → Case
transition_case tests starts nexts = record {
  config = record { kind = 6; n = 0; p = range 2 0; q = range 2 0; r = range 2 0; min = 0; value = 0; severity = 0 };
  sampled = record { resets = []; p = tests; q = starts; r = nexts };
  unknown = no_words;
}

-- kinds 7 and 8: P is the tracked value, Q the trigger
abbrev pub trigger_case : ℕ → ℕ → ℕ → ℕ → Range → List ℕ → List ℕ → List ℕ → Case
trigger_case kind min max value p resets tracked triggers = record {
  config = record { kind = kind; n = max; p = p; q = range 0 0; r = range 0 0; min = min; value = value; severity = 0 };
  sampled = record { resets = resets; p = tracked; q = triggers; r = [] };
  unknown = no_words;
}

abbrev A : List ℕ
A = 8 ∷ 4 ∷ 10 ∷ 5 ∷ 2 ∷ 1 ∷ []

abbrev D : List ℕ
D = 4 ∷ 6 ∷ 5 ∷ 4 ∷ 4 ∷ 4 ∷ []

-- G, H and I
abbrev starts : List ℕ
starts = 1 ∷ 0 ∷ 1 ∷ 0 ∷ 1 ∷ 0 ∷ []

abbrev tests : List ℕ
tests = 0 ∷ 1 ∷ 0 ∷ 1 ∷ 1 ∷ 1 ∷ []

-- a case, and the rows and words that the table shows for it
pub record Entry : Type 0 where
  pub given : Case
  pub rows : List ℕ
  pub words : List ℕ

abbrev case_a : Entry
case_a = record { given = sequence_case 1 4 (range 3 0) A; rows = 4 ∷ 0 ∷ 4 ∷ 0 ∷ 0 ∷ 0 ∷ []; words = 1 ∷ 2 ∷ 5 ∷ 2 ∷ 4 ∷ 0 ∷ [] }

abbrev case_b : Entry
case_b = record { given = sequence_case 0 4 (range 3 0) A; rows = 0 ∷ 0 ∷ 4 ∷ 0 ∷ 4 ∷ 0 ∷ []; words = 1 ∷ 2 ∷ 5 ∷ 2 ∷ 4 ∷ 0 ∷ [] }

abbrev case_c : Entry
case_c = record { given = sequence_case 1 4 (range 0 3) A; rows = 0 ∷ 0 ∷ 0 ∷ 4 ∷ 0 ∷ 5 ∷ []; words = 0 ∷ 0 ∷ 0 ∷ 1 ∷ 2 ∷ 1 ∷ [] }

abbrev case_d : Entry
case_d = record { given = sequence_case 2 3 (range 2 0) D; rows = 4 ∷ 0 ∷ 0 ∷ 4 ∷ 1 ∷ 4 ∷ []; words = 1 ∷ 2 ∷ 0 ∷ 1 ∷ 0 ∷ 1 ∷ [] }

abbrev case_e : Entry
case_e = record { given = sequence_case 1 3 (range 2 0) D; rows = 4 ∷ 4 ∷ 5 ∷ 5 ∷ 5 ∷ 5 ∷ []; words = 1 ∷ 3 ∷ 1 ∷ 1 ∷ 1 ∷ 1 ∷ [] }

abbrev case_f : Entry
case_f = record { given = sequence_case 0 3 (range 2 0) (4 ∷ 6 ∷ 0 ∷ []); rows = 0 ∷ 4 ∷ 1 ∷ []; words = 1 ∷ 3 ∷ 0 ∷ [] }

abbrev case_g : Entry
case_g = record { given = time_case 3 3 starts tests; rows = 4 ∷ 0 ∷ 1 ∷ 8 ∷ 4 ∷ 0 ∷ []; words = 3 ∷ 2 ∷ 1 ∷ 0 ∷ 3 ∷ 2 ∷ [] }

abbrev case_h : Entry
case_h = record { given = time_case 4 3 starts tests; rows = 4 ∷ 0 ∷ 20 ∷ 0 ∷ 20 ∷ 0 ∷ []; words = 3 ∷ 2 ∷ 3 ∷ 2 ∷ 3 ∷ 2 ∷ [] }

abbrev case_i : Entry
case_i = record { given = time_case 5 3 starts tests; rows = 4 ∷ 0 ∷ 3 ∷ 8 ∷ 4 ∷ 0 ∷ []; words = 3 ∷ 2 ∷ 1 ∷ 0 ∷ 3 ∷ 2 ∷ [] }

abbrev case_j : Entry
case_j = record { given = time_case 3 1 (1 ∷ 1 ∷ 1 ∷ []) (1 ∷ 1 ∷ 0 ∷ []); rows = 4 ∷ 8 ∷ 4 ∷ []; words = 1 ∷ 0 ∷ 1 ∷ [] }

abbrev case_k : Entry
case_k = record { given = transition_case (3 ∷ 4 ∷ 3 ∷ 0 ∷ 3 ∷ []) (3 ∷ 3 ∷ 3 ∷ 3 ∷ 3 ∷ []) (4 ∷ 4 ∷ 0 ∷ 4 ∷ 4 ∷ []); rows = 4 ∷ 0 ∷ 4 ∷ 0 ∷ 4 ∷ []; words = 4294967300 ∷ 0 ∷ 4294967296 ∷ 0 ∷ 4294967300 ∷ [] }

abbrev case_l : Entry
case_l = record { given = transition_case (3 ∷ 3 ∷ []) (3 ∷ 3 ∷ []) (4 ∷ 4 ∷ []); rows = 4 ∷ 5 ∷ []; words = 4294967300 ∷ 4294967300 ∷ [] }

-- reset_n 1 and enable 1
abbrev enabled : List ℕ
enabled = 3 ∷ 3 ∷ 3 ∷ 3 ∷ 3 ∷ 3 ∷ []

-- the first trigger alone
abbrev once : List ℕ
once = 1 ∷ 0 ∷ 0 ∷ 0 ∷ 0 ∷ 0 ∷ []

-- kind 7: the value is there in s+1 to s+3, and is not asked for in s and after s+3
abbrev case_m : Entry
case_m = record { given = trigger_case 7 1 3 5 (range 2 0) enabled (0 ∷ 5 ∷ 5 ∷ 5 ∷ 0 ∷ 0 ∷ []) once; rows = 4 ∷ 0 ∷ 0 ∷ 8 ∷ 0 ∷ 0 ∷ []; words = 3 ∷ 2 ∷ 1 ∷ 0 ∷ 0 ∷ 0 ∷ [] }

-- kind 7 on [0:2]: the sample 6 is the value 3, and the sample 3 the value 6
abbrev case_n : Entry
case_n = record { given = trigger_case 7 1 3 6 (range 0 2) enabled (3 ∷ 6 ∷ 3 ∷ 6 ∷ 3 ∷ 3 ∷ []) once; rows = 4 ∷ 1 ∷ 0 ∷ 9 ∷ 0 ∷ 0 ∷ []; words = 3 ∷ 2 ∷ 1 ∷ 0 ∷ 0 ∷ 0 ∷ [] }

-- kind 7: enable 0 in s+2 and s+3, which count and are not tested, and at a trigger
abbrev case_o : Entry
case_o = record { given = trigger_case 7 1 3 5 (range 2 0) (3 ∷ 3 ∷ 1 ∷ 1 ∷ 1 ∷ 3 ∷ []) (5 ∷ 4 ∷ 0 ∷ 0 ∷ 5 ∷ 5 ∷ []) (1 ∷ 0 ∷ 0 ∷ 0 ∷ 1 ∷ 1 ∷ []); rows = 4 ∷ 1 ∷ 0 ∷ 8 ∷ 0 ∷ 4 ∷ []; words = 3 ∷ 2 ∷ 1 ∷ 0 ∷ 0 ∷ 3 ∷ [] }

-- kind 7 with min 0 and max 0: the trigger's own cycle alone
abbrev case_p : Entry
case_p = record { given = trigger_case 7 0 0 5 (range 2 0) enabled (5 ∷ 0 ∷ 4 ∷ 5 ∷ 4 ∷ 5 ∷ []) (1 ∷ 0 ∷ 1 ∷ 1 ∷ 0 ∷ 1 ∷ []); rows = 12 ∷ 0 ∷ 13 ∷ 12 ∷ 0 ∷ 12 ∷ []; words = 0 ∷ 0 ∷ 0 ∷ 0 ∷ 0 ∷ 0 ∷ [] }

-- kind 8: enable 0 in s+1, so that the reference is the 6 of s+2
abbrev case_q : Entry
case_q = record { given = trigger_case 8 1 4 0 (range 2 0) (3 ∷ 1 ∷ 3 ∷ 3 ∷ 3 ∷ 3 ∷ []) (1 ∷ 2 ∷ 6 ∷ 6 ∷ 3 ∷ 0 ∷ []) once; rows = 4 ∷ 0 ∷ 0 ∷ 0 ∷ 9 ∷ 0 ∷ []; words = 4 ∷ 3 ∷ 281474977103874 ∷ 281474977103873 ∷ 0 ∷ 0 ∷ [] }

-- kind 8 with min 0: the reference is that of s, and the trigger of s+2 is ignored
abbrev case_r : Entry
case_r = record { given = trigger_case 8 0 2 0 (range 2 0) enabled (3 ∷ 3 ∷ 3 ∷ 2 ∷ 2 ∷ 2 ∷ []) (1 ∷ 1 ∷ 1 ∷ 1 ∷ 0 ∷ 0 ∷ []); rows = 4 ∷ 0 ∷ 8 ∷ 4 ∷ 0 ∷ 8 ∷ []; words = 281474976907266 ∷ 281474976907265 ∷ 0 ∷ 281474976841730 ∷ 281474976841729 ∷ 0 ∷ [] }

-- ---- fatal checkers: the first cycle with mark 1 or 2 has all its marks, and from it on the word is 2^63

abbrev pub made_fatal : Case → Case
made_fatal k = record { config = fatally k.config; sampled = k.sampled; unknown = k.unknown }

-- E, which fails in cycle 2 for the first time, where it has mark 4 too
abbrev case_s : Entry
case_s = record { given = made_fatal (sequence_case 1 3 (range 2 0) D); rows = 4 ∷ 4 ∷ 5 ∷ 0 ∷ 0 ∷ 0 ∷ []; words = 1 ∷ 3 ∷ stopped_word ∷ stopped_word ∷ stopped_word ∷ stopped_word ∷ [] }

-- kind 5, stopped by an illegal start; nothing fails
abbrev case_t : Entry
case_t = record { given = made_fatal (time_case 5 3 starts (0 ∷ 1 ∷ 1 ∷ 1 ∷ 1 ∷ 1 ∷ [])); rows = 4 ∷ 0 ∷ 2 ∷ 0 ∷ 0 ∷ 0 ∷ []; words = 3 ∷ 2 ∷ stopped_word ∷ stopped_word ∷ stopped_word ∷ stopped_word ∷ [] }

-- kind 3: it fails in the cycle that closes its window, and a reset in cycle 3 does not revive it, so that the start in cycle 4 opens none
abbrev case_u : Entry
case_u = record { given = under (1 ∷ 1 ∷ 1 ∷ 0 ∷ 1 ∷ 1 ∷ []) (made_fatal (time_case 3 2 (1 ∷ 0 ∷ 0 ∷ 0 ∷ 1 ∷ 0 ∷ []) (0 ∷ 1 ∷ 0 ∷ 1 ∷ 0 ∷ 0 ∷ []))); rows = 4 ∷ 0 ∷ 9 ∷ 0 ∷ 0 ∷ 0 ∷ []; words = 2 ∷ 1 ∷ stopped_word ∷ stopped_word ∷ stopped_word ∷ stopped_word ∷ [] }

-- kind 8 with min equal to max, which has no failures: P changes in each cycle
abbrev case_v : Entry
case_v = record { given = made_fatal (trigger_case 8 1 1 0 (range 2 0) enabled (0 ∷ 1 ∷ 2 ∷ 3 ∷ 4 ∷ 5 ∷ []) (1 ∷ 0 ∷ 0 ∷ 1 ∷ 0 ∷ 0 ∷ [])); rows = 4 ∷ 8 ∷ 0 ∷ 4 ∷ 8 ∷ 0 ∷ []; words = 1 ∷ 0 ∷ 0 ∷ 1 ∷ 0 ∷ 0 ∷ [] }

-- ---- unknown bits: mark 32, and what an unknown wire reads as. Where a wire is unknown its value bit is mostly 1 here.

-- kind 3, with the test on wire 3: unknown wires outside the ranges and an unknown enable in cycle 1 do not count; the unknown reset_n of cycle 2 is a reset
abbrev case_w : Entry
case_w = record {
  given = with (record { resets = 0 ∷ 2 ∷ 1 ∷ []; p = 0 ∷ 4294967294 ∷ []; q = 0 ∷ 4294967287 ∷ []; r = 0 ∷ 1 ∷ [] })
      (test_on (range 3 3) (time_case 3 2 (1 ∷ 0 ∷ 1 ∷ 1 ∷ 0 ∷ 0 ∷ []) (0 ∷ 8 ∷ 0 ∷ 0 ∷ 0 ∷ 8 ∷ [])));
  rows = 4 ∷ 0 ∷ 0 ∷ 4 ∷ 1 ∷ 8 ∷ [];
  words = 2 ∷ 1 ∷ 0 ∷ 2 ∷ 1 ∷ 0 ∷ [];
}

-- kind 2: the second event of the first attempt is unknown, and the start of that cycle is ignored; then a last event, and a start
abbrev case_x : Entry
case_x = record {
  given = with (record { resets = []; p = 0 ∷ 2 ∷ 0 ∷ 0 ∷ 1 ∷ 4 ∷ []; q = []; r = [] }) (sequence_case 2 3 (range 2 0) (4 ∷ 6 ∷ 4 ∷ 2 ∷ 0 ∷ 4 ∷ []));
  rows = 4 ∷ 32 ∷ 4 ∷ 0 ∷ 32 ∷ 0 ∷ [];
  words = 1 ∷ 0 ∷ 1 ∷ 2 ∷ 0 ∷ 0 ∷ [];
}

-- kind 0: the unknown event of cycle 1 is not the last one and reads as 0, without mark; that of cycle 3 is
abbrev case_y : Entry
case_y = record {
  given = with (record { resets = []; p = 0 ∷ 2 ∷ 0 ∷ 1 ∷ 4 ∷ []; q = []; r = [] }) (sequence_case 0 3 (range 2 0) (4 ∷ 6 ∷ 2 ∷ 1 ∷ 4 ∷ 2 ∷ []));
  rows = 0 ∷ 0 ∷ 4 ∷ 32 ∷ 0 ∷ 0 ∷ [];
  words = 1 ∷ 1 ∷ 2 ∷ 0 ∷ 0 ∷ 0 ∷ [];
}

-- kind 4: an unknown start is no restart, an unknown test is marked and the check goes on; the restart of cycle 2 takes no test; the last test is unknown, with value bit 0
abbrev case_z : Entry
case_z = record {
  given = with (record { resets = []; p = 0 ∷ 1 ∷ []; q = 0 ∷ 1 ∷ 1 ∷ 0 ∷ 0 ∷ 1 ∷ []; r = [] })
      (time_case 4 3 (1 ∷ 1 ∷ 1 ∷ 0 ∷ 0 ∷ 0 ∷ []) (0 ∷ 1 ∷ 1 ∷ 1 ∷ 0 ∷ 0 ∷ []));
  rows = 4 ∷ 32 ∷ 20 ∷ 0 ∷ 1 ∷ 40 ∷ [];
  words = 3 ∷ 2 ∷ 3 ∷ 2 ∷ 1 ∷ 0 ∷ [];
}

-- kind 6: in cycle 1 the test has an unknown bit, and its known bit 0 differs; the known bits are those of start state; in cycle 2 next state has one, and nothing is stored; in cycle 3 start state has one
abbrev case_aa : Entry
case_aa = record {
  given = with (record { resets = []; p = 0 ∷ 2 ∷ 0 ∷ 0 ∷ 8 ∷ []; q = 0 ∷ 0 ∷ 0 ∷ 4 ∷ []; r = 8 ∷ 0 ∷ 4 ∷ [] })
      (transition_case (3 ∷ 7 ∷ 3 ∷ 3 ∷ 3 ∷ 0 ∷ []) (3 ∷ 5 ∷ 3 ∷ 7 ∷ 3 ∷ 3 ∷ []) (4 ∷ 4 ∷ 4 ∷ 4 ∷ 4 ∷ 4 ∷ []));
  rows = 4 ∷ 32 ∷ 36 ∷ 0 ∷ 4 ∷ 1 ∷ [];
  words = 4294967300 ∷ 0 ∷ 0 ∷ 0 ∷ 4294967300 ∷ 0 ∷ [];
}

-- kind 8 with min 0: the trigger's own cycle is unknown, so that the reference is the 6 of s+1; an unknown trigger, and one under an unknown enable
abbrev case_ab : Entry
case_ab = record {
  given = with (record { resets = 0 ∷ 0 ∷ 0 ∷ 0 ∷ 0 ∷ 2 ∷ []; p = 1 ∷ 0 ∷ 4 ∷ 0 ∷ 0 ∷ 0 ∷ []; q = 0 ∷ 0 ∷ 0 ∷ 0 ∷ 1 ∷ []; r = [] })
      (trigger_case 8 0 3 0 (range 2 0) enabled (3 ∷ 6 ∷ 6 ∷ 3 ∷ 0 ∷ 0 ∷ []) (1 ∷ 0 ∷ 0 ∷ 0 ∷ 1 ∷ 1 ∷ []));
  rows = 36 ∷ 0 ∷ 32 ∷ 9 ∷ 0 ∷ 0 ∷ [];
  words = 3 ∷ 281474977103874 ∷ 281474977103873 ∷ 0 ∷ 0 ∷ 0 ∷ [];
}

-- kind 1, fatal: 32 does not stop it; in cycle 3 one attempt fails and another is in doubt
abbrev case_ac : Entry
case_ac = record {
  given = with (record { resets = []; p = 0 ∷ 2 ∷ 0 ∷ 2 ∷ []; q = []; r = [] }) (made_fatal (sequence_case 1 3 (range 2 0) (4 ∷ 6 ∷ 6 ∷ 2 ∷ 4 ∷ 4 ∷ [])));
  rows = 4 ∷ 36 ∷ 4 ∷ 33 ∷ 0 ∷ 0 ∷ [];
  words = 1 ∷ 1 ∷ 3 ∷ stopped_word ∷ stopped_word ∷ stopped_word ∷ [];
}

-- the table, and the cases below it
abbrev pub table : List Entry
table = case_a ∷ case_b ∷ case_c ∷ case_d ∷ case_e ∷ case_f ∷ case_g ∷ case_h ∷ case_i ∷ case_j ∷ case_k ∷ case_l ∷ case_m ∷ case_n ∷ case_o ∷ case_p ∷ case_q ∷ case_r ∷ case_s ∷ case_t ∷ case_u ∷ case_v ∷ case_w ∷ case_x ∷ case_y ∷ case_z ∷ case_aa ∷ case_ab ∷ case_ac ∷ []

-- the same case with the rows and words that the rules give
abbrev pub by_rules : Entry → Entry
by_rules e = record {
  given = e.given;
  rows = tab_from (length e.given.sampled.p) (row e.given.config (trace_of e.given)) 0;
  words = tab_from (length e.given.sampled.p) (word e.given.config (trace_of e.given)) 0;
}
