-- A checker's configuration and when it is refused, from document 01, "Seven checkers" and "Refusal numbers", and document 02, §4, §5 and §7. Assumes nothing.
use Rattle.std.specs.Prelude.{ℕ, ◌^◌, ◌≡◌, Bool, true, false, ◌&&◌, cond, leb, ltb, eqb}
use Rattle.bus.specs.Range.{width, within}
use Rattle.bus.specs.declared.range.Range.{Range}
use Rattle.rules.specs.declared.config.Config.{Config}

-- "Kind numbers 0 to 2 are cycle sequence […] 3 to 5 are time […] 6 is transition." The value and the stability check after a trigger are "kinds 7 and 8, so
-- refusal 1 starts at 9".
pub data Family : Type 0 where
  sequence time transition value stability none : Family

abbrev pub pick : {A : Type 0} → Bool → A → A → A
pick true a b = a
pick false a b = b

unfoldable pub family : ℕ → Family
family kind =
    pick (leb kind 2) sequence (pick (leb kind 5) time (pick (leb kind 6) transition (pick (leb kind 7) value (pick (leb kind 8) stability none))))

-- "n = num_cks": "2 to 32" events, a window of 1 to 65,535 cycles, "must be 0"; and "n is max". §5: "Raise n for kinds 3 to 5 from 1,024 to 65,535, and max in
-- §4 too. 65,536 is refusal 2."
abbrev pub min_events : ℕ
min_events = 2

abbrev pub max_events : ℕ
max_events = 32

abbrev pub min_window : ℕ
min_window = 1

abbrev pub max_window : ℕ
max_window = 65535

unfoldable pub family_limits : Family → ℕ → Bool
family_limits sequence n = leb min_events n && leb n max_events
family_limits time n = leb min_window n && leb n max_window
family_limits transition n = eqb n 0
family_limits value n = leb n max_window
family_limits stability n = leb n max_window
family_limits none n = false

-- "An unused port must be 0:0."
unfoldable pub unused : Range → Bool
unused r = eqb r.left 0 && eqb r.right 0

-- the widths of the ports that a family uses, and that it does not use the others: "P events, width n"; "P start, Q test, width 1 each";
-- "P test, Q start state, R next state, equal width"; "P is the tracked value, Q the trigger (width 1)"
unfoldable pub widths_of : Family → Config → Bool
widths_of sequence c = eqb (width c.p) c.n && (unused c.q && unused c.r)
widths_of time c = eqb (width c.p) 1 && (eqb (width c.q) 1 && unused c.r)
widths_of transition c = eqb (width c.q) (width c.p) && eqb (width c.r) (width c.p)
widths_of value c = eqb (width c.q) 1 && unused c.r
widths_of stability c = eqb (width c.q) 1 && unused c.r
widths_of none c = false

unfoldable pub widths : Config → Bool
widths c = widths_of (family c.kind) c

-- "Min above max […] is refusal 2"; "min and the expected value are constants of the configuration, 0 where unused (else refusal 2 for min, 3 for the value, also
-- 3 when it does not fit P)"
unfoldable pub min_fits : Config → Bool
min_fits c = cond (leb c.kind 6) (eqb c.min 0) (leb c.min c.n)

unfoldable pub value_fits : Config → Bool
value_fits c = cond (eqb c.kind 7) (ltb c.value (2 ^ width c.p)) (eqb c.value 0)

unfoldable pub n_fits : Config → Bool
n_fits c = family_limits (family c.kind) c.n

-- "a severity: 0 goes on, 1 is fatal, else refusal 2"
unfoldable pub severity_fits : Config → Bool
severity_fits c = leb c.severity 1

unfoldable pub fatal : Config → Bool
fatal c = eqb c.severity 1

unfoldable pub limits : Config → Bool
limits c = (n_fits c && min_fits c) && severity_fits c

-- no index above 31, the right widths, unused ports 0:0, and the value that is expected at P
unfoldable pub ports : Config → Bool
ports c = (within c.p && (within c.q && within c.r)) && (widths c && value_fits c)

abbrev pub max_kind : ℕ
max_kind = 8

-- "1: kind above 6", now 8. "2: n outside its limits. 3: index above 31, wrong width, or unused port not 0:0." Tested "by number".
unfoldable pub config_refusal : Config → ℕ
config_refusal c = cond (leb c.kind max_kind) (cond (limits c) (cond (ports c) 0 3) 2) 1

-- a configuration that no call refuses
abbrev pub Good : Config → Type 0
Good c = config_refusal c ≡ 0

-- the same checker, made to go on after a failure, and made fatal
abbrev pub with_severity : ℕ → Config → Config
with_severity x c = record { kind = c.kind; n = c.n; p = c.p; q = c.q; r = c.r; min = c.min; value = c.value; severity = x }

abbrev pub going_on_config : Config → Config
going_on_config c = with_severity 0 c

abbrev pub fatally : Config → Config
fatally c = with_severity 1 c

-- a checker of a family that goes on after a failure
abbrev pub GoesOn : Family → Config → Type 0
GoesOn k c = (family c.kind ≡ k) × (c.severity ≡ 0)
