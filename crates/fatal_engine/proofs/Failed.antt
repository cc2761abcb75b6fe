-- What the loops leave of a fatal checker's stretch is a run, or the start of one that has failed. `g` is the checker made to go on. Assumes nothing.
use Prim.Native.Nat.{ℕ}
use mathlib.Core.Path.{◌≡◌, subst, subst⁻¹}
use mathlib.Core.List.{List}
use Rattle.rules.specs.declared.config.Config.{Config}
use Rattle.rules.specs.Config.{going_on_config, fatally}
use Rattle.rules.specs.Rules.{stopped_word}
use Rattle.rules.proofs.Severity.{fatally-going, severity-fatal}
use Rattle.trace.specs.declared.stretch.Stretch.{Stretch}
use Rattle.trace.specs.declared.stretch.Reached.{Reached}
use Rattle.trace.specs.Stretches.{Runnable, Ran, Watched, Stayed}
use Rattle.trace.proofs.Joined.{rest_from, rest-runnable, joined}
use Rattle.trace.proofs.Staying.{stayed-ran}

pub failed-before : {c : Config} → c.severity ≡ 1 → {trace rows words : List ℕ} {s : Stretch} → Runnable c trace rows words s → s.word ≡ stopped_word
    → {rows' words' : List ℕ} {r : Reached} → Stayed s rows words rows' words' r → Ran c trace rows words s rows' words' r
failed-before {c} e {trace} {s = s} m stops stayed = stayed-ran c (severity-fatal c e) trace s stops m stayed

module _ {c g : Config} (e : c.severity ≡ 1) (is : g ≡ going_on_config c) {trace rows words : List ℕ} {s : Stretch} (m : Runnable c trace rows words s) where
  pub fatal-runnable : Runnable (fatally g) trace rows words s
  fatal-runnable = subst⁻¹ (λ (x : Config). Runnable x trace rows words s) (fatally-going c g e is) m

  module _ {rows' words' : List ℕ} {r : Reached} (h : Watched (fatally g) trace rows words s rows' words' r) where
    watched : Watched c trace rows words s rows' words' r
    watched = subst (λ (x : Config). Watched x trace rows words s rows' words' r) (fatally-going c g e is) h

    pub not-failed : (r.word ≡ stopped_word → ⊥) → Ran c trace rows words s rows' words' r
    not-failed other = record { come = watched.come; stopped = watched.ended other }

    pub has-failed : r.word ≡ stopped_word → {rows'' words'' : List ℕ} {r' : Reached} → Stayed (rest_from s r) rows' words' rows'' words'' r'
        → Ran c trace rows words s rows'' words'' r'
    has-failed stops stayed =
        joined watched.come (stayed-ran c (severity-fatal c e) trace (rest_from s r) stops (rest-runnable watched.come m) stayed)
