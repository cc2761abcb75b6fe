-- `checker::monitor::Monitor::step` meets its contract: what is not refused is what `step` takes. Assumes nothing.
use mathlib.Core.Path.{sym}
use Rattle.open_words.proofs.Refusals.{not_refused}
use Rattle.checker.proofs.monitor.Monitor.step.Goals as goal

pub step-next-requires : goal.step-next-requires
step-next-requires c =
    let m = c.args.self in
    let ok = not_refused m.config m.word (sym c.in_ok-refusal.ensures.number) in
    (ok.good, ok.possible_word)
