-- `tally::tally::Tally::all` meets its contract: each entry of an array of one value is that value. Assumes nothing.
use lib.ListN.{get_or-replicate}
use Rattle.rules.specs.Rules.{marks}
use Rattle.tally.proofs.tally.Tally.all.Goals as goal

pub returns : goal.returns
returns c i h = get_or-replicate marks i c.args.count 0 h
