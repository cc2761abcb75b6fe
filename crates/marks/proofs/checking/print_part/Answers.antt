-- `marks::checking::print_part` is safe: the parts that it lends have the lengths that are due. Assumes nothing.
use mathlib.Core.Path.{sym}
use lib.Seq.{length-take-le}
use Rattle.marks.proofs.Laws as laws
use borrow.Author.Rules.{rules}
use Rattle.marks.proofs.checking.print_part.Goals as goal

pub slice_bounds-print_checked-end : goal.slice_bounds-print_checked-end
slice_bounds-print_checked-end g c = sym (length-take-le _ _ (search rules))

pub slice_bounds-print_checked-end-3 : goal.slice_bounds-print_checked-end-3
slice_bounds-print_checked-end-3 g c = sym (length-take-le _ _ (search rules))

pub slice_bounds-print_checked-end-5 : goal.slice_bounds-print_checked-end-5
slice_bounds-print_checked-end-5 g c = sym (length-take-le _ _ (search rules))

pub print_checked-requires : goal.print_checked-requires
print_checked-requires g c =
    let part = laws.part-frames c.args.n c.args.trace.now in
    (part c.args.rows.now c.requires.0 c.requires.1, part c.args.words.now c.requires.0 c.requires.2)
