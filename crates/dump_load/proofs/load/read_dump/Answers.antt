use Rattle.dump_load.proofs.Laws as laws
use Rattle.dump_load.specs.Loading.{answered, read_all}
use mathlib.Core.Path.{refl, ◌∙◌}
use native.Mathlib.Omega.{arith}
use Rattle.dump_load.proofs.load.read_dump.Goals as goal

pub end_text-t-requires : goal.end_text-t-requires
end_text-t-requires c = (c.read_bytes-s.auto.store ∙ c.put_table.auto.store, c.read_bytes-s.auto.digits, omega (arith, c.read_bytes-s.auto.frames, c.requires.1))

pub returns : goal.returns
unfolding answered read_all
returns c = (laws.answers c.args.dump.now c.args.wires.now c.args.frames.now _ _ _ c.first_reader-r.ensures c.put_table.ensures refl _ _ c.read_bytes-s.ensures c.end_text-t.ensures _ c.answer_of.ensures, laws.leaves c.args.dump.now c.args.wires.now c.args.frames.now _ _ _ c.first_reader-r.ensures c.put_table.ensures refl _ _ c.read_bytes-s.ensures c.end_text-t.ensures)
