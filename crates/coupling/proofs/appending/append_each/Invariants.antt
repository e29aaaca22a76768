use Rattle.std.proofs.Common.{map, vec_items}
use Rattle.sheets.specs.Families.{family}
use Rattle.coupling.proofs.Grows.{Partly}
use Rattle.coupling.proofs.appending.append_each.Given as goal

abbrev pub invariant-loop-k : goal.invariant-loop-k
invariant-loop-k l = Partly (map vec_items l.initial.list-items) (family l.more) (map vec_items l.list-items) l.k
