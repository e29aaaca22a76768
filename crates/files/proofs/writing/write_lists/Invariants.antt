use Rattle.std.proofs.Common.{◌≡◌, T, ◌++◌, map, take, vec_items}
use Rattle.files.specs.Writing.{circle_bytes, counts_fit}
use Rattle.files.proofs.writing.write_lists.Given as goal

abbrev pub invariant-loop-list : goal.invariant-loop-list
invariant-loop-list l =
    T (counts_fit (map vec_items (take l.list-index l.lists)))
    × (vec_items l.out ≡ vec_items l.initial.out ++ circle_bytes (map vec_items (take l.list-index l.lists)))
