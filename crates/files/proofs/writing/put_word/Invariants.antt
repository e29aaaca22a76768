use Rattle.std.proofs.Common.{◌≡◌, ◌+◌, ◌++◌, take, vec_items, vec_len, vec_capacity}
use Rattle.files.proofs.writing.put_word.Given as goal

abbrev pub invariant-loop-byte : goal.invariant-loop-byte
invariant-loop-byte l =
    (vec_items l.out ≡ vec_items l.initial.out ++ take l.byte-index l.byte-items)
    × (vec_len l.out ≡ vec_len l.initial.out + l.byte-index)
    × (vec_capacity l.out ≡ vec_capacity l.initial.out)
