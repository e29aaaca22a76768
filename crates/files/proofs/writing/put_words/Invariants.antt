use Rattle.std.proofs.Common.{◌≡◌, ◌+◌, ◌*◌, ◌++◌, take, vec_items, vec_len, vec_capacity}
use Rattle.files.specs.Writing.{bytes_of}
use Rattle.files.proofs.writing.put_words.Given as goal

abbrev pub invariant-loop-word : goal.invariant-loop-word
invariant-loop-word l =
    (vec_items l.out ≡ vec_items l.initial.out ++ bytes_of (take l.word-index l.words))
    × (vec_len l.out ≡ vec_len l.initial.out + l.word-index * 4)
    × (vec_capacity l.out ≡ vec_capacity l.initial.out)
