use Rattle.std.proofs.Common.{◌/◌, length, rules}
use Rattle.std.specs.Simd.{first_chunks}
use Rattle.std.proofs.lemmas.Iterator.{YieldsList-from_slice, YieldsList-from_map, items_from_collect}
use Rattle.files.proofs.WordSteps.{front, words_chunks}
use Rattle.files.proofs.words.split_words.Goals as goal

pub returns : goal.returns
returns c =
    rw (← words_chunks c.args.bytes.now)
    (items_from_collect c.collect.result c.collect.ensures.ran
    (YieldsList-from_map _ front (YieldsList-from_slice (first_chunks 4 (length c.args.bytes.now / 4) c.args.bytes.now) cc) c.map.ensures.closure (λ x r q k. search rules)))
