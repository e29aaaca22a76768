use Rattle.std.proofs.Common.{vec_items, rules}
use Rattle.std.proofs.lemmas.Iterator.{YieldsList-from_slice, YieldsList-from_map_by, items_from_drains}
use Rattle.files.proofs.lending.lend.Goals as goal

pub returns-clause-lists : goal.returns-clause-lists
returns-clause-lists c =
    let got = c.in_ok-collect.ensures.ran in
    rw got.2.0
    (items_from_drains got.0 got.1
    (YieldsList-from_map_by _ (λ r. r.now) vec_items (YieldsList-from_slice c.args.lists.now cc) c.map.ensures.closure (λ x r q k. search rules)))
