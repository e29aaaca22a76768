use Rattle.std.proofs.Common.{◌≡◌, ℕ, ◌/◌, T, List, length, sym, subst, rules}
use Rattle.std.specs.Simd.{first_chunks}
use Rattle.std.proofs.lemmas.Iterator.{YieldsList-from_slice, YieldsList-from_map}
use Rattle.std.proofs.lemmas.Iterator.Adapters.{items_from_extend}
use Rattle.std.proofs.lemmas.Iterator.Consumers.{YieldsList-from_filter_map}
use Rattle.std.proofs.lemmas.Result.{IfOk-at_ok}
use Rattle.field.specs.Field.{below}
use Rattle.files.specs.Files.{coin_in, coins_of}
use Rattle.files.specs.Words.{words}
use Rattle.files.proofs.CoinSteps.{coins-below}
use Rattle.files.proofs.WordSteps.{front, words_chunks}
use Rattle.files.proofs.coins.split_coins.Goals as goal

pub returns : goal.returns
returns c =
    let got = IfOk-at_ok _ c.in_ok-extend.was (items_from_extend c.extend.result c.extend.ensures.ran
    (YieldsList-from_filter_map _ coin_in
    (YieldsList-from_map _ front (YieldsList-from_slice (first_chunks 4 (length c.args.bytes.now / 4) c.args.bytes.now) cc) c.map.ensures.closure (λ x r q k. search rules))
    c.filter_map.ensures.closure (λ x r q k. search rules))) in
    let is : c.extend.new.self.items ≡ coins_of (words c.args.bytes.now) = rw (← words_chunks c.args.bytes.now) (rw c.in_ok-coins.ensures.items at got.0) in
    record { coins = is; in_field = subst (λ (l : List ℕ). T (below l)) (sym is) (coins-below (words c.args.bytes.now)) }
