use Rattle.std.proofs.Common.{◌≡◌, ℕ, not, eqb, rules, tests, sym, ◌∙◌}
use Rattle.std.proofs.lemmas.Iterator.{YieldsList-from_slice, YieldsList-from_zip}
use Rattle.std.proofs.lemmas.Iterator.Adapters.{position_from-zero}
use Rattle.std.proofs.lemmas.Iterator.Search.{position_from_yields_List}
use Rattle.std.specs.List.{position, zip}
use Rattle.pairing.specs.Differing.{differ}
use Rattle.pairing.proofs.Differs.{differ_by}
use Rattle.pairing.proofs.differing.first_difference.Goals as goal

pub returns : goal.returns
returns c =
    let left = c.args.left.now in
    let right = c.args.right.now in
    let differs = λ (p : ℕ × ℕ). not (eqb p.0 p.1) in
    let pairs = YieldsList-from_zip {s = c.zip.result} (YieldsList-from_slice left (cc)) (YieldsList-from_slice right (cc)) in
    let first : c.position.result ≡ position differs (zip left right) =
    position_from_yields_List differs c.position.new.self _ c.position.result c.position.ensures.ran pairs (λ x b q k. search (rules, tests)) in
    let place : c.position.result ≡ differ 0 left right = first ∙ (position_from-zero differs (zip left right) ∙ sym (differ_by 0 left right)) in
    search (rules, place)
