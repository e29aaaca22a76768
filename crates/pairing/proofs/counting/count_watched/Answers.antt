use Rattle.std.proofs.Common.{◌≡◌, ℕ, ◌≤◌, Bool, take, ap, ◌∙◌, rules, arith}
use Rattle.std.specs.List.{count_by}
use Rattle.pairing.proofs.Sets.{how_many_by}
use Rattle.pairing.proofs.counting.count_watched.Goals as goal

pub returns : goal.returns
returns c =
    let few : c.args.sheet.now.n ≤ 15 = c.args.sheet.now.few in
    let counts : c.count.result ≡ count_by (λ (b : Bool). b) (take c.members.result c.args.watched.now) = search rules in
    counts ∙ (ap (λ (n : ℕ). count_by (λ (b : Bool). b) (take n c.args.watched.now)) c.members.ensures ∙ how_many_by c.args.watched.now c.args.sheet.now.n (omega arith))
