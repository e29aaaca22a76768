use Rattle.std.proofs.Common.{◌≡◌, ℕ, ◌≤◌, Bool, List, ◌++◌, length, take, vec_items, sym, ap, ◌∙◌, ⊎_elim, arith, rules}
use Rattle.std.proofs.lemmas.List.{length-drop, length-take}
use Rattle.shares.specs.Circle.{members}
use Rattle.runs.specs.Row.{in_row}
use Rattle.runs.specs.Watching.{watches}
use Rattle.runs.proofs.Left.{each, left_all, kept_is}
use Rattle.runs.proofs.setup.Setup.note_shares.Goals as goal

pub returns : goal.returns
returns c =
    let setup = c.args.self.now in
    let k = length c.loop-share.yielded in
    let flags : ℕ → Bool = watches setup.watched in
    let f : ℕ → ℕ = in_row c.args.row.now in
    let left = c.loop-share.invariant in
    let wide : length c.args.row.now ≡ 15 = search rules in
    let long : length setup.watched ≡ 15 = search rules in
    let all : setup.n ≤ k = ⊎_elim
    (λ e. omega (arith, e.1.0, ap length left.1, length-drop k c.args.row.now, wide, setup.few))
    (λ e. omega (arith, e.1.0, ap length left.2, length-drop k (take setup.n setup.watched), length-take setup.n setup.watched, long, setup.few))
    c.in-None.ensures.steps in
    left_all (each flags f) (vec_items c.args.seen.now) setup.n k (vec_items c.loop-share.seen) all left.0
    ∙ ap (λ (xs : List ℕ). vec_items c.args.seen.now ++ xs) (sym (kept_is flags f (members setup.n)))
