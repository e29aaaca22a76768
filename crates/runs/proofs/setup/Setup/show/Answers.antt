use Rattle.std.proofs.Common.{ℕ, List, [], ◌∷◌, ◌++◌, vec_items, ap, ◌∙◌}
use Rattle.runs.specs.Setups.{circle_in}
use Rattle.runs.proofs.Stepped.{front_row, joined-row}
use Rattle.runs.proofs.setup.Setup.show.Goals as goal

pub returns : goal.returns
returns c f e = (
  c.in_ok-push.ensures.items
      ∙ ap (λ (v : ℕ). vec_items c.args.opened.now ++ v ∷ [])
      (joined-row (circle_in c.args.self.now) f c.shares-2.result.now _ c.join.result c.args.self.now.few c.args.self.now.enough (c.shares-2.ensures ∙ e) c.args.self.now.weighs c.join.ensures.0),
  c.in_ok-extend_from_slice.ensures.items ∙ ap (λ (xs : List ℕ). vec_items c.args.seen.now ++ xs) (front_row f c.shares.result.now c.args.self.now.n c.args.self.now.few (c.shares.ensures ∙ e)),
)
