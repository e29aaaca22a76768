use Rattle.std.proofs.Common.{sym, ◌∙◌, ⊎_elim, inl, inr, rules}
use Rattle.shares.proofs.Dots.{dot_none, dot_more, dot_done, dot-take}
use Rattle.shares.proofs.joining.join.Goals as goal

pub loop-weight-init : goal.loop-weight-init
loop-weight-init c = search (rules, dot_none)

pub loop-weight-preserved : goal.loop-weight-preserved
loop-weight-preserved c =
    let left = c.loop-weight.weight-iterator in
    let next = c.next.new.self in (
      c.sum-joined.ensures.1,
      rw (c.sum-joined.ensures.0, c.product.ensures.0)
          (dot_more c.loop-weight.joined c.in-Some.weight.now c.in-Some.share.now left.a.rest.now next.a.rest.now left.b.rest.now next.b.rest.now
          c.in-Some.ensures.steps.0 c.in-Some.ensures.steps.1 ∙ c.loop-weight.invariant.1),
    )

pub returns : goal.returns
returns c =
    let left = c.loop-weight.weight-iterator in (
      sym (dot_done c.loop-weight.joined left.a.rest.now left.b.rest.now c.loop-weight.invariant.0
          (⊎_elim (λ e. inl e.1.0) (λ e. inr e.1.0) c.in-None.ensures.steps))
          ∙ (c.loop-weight.invariant.1 ∙ sym (dot-take c.args.weights.now c.args.shares.now)),
      c.loop-weight.invariant.0,
    )
