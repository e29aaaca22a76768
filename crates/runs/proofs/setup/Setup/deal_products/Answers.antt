use Rattle.std.proofs.Common.{◌≡◌, ℕ, ◌+◌, ◌<◌, List, length, get_or, take, vec_items, sym, ap, ap₂, ◌∙◌, subst, inl, inr, arith, lit<, rules}
use Rattle.std.proofs.lemmas.Result.{err_from_is_err_and}
use Rattle.field.specs.Field.{p, ◌⊕◌, ◌⊗◌}
use Rattle.field.proofs.Ring.{⊕-below}
use Rattle.shares.specs.Circle.{m}
use Rattle.shares.specs.Weights.{weights}
use Rattle.sheets.specs.Drawing.{after}
use Rattle.sheets.specs.Families.{family, of}
use Rattle.runs.specs.Setups.{circle_in}
use Rattle.runs.specs.Watching.{watches}
use Rattle.runs.proofs.Producing.{drawn_by, drawn_none, drawn_more, never_short, zeros, weight_at, dealings_none, dealings_more, dealings_skip, dealings_all}
use Rattle.shares.specs.Polynomial.{share_of}
use Rattle.runs.proofs.Inrow.{length-row}
use Rattle.runs.proofs.RowSteps.{get_or-weighted, length-weighted}
use Rattle.runs.proofs.setup.Setup.deal_products.Goals as goal
use Rattle.runs.proofs.setup.Setup.deal_products.Goals.{then-i-self, else-i-self}

pub loop-i-init : goal.loop-i-init
loop-i-init c =
    let empty : (j : ℕ) → j < 15 → get_or c.zero-made.result j 0 ≡ 0 = λ j lt. ap (λ (xs : List ℕ). get_or xs j 0) c.zero-made.ensures ∙ zeros j lt in (
      ap length c.zero-made.ensures,
      drawn_none c.args.self.now.t (of (family c.args.coins.now)),
      λ j lt. subst (λ (x : ℕ). x < p) (sym (empty j lt)) (lit< tt),
      λ f g ea eb. dealings_none (circle_in c.args.self.now) (watches c.args.self.now.watched) f g (of (family c.args.coins.now)) (vec_items c.args.seen.now) c.zero-made.result empty,
      c.requires.0,
    )

pub returns-in_err-row-clause-multiplied : goal.returns-in_err-row-clause-multiplied
returns-in_err-row-clause-multiplied c f g ea eb =
    let p = err_from_is_err_and c.from_residual.result c.from_residual.ensures.1 in
    rw (p.1, p.2)
    (elim c.in_err-row.ensures.dealt [
      | inl e ↦ e
      | inr h ↦ absurd (never_short (circle_in c.args.self.now) (of (family c.args.coins.now)) (of (family c.loop-i.coins)) c.loop-i.i c.requires.1 c.loop-i-test.true c.loop-i.invariant.1 h.1)
    ])

pub loop-i-preserved : goal.loop-i-preserved
loop-i-preserved c =
    let z = circle_in c.args.self.now in
    let watching = watches c.args.self.now.watched in
    let C : ℕ → List ℕ = of (family c.args.coins.now) in
    let k : ℕ = c.loop-i.i in
    let row : List ℕ = c.in_ok-row.row in
    let d = c.in_ok-row.ensures.dealt in
    let moved : of (family c.deal_out.new.coins) ≡ drawn_by c.args.self.now.t (k + 1) C =
    d.moved ∙ (ap (after (k + 1) c.args.self.now.t) c.loop-i.invariant.1 ∙ drawn_more c.args.self.now.t k C) in
    let few = c.args.self.now.few in
    let secret = c.product-secret.ensures.0 ∙ ap₂ (λ (xs ys : List ℕ). get_or xs k 0 ⊗ get_or ys k 0) c.shares.ensures c.shares-in-loop-i.ensures in
    let long : length row ≡ 15 = ap length d.sent ∙ length-row (share_of c.product-secret.result (take z.t (of (family c.loop-i.coins) (k + 1)))) in
    elim c.if-i-self.branch [
      | then-i-self w ↦
          let each : (j : ℕ) → j < 15 → get_or c.if-i-self.made j 0 ≡ get_or c.loop-i.made j 0 ⊕ get_or (weights (m z)) k 0 ⊗ get_or row j 0 =
          λ j lj. ap (λ (xs : List ℕ). get_or xs j 0) (w.made-is ∙ w.add_weighted.ensures)
          ∙ (get_or-weighted (get_or c.args.self.now.weights k 0) c.loop-i.made row j (long ∙ sym c.loop-i.invariant.0) (omega (arith, c.loop-i.invariant.0))
          ∙ ap (λ (x : ℕ). get_or c.loop-i.made j 0 ⊕ x ⊗ get_or row j 0) (weight_at z c.args.self.now.weights k c.args.self.now.weighs w.if-i-self.true)) in (
            ap length (w.made-is ∙ w.add_weighted.ensures) ∙ (length-weighted (get_or c.args.self.now.weights k 0) c.loop-i.made row (long ∙ sym c.loop-i.invariant.0) ∙ c.loop-i.invariant.0),
            moved,
            λ j lj. subst (λ (x : ℕ). x < p) (sym (each j lj)) (⊕-below (get_or c.loop-i.made j 0) (get_or (weights (m z)) k 0 ⊗ get_or row j 0)),
            λ f g ea eb. dealings_more z watching f g C c.args.a.now c.args.b.now k c.product-secret.result (of (family c.loop-i.coins)) (of (family c.deal_out.new.coins))
                (vec_items c.loop-i.seen) (vec_items c.deal_out.new.seen) row ea eb few c.loop-i-test.true c.loop-i.invariant.1 secret d
                (vec_items c.args.seen.now) c.loop-i.made c.if-i-self.made w.if-i-self.true each (c.loop-i.invariant.3 f g ea eb),
            c.in_ok-row.ensures.small,
          )
      | else-i-self w ↦ (
        ap length w.made-is ∙ c.loop-i.invariant.0,
        moved,
        λ j lj. subst (λ (xs : List ℕ). get_or xs j 0 < p) (sym w.made-is) (c.loop-i.invariant.2 j lj),
        λ f g ea eb. dealings_skip z watching f g C c.args.a.now c.args.b.now k c.product-secret.result (of (family c.loop-i.coins)) (of (family c.deal_out.new.coins))
            (vec_items c.loop-i.seen) (vec_items c.deal_out.new.seen) row ea eb few c.loop-i-test.true c.loop-i.invariant.1 secret d
            (vec_items c.args.seen.now) c.loop-i.made c.if-i-self.made w.if-i-self.false w.made-is (c.loop-i.invariant.3 f g ea eb),
        c.in_ok-row.ensures.small,
      )
    ]

pub returns-clause-multiplied : goal.returns-clause-multiplied
returns-clause-multiplied c f g ea eb =
    dealings_all (circle_in c.args.self.now) (watches c.args.self.now.watched) f g (of (family c.args.coins.now)) (vec_items c.args.seen.now) c.loop-i.i (vec_items c.loop-i.seen) c.loop-i.made
    (of (family c.loop-i.coins)) c.loop-i-test.false (search rules) c.loop-i.invariant.0 c.loop-i.invariant.2 c.loop-i.invariant.1 (c.loop-i.invariant.3 f g ea eb)
