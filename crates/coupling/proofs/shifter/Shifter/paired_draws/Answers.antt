use Rattle.std.proofs.Common.{◌≡◌, ℕ, ◌+◌, ◌≤◌, T, List, [], length, get_or, sym, ap, ◌∙◌, subst, Bor, arith, rules}
use Rattle.std.proofs.lemmas.List.{length-take, length-set}
use Rattle.field.specs.Field.{◌⊕◌, below}
use Rattle.field.proofs.Below.{below-take}
use Rattle.sheets.specs.Lines.{deals}
use Rattle.runs.specs.Setups.{circle_in}
use Rattle.sheets.specs.Families.{family, of}
use Rattle.sheets.specs.Numbers.{lists_in, numbers}
use Rattle.sheets.proofs.Checked.{reduced-from}
use Rattle.coupling.proofs.Draws.{Draw, counted_few, draw_is, draw_none, place_more, all_below-set, below_at}
use Rattle.coupling.proofs.shifter.Shifter.paired_draws.Goals as goal
use Rattle.coupling.proofs.shifter.Shifter.paired_draws.Goals.{then-count-gt0, else-count-gt0}

pub shift-requires : goal.shift-requires
shift-requires c =
    let z = circle_in c.args.self.now.setup in
    let list : List ℕ = c.list_of.result.now in
    let own : list ≡ numbers c.args.coins.now (c.loop-i.i + 1) = c.list_of.ensures ∙ ap (λ (xs : List (Bor (List ℕ))). of (family xs) (c.loop-i.i + 1)) c.deref.ensures.value in
    let few : z.t ≤ 7 = omega arith in
    let count : c.coins_of-count.result ≤ 7 = counted_few (deals z c.args.line (c.loop-i.i + 1)) z.t c.coins_of-count.result 7 (λ d. few) c.coins_of-count.ensures in (
      simp length-take (omega arith),
      below-take c.coins_of-count.result list (subst (λ (xs : List ℕ). T (below xs)) (sym own) (reduced-from (lists_in c.args.coins.now) c.args.coins.now.small (c.loop-i.i + 1))),
    )

pub loop-i-preserved : goal.loop-i-preserved
loop-i-preserved c =
    let z = circle_in c.args.self.now.setup in
    let mask = c.args.self.now.mask in
    let i : ℕ = c.loop-i.i in
    elim c.if-count-gt0.branch [
      | then-count-gt0 w ↦
          rw (w.draw-items-is) (
            simp length-set c.loop-i.invariant.0,
            all_below-set c.loop-i.draw-items i w.shift.result w.shift.ensures.small c.loop-i.invariant.1,
            λ s s' e h h'.
                let list : List ℕ = w.list_of.result.now in
                let own : list ≡ numbers c.args.coins.now (i + 1) = w.list_of.ensures ∙ ap (λ (xs : List (Bor (List ℕ))). of (family xs) (i + 1)) w.deref.ensures.value in
                let few : z.t ≤ 7 = omega arith in
                let seven : length w.shift.result ≡ 7 = search rules in
                let eight : length mask ≡ 8 = search rules in
                place_more (Draw z mask c.args.line s s') c.loop-i.draw-items w.shift.result i (omega arith) (c.loop-i.invariant.2 s s' e h h')
                (draw_is z mask c.args.line s s' i w.sum.result w.secret-less.result w.secret-more.result c.coins_of-count.result list w.shift.result
                few eight seven
                (λ d. subst (λ (xs : List ℕ). z.t ≤ length xs) (sym own) (c.requires.enough (i + 1) d))
                c.coins_of-count.ensures (own ∙ ap (λ (f : ℕ → List ℕ). f (i + 1)) e)
                (w.secret-less.ensures.value s h) (w.secret-more.ensures.value s' h')
                (w.sum.ensures.0 ∙ ap (λ (x : ℕ). w.secret-more.result ⊕ x) w.negative.ensures.0) w.shift.ensures.places),
          )
      | else-count-gt0 w ↦
          let same : List ℕ = get_or c.loop-i.draw-items i [] in
          rw (w.draw-items-is) (
            simp length-set c.loop-i.invariant.0,
            all_below-set c.loop-i.draw-items i same (below_at c.loop-i.draw-items i c.loop-i.invariant.1) c.loop-i.invariant.1,
            λ s s' e h h'.
                place_more (Draw z mask c.args.line s s') c.loop-i.draw-items same i (omega arith) (c.loop-i.invariant.2 s s' e h h')
                (draw_none z mask c.args.line s s' i c.coins_of-count.result same c.coins_of-count.ensures (omega (arith, w.if-count-gt0.false))),
          )
    ]
