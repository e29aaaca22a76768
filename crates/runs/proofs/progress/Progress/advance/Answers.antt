use Rattle.std.proofs.Common.{◌≡◌, List, [], ◌∷◌, ◌++◌, length, vec_items, subst, ap₂, ◌∙◌, inl, inr}
use Rattle.std.proofs.lemmas.List.{with_items_is}
use Rattle.std.proofs.lemmas.Result.{err_from_is_err_and}
use Rattle.sheets.specs.Families.{family, of}
use Rattle.sheets.specs.Numbers.{numbers}
use Rattle.runs.specs.Run.{share}
use Rattle.runs.specs.Setups.{circle_in}
use Rattle.runs.specs.Steps.{in_state, Entered}
use Rattle.runs.specs.Watching.{watches}
use Rattle.runs.specs.declared.progress.Progress.{Progress}
use Rattle.runs.proofs.Stepped.{row_read, good_sum, good_times, good_product, good_open, done_input, done_sum, done_times, done_product, done_open, product_short}
use Rattle.runs.proofs.progress.Progress.advance.Goals as goal
use Rattle.runs.proofs.progress.Progress.advance.Goals.{in-Input+in_ok-row-in-Input, in-Sum, in-Times, in-Product+in_ok-row-in-Product}

pub returns-clause-done : goal.returns-clause-done
returns-clause-done c values e =
    let z = circle_in c.args.setup.now in
    let watching = watches c.args.setup.now.watched in
    let p = c.args.self.now in
    let rows = vec_items p.held in
    let figures = numbers p.figures in
    let coins = of (family c.args.coins.now) in
    let s = in_state values figures coins in
    let kept = vec_items c.push.new.self in
    elim c.match-line.branch [
      | in-Input+in_ok-row-in-Input w ↦
          let row = w.in_ok-row-in-Input.row in
          let pushed : kept ≡ rows ++ row ∷ [] = c.in_ok-push.ensures.items ∙ ap₂ (λ (q : Progress) (r : List _). vec_items q.held ++ r ∷ []) w.self-is w.row-is in
          rw (w.self-is, w.coins-is, with_items_is p.figures.lists w.put_in.new.figures (w.put_in.auto.figures ∙ w.deref_mut.ensures.len))
          (done_input z watching values rows kept figures coins (vec_items p.opened) (vec_items p.seen) e
          c.args.line w.in-Input.member w.in-Input.is (of (family w.put_in.new.figures)) (of (family w.put_in.new.coins)) (vec_items w.put_in.new.seen) row
          (subst (λ xs. Entered z watching w.in-Input.member (of (family xs)) (of (family w.put_in.new.figures)) coins (of (family w.put_in.new.coins)) (vec_items p.seen) (vec_items w.put_in.new.seen) row) w.deref_mut.ensures.value w.in_ok-row-in-Input.ensures.entered)
          pushed)
      | in-Sum w ↦
          let there = good_sum c.args.setup.now.n (length rows) c.args.line c.requires.0 w.in-Sum.a w.in-Sum.b w.in-Sum.is in
          let pushed = c.in_ok-push.ensures.items ∙ ap₂ (λ (q : Progress) (r : List _). vec_items q.held ++ r ∷ []) w.self-is (w.row-is ∙ w.sum-row.ensures) in
          rw (w.self-is, w.coins-is)
          (done_sum z watching values rows kept figures coins (vec_items p.opened) (vec_items p.seen) e
          c.args.line w.in-Sum.a w.in-Sum.b w.in-Sum.is w.index.result.now w.index-in-Sum.result.now
          there.0 there.1 w.index.ensures w.index-in-Sum.ensures pushed)
      | in-Times w ↦
          let there = good_times c.args.setup.now.n (length rows) c.args.line c.requires.0 w.in-Times.factor w.in-Times.a w.in-Times.is in
          let pushed = c.in_ok-push.ensures.items ∙ ap₂ (λ (q : Progress) (r : List _). vec_items q.held ++ r ∷ []) w.self-is (w.row-is ∙ w.multiple-row.ensures) in
          rw (w.self-is, w.coins-is)
          (done_times z watching values rows kept figures coins (vec_items p.opened) (vec_items p.seen) e
          c.args.line w.in-Times.factor w.in-Times.a w.in-Times.is w.index-in-Times.result.now
          there w.index-in-Times.ensures pushed)
      | in-Product+in_ok-row-in-Product w ↦
          let there = good_product c.args.setup.now.n (length rows) c.args.line c.requires.0 w.in-Product.a w.in-Product.b w.in-Product.is in
          let row = w.in_ok-row-in-Product.row in
          let pushed : kept ≡ rows ++ row ∷ [] = c.in_ok-push.ensures.items ∙ ap₂ (λ (q : Progress) (r : List _). vec_items q.held ++ r ∷ []) w.self-is w.row-is in
          rw (w.self-is, w.coins-is)
          (done_product z watching values rows kept figures coins (vec_items p.opened) (vec_items p.seen) e
          c.args.line w.in-Product.a w.in-Product.b w.in-Product.is (of (family w.multiply.new.coins)) (vec_items w.multiply.new.seen) row
          (w.in_ok-row-in-Product.ensures.product (share s w.in-Product.a) (share s w.in-Product.b)
          (row_read rows values w.in-Product.a w.index-in-Product.result.now e there.0 w.index-in-Product.ensures)
          (row_read rows values w.in-Product.b w.index-in-Product-2.result.now e there.1 w.index-in-Product-2.ensures))
          pushed)
    ]

pub returns-in_err-row-in-Product-clause-done : goal.returns-in_err-row-in-Product-clause-done
returns-in_err-row-in-Product-clause-done c values e =
    let rows = vec_items c.args.self.now.held in
    let s = in_state values (numbers c.args.self.now.figures) (of (family c.args.coins.now)) in
    let there = good_product c.args.setup.now.n (length rows) c.args.line c.requires.0 c.in-Product.a c.in-Product.b c.in-Product.is in
    let h = c.in_err-row-in-Product.ensures.product (share s c.in-Product.a) (share s c.in-Product.b)
    (row_read rows values c.in-Product.a c.index-in-Product.result.now e there.0 c.index-in-Product.ensures)
    (row_read rows values c.in-Product.b c.index-in-Product-2.result.now e there.1 c.index-in-Product-2.ensures) in
    let p = err_from_is_err_and c.from_residual-in_err-row-in-Product.result c.from_residual-in_err-row-in-Product.ensures.1 in
    rw (p.1, p.2)
    (elim h [
      | inl x ↦ inl x
      | inr short ↦ inr (product_short (circle_in c.args.setup.now) c.args.line c.in-Product.a c.in-Product.b (numbers c.args.self.now.figures) (of (family c.args.coins.now)) c.in_err-row-in-Product.field-0.0 c.in-Product.is short)
    ])

pub returns-in-Open-clause-done : goal.returns-in-Open-clause-done
returns-in-Open-clause-done c values e =
    let p = c.args.self.now in
    let rows = vec_items p.held in
    let s = in_state values (numbers p.figures) (of (family c.args.coins.now)) in
    let there = good_open c.args.setup.now.n (length rows) c.args.line c.requires.0 c.in-Open.a c.in-Open.is in
    done_open (circle_in c.args.setup.now) (watches c.args.setup.now.watched) values rows rows
    (numbers p.figures) (of (family c.args.coins.now)) (vec_items p.opened) (vec_items p.seen) e
    c.args.line c.in-Open.a c.in-Open.is (vec_items c.show.new.opened) (vec_items c.show.new.seen) c.show.result
    (c.show.ensures (share s c.in-Open.a) (row_read rows values c.in-Open.a c.index-row.result.now e there c.index-row.ensures))
