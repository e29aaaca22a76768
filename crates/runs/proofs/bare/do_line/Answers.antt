use Rattle.std.proofs.Common.{◌≡◌, List, [], ◌∷◌, ◌++◌, length, vec_items, ap, ap₂, ◌∙◌, inl, inr}
use Rattle.std.proofs.lemmas.Result.{err_from_is_err_and}
use Rattle.shares.specs.Polynomial.{added, scaled}
use Rattle.sheets.specs.Families.{family, of}
use Rattle.sheets.proofs.Checked.{below-from-reduced}
use Rattle.runs.specs.Run.{share}
use Rattle.runs.specs.Setups.{circle_in}
use Rattle.runs.specs.Steps.{in_state}
use Rattle.runs.specs.Watching.{watches}
use Rattle.runs.proofs.Stepped.{row_read, good_sum, good_times, good_product, good_open, done_input, done_sum, done_times, done_product, done_open, product_short}
use Rattle.runs.proofs.bare.do_line.Goals as goal
use Rattle.runs.proofs.bare.do_line.Goals.{in-Input+in_ok-row-in-Input, in-Sum, in-Times, in-Product+in_ok-row-in-Product}

pub put_in-requires : goal.put_in-requires
put_in-requires c = (below-from-reduced (family c.args.figures.now) c.requires.figures_small, below-from-reduced (family c.args.coins.now) c.requires.coins_small)

pub multiply-requires : goal.multiply-requires
multiply-requires c = below-from-reduced (family c.args.coins.now) c.requires.coins_small

pub returns-in_err-row-in-Product : goal.returns-in_err-row-in-Product
returns-in_err-row-in-Product c values e =
    let rows = vec_items c.args.held.now in
    let s = in_state values (of (family c.args.figures.now)) (of (family c.args.coins.now)) in
    let there = good_product c.args.setup.now.n (length rows) c.args.line c.requires.good c.in-Product.a c.in-Product.b c.in-Product.is in
    let h = c.in_err-row-in-Product.ensures.product (share s c.in-Product.a) (share s c.in-Product.b)
    (c.new-a.ensures ∙ row_read rows values c.in-Product.a c.index-in-Product.result.now e there.0 c.index-in-Product.ensures)
    (c.new-b.ensures ∙ row_read rows values c.in-Product.b c.index-in-Product-2.result.now e there.1 c.index-in-Product-2.ensures) in
    let p = err_from_is_err_and c.from_residual-in_err-row-in-Product.result c.from_residual-in_err-row-in-Product.ensures.1 in
    rw (p.1, p.2)
    (elim h [
      | inl x ↦ inl x
      | inr short ↦ inr (product_short (circle_in c.args.setup.now) c.args.line c.in-Product.a c.in-Product.b (of (family c.args.figures.now)) (of (family c.args.coins.now)) c.in_err-row-in-Product.field-0.0 c.in-Product.is short)
    ])

pub returns-in-Open : goal.returns-in-Open
returns-in-Open c values e =
    let rows = vec_items c.args.held.now in
    let s = in_state values (of (family c.args.figures.now)) (of (family c.args.coins.now)) in
    let there = good_open c.args.setup.now.n (length rows) c.args.line c.requires.good c.in-Open.a c.in-Open.is in
    done_open (circle_in c.args.setup.now) (watches c.args.setup.now.watched) values rows rows
    (of (family c.args.figures.now)) (of (family c.args.coins.now)) (vec_items c.args.opened.now) (vec_items c.args.seen.now) e
    c.args.line c.in-Open.a c.in-Open.is (vec_items c.show.new.opened) (vec_items c.show.new.seen) c.show.result
    (c.show.ensures (share s c.in-Open.a) (c.new-in-Open.ensures ∙ row_read rows values c.in-Open.a c.index-in-Open.result.now e there c.index-in-Open.ensures))

pub returns : goal.returns
returns c values e =
    let z = circle_in c.args.setup.now in
    let watching = watches c.args.setup.now.watched in
    let rows = vec_items c.args.held.now in
    let figures = of (family c.args.figures.now) in
    let coins = of (family c.args.coins.now) in
    let opened = vec_items c.args.opened.now in
    let seen = vec_items c.args.seen.now in
    let s = in_state values figures coins in
    let kept = vec_items c.push.new.self in
    let pushed : kept ≡ rows ++ c.match-line.row ∷ [] = c.in_ok-push.ensures.items ∙ ap (λ (r : List _). rows ++ r ∷ []) c.shares.ensures in
    elim c.match-line.branch [
      | in-Input+in_ok-row-in-Input w ↦
          rw (w.figures-is, w.coins-is, w.seen-is)
          (done_input z watching values rows kept figures coins opened seen e
          c.args.line w.in-Input.member w.in-Input.is (of (family w.put_in.new.figures)) (of (family w.put_in.new.coins)) (vec_items w.put_in.new.seen) w.in_ok-row-in-Input.row
          w.in_ok-row-in-Input.ensures.entered (pushed ∙ ap (λ (r : List _). rows ++ r ∷ []) w.row-is))
      | in-Sum w ↦
          let there = good_sum c.args.setup.now.n (length rows) c.args.line c.requires.good w.in-Sum.a w.in-Sum.b w.in-Sum.is in
          rw (w.figures-is, w.coins-is, w.seen-is)
          (done_sum z watching values rows kept figures coins opened seen e
          c.args.line w.in-Sum.a w.in-Sum.b w.in-Sum.is w.index.result.now w.index-in-Sum.result.now
          there.0 there.1 w.index.ensures w.index-in-Sum.ensures (pushed ∙ ap (λ (r : List _). rows ++ r ∷ []) (w.row-is ∙ (w.sum-row.ensures ∙ ap₂ added w.new.ensures w.new-in-Sum.ensures))))
      | in-Times w ↦
          let there = good_times c.args.setup.now.n (length rows) c.args.line c.requires.good w.in-Times.factor w.in-Times.a w.in-Times.is in
          rw (w.figures-is, w.coins-is, w.seen-is)
          (done_times z watching values rows kept figures coins opened seen e
          c.args.line w.in-Times.factor w.in-Times.a w.in-Times.is w.index-in-Times.result.now
          there w.index-in-Times.ensures (pushed ∙ ap (λ (r : List _). rows ++ r ∷ []) (w.row-is ∙ (w.multiple-row.ensures ∙ ap (scaled w.in-Times.factor) w.new-in-Times.ensures))))
      | in-Product+in_ok-row-in-Product w ↦
          let there = good_product c.args.setup.now.n (length rows) c.args.line c.requires.good w.in-Product.a w.in-Product.b w.in-Product.is in
          rw (w.figures-is, w.coins-is, w.seen-is)
          (done_product z watching values rows kept figures coins opened seen e
          c.args.line w.in-Product.a w.in-Product.b w.in-Product.is (of (family w.multiply.new.coins)) (vec_items w.multiply.new.seen) w.in_ok-row-in-Product.row
          (w.in_ok-row-in-Product.ensures.product (share s w.in-Product.a) (share s w.in-Product.b)
          (w.new-a.ensures ∙ row_read rows values w.in-Product.a w.index-in-Product.result.now e there.0 w.index-in-Product.ensures)
          (w.new-b.ensures ∙ row_read rows values w.in-Product.b w.index-in-Product-2.result.now e there.1 w.index-in-Product-2.ensures))
          (pushed ∙ ap (λ (r : List _). rows ++ r ∷ []) w.row-is))
    ]
