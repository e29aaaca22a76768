use Rattle.std.proofs.Common.{vec_items, sym, subst, inl, inr}
use Rattle.std.proofs.lemmas.Result.{err_from_is_err_and}
use Rattle.sheets.specs.Numbers.{numbers}
use Rattle.sheets.specs.declared.lists.Lists.{Lists}
use Rattle.runs.specs.Setups.{circle_in}
use Rattle.runs.specs.Watching.{watches}
use Rattle.runs.proofs.Going.{Going, going_none, going_good, going_short, going_more, going_all}
use Rattle.runs.proofs.running.run_lines.Goals as goal

pub loop-line-init : goal.loop-line-init
loop-line-init c =
    let z = circle_in c.args.setup.now in
    let watching = watches c.args.setup.now.watched in
    let F = numbers c.args.figures in
    let C = numbers c.args.coins.now in
    let p = c.in_ok-progress.progress in
    let started = c.in_ok-progress.ensures in
    subst (λ (l : Lists). Going z watching c.args.lines.now F C 0 (vec_items p.held) (numbers l) C (vec_items p.opened) (vec_items p.seen)) (sym started.whole)
    (going_none z watching c.args.lines.now F C (vec_items p.held) (vec_items p.opened) (vec_items p.seen) started.unmade started.unopened started.unseen c.requires.0)

pub do_line-requires : goal.do_line-requires
do_line-requires c =
    let p = c.loop-line.progress in
    going_good (circle_in c.args.setup.now) (watches c.args.setup.now.watched) c.args.lines.now (numbers c.args.figures) (numbers c.args.coins.now)
    c.loop-line.line-index _ (vec_items p.held) (numbers p.figures) (numbers c.loop-line.coins) (vec_items p.opened) (vec_items p.seen)
    c.loop-line-test.true c.loop-line.invariant

pub returns-in_err-do_line : goal.returns-in_err-do_line
returns-in_err-do_line c =
    let p = c.loop-line.progress in
    let q = err_from_is_err_and c.from_residual-in_err-do_line.result c.from_residual-in_err-do_line.ensures.1 in
    rw (q.1, q.2)
    (elim (c.in_err-do_line.ensures c.loop-line.invariant.values c.loop-line.invariant.holds) [
      | inl e ↦ inl e
      | inr h ↦ inr (going_short (circle_in c.args.setup.now) (watches c.args.setup.now.watched) c.args.lines.now (numbers c.args.figures) (numbers c.args.coins.now)
          c.loop-line.line-index _ (vec_items p.held) (numbers p.figures) (numbers c.loop-line.coins) (vec_items p.opened) (vec_items p.seen)
          c.loop-line-test.true c.loop-line.invariant c.in_err-do_line.field-0.0 h)
    ])

pub loop-line-preserved : goal.loop-line-preserved
loop-line-preserved c =
    let p = c.loop-line.progress in
    let q = c.do_line.new.self in
    going_more (circle_in c.args.setup.now) (watches c.args.setup.now.watched) c.args.lines.now (numbers c.args.figures) (numbers c.args.coins.now)
    c.loop-line.line-index _ (vec_items p.held) (numbers p.figures) (numbers c.loop-line.coins) (vec_items p.opened) (vec_items p.seen)
    c.loop-line-test.true c.loop-line.invariant
    (vec_items q.held) (numbers q.figures) (numbers c.do_line.new.coins) (vec_items q.opened) (vec_items q.seen)
    (c.in_ok-do_line.ensures c.loop-line.invariant.values c.loop-line.invariant.holds)

pub returns : goal.returns
returns c =
    let p = c.loop-line.progress in
    going_all (circle_in c.args.setup.now) (watches c.args.setup.now.watched) c.args.lines.now (numbers c.args.figures) (numbers c.args.coins.now)
    c.loop-line.line-index (vec_items p.held) (numbers p.figures) (numbers c.loop-line.coins) (vec_items p.opened) (vec_items p.seen)
    c.loop-line-test.false c.loop-line.invariant
