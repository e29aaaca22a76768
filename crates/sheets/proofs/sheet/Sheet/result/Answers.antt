use Rattle.std.proofs.Common.{ℕ, ◌+◌, T, get_or, drop, sym, subst, inl, inr, ⊎_elim}
use Rattle.std.proofs.lemmas.List.{drop_all}
use Rattle.std.proofs.lemmas.Result.{err_from_is_err_and}
use Rattle.sheets.specs.Families.{family}
use Rattle.sheets.specs.Lines.{good_line}
use Rattle.sheets.specs.Numbers.{lists_in}
use Rattle.sheets.specs.declared.line.Line.TheVariants.{Input}
use Rattle.sheets.proofs.Plainly.{at_here, at_step, at_end, at_wanting, at_line}
use Rattle.sheets.proofs.sheet.Sheet.result.Goals as goal

pub work-requires : goal.work-requires
work-requires c =
    let s = c.args.self.now in
    let first = family c.args.figures.now in
    let items = c.deref-line-items.result.now in
    let i = c.loop-line.line-index in
    let p = c.loop-line.plain in
    let here = at_here s.n s.lines.items first items i (lists_in p.figures) p.values.items p.opened.items c.loop-line-test.true c.loop-line.invariant in (
      (
        s.n,
        subst (λ (k : ℕ). T (good_line s.n k (get_or items i (Input 0)))) (sym p.values.ok.0)
            (at_line s.n s.lines.items first (get_or items i (Input 0)) (drop (i + 1) items) (lists_in p.figures) p.values.items p.opened.items here),
      ),
      c.loop-line.invariant.small,
    )

pub returns-in_err-work : goal.returns-in_err-work
returns-in_err-work c =
    let s = c.args.self.now in
    let first = family c.args.figures.now in
    let items = c.deref-line-items.result.now in
    let i = c.loop-line.line-index in
    let p = c.loop-line.plain in
    let here = at_here s.n s.lines.items first items i (lists_in p.figures) p.values.items p.opened.items c.loop-line-test.true c.loop-line.invariant in
    let e = err_from_is_err_and c.from_residual-in_err-work.result c.from_residual-in_err-work.ensures.1 in
    rw (e.0, e.1, e.2)
    (⊎_elim inl
    (λ none. inr (inr (
      none.0,
      c.in_ok-new.ensures.1,
      at_wanting s.n s.lines.items first (get_or items i (Input 0)) (drop (i + 1) items) (lists_in p.figures) p.values.items p.opened.items here none.1,
    )))
    c.in_err-work.ensures)

pub loop-line-preserved : goal.loop-line-preserved
loop-line-preserved c =
    let s = c.args.self.now in
    let first = family c.args.figures.now in
    let items = c.deref-line-items.result.now in
    let i = c.loop-line.line-index in
    let p = c.loop-line.plain in
    let q = c.work.new.self in
    at_step s.n s.lines.items first (get_or items i (Input 0)) (drop (i + 1) items) (lists_in p.figures) (lists_in q.figures) p.values.items q.values.items p.opened.items q.opened.items
    (at_here s.n s.lines.items first items i (lists_in p.figures) p.values.items p.opened.items c.loop-line-test.true c.loop-line.invariant) c.in_ok-work.ensures

pub returns : goal.returns
returns c =
    let s = c.args.self.now in
    let items = c.deref-line-items.result.now in
    let p = c.loop-line.plain in
    let done = at_end s.n s.lines.items (family c.args.figures.now) (drop c.loop-line.line-index items) (lists_in p.figures) p.values.items p.opened.items
    (drop_all c.loop-line.line-index items c.loop-line-test.false) c.loop-line.invariant in
    (c.in_ok-new.ensures.1, done.0, done.1)
