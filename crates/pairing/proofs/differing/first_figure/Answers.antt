use Rattle.std.proofs.Common.{◌≡◌, ℕ, T, List, take, Some, Option, sym, refl, ap, ◌∙◌, subst, get_or, arith, Bor}
use Rattle.runs.specs.Watching.{watches}
use Rattle.sheets.specs.Families.{family, of}
use Rattle.sheets.specs.Lines.{good, figures_needed}
use Rattle.sheets.specs.declared.line.Line.{Line}
use Rattle.sheets.specs.declared.line.Line.TheVariants.{Input}
use Rattle.pairing.specs.Differing.{figure_differs}
use Rattle.pairing.specs.declared.differing.Place.{Place}
use Rattle.pairing.proofs.Differs.{compared_none, input_member, found, not-here, passed, compared_all, taken_by}
use Rattle.pairing.proofs.differing.first_figure.Goals as goal
use Rattle.pairing.proofs.differing.first_figure.Goals.{in-Input+else-watched-member, in_default}

abbrev slices : List (Bor (List ℕ)) → ℕ → List ℕ
slices lists = of (family lists)

pub loop-k-init : goal.loop-k-init
loop-k-init c =
    let sheet = c.args.sheet.now in
    compared_none c.args.watched.now c.lines-lines.result.now (slices c.args.figures.now) (slices c.args.other_figures.now) sheet.n
    (subst (λ (ls : List Line). T (good sheet.n 0 ls)) (sym c.lines-lines.ensures) sheet.well)

pub overflow_sub-member : goal.overflow_sub-member
overflow_sub-member c =
    let m = input_member c.args.watched.now c.lines-lines.result.now (slices c.args.figures.now) (slices c.args.other_figures.now) c.args.sheet.now.n c.loop-k.k (Input 0) (slices c.loop-k.figures) (slices c.loop-k.other_figures)
    c.loop-k-test.true c.loop-k.invariant c.in-Input.member c.in-Input.is in
    omega arith

pub bounds-watched-member : goal.bounds-watched-member
bounds-watched-member c =
    let m = input_member c.args.watched.now c.lines-lines.result.now (slices c.args.figures.now) (slices c.args.other_figures.now) c.args.sheet.now.n c.loop-k.k (Input 0) (slices c.loop-k.figures) (slices c.loop-k.other_figures)
    c.loop-k-test.true c.loop-k.invariant c.in-Input.member c.in-Input.is in
    let few = c.args.sheet.now.few in
    omega arith

pub returns-then-figure-other : goal.returns-then-figure-other
returns-then-figure-other c =
    let F = slices c.args.figures.now in
    let F' = slices c.args.other_figures.now in
    let ls = c.lines-lines.result.now in
    let w = c.in-Input.member in
    let place : c.figures_in-place.result ≡ taken_by ls c.loop-k.k w =
    c.figures_in-place.ensures ∙ ap (λ (j : ℕ). figures_needed w (take j ls)) (omega arith) in
    let at : ℕ → Option Place = λ k. Some (record { member = w; place = k }) in
    ap at place
    ∙ (sym (found c.args.watched.now ls F F' c.args.sheet.now.n c.loop-k.k (Input 0) (slices c.loop-k.figures) (slices c.loop-k.other_figures) c.loop-k-test.true c.loop-k.invariant
    w c.in-Input.is c.next-figure.result c.next-other.result c.next-figure.ensures.value c.next-other.ensures.value c.if-watched-member.true c.if-figure-other.true)
    ∙ ap (λ (xs : List Line). figure_differs (watches c.args.watched.now) xs (λ i. 0) F F') c.lines-lines.ensures)

pub loop-k-preserved : goal.loop-k-preserved
loop-k-preserved c =
    let flags = c.args.watched.now in
    let F = slices c.args.figures.now in
    let F' = slices c.args.other_figures.now in
    let ls = c.lines-lines.result.now in
    let f = slices c.loop-k.figures in
    let f' = slices c.loop-k.other_figures in
    elim c.match-line.branch [
      | in-Input+else-watched-member w ↦
          rw (w.figures-is, w.other_figures-is)
          (not-here flags ls F F' c.args.sheet.now.n c.loop-k.k (Input 0) f f' c.loop-k-test.true c.loop-k.invariant
          w.in-Input.member w.in-Input.is w.next-figure.result w.next-other.result w.next-figure.ensures.value w.next-other.ensures.value
          (slices w.next-figure.new.lists) (slices w.next-other.new.lists) w.else-watched-member.either w.next-figure.ensures.taken w.next-other.ensures.taken)
      | in_default w ↦
          rw (w.figures-is, w.other_figures-is)
          (passed flags ls F F' c.args.sheet.now.n c.loop-k.k (Input 0) f f' c.loop-k-test.true c.loop-k.invariant (get_or ls c.loop-k.k (Input 0)) refl w.in_default.not-Input)
    ]

pub returns : goal.returns
returns c =
    let F = slices c.args.figures.now in
    let F' = slices c.args.other_figures.now in
    sym (sym (ap (λ (xs : List Line). figure_differs (watches c.args.watched.now) xs (λ i. 0) F F') c.lines-lines.ensures)
    ∙ compared_all c.args.watched.now c.lines-lines.result.now F F' c.args.sheet.now.n c.loop-k.k (slices c.loop-k.figures) (slices c.loop-k.other_figures) c.loop-k-test.false c.loop-k.invariant)
