use Rattle.std.proofs.Common.{◌≡◌, ◌-◌, [], length, get_or, take, drop, refl, ap, ◌∙◌, arith}
use Rattle.sheets.specs.Families.{family, of}
use Rattle.sheets.proofs.Drawn.{of_slice, of-set_slice}
use Rattle.sheets.proofs.drawing.draw.Goals as goal

pub returns-in_err-drawn : goal.returns-in_err-drawn
returns-in_err-drawn c =
    let slices = c.args.lists.now in
    let is : (get_or slices (c.args.member - 1) (record { ref_ptr = (0, 0); now = [] })).now ≡ of (family slices) c.args.member = of_slice slices c.args.member _ refl c.if-member-eq0.false in
    rw c.from_residual.ensures
    (omega (arith, ap length is, c.in_err-drawn.ensures.cases), refl)

pub returns : goal.returns
returns c =
    let slices = c.args.lists.now in
    let is : (get_or slices (c.args.member - 1) (record { ref_ptr = (0, 0); now = [] })).now ≡ of (family slices) c.args.member = of_slice slices c.args.member _ refl c.if-member-eq0.false in
    let split = c.in_ok-drawn.ensures.cases in (
      omega (arith, ap length is, split.0),
      split.1 ∙ ap (take c.args.count) is,
      of-set_slice slices c.args.member c.in_ok-drawn.rest c.args.count c.if-member-eq0.false c.if-member-lists.false (split.2 ∙ ap (drop c.args.count) is),
    )
