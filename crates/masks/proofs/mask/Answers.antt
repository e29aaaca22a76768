use Rattle.std.proofs.Common.{ap, ◌∙◌, arith}
use Rattle.field.specs.Field.{neg}
use Rattle.runs.specs.Watching.{watches}
use Rattle.masks.proofs.Masking.{masked_none, masked_skip, masked_more}
use Rattle.masks.proofs.mask.Goals as goal
use Rattle.masks.proofs.mask.Goals.{then-watched-member, else-watched-member}

pub loop-member-init : goal.loop-member-init
loop-member-init c = masked_none (watches c.args.watched.now) c.args.n c.args.n (omega arith)

pub loop-member-preserved : goal.loop-member-preserved
loop-member-preserved c =
    let flags = c.args.watched.now in
    let at = c.loop-member.member in
    let xs = c.loop-member.coefficients in
    elim c.if-watched-member.branch [
      | then-watched-member w ↦
          rw w.coefficients-is (masked_more flags c.args.n at (omega arith) (omega arith) xs w.times_linear-coefficients.result w.negative.result
          w.if-watched-member.true (w.negative.ensures.0 ∙ ap neg w.inverse.ensures.0) w.times_linear-coefficients.ensures c.loop-member.invariant)
      | else-watched-member w ↦ rw w.coefficients-is (masked_skip flags c.args.n at (omega arith) (omega arith) xs w.if-watched-member.false c.loop-member.invariant)
    ]
