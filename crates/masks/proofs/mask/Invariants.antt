use Rattle.masks.proofs.Masking.{Masked}
use Rattle.runs.specs.Watching.{watches}
use Rattle.masks.proofs.mask.Given as goal

abbrev pub invariant-loop-member : goal.invariant-loop-member
invariant-loop-member l = Masked (watches l.watched) l.n l.member l.coefficients
