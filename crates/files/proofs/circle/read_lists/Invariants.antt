use Rattle.files.specs.Circles.{figures_one}
use Rattle.files.specs.Lists.{lists}
use Rattle.files.proofs.EachSteps.{So}
use Rattle.files.proofs.circle.read_lists.Given as goal

abbrev pub invariant-loop : goal.invariant-loop
invariant-loop l = So figures_one l.n l.counter (lists l.lists) l.rest l.bytes
