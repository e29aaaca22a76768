use Rattle.field.specs.Laws.{Inverse}
use Rattle.field.proofs.Inverses.{inverses}
use Rattle.std.proofs.Common.{refl}
use Rattle.field.proofs.inverse.Goals as goal

pub returns : goal.returns
returns c =
    let h : Inverse c.args.k = inverses c.args.k c.requires.0 c.requires.1 in
    (refl, h.gives_one, h.below_p)
