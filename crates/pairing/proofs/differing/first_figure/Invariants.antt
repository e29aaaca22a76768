use Rattle.sheets.specs.Families.{family, of}
use Rattle.pairing.proofs.Differs.{Compared}
use Rattle.pairing.proofs.differing.first_figure.Given as goal

abbrev pub invariant-loop-k : goal.invariant-loop-k
invariant-loop-k l =
    Compared l.watched l.lines (of (family l.initial.figures)) (of (family l.initial.other_figures)) l.sheet.n
    l.k (of (family l.figures)) (of (family l.other_figures))
