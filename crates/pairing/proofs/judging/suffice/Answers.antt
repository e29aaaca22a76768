use Rattle.sheets.specs.Families.{family}
use Rattle.sheets.specs.Sheets.{circle_of, lines_in}
use Rattle.pairing.proofs.Judges.{suffice_as}
use Rattle.pairing.proofs.judging.suffice.Goals as goal

pub returns : goal.returns
returns c =
    suffice_as (circle_of c.args.sheet.now) (lines_in c.args.sheet.now) (family c.args.coins.now) (family c.args.figures.now) (family c.args.other_figures.now)
    c.in_ok-new.field-0 c.in_ok-new.ensures c.take_all.result c.take_all.ensures
