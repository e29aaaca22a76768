use Rattle.sheets.specs.Families.{family}
use Rattle.pairing.proofs.Differs.{taken_of}
use Rattle.pairing.proofs.differing.next.Goals as goal

pub returns-clause-taken : goal.returns-clause-taken
returns-clause-taken c = taken_of c.args.member (family c.args.lists.now) (family c.draw.new.lists) c.draw.result c.draw.ensures
