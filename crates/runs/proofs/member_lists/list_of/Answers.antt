use Rattle.std.proofs.Common.{refl}
use Rattle.sheets.proofs.Drawn.{of_slice}
use Rattle.runs.proofs.member_lists.list_of.Goals as goal

pub returns : goal.returns
returns c = of_slice c.args.lists.now c.args.member _ refl c.if-member-eq0.false
