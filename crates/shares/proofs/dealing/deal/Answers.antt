use Rattle.shares.proofs.Values.{raised}
use Rattle.std.proofs.Common.{length, rules}
use Rattle.shares.proofs.dealing.deal.Goals as goal

pub returns : goal.returns
returns c =
    raised c.args.secret (length c.args.shares.now) c.args.coins.now c.values.new.row c.raise.new.row
    c.values.ensures (search rules) c.raise.ensures
