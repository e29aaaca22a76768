use Rattle.std.proofs.Common.{rules}
use Rattle.shares.proofs.Values.{value-nil, value_first_rest}
use Rattle.shares.proofs.dealing.+value.Goals as goal

pub returns-in-empty : goal.returns-in-empty
returns-in-empty t c = search (rules, value-nil)

pub returns-in-len1-up : goal.returns-in-len1-up
returns-in-len1-up t c = search (rules, value_first_rest)
