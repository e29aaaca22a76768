use Rattle.std.proofs.Common.{◌≡◌, T, List}
use Rattle.field.specs.Field.{all_below}
use Rattle.files.specs.Circles.{Member, member_one, gathered}
use Rattle.files.specs.Held.{held}
use Rattle.files.specs.Lists.{lists}
use Rattle.files.proofs.EachSteps.{So}
use Rattle.files.proofs.inputs.gather.Given as goal

-- some members have been read, and with those that are left they are all
abbrev pub invariant-loop : goal.invariant-loop
invariant-loop l =
    T (all_below (lists l.inputs.coins))
    × ((done : List Member) × (gathered done ≡ held l.inputs) × So member_one l.n l.counter done l.rest l.bytes)
