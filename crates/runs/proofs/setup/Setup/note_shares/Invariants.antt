use Rattle.std.proofs.Common.{◌≡◌, length, take, drop, vec_items}
use Rattle.runs.specs.Row.{in_row}
use Rattle.runs.specs.Watching.{watches}
use Rattle.runs.proofs.Left.{Left, each}
use Rattle.runs.proofs.setup.Setup.note_shares.Given as goal

abbrev pub invariant-loop-share : goal.invariant-loop-share
invariant-loop-share l =
    Left (each (watches l.self.watched) (in_row l.row)) (vec_items l.initial.seen) l.self.n (length l.yielded) (vec_items l.seen)
    × (l.share-iterator.a.rest.now ≡ drop (length l.yielded) l.row)
    × (l.share-iterator.b.rest.now ≡ drop (length l.yielded) (take l.self.n l.self.watched))
