use Rattle.std.proofs.Common.{vec_items, subst, ◌∙◌}
use Rattle.std.proofs.lemmas.List.{with_items_is}
use Rattle.sheets.specs.Families.{family, of}
use Rattle.sheets.specs.Numbers.{numbers}
use Rattle.runs.specs.Setups.{circle_in}
use Rattle.runs.specs.Steps.{in_state, DoneAs}
use Rattle.runs.specs.Watching.{watches}
use Rattle.runs.proofs.progress.Progress.do_line.Goals as goal

pub returns : goal.returns
returns c values e =
    let p = c.args.self.now in
    let q = c.advance.new.self in
    let held = c.args.coins.now.lists in
    let left = c.advance.new.coins in
    rw (with_items_is held left (c.advance.auto.coins ∙ c.deref_mut.ensures.len))
    (subst (λ xs. DoneAs (circle_in c.args.setup.now) (watches c.args.setup.now.watched) c.args.line (in_state values (numbers p.figures) (of (family xs)))
    (vec_items q.held) (numbers q.figures) (of (family left)) (vec_items p.opened) (vec_items q.opened) (vec_items p.seen) (vec_items q.seen) c.advance.result)
    c.deref_mut.ensures.value (c.advance.ensures.done values e))
