use Rattle.std.proofs.Common.{◌∙◌, subst}
use Rattle.std.proofs.lemmas.List.{with_items_is}
use Rattle.sheets.specs.Drawing.{DrawnFrom}
use Rattle.sheets.specs.Families.{family}
use Rattle.sheets.proofs.Taken.{left_small, drawn_small}
use Rattle.sheets.proofs.lists.Lists.draw.Goals as goal

pub invariant_of-self : goal.invariant_of-self
invariant_of-self c =
    let held = c.args.self.now.lists in
    let left = c.draw.new.lists in
    let drew = subst (λ xs. DrawnFrom c.args.member c.args.count (family xs) (family left) c.draw.result) c.deref_mut.ensures.value c.draw.ensures in
    record {
      small = rw (with_items_is held left (c.draw.auto.lists ∙ c.deref_mut.ensures.len))
          (left_small c.args.member c.args.count (family held.items) (family left) c.draw.result c.args.self.now.small drew);
    }

pub returns-clause-drawn : goal.returns-clause-drawn
returns-clause-drawn c =
    let left = c.draw.new.lists in
    rw (with_items_is c.args.self.now.lists left (c.draw.auto.lists ∙ c.deref_mut.ensures.len))
    (subst (λ xs. DrawnFrom c.args.member c.args.count (family xs) (family left) c.draw.result) c.deref_mut.ensures.value c.draw.ensures)

pub returns-clause-small : goal.returns-clause-small
returns-clause-small c =
    drawn_small c.args.member c.args.count (family c.args.self.now.lists.items) (family c.draw.new.lists) c.draw.result c.args.self.now.small
    (subst (λ xs. DrawnFrom c.args.member c.args.count (family xs) (family c.draw.new.lists) c.draw.result) c.deref_mut.ensures.value c.draw.ensures)
