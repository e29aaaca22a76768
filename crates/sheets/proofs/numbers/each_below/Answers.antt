use Rattle.std.proofs.Common.{sym, ◌∙◌, rules}
use Rattle.std.proofs.lemmas.Iterator.{YieldsList-from_slice}
use Rattle.std.proofs.lemmas.Iterator.Search.{all_from_yields_List}
use Rattle.std.proofs.lemmas.List.Folds.{list_all-map}
use Rattle.field.specs.Field.{below}
use Rattle.sheets.proofs.numbers.each_below.Goals as goal

pub returns : goal.returns
returns g c =
    all_from_yields_List (λ xs. below (g.L.AsSlice.items xs)) _ _ _ c.all.ensures.ran
    (YieldsList-from_slice c.args.lists.now cc) (λ x b q k. search rules)
    ∙ sym (list_all-map below g.L.AsSlice.items c.args.lists.now)
