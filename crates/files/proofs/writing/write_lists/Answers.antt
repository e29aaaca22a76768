use Rattle.std.proofs.Common.{vec_items, sym, ap, ◌∙◌, rules}
use Rattle.std.proofs.lemmas.List.Folds.{list_all-map, list_all_at}
use Rattle.std.proofs.lemmas.Result.{err_from_is_err_and}
use Rattle.files.specs.Writing.{count_fits}
use Rattle.files.proofs.Refused.{unless_weaker}
use Rattle.files.proofs.writing.write_lists.Goals as goal

pub returns-in_err-write_list-clause-refused : goal.returns-in_err-write_list-clause-refused
returns-in_err-write_list-clause-refused c =
    let p = err_from_is_err_and c.from_residual.result c.from_residual.ensures.1 in
    let lists = c.args.lists.now in
    rw (p.1, p.2)
    (unless_weaker c.in_err-write_list.field-0.0 _ _
    (λ q. (
      q.0,
      list_all-map count_fits vec_items lists
          ∙ list_all_at (λ v. count_fits (vec_items v)) lists c.loop-list.list-index c.list-item.result (search rules) (ap count_fits (sym (c.deref.ensures.value ∙ ap vec_items c.list-item.is)) ∙ q.1),
    ))
    c.in_err-write_list.ensures.1)
