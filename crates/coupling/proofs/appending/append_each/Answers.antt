use Rattle.std.proofs.Common.{◌≡◌, ℕ, ◌+◌, ◌<◌, List, [], ◌++◌, length, get_or, map, vec_items, sym, subst, ap, ◌∙◌, ap₂, Vec, Bor, rules}
use Rattle.std.specs.declared.alloc.Global.{Global}
use Rattle.std.proofs.lemmas.List.{map-set, length-map, set-get_or}
use Rattle.sheets.specs.Families.{family}
use Rattle.coupling.proofs.Grows.{Partly, read_through, partly_more, partly_past}
use Rattle.coupling.proofs.appending.append_each.Goals as goal
use Rattle.coupling.proofs.appending.append_each.Goals.{in-Some+in_ok-extend_from_slice, in_default}

pub loop-k-preserved : goal.loop-k-preserved
loop-k-preserved c =
    let before = map vec_items c.deref_mut-list-items.result.now in
    let more = family c.args.more.now in
    let items = c.loop-k.list-items in
    let now = map vec_items items in
    let k : ℕ = c.loop-k.k in
    let few : k < length items = search rules in
    let wide : k < length now = simp length-map few in
    elim c.match-get.branch [
      | in-Some+in_ok-extend_from_slice w ↦
          let held = ap vec_items (sym c.list-item.is) ∙ read_through vec_items items k c.list-item.result few c.list-item.is in
          let added : w.in-Some.words.now.now ≡ get_or more k [] = read_through (λ (r : Bor (List ℕ)). r.now) c.args.more.now k w.in-Some.words.now (search rules) w.in-Some.ensures.lookup.1 in
          partly_more before more now _ k (vec_items w.extend_from_slice.new.self) wide
          (ap (map vec_items) w.list-items-is ∙ map-set vec_items items k w.extend_from_slice.new.self)
          (w.in_ok-extend_from_slice.ensures.items ∙ ap₂ (λ (xs ys : List ℕ). xs ++ ys) held added) c.loop-k.invariant
      | in_default w ↦
          subst (λ (xs : List (Vec ℕ Global)). Partly before more (map vec_items xs) (k + 1)) (sym (w.list-items-is ∙ set-get_or items k c.list-item.result))
          (partly_past before more now k (simp length-map (search rules)) c.loop-k.invariant)
    ]
