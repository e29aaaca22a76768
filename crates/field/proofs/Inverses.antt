-- The table of inverses: one test over the whole table, and what follows from k * x = 1.
use Rattle.std.proofs.Common.{◌≡◌, ℕ, ◌+◌, ◌-◌, ◌<◌, Bool, true, ◌&&◌, eqb, ltb, sym, refl, ap, ◌∙◌, subst, arith}
use Rattle.std.proofs.lemmas.Bool.{and_parts, eqb-true, ltb-true}
use Rattle.field.specs.Field.{p, ◌⊗◌, inv}
use Rattle.field.specs.Laws.{Inverse, Inverses}
use Rattle.field.proofs.Ring.{ring, ⊗-1, reduced}
use Rattle.field.proofs.Table.{every_below, at_place}

right : ℕ → Bool
right i = eqb ((i + 1) ⊗ inv (i + 1)) 1 && ltb (inv (i + 1)) p

table_right : every_below right 15 ≡ true
unfolding right
table_right = refl

swapped : (k x y : ℕ) → x ⊗ (k ⊗ y) ≡ y ⊗ (k ⊗ x)
swapped k x y = simp ring

inverse_once : (k x y : ℕ) → x < p → y < p → k ⊗ x ≡ 1 → k ⊗ y ≡ 1 → x ≡ y
inverse_once k x y lx ly ex ey =
    let ox : x ⊗ (k ⊗ y) ≡ x = ap (λ (z : ℕ). x ⊗ z) ey ∙ (⊗-1 x ∙ reduced lx) in
    let oy : y ⊗ (k ⊗ x) ≡ y = ap (λ (z : ℕ). y ⊗ z) ex ∙ (⊗-1 y ∙ reduced ly) in
    sym ox ∙ (swapped k x y ∙ oy)

at_successor : (i : ℕ) → i < 15 → Inverse (i + 1)
unfolding right
at_successor i lt =
    let k : ℕ = i + 1 in
    let h = and_parts (eqb (k ⊗ inv k) 1) (ltb (inv k) p) (at_place right 15 table_right i lt) in
    let one = eqb-true (k ⊗ inv k) 1 h.0 in
    let small = ltb-true (inv k) p h.1 in
    record { gives_one = one; below_p = small; only = λ x lx ex. inverse_once k x (inv k) lx small ex one }

pub inverses : Inverses
inverses k pos le =
    let e : k - 1 + 1 ≡ k = omega arith in
    subst (λ (x : ℕ). Inverse x) e (at_successor (k - 1) (omega arith))
