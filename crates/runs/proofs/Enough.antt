-- ENOUGH. At each line, nothing is missing if and only if those who give and those who deal have what the line takes.
use Rattle.std.proofs.Common.{◌≡◌, ℕ, ◌+◌, ◌-◌, ◌<◌, ◌≤◌, Bool, true, false, cond, ◌&&◌, ◌||◌, T, eqb, ltb, leb, List, [], ◌∷◌, length, drop, Some, None, Option, sym, refl, ap, ◌∙◌, subst, arith, eqb→eq, ltb→lt, leb→le}
use lib.Dec.{eqb_refl}
use Rattle.std.specs.List.{AllByRecursion as All}
use Rattle.std.proofs.lemmas.List.{length-drop}
use Rattle.std.proofs.lemmas.Bool.{ltb-false, le-ltb, cond-false}
use Rattle.field.proofs.Below.{both_parts}
use Rattle.shares.specs.Circle.{Circle, members}
use Rattle.sheets.specs.Lines.{gives, deals, figures_needed, coins_needed}
use Rattle.sheets.specs.Meaning.{figures_after}
use Rattle.std.specs.List.{list_any}
use Rattle.sheets.specs.declared.line.Line.{Line}
use Rattle.sheets.specs.declared.line.Line.TheVariants.{Input, Sum, Times, Product, Open}
use Rattle.sheets.specs.declared.refusal.Refusal.{Refusal}
use Rattle.sheets.specs.declared.refusal.Refusal.TheVariants.{NoFigure, NoCoins}
use Rattle.runs.specs.Laws.{Suffice, Enough}
use Rattle.runs.specs.Run.{coins_after}
use Rattle.runs.specs.Short.{short_at, or_else, runs_out}
use Rattle.runs.specs.Steps.{lacks}
use Rattle.runs.proofs.Dealers.{each_member, enough-after, enough_now}
use Rattle.runs.proofs.Entered.{has-enough}
use Rattle.runs.proofs.Producing.{none_lacks}

-- at one line
pub record Has (z : Circle) (l : Line) (figures coins : ℕ → List ℕ) : Type 0 where
  pub giver : (i : ℕ) → T (gives l i) → 1 ≤ length (figures i)
  pub dealer : (i : ℕ) → T (deals z l i) → z.t ≤ length (coins i)

none_parts : (b : Bool) (e : Refusal) (o : Option Refusal) → cond b (Some e) o ≡ None → (b ≡ false) × (o ≡ None)
none_parts true e o h = let z : ◌≡◌ {A = ℕ} 0 1 = cc in absurd (omega arith)
none_parts false e o h = (refl, h)

pub else_parts : (a b : Option Refusal) → or_else a b ≡ None → (a ≡ None) × (b ≡ None)
else_parts (Some e) b h = let z : ◌≡◌ {A = ℕ} 0 1 = cc in absurd (omega arith)
else_parts None b h = (refl, h)

-- who is named has what the named has
of_named : (lists : ℕ → List ℕ) (k w i : ℕ) → k ≤ length (lists w) → T (eqb i w) → k ≤ length (lists i)
of_named lists k w i le t = subst (λ (j : ℕ). k ≤ length (lists j)) (sym (eqb→eq i w t)) le

of_members : (z : Circle) (coins : ℕ → List ℕ) (i : ℕ) → list_any (lacks z coins) (members z.n) ≡ false → T (ltb 0 i && leb i z.n) → z.t ≤ length (coins i)
of_members z coins i e t =
    let b = both_parts (ltb 0 i) (leb i z.n) t in
    let low : 0 < i = ltb→lt 0 i b.0 in
    let high : i ≤ z.n = leb→le i z.n b.1 in
    let same : i - 1 + 1 ≡ i = omega arith in
    subst (λ (j : ℕ). z.t ≤ length (coins j)) same (none_lacks z coins (i - 1) e (omega arith))

not_empty : (xs : List ℕ) → eqb (length xs) 0 ≡ false → 1 ≤ length xs
not_empty [] e = let z : ◌≡◌ {A = ℕ} 0 1 = cc in absurd (omega arith)
not_empty (x ∷ xs) e = omega arith

pub has-from : (z : Circle) (l : Line) (figures coins : ℕ → List ℕ) → short_at z l figures coins ≡ None → Has z l figures coins
has-from z (Input w) figures coins e =
    let first = none_parts (eqb (length (figures w)) 0) NoFigure (cond (ltb (length (coins w)) z.t) (Some NoCoins) None) e in
    let second = none_parts (ltb (length (coins w)) z.t) NoCoins None first.1 in
    record {
      giver = λ i t. of_named figures 1 w i (not_empty (figures w) first.0) t;
      dealer = λ i t. of_named coins z.t w i (ltb-false (length (coins w)) z.t second.0) t;
    }
has-from z (Sum a b) figures coins e = record { giver = λ i t. absurd t; dealer = λ i t. absurd t }
has-from z (Times k a) figures coins e = record { giver = λ i t. absurd t; dealer = λ i t. absurd t }
has-from z (Product a b) figures coins e = record {
  giver = λ i t. absurd t;
  dealer = λ i t. of_members z coins i (none_parts (list_any (lacks z coins) (members z.n)) NoCoins None e).0 t;
}
has-from z (Open a) figures coins e = record { giver = λ i t. absurd t; dealer = λ i t. absurd t }

any-from : (test : ℕ → Bool) (xs : List ℕ) → All (λ x. test x ≡ false) xs → list_any test xs ≡ false
any-from test [] h = refl
any-from test (x ∷ xs) h = ap (λ (b : Bool). b || list_any test xs) h.0 ∙ any-from test xs h.1

pub short-from : (z : Circle) (l : Line) (figures coins : ℕ → List ℕ) → Has z l figures coins → short_at z l figures coins ≡ None
short-from z (Input w) figures coins h = has-enough z w figures coins (h.giver w (eqb_refl w)) (h.dealer w (eqb_refl w))
short-from z (Sum a b) figures coins h = refl
short-from z (Times k a) figures coins h = refl
short-from z (Product a b) figures coins h =
    cond-false (list_any (lacks z coins) (members z.n)) (Some NoCoins) None
    (any-from (lacks z coins) (members z.n) (each_member (λ i. lacks z coins i ≡ false) z.n z.n (omega arith) (λ i t. le-ltb (length (coins i)) z.t (h.dealer i t))))
short-from z (Open a) figures coins h = refl

-- over all lines
pub added-back : (b : Bool) (k n : ℕ) (xs : List ℕ) → (T b → k ≤ length xs) → n ≤ length (cond b (drop k xs) xs) → cond b k 0 + n ≤ length xs
added-back true k n xs h le = let lt = h tt in let long = length-drop k xs in omega arith
added-back false k n xs h le = omega arith

suffice_from : (z : Circle) (ls : List Line) (figures coins : ℕ → List ℕ) → runs_out z ls figures coins ≡ None → Suffice z ls figures coins
unfolding runs_out figures_needed coins_needed
suffice_from z [] figures coins e = record { figures_enough = λ i. omega arith; coins_enough = λ i. omega arith }
suffice_from z (l ∷ ls) figures coins e =
    let parts = else_parts (short_at z l figures coins) (runs_out z ls (figures_after l figures) (coins_after z l coins)) e in
    let has = has-from z l figures coins parts.0 in
    let rest = suffice_from z ls (figures_after l figures) (coins_after z l coins) parts.1 in
    record {
      figures_enough = λ i. added-back (gives l i) 1 (figures_needed i ls) (figures i) (has.giver i) (rest.figures_enough i);
      coins_enough = λ i. added-back (deals z l i) z.t (coins_needed z i ls) (coins i) (has.dealer i) (rest.coins_enough i);
    }

none_from : (z : Circle) (ls : List Line) (figures coins : ℕ → List ℕ) → Suffice z ls figures coins → runs_out z ls figures coins ≡ None
unfolding runs_out figures_needed coins_needed
none_from z [] figures coins h = refl
none_from z (l ∷ ls) figures coins h =
    let has : Has z l figures coins = record {
      giver = λ i t. enough_now (gives l i) 1 (figures_needed i ls) (length (figures i)) t (h.figures_enough i);
      dealer = λ i t. enough_now (deals z l i) z.t (coins_needed z i ls) (length (coins i)) t (h.coins_enough i);
    } in
    ap (λ (o : Option Refusal). or_else o (runs_out z ls (figures_after l figures) (coins_after z l coins))) (short-from z l figures coins has)
    ∙ none_from z ls (figures_after l figures) (coins_after z l coins) (record {
      figures_enough = λ i. enough-after (gives l i) 1 (figures_needed i ls) (figures i) (h.figures_enough i);
      coins_enough = λ i. enough-after (deals z l i) z.t (coins_needed z i ls) (coins i) (h.coins_enough i);
    })

pub enough : Enough
enough z ls figures coins = (suffice_from z ls figures coins, none_from z ls figures coins)
