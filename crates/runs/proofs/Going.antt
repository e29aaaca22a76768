-- The loop over the lines: what was done, followed by what is left, is the whole.
use Rattle.std.proofs.Common.{◌≡◌, ℕ, ◌+◌, ◌<◌, ◌≤◌, Bool, T, ltb, List, [], ◌∷◌, ◌++◌, map, length, get_or, drop, Some, None, Option, sym, refl, ap, ◌∙◌, subst, subst₂, lt→ltb}
use Rattle.std.specs.List.{AllByRecursion as All}
use Rattle.std.proofs.lemmas.List.{append_assoc, append-nil, length-append, length-map, at_drop_more, at_drop_all}
use Rattle.field.specs.Field.{p, below}
use Rattle.field.proofs.Below.{both_parts, both_from}
use Rattle.field.proofs.Ring.{⊕-below, ⊗-below}
use Rattle.shares.specs.Circle.{Circle, members}
use Rattle.shares.proofs.Dots.{dot-below}
use Rattle.shares.proofs.Values.{value-below}
use Rattle.sheets.specs.Lines.{made, good, good_line}
use Rattle.sheets.specs.Meaning.{figures_after}
use Rattle.sheets.specs.declared.line.Line.{Line}
use Rattle.sheets.specs.declared.line.Line.TheVariants.{Input, Sum, Times, Product, Open}
use Rattle.sheets.specs.declared.refusal.Refusal.{Refusal}
use Rattle.runs.specs.Outcome.{AllDone}
use Rattle.runs.specs.Row.{row_of}
use Rattle.runs.specs.Run.{State, after, shares, share, opened, opened_by, opens, coins_after}
use Rattle.runs.specs.Seen.{seen_at, seen_by, sees}
use Rattle.runs.specs.Short.{short_at, or_else, runs_out}
use Rattle.runs.specs.Steps.{in_state, Done}

-- every share is below p
abbrev pub Small : (ℕ → ℕ) → Type 0
Small f = (j : ℕ) → f j < p

pub shares-small : (z : Circle) (l : Line) (s : State) → All Small (shares z l s)
shares-small z (Input w) s = ((λ j. value-below _ j), tt)
shares-small z (Sum a e) s = ((λ j. ⊕-below (share s a j) (share s e j)), tt)
shares-small z (Times k a) s = ((λ j. ⊗-below k (share s a j)), tt)
shares-small z (Product a e) s = ((λ j. dot-below _ _), tt)
shares-small z (Open a) s = tt

map-small : (f : ℕ → ℕ) (xs : List ℕ) → Small f → T (below (map f xs))
map-small f [] h = tt
map-small f (x ∷ xs) h = both_from (ltb (f x) p) (below (map f xs)) (lt→ltb (f x) p (h x)) (map-small f xs h)

row_small : (f : ℕ → ℕ) → Small f → T (below (row_of f))
unfolding row_of
row_small f h = map-small f (members 15) h

pub rows_small : (values : List (ℕ → ℕ)) → All Small values → All (λ row. T (below row)) (map row_of values)
rows_small [] h = tt
rows_small (f ∷ values) h = (row_small f h.0, rows_small values h.1)

-- how many values there are after a line
pub made-is : (z : Circle) (l : Line) (s : State) → length (s.held ++ shares z l s) ≡ made l (length s.held)
made-is z (Input w) s = length-append s.held (shares z (Input w) s)
made-is z (Sum a e) s = length-append s.held (shares z (Sum a e) s)
made-is z (Times k a) s = length-append s.held (shares z (Times k a) s)
made-is z (Product a e) s = length-append s.held (shares z (Product a e) s)
made-is z (Open a) s = ap length (append-nil s.held)

module _ (z : Circle) (c : ℕ → Bool) (ls : List Line) (F C : ℕ → List ℕ) where
  -- after k lines: rows of the values made, the lists left, what is opened and what is seen
  pub record Going (k : ℕ) (rows : List (List ℕ)) (figures coins : ℕ → List ℕ) (shown seen : List ℕ) : Type 0 where
    pub values : List (ℕ → ℕ)
    pub holds : rows ≡ map row_of values
    pub well : T (good z.n (length values) (drop k ls))
    pub opens_all : shown ++ opened_by z (drop k ls) (in_state values figures coins) ≡ opens z ls F C
    pub sees_all : seen ++ seen_by z c (drop k ls) (in_state values figures coins) ≡ sees z c ls F C
    pub short : runs_out z (drop k ls) figures coins ≡ runs_out z ls F C

  pub going_none : (rows : List (List ℕ)) (shown seen : List ℕ) → rows ≡ [] → shown ≡ [] → seen ≡ [] → T (good z.n 0 ls) → Going 0 rows F C shown seen
  going_none rows shown seen er eo es g = record {
    values = [];
    holds = er;
    well = g;
    opens_all = ap (λ (xs : List ℕ). xs ++ opens z ls F C) eo;
    sees_all = ap (λ (xs : List ℕ). xs ++ sees z c ls F C) es;
    short = refl;
  }

  module _ (k : ℕ) (d : Line) (rows : List (List ℕ)) (figures coins : ℕ → List ℕ) (shown seen : List ℕ) (lt : k < length ls) (h : Going k rows figures coins shown seen) where
    abbrev l : Line
    l = get_or ls k d

    abbrev rest : List Line
    rest = drop (k + 1) ls

    abbrev s : State
    s = in_state h.values figures coins

    both_good : T (good_line z.n (length h.values) l) × T (good z.n (made l (length h.values)) rest)
    unfolding good
    both_good =
        both_parts (good_line z.n (length h.values) l) (good z.n (made l (length h.values)) rest)
        (subst (λ (b : Bool). T b) (at_drop_more (good z.n (length h.values)) ls k d lt) h.well)

    pub going_good : T (good_line z.n (length rows) l)
    going_good =
        let long : length rows ≡ length h.values = ap length h.holds ∙ length-map h.values row_of in
        subst (λ (n : ℕ). T (good_line z.n n l)) (sym long) both_good.0

    opened_split : opened_by z (drop k ls) s ≡ opened z l s ++ opened_by z rest (after z l s)
    unfolding opened_by
    opened_split = at_drop_more (λ (xs : List Line). opened_by z xs s) ls k d lt

    seen_split : seen_by z c (drop k ls) s ≡ seen_at z c l s ++ seen_by z c rest (after z l s)
    unfolding seen_by
    seen_split = at_drop_more (λ (xs : List Line). seen_by z c xs s) ls k d lt

    short_split : runs_out z (drop k ls) figures coins ≡ or_else (short_at z l figures coins) (runs_out z rest (figures_after l figures) (coins_after z l coins))
    unfolding runs_out
    short_split = at_drop_more (λ (xs : List Line). runs_out z xs figures coins) ls k d lt

    pub going_short : (e : Refusal) → short_at z l figures coins ≡ Some e → runs_out z ls F C ≡ Some e
    going_short e is =
        sym h.short ∙ (short_split ∙ ap (λ (o : Option Refusal). or_else o (runs_out z rest (figures_after l figures) (coins_after z l coins))) is)

    pub going_more : (rows' : List (List ℕ)) (figures' coins' : ℕ → List ℕ) (shown' seen' : List ℕ) → Done z c l s rows' figures' coins' shown shown' seen seen' → Going (k + 1) rows' figures' coins' shown' seen'
    going_more rows' figures' coins' shown' seen' q =
        let next : Going (k + 1) rows' (figures_after l figures) (coins_after z l coins) shown' seen' = record {
          values = h.values ++ shares z l s;
          holds = q.held;
          well = subst (λ (n : ℕ). T (good z.n n rest)) (sym (made-is z l s)) both_good.1;
          opens_all = ap (λ (xs : List ℕ). xs ++ opened_by z rest (after z l s)) q.opens
              ∙ (append_assoc shown (opened z l s) (opened_by z rest (after z l s))
              ∙ (sym (ap (λ (xs : List ℕ). shown ++ xs) opened_split) ∙ h.opens_all));
          sees_all = ap (λ (xs : List ℕ). xs ++ seen_by z c rest (after z l s)) q.noted
              ∙ (append_assoc seen (seen_at z c l s) (seen_by z c rest (after z l s))
              ∙ (sym (ap (λ (xs : List ℕ). seen ++ xs) seen_split) ∙ h.sees_all));
          short = sym (short_split ∙ ap (λ (o : Option Refusal). or_else o (runs_out z rest (figures_after l figures) (coins_after z l coins))) q.enough) ∙ h.short;
        } in
        subst₂ (λ (f e : ℕ → List ℕ). Going (k + 1) rows' f e shown' seen') (sym q.taken) (sym q.moved) next

  opened_done : (k : ℕ) (s : State) → length ls ≤ k → opened_by z (drop k ls) s ≡ []
  unfolding opened_by
  opened_done k s le = at_drop_all (λ (xs : List Line). opened_by z xs s) ls k le

  seen_done : (k : ℕ) (s : State) → length ls ≤ k → seen_by z c (drop k ls) s ≡ []
  unfolding seen_by
  seen_done k s le = at_drop_all (λ (xs : List Line). seen_by z c xs s) ls k le

  short_done : (k : ℕ) (figures coins : ℕ → List ℕ) → length ls ≤ k → runs_out z (drop k ls) figures coins ≡ None
  unfolding runs_out
  short_done k figures coins le = at_drop_all (λ (xs : List Line). runs_out z xs figures coins) ls k le

  pub going_all : (k : ℕ) (rows : List (List ℕ)) (figures coins : ℕ → List ℕ) (shown seen : List ℕ) → length ls ≤ k → Going k rows figures coins shown seen → AllDone z c ls F C shown seen
  going_all k rows figures coins shown seen le h =
      let s : State = in_state h.values figures coins in
      record {
        enough = sym h.short ∙ short_done k figures coins le;
        as_run = sym (ap (λ (xs : List ℕ). shown ++ xs) (opened_done k s le) ∙ append-nil shown) ∙ h.opens_all;
        as_seen = sym (ap (λ (xs : List ℕ). seen ++ xs) (seen_done k s le) ∙ append-nil seen) ∙ h.sees_all;
      }
