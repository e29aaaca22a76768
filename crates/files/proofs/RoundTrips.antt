-- Writing and reading undo each other.
use Rattle.std.proofs.Common.{◌≡◌, ℕ, ◌*◌, ◌%◌, ◌<◌, ◌≤◌, Bool, true, T, ltb, List, [], ◌∷◌, ◌++◌, length, Some, Ok, sym, refl, ap, ◌∙◌, ap₂, arith, ltb→lt, length-append}
use Rattle.field.specs.Field.{p, below, all_below}
use Rattle.field.proofs.Below.{both_parts}
use Rattle.std.proofs.lemmas.List.{take_at, drop_at}
use Rattle.std.proofs.lemmas.Bool.{eq-eqb, eqb-true, le-leb}
use Rattle.files.specs.Circles.{cut, each, figures_one, circle_figures}
use Rattle.files.specs.Files.{whole, figure_file}
use Rattle.files.specs.Laws.{all_bytes, Undo}
use Rattle.sheets.proofs.Words.{word_back, bytes_back}
use Rattle.files.specs.Words.{words}
use Rattle.files.specs.Writing.{bytes_of, list_bytes, circle_bytes, count_fits, counts_fit}
use Rattle.files.proofs.FigureLaws.{read_whole}

true_from : (b : Bool) → T b → b ≡ true
true_from b t = grind arith

-- p and a count that fits are words
word_below : (w : ℕ) (ws : List ℕ) → T (below (w ∷ ws)) → (w < 4294967296) × T (below ws)
word_below w ws t = let h = both_parts (ltb w p) (below ws) t in let l = ltb→lt w p h.0 in (omega arith, h.1)

words_bytes : (ws : List ℕ) → T (below ws) → words (bytes_of ws) ≡ ws
unfolding words
words_bytes [] t = refl
words_bytes (w ∷ ws) t =
    let h = word_below w ws t in
    ap₂ (λ (x : ℕ) (xs : List ℕ). x ∷ xs) (word_back w h.0) (words_bytes ws h.1)

length_bytes : (ws : List ℕ) → length (bytes_of ws) ≡ length ws * 4
length_bytes [] = refl
length_bytes (w ∷ ws) = let h = length_bytes ws in omega arith

read_figures : (figures : List ℕ) → T (below figures) → figure_file (bytes_of figures) ≡ Ok figures
read_figures fs t =
    let len = length_bytes fs in
    let zero : length (bytes_of fs) % 4 ≡ 0 = omega arith in
    rw (eq-eqb (length (bytes_of fs) % 4) 0 zero, words_bytes fs t, true_from (below fs) t)

-- a count and as many words are cut off
cut_list : (ws rest : List ℕ) → T (count_fits ws) → cut (list_bytes ws ++ rest) ≡ Some (record { what = bytes_of ws; rest = rest })
unfolding cut
cut_list ws rest t =
    let fits = ltb→lt (length ws) 4294967296 t in
    let len = length_bytes ws in
    let long : length ws * 4 ≤ length (bytes_of ws ++ rest) = simp length-append (omega arith) in
    rw (word_back (length ws) fits, le-leb (length ws * 4) (length (bytes_of ws ++ rest)) long, take_at (bytes_of ws) rest (length ws * 4) len, drop_at (bytes_of ws) rest (length ws * 4) len)

each-lists : (lists : List (List ℕ)) → T (all_below lists) → T (counts_fit lists) → each figures_one (length lists) (circle_bytes lists) ≡ Some lists
unfolding each
each-lists [] t f = refl
each-lists (ws ∷ lists) t f =
    let h = both_parts (below ws) (all_below lists) t in
    let g = both_parts (count_fits ws) (counts_fit lists) f in
    rw (cut_list ws (circle_bytes lists) g.0, words_bytes ws h.0, each-lists lists h.1 g.1)

read_circle : (lists : List (List ℕ)) → T (all_below lists) → T (counts_fit lists) → circle_figures (length lists) (circle_bytes lists) ≡ Ok lists
read_circle lists t f = rw (each-lists lists t f, true_from (all_below lists) t)

bytes_words : (bytes : List ℕ) → T (all_bytes bytes) → length bytes % 4 ≡ 0 → bytes_of (words bytes) ≡ bytes
unfolding words
bytes_words [] t e = refl
bytes_words (a ∷ b ∷ c ∷ d ∷ bytes) t e =
    let ha = both_parts (ltb a 256) (all_bytes (b ∷ c ∷ d ∷ bytes)) t in
    let hb = both_parts (ltb b 256) (all_bytes (c ∷ d ∷ bytes)) ha.1 in
    let hc = both_parts (ltb c 256) (all_bytes (d ∷ bytes)) hb.1 in
    let hd = both_parts (ltb d 256) (all_bytes bytes) hc.1 in
    let here = bytes_back a b c d (ltb→lt a 256 ha.0) (ltb→lt b 256 hb.0) (ltb→lt c 256 hc.0) (ltb→lt d 256 hd.0) in
    let four : length bytes % 4 ≡ 0 = omega arith in
    ap₂ (λ (x y : List ℕ). x ++ y) here (bytes_words bytes hd.1 four)
bytes_words bytes t e = absurd (omega arith)

write_figures : (bytes figures : List ℕ) → T (all_bytes bytes) → figure_file bytes ≡ Ok figures → bytes_of figures ≡ bytes
write_figures bytes figures t e =
    let h = read_whole (whole bytes) (below (words bytes)) (words bytes) figures e in
    ap bytes_of (sym h.1) ∙ bytes_words bytes t (eqb-true (length bytes % 4) 0 h.0)

pub undo : Undo
undo = record { read_figures = read_figures; read_circle = read_circle; write_figures = write_figures }
