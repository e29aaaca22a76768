use Rattle.std.proofs.Common.{◌∙◌}
use Rattle.std.proofs.lemmas.Result.{err_from_is_err_and}
use Rattle.sheets.specs.Families.{family}
use Rattle.sheets.specs.Sheets.{circle_of, lines_in}
use Rattle.pairing.proofs.Served.{crowded, refused, opened-at, given, concluded}
use Rattle.pairing.proofs.Sets.{counted}
use Rattle.pairing.proofs.calling.pair.Goals as goal

pub returns-then-count_watched-threshold : goal.returns-then-count_watched-threshold
returns-then-count_watched-threshold c =
    let sheet = c.args.sheet.now in
    let watched = c.args.watched.now in
    let set = counted sheet.n c.members.result watched c.in-Some.set c.count_watched.result c.members.ensures c.in-Some.ensures c.count_watched.ensures in
    crowded (circle_of sheet) (lines_in sheet) watched (family c.args.coins.now) (family c.args.figures.now) (family c.args.other_figures.now)
    c.in-Some.set c.count_watched.result c.threshold.result set c.threshold.ensures c.if-count_watched-threshold.true

pub returns-in_err-suffice : goal.returns-in_err-suffice
returns-in_err-suffice c =
    let p = err_from_is_err_and c.from_residual.result c.from_residual.ensures.1 in
    let sheet = c.args.sheet.now in
    let watched = c.args.watched.now in
    let set = counted sheet.n c.members.result watched c.in-Some.set c.count_watched.result c.members.ensures c.in-Some.ensures c.count_watched.ensures in
    rw (p.1, p.2)
    (refused (circle_of sheet) (lines_in sheet) watched (family c.args.coins.now) (family c.args.figures.now) (family c.args.other_figures.now)
    c.in-Some.set c.count_watched.result c.threshold.result set c.threshold.ensures c.if-count_watched-threshold.false c.in_err-suffice.field-0.0 c.in_err-suffice.ensures)

pub run_both-requires : goal.run_both-requires
run_both-requires c =
    let sheet = c.args.sheet.now in
    given (circle_of sheet) (lines_in sheet) (family c.args.coins.now) (family c.args.figures.now) (family c.args.other_figures.now) sheet.well c.in_ok-suffice.ensures

pub returns-in-Some-first_difference : goal.returns-in-Some-first_difference
returns-in-Some-first_difference c =
    let sheet = c.args.sheet.now in
    let watched = c.args.watched.now in
    let set = counted sheet.n c.members.result watched c.in-Some.set c.count_watched.result c.members.ensures c.in-Some.ensures c.count_watched.ensures in
    opened-at (circle_of sheet) (lines_in sheet) watched (family c.args.coins.now) (family c.args.figures.now) (family c.args.other_figures.now)
    c.in-Some.set c.count_watched.result c.threshold.result set c.threshold.ensures c.if-count_watched-threshold.false c.in_ok-suffice.ensures c.in-Some-first_difference.place
    c.deref.result.now c.deref-2.result.now (c.deref.ensures.value ∙ c.in_ok-both.ensures.opens_first) (c.deref-2.ensures.value ∙ c.in_ok-both.ensures.opens_second) c.in-Some-first_difference.ensures

pub returns : goal.returns
returns c =
    let sheet = c.args.sheet.now in
    let watched = c.args.watched.now in
    let set = counted sheet.n c.members.result watched c.in-Some.set c.count_watched.result c.members.ensures c.in-Some.ensures c.count_watched.ensures in
    concluded (circle_of sheet) (sheet.enough, sheet.few) (lines_in sheet) watched (family c.args.coins.now) (family c.args.figures.now) (family c.args.other_figures.now)
    c.in-Some.set c.count_watched.result c.threshold.result set c.threshold.ensures c.if-count_watched-threshold.false sheet.well c.in_ok-suffice.ensures
    c.deref.result.now c.deref-2.result.now (c.deref.ensures.value ∙ c.in_ok-both.ensures.opens_first) (c.deref-2.ensures.value ∙ c.in_ok-both.ensures.opens_second) c.in_default-first_difference.ensures
    c.in_ok-both.both.coins c.in_ok-both.ensures.pairs c.conclude.result c.conclude.ensures
