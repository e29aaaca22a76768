use Rattle.std.proofs.Common.{List, [], ◌∷◌, ◌++◌, Ok, vec_items, Option, Result, refl, ap, ◌∙◌, rules}
use Rattle.sheets.specs.declared.refusal.Refusal.{Refusal}
use Rattle.std.specs.Option.{option_map}
use Rattle.files.specs.Circles.{Member, Given, member_one, gathered, formed}
use Rattle.files.specs.Files.{coins_of}
use Rattle.files.specs.Held.{held}
use Rattle.files.specs.Lists.{lists}
use Rattle.files.specs.Words.{words}
use Rattle.files.proofs.CoinSteps.{coins-below, lists_push}
use Rattle.files.proofs.EachSteps.{each_more, each_stop, each_left, each_all, one_more, gathered_more}
use Rattle.files.proofs.Refused.{malformed_so}
use Rattle.files.proofs.inputs.gather.Goals as goal

abbrev told : Option (List Member) → Result Given Refusal
told o = formed (option_map gathered o)

pub returns-in_err-figures-clause-answer : goal.returns-in_err-figures-clause-answer
returns-in_err-figures-clause-answer c =
    let bad = c.in_err-figures.ensures in
    malformed_so held _ _ _ c.from_residual.ensures.1 bad.0
    (ap told (each_stop member_one c.args.n c.loop.counter c.loop.invariant.1.0 c.loop.rest.now c.args.bytes.now (search rules) (rw bad.1) c.loop.invariant.1.2))

pub returns-in_err-coins-clause-answer : goal.returns-in_err-coins-clause-answer
returns-in_err-coins-clause-answer c =
    let bad = c.in_err-coins.ensures in
    malformed_so held _ _ _ c.from_residual-in_err-coins.ensures.1 bad.0
    (ap told (each_stop member_one c.args.n c.loop.counter c.loop.invariant.1.0 c.loop.rest.now c.args.bytes.now (search rules) (rw (c.in_ok-figures.ensures, bad.1)) c.loop.invariant.1.2))

pub loop-preserved : goal.loop-preserved
loop-preserved c =
    let m : Member = record { figures = words c.in_ok-figures.figures.now; coins = coins_of (words c.in_ok-coins.coins.now) } in
    let figures = one_more vec_items _ _ _ m.figures c.in_ok-push.ensures.items c.in_ok-split_words.ensures in
    let coins = one_more vec_items _ _ _ m.coins c.in_ok-push-2.ensures.items c.in_ok-split_coins.ensures.coins in (
      lists_push _ (lists c.loop.inputs.coins) _ coins c.loop.invariant.0 (coins-below (words c.in_ok-coins.coins.now)),
      (
        c.loop.invariant.1.0 ++ m ∷ [],
        gathered_more c.loop.invariant.1.0 m (held c.loop.inputs) (record { figures = lists c.push.new.self; coins = lists c.push-in-loop.new.self }) c.loop.invariant.1.1 figures coins,
        each_more member_one c.args.n c.loop.counter c.loop.invariant.1.0 _ c.loop.rest.now c.args.bytes.now m _
            (search rules) (rw (c.in_ok-figures.ensures, c.in_ok-coins.ensures)) refl c.loop.invariant.1.2,
      ),
    )

pub returns-in_err-check_end-clause-answer : goal.returns-in_err-check_end-clause-answer
returns-in_err-check_end-clause-answer c =
    let bad = c.in_err-check_end.ensures in
    malformed_so held _ _ _ c.from_residual-in_err-check_end.ensures.1 bad.0
    (ap told (each_left member_one c.args.n c.loop.counter c.loop.invariant.1.0 c.loop.rest.now c.args.bytes.now (search rules) bad.1 c.loop.invariant.1.2))

pub returns : goal.returns
returns c = record {
  answer =
      ap told (each_all member_one c.args.n c.loop.counter c.loop.invariant.1.0 c.loop.rest.now c.args.bytes.now (search rules) c.in_ok-check_end.ensures c.loop.invariant.1.2)
      ∙ ap (λ (g : Given). Ok g) c.loop.invariant.1.1;
  coins = c.loop.invariant.0;
}
