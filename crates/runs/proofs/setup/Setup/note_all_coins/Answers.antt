use Rattle.std.proofs.Common.{ℕ, vec_items, subst, inl, inr, arith}
use Rattle.std.proofs.lemmas.Result.{err_from_is_err_and}
use Rattle.sheets.specs.Families.{family, of}
use Rattle.runs.specs.Setups.{circle_in}
use Rattle.runs.specs.Watching.{watches}
use Rattle.runs.proofs.Coins.{Noted, noted_next, noted-short}
use Rattle.runs.proofs.setup.Setup.note_all_coins.Goals as goal

pub loop-member-preserved : goal.loop-member-preserved
loop-member-preserved c =
    let z = circle_in c.args.self.now in
    let h = c.in_ok-note_coins.ensures in
    let at = c.loop-member.member in
    subst (λ (k : ℕ). Noted z (watches c.args.self.now.watched) (of (family c.args.coins.now)) (vec_items c.args.seen.now) k (vec_items c.note_coins.new.seen)) (omega arith)
    (noted_next z (watches c.args.self.now.watched) (of (family c.args.coins.now))
    (vec_items c.args.seen.now) at (vec_items c.loop-member.seen) (omega arith) (omega arith) c.loop-member.invariant (vec_items c.note_coins.new.seen) h.0 h.1)

pub returns-in_err-note_coins : goal.returns-in_err-note_coins
returns-in_err-note_coins c =
    let p = err_from_is_err_and c.from_residual.result c.from_residual.ensures.1 in
    rw (p.1, p.2)
    (elim c.in_err-note_coins.ensures [
      | inl e ↦ inl e
      | inr h ↦ inr (
        h.0,
        noted-short (circle_in c.args.self.now) (watches c.args.self.now.watched) (of (family c.args.coins.now))
            (vec_items c.args.seen.now) c.loop-member.member (vec_items c.loop-member.seen) (omega arith) (omega arith) c.loop-member.invariant h.1,
      )
    ])
