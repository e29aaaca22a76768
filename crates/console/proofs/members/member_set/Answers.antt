use Rattle.std.proofs.Common.{ℕ, ◌+◌, eqb, false, sym, rules, arith}
use Rattle.std.specs.List.{list_any}
use Rattle.console.proofs.Sets.{filled_at}
use Rattle.console.proofs.members.member_set.Goals as goal

pub returns : goal.returns
returns c = (
  sym c.if-is_any_outside.ensures,
  c.from_fn.ensures.items.long,
  λ k lt. filled_at _ (λ (j : ℕ). list_any (λ number. eqb number (j + 1)) c.args.numbers.now) _ c.from_fn.result false (λ i y q called. search rules) 15 0 k c.from_fn.ensures.items.each (omega arith) (omega arith),
)
