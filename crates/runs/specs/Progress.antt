-- A run before its first line.
use Rattle.std.specs.Prelude.{◌≡◌, [], Ok, Err, vec_items, Result}
use Rattle.sheets.specs.declared.lists.Lists.{Lists}
use Rattle.sheets.specs.declared.refusal.Refusal.{Refusal}
use Rattle.sheets.specs.declared.refusal.Refusal.TheVariants.{NoMemory}
use Rattle.runs.specs.declared.progress.Progress.{Progress}

-- the figures are whole, and nothing is made, opened or seen yet
pub record Started (figures : Lists) (p : Progress) : Type 0 where
  pub whole : p.figures ≡ figures
  pub unmade : vec_items p.held ≡ []
  pub unopened : vec_items p.opened ≡ []
  pub unseen : vec_items p.seen ≡ []

abbrev pub StartedAs : Lists → Result Progress Refusal → Type 0
StartedAs figures (Ok p) = Started figures p
StartedAs figures (Err e) = e ≡ NoMemory
