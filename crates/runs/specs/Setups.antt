-- The circle of a setup.
use Rattle.shares.specs.Circle.{Circle}
use Rattle.runs.specs.declared.setup.Setup.{Setup}

abbrev pub circle_in : Setup → Circle
circle_in s = record { n = s.n; t = s.t }
