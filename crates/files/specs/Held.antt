-- What the inputs of a circle hold, as the code has them.
use Rattle.files.specs.Circles.{Given}
use Rattle.files.specs.Lists.{lists}
use Rattle.files.specs.declared.inputs.CircleInputs.{CircleInputs}

abbrev pub held : CircleInputs → Given
held inputs = record { figures = lists inputs.figures; coins = lists inputs.coins }
