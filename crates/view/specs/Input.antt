-- What is told of an input that is refused.
--     told e    the text of the error e, where one is claimed
use Rattle.std.specs.Prelude.{ℕ, List, codes, Some, None, Option}
use Rattle.view.specs.declared.input.InputError.{InputError}
use Rattle.view.specs.declared.input.InputError.TheVariants.{TooLong, NoMemory}

abbrev pub told : InputError → Option (List ℕ)
told TooLong = Some (codes "the input is longer than 1048576 bytes")
told (NoMemory _) = None
