-- The limit of an input, as it is printed. Assumes nothing.
use Rattle.std.proofs.Common.{◌≡◌, codes, decimal, refl}
use Rattle.std.specs.Fmt.{digits}

pub limit_printed : decimal 1048576 ≡ codes "1048576"
unfolding digits
limit_printed = refl
