-- The words for the rows and the columns, behind the word for the kind. Assumes nothing.
use Rattle.std.proofs.Common.{◌≡◌, ℕ, List, Some, None, Option}
use Rattle.std.specs.Prelude.{MatchOption, codes}
use Rattle.display.specs.declared.size.Size.{Size}
use Rattle.view.specs.Arguments.{Asked, Reads}

pub size_asked : (k r c : List ℕ) (o : Option Size) → k ≡ codes "D"
    → MatchOption o ((z : Size) → Reads r z.rows → Reads c z.columns → ⊥)
    (λ z. Reads r z.rows × Reads c z.columns)
    → MatchOption o ((z : Size) → Asked k r c z → ⊥) (Asked k r c)
size_asked k r c None kind none = λ z asked. none z asked.rows asked.columns
size_asked k r c (Some z) kind some = record { kind = kind; rows = some.0; columns = some.1 }
