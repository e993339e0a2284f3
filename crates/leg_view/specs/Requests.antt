-- The leg that a program is asked for.
--     cost_word c          the word that stands for the cost c
--     Number bs n          bs is the number n, which a machine's word holds
--     Requested w r c q    the three words ask for the leg q
use Rattle.std.specs.Prelude.{◌≡◌, ℕ, ◌^◌, ◌<◌, List, codes}
use Rattle.leg_view.specs.declared.requests.Costing.{Costing}
use Rattle.leg_view.specs.declared.requests.Costing.TheVariants.{Byte, Line}
use Rattle.leg_view.specs.declared.requests.Request.{Request}
use Rattle.view.specs.Arguments.{Reads}

abbrev pub cost_word : Costing → List ℕ
cost_word Byte = codes "byte"
cost_word Line = codes "line"

pub record Number (bs : List ℕ) (n : ℕ) : Type 0 where
  pub reads : Reads bs n
  pub fits : n < 2 ^ 64

pub record Requested (w r c : List ℕ) (q : Request) : Type 0 where
  pub costing : w ≡ cost_word q.costing
  pub row : Number r q.row
  pub column : Number c q.column
