-- The panel that a program is asked for.
--     letter k             the letter that stands for the kind k
--     Requested k r c q    the three words ask for the panel q
use Rattle.std.specs.Prelude.{◌≡◌, ℕ, List, codes}
use Rattle.view.specs.Arguments.{Reads}
use Rattle.view.specs.declared.requests.Kind.{Kind}
use Rattle.view.specs.declared.requests.Kind.TheVariants.{DeferredWrap, ImmediateWrap, Sticking}
use Rattle.view.specs.declared.requests.Request.{Request}

abbrev pub letter : Kind → List ℕ
letter DeferredWrap = codes "D"
letter ImmediateWrap = codes "C"
letter Sticking = codes "T"

pub record Requested (k r c : List ℕ) (q : Request) : Type 0 where
  pub kind : k ≡ letter q.kind
  pub rows : Reads r q.size.rows
  pub columns : Reads c q.size.columns
