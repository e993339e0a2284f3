-- The worked legs on the sticking panel. Assumes nothing.
--     Moves n d p t b  the motion n, which takes t milliseconds and sends b bytes, leads from the place d to the place
--                      p as one of the panel's motions does, or as the retype
--     away             what a place is away at least
use Rattle.std.proofs.Common.{◌≡◌, ◌⊎◌, ℕ, ◌+◌, ◌≤◌, min, Some, [], ◌∷◌, subst, arith, refl, cond, ◌==◌}
use Rattle.std.proofs.lemmas.Bool.Decides.{nat_tests}
use Rattle.cost.specs.Bytes.{byte_costs, byte_laws}
use Rattle.display.specs.Surface.{place_of}
use Rattle.display.specs.declared.place.Cursor.{Cursor}
use Rattle.display.specs.declared.place.Place.{Place}
use Rattle.legs.specs.Scene.{NoWay, Scene, graph, lands}
use Rattle.legs.specs.Graph.{Leads}
use Rattle.legs.specs.Sequence.{Sequence, none, then}
use Rattle.legs.proofs.Ends.{before}
use Rattle.worked_legs.specs.Established.{Sends}
use Rattle.worked_legs.specs.Scenes.{blank_scene}
use Rattle.worked_legs.specs.Table.{from}
use Rattle.worked_legs.specs.declared.row.PanelKind.TheVariants.{Sticking}
use Rattle.worked_legs.proofs.Landings.{Bounds, First, landed, onward, sends, start}
use Rattle.worked_legs.proofs.Moves.{Back, Feed, Retype, Return, bytes, milliseconds}

abbrev s : Scene
s = blank_scene Sticking

abbrev Moves : ℕ → Place → Place → ℕ → ℕ → Type 0
Moves n d p t b = Return n d p t b ⊎ (Back n d p t b ⊎ (Feed n d p t b ⊎ Retype 3 n d p t b))

moves : (n : ℕ) (k : Cursor) (p : Place) → lands s n k ≡ Some p
    → Moves n k.place p (milliseconds s n) (bytes s n)
moves n k p e = grind (arith, nat_tests)

-- from (0, 79) it costs a byte to leave the first row, and one to leave the last column
abbrev away : Cursor → ℕ
away k = min 1 k.place.row + cond (k.place.column == 79) 0 1

bounds : Bounds byte_costs s (from 0 79) away
bounds = record {
  laws = byte_laws;
  zero = refl;
  raises = λ n d p ok l. let m = moves n d p l in grind (arith, nat_tests);
}

feed_first : First byte_costs s (from 0 79) away 2 (from 0 79) (place_of 1 79)
feed_first m e ok l q = let a = moves m e (place_of 1 79) l in grind (arith, nat_tests)

return_first : First byte_costs s (from 0 79) away 0 (from 1 79) (place_of 1 0)
return_first m e ok l q = let a = moves m e (place_of 1 0) l in grind (arith, nat_tests)

pub feed_and_return : Sends byte_costs s (from 0 79) (from 1 0) (0x0a ∷ 0x0d ∷ [])
feed_and_return =
    let fed = onward bounds 2 (place_of 1 79) (start bounds refl) refl refl feed_first in
    let returned = onward bounds 0 (place_of 1 0) fed refl refl return_first in
    sends returned refl

-- no motion leads to a row above
below_first : (w : Sequence) (u : Cursor) → Leads (graph byte_costs s) (from 1 0) w u → 1 ≤ u.place.row
below_first none u l = let e : from 1 0 ≡ u = cc in subst (λ (u : Cursor). 1 ≤ u.place.row) e (omega arith)
below_first (then w n) u l =
    let b = before (graph byte_costs s) (from 1 0) w n u l in
    let at = landed s n b.state u b.step in
    let kept = below_first w b.state b.leads in
    let m = moves n b.state at.place at.lands in
    let on : 1 ≤ at.place.row = grind arith in
    subst (λ (u : Cursor). 1 ≤ u.place.row) at.is on

pub no_way_up : NoWay byte_costs s (from 1 0) (place_of 0 0)
no_way_up w l = let low = below_first w (from 0 0) l in absurd (omega arith)
