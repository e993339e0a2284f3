-- A plan that is walked behind some bytes; what a try of it has written, and that there is one plan only, so a second
-- walk of it sends what the first has counted, and is not blocked.
use Rattle.std.proofs.Common.{◌≡◌, ◌∙◌, ℕ, ◌*◌, ◌≤◌, List, ◌++◌, Result, Ok, Err, length, map, take, drop, append_assoc, sym, ap, subst, arith}
use Rattle.std.proofs.lemmas.List.{drop-append-le, length-take-le, take-append-drop}
use Rattle.cost.specs.Costs.{Costs}
use Rattle.display.specs.Surface.{resting}
use Rattle.display.specs.declared.cell.Glyph.{Glyph}
use Rattle.display.specs.declared.place.Place.{Place}
use Rattle.display.specs.declared.size.Size.{Size}
use Rattle.labels.specs.declared.label.Label.{Label}
use Rattle.panel.specs.Answers.{Answers}
use Rattle.plan.specs.Plan.{Blocked}
use Rattle.plan.specs.declared.stand.Stand.{Stand}
use Rattle.plan.proofs.Unique.{plan_not_blocked, plan_one}
use Rattle.planning.specs.Planned.{Looked, Planned, pictured}
use Rattle.planning.specs.Pours.{Pours}
use Rattle.planning.specs.Tried.{CountedAs, WalkedAhead, WalksAhead, Wrote}
use Rattle.planning.specs.Walks.{Walks}
use Rattle.planning.specs.declared.walk.Sent.{Sent}
use Rattle.planning.proofs.Pours.{pours_more}

-- a plan of two pictures, behind the bytes head
module _ {V : Type 0} (c : Costs V) (a : Answers) (gs hs : List Glyph) (rest : Place) (k : Stand) (head : List ℕ) where
  pub walks_ahead : (bs xs us vs : List ℕ) (i j : ℕ) → bs ≡ head → Pours bs xs us 0 i → j ≡ i
      → (o : Result Sent Place) → Walks c a gs hs rest k j us vs o → WalksAhead c a gs hs rest k head xs vs o
  walks_ahead bs xs us vs i j is pour same (Ok s) w = record {
    bytes = w.bytes;
    plan = w.plan;
    pours = pours_more head w.bytes xs us vs 0 i s.count (subst (λ (x : List ℕ). Pours x xs us 0 i) is pour)
        (subst (λ (x : ℕ). Pours w.bytes us vs x s.count) same w.pours);
  }
  walks_ahead bs xs us vs i j is pour same (Err q) w = w

  -- what is written into the first n bytes of an output is written into the output
  pub wrote : (xs vs : List ℕ) (n : ℕ) (s : Sent) → WalkedAhead c a gs hs rest k head (take n xs) vs s → n ≤ length xs
      → s.count ≤ n → Wrote c a gs hs rest k head xs (vs ++ drop n xs) s
  wrote xs vs n s w room few =
      let lent : length (take n xs) ≡ n = length-take-le n xs room in
      record {
        bytes = w.bytes;
        plan = w.plan;
        count = let h = w.pours.end in omega arith;
        fits = omega arith;
        output = ap (λ (x : List ℕ). x ++ drop n xs) (w.pours.laid (omega arith))
            ∙ (append_assoc (head ++ w.bytes) (drop s.count (take n xs)) (drop n xs)
            ∙ ap (λ (x : List ℕ). (head ++ w.bytes) ++ x)
            (sym (drop-append-le s.count (take n xs) (drop n xs) (omega arith))
            ∙ ap (drop s.count) (take-append-drop n xs)));
      }

  module _ (xs mid : List ℕ) (n : ℕ) (first : CountedAs c a gs hs rest k head xs mid n) where
    pub same_count : (us ys : List ℕ) (s : Sent) → WalkedAhead c a gs hs rest k head us ys s → n ≡ s.count
    same_count us ys s second =
        let one = (plan_one c a gs hs rest (resting k.place) k.pen first.bytes second.bytes first.pen s.pen first.plan
        second.plan).0 in
        let x = first.count in
        let y = ap (λ (bs : List ℕ). length (head ++ bs)) one in
        let z = second.pours.end in omega arith

    pub not_blocked : (q : Place) → Blocked c a gs hs rest (resting k.place) k.pen q → ⊥
    not_blocked q second =
        plan_not_blocked c a gs hs rest (resting k.place) k.pen first.bytes first.pen q first.plan second

-- the pictures walked are the first n cells of those shown and wanted, and n is the number of places of the size z
module _ {V C K : Type 0} (c : Costs V) (a : Answers) (f : C → Glyph) (shown wanted : List C) (head : List ℕ)
    (k : Stand) (rest : Place) (ls ms : List (Label K)) (z : Size) (same : z ≡ a.size) (n : ℕ)
    (places : n ≡ z.rows * z.columns) (gs hs : List C) (e : gs ≡ take n shown) (h : hs ≡ take n wanted) where
  pictured_is : (xs ys : List C) → ys ≡ take n xs → map f ys ≡ pictured a.size f xs
  pictured_is xs ys is = ap (map f) (is ∙ ap (λ (m : ℕ). take m xs)
      (places ∙ ap (λ (y : Size). y.rows * y.columns) same))

  as_pictured : (xs ys : List ℕ) (s : Sent) → Wrote c a (map f gs) (map f hs) rest k head xs ys s
      → Wrote c a (pictured a.size f shown) (pictured a.size f wanted) rest k head xs ys s
  as_pictured xs ys s w =
      subst (λ (x : List Glyph). Wrote c a x (pictured a.size f wanted) rest k head xs ys s) (pictured_is shown gs e)
      (subst (λ (x : List Glyph). Wrote c a (map f gs) x rest k head xs ys s) (pictured_is wanted hs h) w)

  -- the bytes of the second walk, in an output that the first has left as it was
  pub planned : (xs mid ys : List ℕ) (m : ℕ) (s : Sent) → Looked c a f shown wanted head k rest ls ms xs ys
      → CountedAs c a (map f gs) (map f hs) rest k head xs mid m
      → WalkedAhead c a (map f gs) (map f hs) rest k head mid ys s → m ≤ length xs
      → Planned c a f shown wanted head k rest ls ms xs ys s
  planned xs mid ys m s looked first second room =
      let count = same_count c a (map f gs) (map f hs) rest k head xs mid m first mid ys s second in
      let long = ap length first.output in
      record {
        looked = looked;
        wrote = as_pictured xs ys s (record {
          bytes = second.bytes;
          plan = second.plan;
          count = let h = second.pours.end in omega arith;
          fits = omega arith;
          output = second.pours.laid (omega arith)
              ∙ ap (λ (x : List ℕ). (head ++ second.bytes) ++ drop s.count x) first.output;
        });
      }
