-- The cursors of a panel within its limits, and the motions between them, are as legs ask.
use Rattle.std.proofs.Common.{◌≡◌, ◌⊎◌, inl, inr, ◌∙◌, ℕ, ◌*◌, ◌/◌, ◌<◌, ◌≤◌, Bool, true, false, cond, ◌==◌, length, Some, None, Option, refl, sym, ap, subst, arith}
use Rattle.std.proofs.lemmas.Nat.{div-mul-add}
use Rattle.std.proofs.lemmas.Bool.Decides.{nat_tests}
use Rattle.std.specs.Option.{option_map}
use Rattle.cost.specs.Costs.{CostLaws, Costs, Motion}
use Rattle.display.specs.Place.{On, number}
use Rattle.display.specs.Surface.{place_of, resting}
use Rattle.display.specs.declared.place.Cursor.{Cursor}
use Rattle.display.specs.declared.place.Place.{Place}
use Rattle.display.specs.declared.size.Size.{Size}
use Rattle.display.proofs.Places.{found, number_below, when_unheld}
use Rattle.legs.specs.Sane.{Node, Sane}
use Rattle.legs.specs.Scene.{Scene, graph, lands, numbered, priced, retype, steps}
use Rattle.panel.specs.Answers.{Answers, Bounded}

-- where a motion lands, as a place
pub record Landing (s : Scene) (n : ℕ) (d u : Cursor) : Type 0 where
  pub place : Place
  pub there : lands s n d ≡ Some place
  pub is : u ≡ resting place

pub landing : (s : Scene) (n : ℕ) (d u : Cursor) → steps s n d ≡ Some u → Landing s n d u
landing s n d u h = by_cases (lands s n d) refl
  where
    by_cases : (o : Option Place) → lands s n d ≡ o → Landing s n d u
    by_cases None e = absurd (let i = sym (ap (option_map resting) e) ∙ h in cc)
    by_cases (Some p) e = record {
      place = p;
      there = e;
      is = let i = sym (ap (option_map resting) e) ∙ h in cc;
    }

retype_on : (s : Scene) (d : Cursor) (p : Place) → On s.answers.size d.place → retype s d ≡ Some p → On s.answers.size p
retype_on s d p on h =
    let a = when_unheld d _ p h in
    let b = found _ _ p a in
    subst (λ q. On s.answers.size q) b.1 (record { row = on.row; column = grind (arith, nat_tests) })

pub lands_on : (s : Scene) → Bounded s.answers → (n : ℕ) (d : Cursor) (p : Place) → On s.answers.size d.place
    → lands s n d ≡ Some p → On s.answers.size p
lands_on s b n d p on h = by_cases (n == s.answers.motions) refl
  where
    by_cases : (t : Bool) → (n == s.answers.motions) ≡ t → On s.answers.size p
    by_cases true e = retype_on s d p on (sym (ap (λ t. cond t (retype s d) (s.answers.lands n d)) e) ∙ h)
    by_cases false e = b.lands_on n d p on (sym (ap (λ t. cond t (retype s d) (s.answers.lands n d)) e) ∙ h)

pub landed_below : (s : Scene) → Bounded s.answers → (n : ℕ) (d : Cursor) (p : Place) → On s.answers.size d.place
    → lands s n d ≡ Some p → number s.answers.size p < s.answers.size.rows * s.answers.size.columns
landed_below s b n d p on h = number_below s.answers.size p (lands_on s b n d p on h)

-- a motion that is offered has a number up to the retype's
pub offered_below : (s : Scene) → Bounded s.answers → (n : ℕ) (d : Cursor) (p : Place) → lands s n d ≡ Some p
    → n ≤ s.answers.motions
offered_below s b n d p h = by_cases (n == s.answers.motions) refl (nat_split n s.answers.motions)
  where
    nat_split : (x y : ℕ) → (x ≤ y) ⊎ (y ≤ x)
    nat_split x y = grind arith

    by_cases : (t : Bool) → (n == s.answers.motions) ≡ t → (n ≤ s.answers.motions) ⊎ (s.answers.motions ≤ n)
        → n ≤ s.answers.motions
    by_cases true e i = grind (arith, nat_tests)
    by_cases false e (inl i) = i
    by_cases false e (inr i) = absurd (
        let a = sym (ap (λ t. cond t (retype s d) (s.answers.lands n d)) e) ∙ h in
        let c = b.numbered n d i in cc)

motion_limits : (a : Answers) → Bounded a → (n : ℕ) → n < a.motions → Motion (length (a.motion_bytes n)) (a.delay n)
motion_limits a b n h = record { some = b.some_bytes n h; few = b.few_bytes n h; short = b.short_delay n h }

-- what a motion costs is what some motion may cost
pub record Priced {V : Type 0} (c : Costs V) (v : V) : Type 0 where
  pub bytes : ℕ
  pub milliseconds : ℕ
  pub limits : Motion bytes milliseconds
  pub is : v ≡ c.motion bytes milliseconds

pub priced_motion : {V : Type 0} (c : Costs V) (a : Answers) → Bounded a → (n : ℕ) → n ≤ a.motions
    → Priced c (priced c a n)
priced_motion c a b n h = by_cases (n == a.motions) refl
  where
    by_cases : (t : Bool) → (n == a.motions) ≡ t → Priced c (priced c a n)
    by_cases true e = record {
      bytes = 1;
      milliseconds = 0;
      limits = record { some = omega arith; few = omega arith; short = omega arith };
      is = ap (λ t. cond t (c.motion 1 0) (c.motion (length (a.motion_bytes n)) (a.delay n))) e;
    }
    by_cases false e = record {
      bytes = length (a.motion_bytes n);
      milliseconds = a.delay n;
      limits = motion_limits a b n (grind (arith, nat_tests));
      is = ap (λ t. cond t (c.motion 1 0) (c.motion (length (a.motion_bytes n)) (a.delay n))) e;
    }

-- places with one number are one
same_place : (z : Size) (p q : Place) → On z p → On z q → number z p ≡ number z q → p ≡ q
same_place z p q a b h =
    let r : p.row ≡ q.row = sym (div-mul-add p.row z.columns p.column a.column)
    ∙ (ap (λ (n : ℕ). n / z.columns) h ∙ div-mul-add q.row z.columns q.column b.column) in
    let t : p.row * z.columns ≡ q.row * z.columns = ap (λ (n : ℕ). n * z.columns) r in
    let c : p.column ≡ q.column = omega arith in
    let i : place_of p.row p.column ≡ place_of q.row q.column = cc in i

-- a cursor that is not held rests on its place
pub rests : (e : Cursor) → e.held ≡ false → e ≡ resting e.place
rests e f = ap (λ (b : Bool). let i : Cursor = record { place = e.place; held = b } in i) f

module _ (a : Answers) (k : Cursor) where
  same_node : (d u : Cursor) → Node a k d → Node a k u → numbered a.size d ≡ numbered a.size u → d ≡ u
  same_node d u x y h = by_cases x.free y.free
    where
      unheld_number : (e : Cursor) → On a.size e.place → e.held ≡ false
          → numbered a.size e < a.size.rows * a.size.columns
      unheld_number e on f = subst (λ (i : ℕ). i < a.size.rows * a.size.columns)
          (sym (ap (λ t. cond t (a.size.rows * a.size.columns) (number a.size e.place)) f))
          (number_below a.size e.place on)

      held_number : (e : Cursor) → e.held ≡ true → numbered a.size e ≡ a.size.rows * a.size.columns
      held_number e f = ap (λ t. cond t (a.size.rows * a.size.columns) (number a.size e.place)) f

      rest_number : (e : Cursor) → e.held ≡ false → numbered a.size e ≡ number a.size e.place
      rest_number e f = ap (λ t. cond t (a.size.rows * a.size.columns) (number a.size e.place)) f

      both_unheld : d.held ≡ false → u.held ≡ false → d ≡ u
      both_unheld f i =
          let p : d.place ≡ u.place = same_place a.size d.place u.place x.on y.on
          (sym (rest_number d f) ∙ (h ∙ rest_number u i)) in
          let q : resting d.place ≡ resting u.place = ap resting p in
          rests d f ∙ (q ∙ sym (rests u i))

      one_held : (e v : Cursor) → On a.size e.place → e.held ≡ false → v ≡ k → numbered a.size e ≡ numbered a.size v
          → (b : Bool) → v.held ≡ b → v.held ≡ false
      one_held e v on f i n false j = j
      one_held e v on f i n true j = absurd (
          let c = unheld_number e on f in let c2 = held_number v j in omega arith)

      by_cases : (d.held ≡ false) ⊎ (d ≡ k) → (u.held ≡ false) ⊎ (u ≡ k) → d ≡ u
      by_cases (inl f) (inl i) = both_unheld f i
      by_cases (inl f) (inr i) = both_unheld f (one_held d u x.on f i h u.held refl)
      by_cases (inr f) (inl i) = both_unheld (one_held u d y.on i f (sym h) d.held refl) i
      by_cases (inr f) (inr i) = f ∙ sym i

module _ {V : Type 0} (c : Costs V) (l : CostLaws c) (s : Scene) (b : Bounded s.answers) (k : Cursor)
    (on : On s.answers.size k.place) where
  pub sane : Sane (graph c s) k (Node s.answers k) (s.answers.size.rows * s.answers.size.columns)
  sane = record {
    laws = l;
    begins = record { on = on; free = inr refl };
    goes = λ n d u x h. let p = landing s n d u h in record {
      on = subst (λ (i : Cursor). On s.answers.size i.place) (sym p.is) (lands_on s b n d p.place x.on p.there);
      free = inl (ap (λ (i : Cursor). i.held) p.is);
    };
    apart = λ d u x y h. same_node s.answers k d u x y h;
    adds = λ n d u x h v. let p = landing s n d u h in
        let q = priced_motion c s.answers b n (offered_below s b n d p.place p.there) in
        subst (λ (w : V). c.at_most (c.plus v w) v ≡ false) (sym q.is) (l.strict v q.bytes q.milliseconds q.limits);
    lands = λ n d u x h. let p = landing s n d u h in
        subst (λ (i : Cursor). numbered s.answers.size i < s.answers.size.rows * s.answers.size.columns) (sym p.is)
        (number_below s.answers.size p.place (lands_on s b n d p.place x.on p.there));
  }
