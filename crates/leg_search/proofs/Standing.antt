-- What follows of where a search stands: each place of the line has a cursor of the panel; the line has room for one state
-- more while some place of the panel is not in it; and the sums of costs that are asked for are those of few motions.
use Rattle.std.proofs.Common.{◌≡◌, ◌≢◌, ◌⊎◌, inl, inr, ◌∙◌, ℕ, zero, suc, ◌+◌, ◌*◌, ◌/◌, ◌%◌, ◌<◌, ◌≤◌, Bool, true, false, cond, ◌||◌, ◌==◌, List, [], ◌∷◌, length, eqb, refl, sym, ap, subst, arith, rules}
use Rattle.std.proofs.lemmas.Bool.{eqb-true}
use Rattle.std.proofs.lemmas.Bool.Decides.{nat_tests}
use Rattle.std.proofs.lemmas.Map.Keys.{IsDistinct-cons}
use Rattle.std.proofs.lemmas.Map.Steps.{length-le_from_distinct_below}
use Rattle.std.specs.List.{AllByRecursion, IsDistinct, list_any}
use Rattle.cost.specs.Costs.{Addable, CostLaws, FewLaws, most_steps}
use Rattle.display.proofs.Places.{number_below, numbered_place}
use Rattle.display.specs.Place.{On, number}
use Rattle.display.specs.Surface.{place_of, resting}
use Rattle.display.specs.declared.place.Cursor.{Cursor}
use Rattle.display.specs.declared.size.Size.{Size}
use Rattle.labels.specs.Frontier.{Frontier}
use Rattle.labels.specs.Note.{Note}
use Rattle.labels.specs.declared.label.Stage.TheVariants.{Unreached, Reached, Settled}
use Rattle.labels.proofs.Improving.{same_or_not}
use Rattle.labels.proofs.Trails.{room, room_for_two}
use Rattle.legs.proofs.Few.{few_priced, few_spent}
use Rattle.legs.proofs.Panels.{sane}
use Rattle.legs.proofs.Unique.{least_of_leg}
use Rattle.legs.specs.Scene.{numbered}
use Rattle.legs.specs.Sequence.{count}
use Rattle.leg_search.specs.Reach.{Reach, Stands}
use Rattle.leg_search.specs.Take.{Roomy}
use Rattle.leg_search.specs.Task.{Asks, Fit, Task, asked, places, price}
use Rattle.leg_search.specs.Turn.{Rests}
use Rattle.panel.specs.Answers.{Bounded}

pub most_places : (z : Size) → z.rows * z.columns ≤ most_steps
most_places z = search rules

-- a cursor of the panel has the number of a place, or the one after those
pub number_in : (z : Size) (k : Cursor) → On z k.place → numbered z k ≤ z.rows * z.columns
number_in z k on = grind (arith, number_below z k.place on)

-- a list of n numbers, the last one first
abbrev listing : (ℕ → ℕ) → ℕ → List ℕ
listing f zero = []
listing f (suc n) = f n ∷ listing f n

listing_length : (f : ℕ → ℕ) (n : ℕ) → length (listing f n) ≡ n
listing_length f zero = refl
listing_length f (suc n) = let h = listing_length f n in omega arith

not_same : (i j : ℕ) → i ≢ j → eqb i j ≡ false
not_same i j ne = by_cases (eqb i j) refl
  where
    by_cases : (b : Bool) → eqb i j ≡ b → eqb i j ≡ false
    by_cases true e = absurd (ne (eqb-true i j e))
    by_cases false e = e

none_listed : (f : ℕ → ℕ) (n a : ℕ) → ((i : ℕ) → i < n → f i ≢ a)
    → AllByRecursion (λ y. eqb a y ≡ false) (listing f n)
none_listed f zero a h = tt
none_listed f (suc n) a h =
    (not_same a (f n) (λ e. h n (omega arith) (sym e)), none_listed f n a (λ i lt. h i (omega arith)))

listing_distinct : (f : ℕ → ℕ) (n : ℕ) → ((i j : ℕ) → i < j → j < n → f i ≢ f j) → IsDistinct eqb (listing f n)
unfolding IsDistinct
listing_distinct f zero h = tt
listing_distinct f (suc n) h = IsDistinct-cons eqb (f n) (listing f n)
    (none_listed f n (f n) (λ i lt. h i n lt (omega arith)))
    (listing_distinct f n (λ i j lt o. h i j lt (omega arith)))

listing_below : (f : ℕ → ℕ) (n m : ℕ) → ((i : ℕ) → i < n → f i < m)
    → (a : ℕ) → list_any (eqb a) (listing f n) ≡ true → a < m
listing_below f zero m h a e = absurd cc
listing_below f (suc n) m h a e = by_cases (listing_below f n m (λ i lt. h i (omega arith)) a) (eqb a (f n)) refl
  where
    by_cases : (list_any (eqb a) (listing f n) ≡ true → a < m) → (b : Bool) → eqb a (f n) ≡ b → a < m
    by_cases ih true o = subst (λ (y : ℕ). y < m) (sym (eqb-true a (f n) o)) (h n (omega arith))
    by_cases ih false o = ih (sym (ap (λ (b : Bool). b || list_any (eqb a) (listing f n)) o) ∙ e)

-- numbers that differ, all below m, are at most m
few_apart : (f : ℕ → ℕ) (n m : ℕ) → ((i j : ℕ) → i < j → j < n → f i ≢ f j) → ((i : ℕ) → i < n → f i < m) → n ≤ m
few_apart f n m apart below =
    let a = length-le_from_distinct_below (listing f n) m (listing_distinct f n apart) (listing_below f n m below) in
    let b = listing_length f n in omega arith

-- what stands in the line is not new
pub in_line : {V : Type 0} (x : Task V) (r : Reach V) (b : ℕ) (D : ℕ → ℕ → Type 0) → Stands x r b D
    → (i : ℕ) → i < r.end → (r.notes (r.line i)).stage ≢ Unreached
in_line x r b D s i h e = by_cases (side i b)
  where
    side : (y z : ℕ) → (y < z) ⊎ (z ≤ y)
    side y z = grind arith

    by_cases : (i < b) ⊎ (b ≤ i) → ⊥
    by_cases (inl o) = let t = s.line.settled i o in cc
    by_cases (inr o) = let t = s.line.reached i o h in cc

-- the cost of a settled state, and of a motion more
module _ {V : Type 0} (x : Task V) (q : Asks x) (l : CostLaws x.costs) (bd : Bounded x.scene.answers)
    (F : ℕ → V → Type 0) (fl : FewLaws x.costs F) where
  few_price : (d : ℕ) → d < x.count → F 1 (price x d)
  few_price d lt = fl.one _ _ (q.classes.told d 0 lt (q.classes.some d lt)).limits

  pub sum_of_settled : (N : ℕ → Note V) (D : ℕ → ℕ → Type 0) → Frontier (asked x) x.start (Fit x) N x.goal D
      → (N x.goal).stage ≢ Settled
      → (u : Cursor) → Fit x u → (N (numbered x.scene.answers.size u)).stage ≡ Settled
      → (d : ℕ) → d < x.count → Addable F (N (numbered x.scene.answers.size u)).cost (price x d)
  sum_of_settled N D f waits u fit h d lt =
      let sn = sane x.costs l x.scene bd x.start q.start in
      let tr = f.traced u fit h in
      let a = room (asked x) x.start (Fit x) _ sn N f.traced tr.way u fit h tr.leg x.goal q.goal waits in
      let leads = (least_of_leg (asked x) x.start (Fit x) _ sn tr.way u tr.leg).leads in
      record {
        left = count tr.way;
        right = 1;
        left_few = subst (λ (y : V). F (count tr.way) y) tr.cost
            (few_spent x.costs F fl x.scene bd x.start tr.way u leads);
        right_few = few_price d lt;
        together = let m = most_places x.scene.answers.size in omega arith;
      }

module _ {V : Type 0} (x : Task V) (q : Asks x) (r : Reach V) (b : ℕ) (D : ℕ → ℕ → Type 0) (s : Stands x r b D) where
  start_fit : Fit x x.start
  start_fit = record { on = q.start; free = inr refl }

  -- a state of the line, as a cursor
  pub record Standing (i : ℕ) : Type 0 where
    pub cursor : Cursor
    pub fit : Fit x cursor
    pub is : r.line i ≡ numbered x.scene.answers.size cursor

  pub standing_first : (i : ℕ) → i ≡ 0 → Fit x x.start × (r.line i ≡ numbered x.scene.answers.size x.start)
  standing_first i e = (start_fit, ap r.line e ∙ s.begins)

  pub standing : (i : ℕ) → i < r.end → Standing i
  standing i lt = by_cases (same_or_not i 0)
    where
      by_cases : (i ≡ 0) ⊎ (i ≢ 0) → Standing i
      by_cases (inl e) = let o = standing_first i e in record { cursor = x.start; fit = o.0; is = o.1 }
      by_cases (inr e) =
          let o = numbered_place x.scene.answers.size (r.line i) (s.inside i (omega arith) lt) in
          record {
            cursor = resting (place_of (r.line i / x.scene.answers.size.columns)
                (r.line i % x.scene.answers.size.columns));
            fit = record { on = o.on; free = inl refl };
            is = sym o.is;
          }

  -- a cursor that is the start at the first place, and rests on the state's place elsewhere, is the state's
  pub standing_as : (i : ℕ) → i < r.end → (u : Cursor) → (i ≡ 0 → u ≡ x.start)
      → (i ≢ 0 → r.line i < places x → Rests x.scene.answers.size (r.line i) u)
      → Fit x u × (r.line i ≡ numbered x.scene.answers.size u)
  standing_as i lt u first later = by_cases (same_or_not i 0)
    where
      by_cases : (i ≡ 0) ⊎ (i ≢ 0) → Fit x u × (r.line i ≡ numbered x.scene.answers.size u)
      by_cases (inl e) =
          let o = standing_first i e in
          subst (λ (y : Cursor). Fit x y × (r.line i ≡ numbered x.scene.answers.size y)) (sym (first e)) (o.0, o.1)
      by_cases (inr e) =
          let o = later e (s.inside i (omega arith) lt) in (
            record { on = o.on; free = inl o.free },
            sym o.is ∙ sym (ap (λ (b : Bool). cond b (places x) (number x.scene.answers.size u.place)) o.free),
          )

  line_in : (i : ℕ) → i < r.end → (i ≡ 0) ⊎ (i ≢ 0) → r.line i < places x + 1
  line_in i lt (inl e) = let a = ap r.line e ∙ s.begins in let b2 = number_in x.scene.answers.size x.start q.start in omega arith
  line_in i lt (inr e) = let a = s.inside i (omega arith) lt in omega arith

  pub line_below : (i : ℕ) → i < r.end → r.line i < places x + 1
  line_below i lt = line_in i lt (same_or_not i 0)

  pub few_in_line : r.end ≤ places x + 1
  few_in_line = few_apart r.line r.end (places x + 1) s.apart line_below

  -- one state more has room, if it is a place that does not stand in the line
  pub room_in_line : (n : ℕ) → n < places x → ((i : ℕ) → i < r.end → r.line i ≢ n) → r.end ≤ places x
  room_in_line n lt new =
      let a = few_apart longer (r.end + 1) (places x + 1) apart below in omega arith
    where
      longer : ℕ → ℕ
      longer i = cond (i == r.end) n (r.line i)

      at_end : longer r.end ≡ n
      at_end = grind (arith, nat_tests)

      elsewhere : (i : ℕ) → i < r.end → longer i ≡ r.line i
      elsewhere i h = grind (arith, nat_tests)

      last : (i : ℕ) → i < r.end + 1 → (i ≡ r.end) ⊎ (i < r.end)
      last i h = grind arith

      apart_at : (i j : ℕ) → i < j → (j ≡ r.end) ⊎ (j < r.end) → longer i ≢ longer j
      apart_at i j h (inl e) = λ o. new i (omega arith)
          (sym (elsewhere i (omega arith)) ∙ (o ∙ (ap longer e ∙ at_end)))
      apart_at i j h (inr o) = λ e. s.apart i j h o
          (sym (elsewhere i (omega arith)) ∙ (e ∙ elsewhere j o))

      apart : (i j : ℕ) → i < j → j < r.end + 1 → longer i ≢ longer j
      apart i j h o = apart_at i j h (last j o)

      below_at : (i : ℕ) → (i ≡ r.end) ⊎ (i < r.end) → longer i < places x + 1
      below_at i (inl e) = let o = ap longer e ∙ at_end in omega arith
      below_at i (inr h) = let o = elsewhere i h in let p = line_in i h (same_or_not i 0) in omega arith

      below : (i : ℕ) → i < r.end + 1 → longer i < places x + 1
      below i h = below_at i (last i h)

  pub roomy : Roomy x r
  roomy = record {
    room = λ n lt h. room_in_line n lt (λ i o e. in_line x r b D s i o (ap (λ (y : ℕ). (r.notes y).stage) e ∙ h));
  }

  module _ (l : CostLaws x.costs) (bd : Bounded x.scene.answers) (F : ℕ → V → Type 0) (fl : FewLaws x.costs F) where
    -- the same of a reached state of the line
    sum_of_reached : (u : Cursor) → Fit x u → (r.notes (numbered x.scene.answers.size u)).stage ≡ Reached
        → numbered x.scene.answers.size u ≢ x.goal → numbered x.scene.answers.size u < places x
        → (d : ℕ) → d < x.count → Addable F (r.notes (numbered x.scene.answers.size u)).cost (price x d)
    sum_of_reached u fit h ne inside d lt =
        let sn = sane x.costs l x.scene bd x.start q.start in
        let lb = s.frontier.labelled u fit h in
        let tr = s.frontier.traced lb.state lb.is_ok lb.settled in
        let a = room_for_two (asked x) x.start (Fit x) _ sn r.notes s.frontier.traced tr.way lb.state lb.is_ok lb.settled
        tr.leg x.goal q.goal s.waits (numbered x.scene.answers.size u) inside (λ e. absurd cc)
        (not_same x.goal (numbered x.scene.answers.size u) (λ e. ne (sym e))) in
        let leads = (least_of_leg (asked x) x.start (Fit x) _ sn tr.way lb.state tr.leg).leads in
        let f1 : F (count tr.way) (r.notes (numbered x.scene.answers.size lb.state)).cost =
        subst (λ (y : V). F (count tr.way) y) tr.cost
        (few_spent x.costs F fl x.scene bd x.start tr.way lb.state leads) in
        let f2 : F 1 ((asked x).weight (r.notes (numbered x.scene.answers.size u)).motion) =
        few_priced x.costs F fl x.scene bd x.start _ lb.state u lb.step in
        record {
          left = count tr.way + 1;
          right = 1;
          left_few = subst (λ (y : V). F (count tr.way + 1) y) (sym lb.cost) (fl.sums (count tr.way) 1 _ _ f1 f2);
          right_few = few_price x q l bd F fl d lt;
          together = let m = most_places x.scene.answers.size in omega arith;
        }

    -- so it can be reckoned at which cost a class is due
    pub sums : (d : ℕ) → d < x.count → r.next d < r.end → Addable F (r.notes (r.line (r.next d))).cost (price x d)
    sums d lt due = by_cases (side (r.next d) b (s.early.early d lt))
      where
        at : Standing (r.next d)
        at = standing (r.next d) due

        side : (i j : ℕ) → i ≤ j → (i < j) ⊎ (i ≡ j)
        side i j h = grind arith

        by_cases : (r.next d < b) ⊎ (r.next d ≡ b) → Addable F (r.notes (r.line (r.next d))).cost (price x d)
        by_cases (inl h) = subst (λ (y : ℕ). Addable F (r.notes y).cost (price x d)) (sym at.is)
            (sum_of_settled x q l bd F fl r.notes _ s.frontier s.waits at.cursor at.fit (subst (λ (y : ℕ). (r.notes y).stage ≡ Settled) at.is
            (s.line.settled (r.next d) h)) d lt)
        by_cases (inr e) = subst (λ (y : ℕ). Addable F (r.notes y).cost (price x d)) (sym at.is)
            (sum_of_reached at.cursor at.fit
            (subst (λ (y : ℕ). (r.notes y).stage ≡ Reached) at.is (s.line.reached (r.next d) (omega arith) due))
            (λ o. s.line.others (r.next d) due (at.is ∙ o))
            (subst (λ (y : ℕ). y < places x) at.is (s.inside (r.next d) (let w = s.begun in omega arith) due)) d lt)
