-- A leg never comes to one state twice, since each of its beginnings is the cheapest way to where it ends: so it has no
-- more motions than there are numbers to land on.
use Rattle.std.proofs.Common.{◌≡◌, ◌∙◌, ℕ, ◌+◌, ◌<◌, ◌≤◌, Bool, true, false, ◌||◌, List, [], ◌∷◌, length, eqb, refl, sym, ap, subst, arith}
use Rattle.std.proofs.lemmas.Bool.{eqb-true}
use Rattle.std.proofs.lemmas.Map.Keys.{IsDistinct-cons}
use Rattle.std.proofs.lemmas.Map.Steps.{length-le_from_distinct_below}
use Rattle.std.specs.List.{AllByRecursion, IsDistinct, list_any}
use Rattle.std.specs.Option.{option_map_or}
use Rattle.legs.specs.Graph.{Graph, Leads, ends, spent}
use Rattle.legs.specs.Leg.{Leg}
use Rattle.legs.specs.Sane.{Sane}
use Rattle.legs.specs.Sequence.{Sequence, count, none, then}
use Rattle.legs.proofs.Ends.{adds_more, before, ends_ok}
use Rattle.legs.proofs.Order.{same_at_most}
use Rattle.legs.proofs.Unique.{least_of_leg}

all_apart : (q : ℕ) (xs : List ℕ) → list_any (eqb q) xs ≡ false → AllByRecursion (λ y. eqb q y ≡ false) xs
all_apart q [] h = tt
all_apart q (x ∷ xs) h = by_cases (all_apart q xs) (eqb q x) refl
  where
    by_cases : (list_any (eqb q) xs ≡ false → AllByRecursion (λ y. eqb q y ≡ false) xs)
        → (b : Bool) → eqb q x ≡ b → (eqb q x ≡ false) × AllByRecursion (λ y. eqb q y ≡ false) xs
    by_cases ih true e = absurd (let i = sym (ap (λ (b : Bool). b || list_any (eqb q) xs) e) ∙ h in cc)
    by_cases ih false e = (e, ih (sym (ap (λ (b : Bool). b || list_any (eqb q) xs) e) ∙ h))

module _ {A V : Type 0} (g : Graph A V) (k : A) where
  -- the numbers of the states that a sequence comes to, the last one first
  abbrev pub visited : Sequence → List ℕ
  visited none = []
  visited (then w n) = option_map_or g.number (ends g.step k (then w n)) 0 ∷ visited w

  pub visited_count : (w : Sequence) → length (visited w) ≡ count w
  visited_count none = refl
  visited_count (then w n) = let h = visited_count w in omega arith

  head_number : (w : Sequence) (n : ℕ) (u : A) → Leads g k (then w n) u
      → option_map_or g.number (ends g.step k (then w n)) 0 ≡ g.number u
  head_number w n u h = ap (λ o. option_map_or g.number o 0) h

module _ {A V : Type 0} (g : Graph A V) (k : A) (ok : A → Type 0) (m : ℕ) (s : Sane g k ok m) where
  -- a beginning of the leg w that comes to the number q
  pub record Part (w : Sequence) (q : ℕ) : Type 0 where
    pub way : Sequence
    pub state : A
    pub leg : Leg g k way state
    pub number : g.number state ≡ q
    pub cost : g.costs.at_most (spent g way) (spent g w) ≡ true
    pub landed : g.number state < m

  pub landed : (w : Sequence) (n : ℕ) (u : A) → Leads g k (then w n) u → g.number u < m
  landed w n u h = let b = before g k w n u h in s.lands n b.state u (ends_ok g k ok m s w b.state b.leads) b.step

  longer : (w : Sequence) (n : ℕ) (u : A) (q : ℕ) → Leads g k (then w n) u → Part w q → Part (then w n) q
  longer w n u q h p = record {
    way = p.way;
    state = p.state;
    leg = p.leg;
    number = p.number;
    cost = s.laws.transitive _ _ _ p.cost (s.laws.total _ _ (adds_more g k ok m s w n u h));
    landed = p.landed;
  }

  pub part : (w : Sequence) (u : A) → Leg g k w u → (q : ℕ) → list_any (eqb q) (visited g k w) ≡ true → Part w q
  part none u l q h = absurd cc
  part (then w n) u l q h = by_cases (part w l.0 l.2 q)
      (eqb q (option_map_or g.number (ends g.step k (then w n)) 0)) refl
    where
      leads : Leads g k (then w n) u
      leads = l.1.least.leads

      by_cases : (list_any (eqb q) (visited g k w) ≡ true → Part w q)
          → (b : Bool) → eqb q (option_map_or g.number (ends g.step k (then w n)) 0) ≡ b → Part (then w n) q
      by_cases ih true e = record {
        way = then w n;
        state = u;
        leg = l;
        number = sym (eqb-true q _ e ∙ head_number g k w n u leads);
        cost = same_at_most s.laws _;
        landed = landed w n u leads;
      }
      by_cases ih false e = longer w n u q leads (ih
          (sym (ap (λ (b : Bool). b || list_any (eqb q) (visited g k w)) e) ∙ h))

  -- the state where a leg ends is none that it came to before
  new_end : (w : Sequence) (n : ℕ) (u : A) → Leg g k (then w n) u → list_any (eqb (g.number u)) (visited g k w) ≡ false
  new_end w n u l = by_cases (list_any (eqb (g.number u)) (visited g k w)) refl
    where
      leads : Leads g k (then w n) u
      leads = l.1.least.leads

      by_cases : (b : Bool) → list_any (eqb (g.number u)) (visited g k w) ≡ b
          → list_any (eqb (g.number u)) (visited g k w) ≡ false
      by_cases false e = e
      by_cases true e = absurd (
          let p = part w l.0 l.2 (g.number u) e in
          let lp = (least_of_leg g k ok m s p.way p.state p.leg).leads in
          let i : p.state ≡ u = s.apart p.state u (ends_ok g k ok m s p.way p.state lp)
          (ends_ok g k ok m s (then w n) u leads) p.number in
          let a = l.1.least.least p.way (subst (λ (x : A). Leads g k p.way x) i lp) in
          let c = s.laws.transitive _ _ _ a p.cost in
          let d = adds_more g k ok m s w n u leads in cc)

  pub distinct : (w : Sequence) (u : A) → Leg g k w u → IsDistinct eqb (visited g k w)
  unfolding IsDistinct
  distinct none u l = tt
  distinct (then w n) u l =
      IsDistinct-cons eqb _ (visited g k w)
      (subst (λ (q : ℕ). AllByRecursion (λ y. eqb q y ≡ false) (visited g k w))
      (sym (head_number g k w n u l.1.least.leads))
      (all_apart (g.number u) (visited g k w) (new_end w n u l)))
      (distinct w l.0 l.2)

  below : (w : Sequence) (u : A) → Leg g k w u → (q : ℕ) → list_any (eqb q) (visited g k w) ≡ true → q < m
  below w u l q h = let p = part w u l q h in subst (λ (x : ℕ). x < m) p.number p.landed

  pub short : (w : Sequence) (u : A) → Leg g k w u → count w ≤ m
  short w u l =
      let a = length-le_from_distinct_below (visited g k w) m (distinct w u l) (below w u l) in
      let b = visited_count g k w in omega arith

  -- a leg that does not come to some number to land on leaves one motion more
  pub shorter : (w : Sequence) (u : A) → Leg g k w u → (q : ℕ) → q < m → list_any (eqb q) (visited g k w) ≡ false
      → count w + 1 ≤ m
  shorter w u l q i h =
      let a = length-le_from_distinct_below (q ∷ visited g k w) m
      (IsDistinct-cons eqb q (visited g k w) (all_apart q (visited g k w) h) (distinct w u l))
      (λ x e. by_cases x e (eqb x q) refl) in
      let b = visited_count g k w in omega arith
    where
      by_cases : (x : ℕ) → (eqb x q || list_any (eqb x) (visited g k w)) ≡ true → (b : Bool) → eqb x q ≡ b → x < m
      by_cases x e true f = subst (λ (y : ℕ). y < m) (sym (eqb-true x q f)) i
      by_cases x e false f = below w u l x (sym (ap (λ (b : Bool). b || list_any (eqb x) (visited g k w)) f) ∙ e)

  -- and one that comes to neither of two leaves two
  pub shorter_by_two : (w : Sequence) (u : A) → Leg g k w u → (q r : ℕ) → q < m → r < m → eqb q r ≡ false
      → list_any (eqb q) (visited g k w) ≡ false → list_any (eqb r) (visited g k w) ≡ false → count w + 2 ≤ m
  shorter_by_two w u l q r i j ne h e =
      let a = length-le_from_distinct_below (q ∷ r ∷ visited g k w) m
      (IsDistinct-cons eqb q (r ∷ visited g k w) (ne, all_apart q (visited g k w) h)
      (IsDistinct-cons eqb r (visited g k w) (all_apart r (visited g k w) e) (distinct w u l)))
      (λ x f. by_cases x f (eqb x q) refl) in
      let b = visited_count g k w in omega arith
    where
      next_case : (x : ℕ) → (eqb x r || list_any (eqb x) (visited g k w)) ≡ true → (b : Bool) → eqb x r ≡ b → x < m
      next_case x f true p = subst (λ (y : ℕ). y < m) (sym (eqb-true x r p)) j
      next_case x f false p = below w u l x (sym (ap (λ (b : Bool). b || list_any (eqb x) (visited g k w)) p) ∙ f)

      by_cases : (x : ℕ) → (eqb x q || (eqb x r || list_any (eqb x) (visited g k w))) ≡ true
          → (b : Bool) → eqb x q ≡ b → x < m
      by_cases x f true p = subst (λ (y : ℕ). y < m) (sym (eqb-true x q p)) i
      by_cases x f false p = next_case x
          (sym (ap (λ (b : Bool). b || (eqb x r || list_any (eqb x) (visited g k w))) p) ∙ f) (eqb x r) refl
