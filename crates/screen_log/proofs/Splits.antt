-- A list with one element more is split where the list was, or behind its last element; told by going through both
-- fronts at once. Assumes nothing.
use Rattle.std.proofs.Common.{◌≡◌, ◌⊎◌, inl, inr, List, [], ◌∷◌, ◌++◌, refl, sym, ap}
use Rattle.std.specs.List.{AllByRecursion}

module _ {X : Type 0} where
  -- the split is behind the last element
  pub record Behind (ls before after : List X) (x : X) : Type 0 where
    pub nothing_after : after ≡ []
    pub all_before : before ≡ ls ++ (x ∷ [])

  -- or ahead of it, and is one of the list without that
  pub record Ahead (ls before after : List X) (x : X) : Type 0 where
    pub rest : List X
    pub after_is : after ≡ rest ++ (x ∷ [])
    pub front_is : ls ≡ before ++ rest

  -- the element at the split is the last one
  pub record AtLast (ls before after : List X) (x l : X) : Type 0 where
    pub before_is : before ≡ ls
    pub last_is : l ≡ x
    pub nothing_after : after ≡ []

  -- or it is one of the list without that
  pub record AheadOfLast (ls before after : List X) (x l : X) : Type 0 where
    pub rest : List X
    pub after_is : after ≡ rest ++ (x ∷ [])
    pub front_is : ls ≡ before ++ (l ∷ rest)

  pub nothing_split : (before after : List X) → [] ≡ before ++ after → (before ≡ []) × (after ≡ [])
  nothing_split [] after e = (refl, sym e)
  nothing_split (b ∷ bs) after e = absurd cc

  -- nothing has no element
  pub nothing_at : (before after : List X) (l : X) → [] ≡ before ++ (l ∷ after) → ⊥
  nothing_at [] after l e = cc
  nothing_at (b ∷ bs) after l e = cc

  pub split_last : (ls before after : List X) (x : X) → ls ++ (x ∷ []) ≡ before ++ after
      → Behind ls before after x ⊎ Ahead ls before after x
  split_last ls [] after x e = inr (record { rest = ls; after_is = sym e; front_is = refl })
  split_last [] (b ∷ bs) after x e =
      let n : [] ≡ bs ++ after = cc in
      let both = nothing_split bs after n in
      inl (record { nothing_after = both.1; all_before = cc })
  split_last (y ∷ ys) (b ∷ bs) after x e =
      let same : y ≡ b = cc in
      let rest : ys ++ (x ∷ []) ≡ bs ++ after = cc in
      elim (split_last ys bs after x rest) [
        | inl h ↦ inl (record { nothing_after = h.nothing_after; all_before = let a = h.all_before in cc })
        | inr h ↦ inr (record { rest = h.rest; after_is = h.after_is; front_is = let f = h.front_is in cc })
      ]

  pub split_at_last : (ls before after : List X) (x l : X) → ls ++ (x ∷ []) ≡ before ++ (l ∷ after)
      → AtLast ls before after x l ⊎ AheadOfLast ls before after x l
  split_at_last [] [] after x l e = inl (record { before_is = refl; last_is = cc; nothing_after = cc })
  split_at_last (y ∷ ys) [] after x l e =
      inr (record { rest = ys; after_is = cc; front_is = cc })
  split_at_last [] (b ∷ bs) after x l e = absurd (nothing_at bs after l cc)
  split_at_last (y ∷ ys) (b ∷ bs) after x l e =
      let same : y ≡ b = cc in
      let rest : ys ++ (x ∷ []) ≡ bs ++ (l ∷ after) = cc in
      elim (split_at_last ys bs after x l rest) [
        | inl h ↦ inl (record {
          before_is = let f = h.before_is in cc;
          last_is = h.last_is;
          nothing_after = h.nothing_after;
        })
        | inr h ↦ inr (record { rest = h.rest; after_is = h.after_is; front_is = let f = h.front_is in cc })
      ]

  -- what holds of the element at each split holds of all
  pub all_at_splits : (P : X → Type 0) (ls : List X)
      → ((before : List X) (x : X) (after : List X) → ls ≡ before ++ (x ∷ after) → P x) → AllByRecursion P ls
  all_at_splits P [] f = tt
  all_at_splits P (y ∷ ys) f = (
    f [] y ys refl,
    all_at_splits P ys (λ before x after e. f (y ∷ before) x after (ap (λ (zs : List X). y ∷ zs) e)),
  )

  pub all_front : (P : X → Type 0) (xs ys : List X) → AllByRecursion P (xs ++ ys) → AllByRecursion P xs
  all_front P [] ys h = tt
  all_front P (x ∷ xs) ys h = (h.0, all_front P xs ys h.1)

  pub all_more : (P : X → Type 0) (xs : List X) (y : X) → AllByRecursion P xs → P y → AllByRecursion P (xs ++ (y ∷ []))
  all_more P [] y h p = (p, tt)
  all_more P (x ∷ xs) y h p = (h.0, all_more P xs y h.1 p)
