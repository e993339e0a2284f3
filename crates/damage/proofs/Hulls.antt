-- The columns put in a row are told one at a time: each widens what is told of those before it, and keeps it true.
use Rattle.std.proofs.Common.{◌≡◌, ℕ, ◌<◌, ◌≤◌, Bool, true, false, cond, List, [], ◌∷◌, ◌++◌, length, fold, ltb, refl, sym, subst, arith, length-append, append-nil, append_assoc}
use Rattle.std.specs.Prelude.{All, Contains}
use Rattle.std.proofs.lemmas.Bool.Decides.{nat_tests}
use Rattle.std.proofs.lemmas.List.Elements.{All-contains, All-nil, All-push, All-weaker, Contains-append_left, Contains-push}
use Rattle.std.proofs.lemmas.List.Sums.{fold_push}
use Rattle.damage.specs.Damage.{Ends, HullOf, greatest, hull, least, untouched, widened}
use Rattle.damage.specs.declared.damage.PutColumns.{PutColumns}

-- of a column put before and the new one, each is among them all
either : (cs : List ℕ) (f c : ℕ) → Contains cs f → (b : Bool) → Contains (cs ++ (c ∷ [])) (cond b c f)
either cs f c h true = Contains-push cs c
either cs f c h false = Contains-append_left cs (c ∷ []) f h

pub least_left : (m n : ℕ) → least m n ≤ m
least_left m n = grind (arith, nat_tests)

pub least_right : (m n : ℕ) → least m n ≤ n
least_right m n = grind (arith, nat_tests)

pub greatest_left : (m n : ℕ) → m ≤ greatest m n
greatest_left m n = grind (arith, nat_tests)

pub greatest_right : (m n : ℕ) → n ≤ greatest m n
greatest_right m n = grind (arith, nat_tests)

more_ends : (cs : List ℕ) (f l c : ℕ) → Ends cs f l → Ends (cs ++ (c ∷ [])) (least c f) (greatest l c)
more_ends cs f l c h = record {
  first = either cs f c h.first (ltb c f);
  last = either cs l c h.last (ltb l c);
  at_least = All-push (λ x. least c f ≤ x) cs c
      (All-weaker (λ x. f ≤ x) (λ x. least c f ≤ x) (λ x i. let a = least_right c f in omega arith) cs h.at_least)
      (least_left c f);
  at_most = All-push (λ x. x ≤ greatest l c) cs c
      (All-weaker (λ x. x ≤ l) (λ x. x ≤ greatest l c) (λ x i. let a = greatest_left l c in omega arith) cs h.at_most)
      (greatest_right l c);
}

one_end : (c : ℕ) → Ends (c ∷ []) c c
one_end c = record {
  first = Contains-push [] c;
  last = Contains-push [] c;
  at_least = All-push (λ x. c ≤ x) [] c (All-nil (λ x. c ≤ x)) (omega arith);
  at_most = All-push (λ x. x ≤ c) [] c (All-nil (λ x. x ≤ c)) (omega arith);
}

empty : (cs : List ℕ) → (0 < length cs → ⊥) → cs ≡ []
empty [] h = refl
empty (c ∷ cs) h = absurd (h (omega arith))

some_more : (cs : List ℕ) (c : ℕ) → 0 < length (cs ++ (c ∷ []))
some_more cs c = let a = length-append cs (c ∷ []) in omega arith

first_put : (cs : List ℕ) (c : ℕ) → cs ≡ [] → Ends (cs ++ (c ∷ [])) c c
first_put cs c e = subst (λ (xs : List ℕ). Ends (xs ++ (c ∷ [])) c c) (sym e) (one_end c)

told : (cs : List ℕ) (f l : ℕ) → 0 < length cs → Ends cs f l → HullOf cs (record { first = f; last = l; any = true })
told cs f l n h = record { any = (λ _. n, λ _. refl); ends = λ _. h }

-- what is told stays true when a column is put
more : (cs : List ℕ) (p : PutColumns) (c : ℕ) → HullOf cs p → HullOf (cs ++ (c ∷ [])) (widened p c)
more cs p c h = by_cases p.any refl
  where
    wider : PutColumns
    wider = record { first = least c p.first; last = greatest p.last c; any = true }

    alone : PutColumns
    alone = record { first = c; last = c; any = true }

    by_cases : (b : Bool) → p.any ≡ b → HullOf (cs ++ (c ∷ [])) (cond p.any wider alone)
    by_cases true e = subst (λ (b : Bool). HullOf (cs ++ (c ∷ [])) (cond b wider alone)) (sym e)
        (told (cs ++ (c ∷ [])) _ _ (some_more cs c) (more_ends cs p.first p.last c (h.ends (h.any.0 e))))
    by_cases false e = subst (λ (b : Bool). HullOf (cs ++ (c ∷ [])) (cond b wider alone)) (sym e)
        (told (cs ++ (c ∷ [])) c c (some_more cs c)
        (first_put cs c (empty cs (λ n. let i = h.any.1 n in cc))))

pub hull_more : (cs : List ℕ) (c : ℕ) → hull (cs ++ (c ∷ [])) ≡ widened (hull cs) c
hull_more cs c = fold_push widened untouched cs c

-- the columns ds are told of, and cs are yet to come
from : (ds cs : List ℕ) (p : PutColumns) → HullOf ds p → HullOf (ds ++ cs) (fold widened p cs)
from ds [] p h = subst (λ (xs : List ℕ). HullOf xs p) (sym (append-nil ds)) h
from ds (c ∷ cs) p h =
    subst (λ (xs : List ℕ). HullOf xs (fold widened (widened p c) cs)) (append_assoc ds (c ∷ []) cs)
    (from (ds ++ (c ∷ [])) cs (widened p c) (more ds p c h))

nothing_told : HullOf [] untouched
nothing_told = record { any = (λ e. absurd cc, λ n. absurd (omega arith)); ends = λ n. absurd (omega arith) }

pub hull_of : (cs : List ℕ) → HullOf cs (hull cs)
hull_of cs = from [] cs untouched nothing_told

-- below a width the columns make a span of it
pub hull_span : (cs : List ℕ) (w : ℕ) → 0 < length cs → All (λ c. c < w) cs
    → ((hull cs).first ≤ (hull cs).last) × ((hull cs).last < w)
hull_span cs w n h =
    let e = (hull_of cs).ends n in
    (All-contains (λ c. (hull cs).first ≤ c) cs _ e.at_least e.last, All-contains (λ c. c < w) cs _ h e.last)
