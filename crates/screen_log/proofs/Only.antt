-- One answer is all that a showing has; and it says that a leg has no sequence only for that reason, since every other
-- reason is told by another number.
use Rattle.std.proofs.Common.{◌≡◌, ◌∙◌, ℕ, ◌≤◌, Bool, true, false, List, [], ◌∷◌, Some, Result, Err, refl, sym, ap, subst, arith, slice_index_or}
use Rattle.std.specs.List.{AllByRecursion}
use Rattle.cost.specs.Costs.{Costs}
use Rattle.display.specs.Cell.{blank}
use Rattle.display.specs.Surface.{place_of, resting}
use Rattle.display.specs.declared.cell.Glyph.{Glyph}
use Rattle.display.specs.declared.place.Place.{Place}
use Rattle.faults.specs.Causes.{FirstBad, first_cause, put_cause, put_causes}
use Rattle.faults.specs.Told.{Told, tell, told}
use Rattle.faults.specs.declared.fault.Fault.{Fault}
use Rattle.faults.specs.declared.fault.Fault.TheVariants.{NoSequence}
use Rattle.panel.specs.Answers.{Answers}
use Rattle.plan.specs.Plan.{Blocked}
use Rattle.screen.proofs.Unique.{shows_one}
use Rattle.screen.specs.Showing.{Denied, Showing, Shows, too_small, bad_cell, not_drawn, no_sequence, too_short}
use Rattle.screen_log.specs.Right.{Lost, Only}

first_small : (m : ℕ) (cs : List (Bool × Told)) (t : Told) → AllByRecursion (λ c. c.1.number ≤ m) cs
    → first_cause cs ≡ Some t → t.number ≤ m
first_small m [] t h e = absurd cc
first_small m ((true, u) ∷ cs) t h e =
    let i : u ≡ t = cc in
    let j = ap (λ (x : Told). x.number) i in
    let k = h.0 in omega arith
first_small m ((false, u) ∷ cs) t h e = first_small m cs t h.1 e

module _ (a : Answers) (A : ℕ → ℕ → Bool) where
  -- why a cell cannot be put is told by the numbers up to 4
  put_small : (r c n p : ℕ) (t : Told) → put_cause a A r c n p ≡ Some t → t.number ≤ 4
  put_small r c n p t e =
      first_small 4 (put_causes a A r c n p) t (omega arith, (omega arith, (omega arith, (omega arith, tt)))) e

  bad_small : (gs : List Glyph) (t : Told) → FirstBad a A gs t → t.number ≤ 4
  bad_small gs t h =
      put_small _ _ (slice_index_or gs h.number blank).code (slice_index_or gs h.number blank).pen t h.is

other : (t : Told) (n : ℕ) (vs ws : List ℕ) (m : ℕ) → t ≡ tell n vs → t ≡ tell m ws → n ≡ m
other t n vs ws m e f = ap (λ (x : Told). x.number) (sym e ∙ f)

module _ {V : Type 0} (c : Costs V) (a : Answers) (A : ℕ → ℕ → Bool) (cells_wanted cells_shown labels room : ℕ) where
  abbrev LostAt : Showing → Place → Type 0
  LostAt s q = Lost c a A cells_wanted cells_shown labels room s q

  lost_by : (s : Showing) (row column : ℕ) (t : Told) → t ≡ tell 6 (row ∷ column ∷ []) → Denied c a A s t
      → LostAt s (place_of row column)
  lost_by s row column t e (too_small h i) = absurd (let n = other t 8 _ _ 6 i e in omega arith)
  lost_by s row column t e (bad_cell h i) =
      absurd (let n = bad_small a A s.wanted t i in let m = ap (λ (x : Told). x.number) e in omega arith)
  lost_by s row column t e (not_drawn h i j k) = absurd (let n = other t 5 _ _ 6 k e in omega arith)
  lost_by s row column t e (no_sequence h q i j) =
      let v = ap (λ (x : Told). x.values) (sym j ∙ e) in
      let at : place_of q.row q.column ≡ place_of row column = cc in
      (h, subst (λ (p : Place). Blocked c a s.shown s.wanted s.rest (resting s.stand.place) s.stand.pen p) at i)
  lost_by s row column t e (too_short h planned pen i j k) = absurd (let n = other t 7 _ _ 6 k e in omega arith)

  pub only_one : (s : Showing) (e : ℕ) (r : Result ℕ Fault) (bs : List ℕ) → Shows c a A s e r bs
      → Only c a A cells_wanted cells_shown labels room s e r bs
  only_one s e r bs h = record {
    is = h;
    only = λ e' r' bs' i. let o = shows_one c a A s e' e r' r bs' bs i h in (o.0, o.1);
    lost = λ row column is.
        let d = subst (λ (x : Result ℕ Fault). Shows c a A s e x bs) is h in
        lost_by s row column (told (NoSequence row column)) refl d.0;
    lost_only = λ q l.
        (shows_one c a A s e e r (Err (NoSequence q.row q.column)) bs [] h
        (no_sequence l.0 q l.1 refl, refl)).0;
  }
