-- A showing is lent a part of the output: it sends no more bytes than that part has, so the output begins with them,
-- and the rest of it is as it was.
use Rattle.std.proofs.Common.{◌≡◌, ◌∙◌, ℕ, ◌≤◌, min, Bool, List, ◌++◌, Result, Ok, Err, length, take, drop, refl, sym, ap, subst, append_assoc, arith}
use Rattle.std.specs.Prelude.{⊤, OnOk}
use Rattle.std.proofs.Math.Nat.{min-le_right}
use Rattle.std.proofs.lemmas.List.{drop-append-le, length-take-le, take-append-drop}
use Rattle.cost.specs.Costs.{Costs}
use Rattle.display.specs.declared.cell.Glyph.{Glyph}
use Rattle.faults.specs.declared.fault.Fault.{Fault}
use Rattle.labels.specs.declared.label.Label.{Label}
use Rattle.panel.specs.Answers.{Answers}
use Rattle.panel.specs.Meaning.{Meaning}
use Rattle.planning.specs.Planned.{pictured}
use Rattle.screen.specs.Calls.{Outcome, redraw_of, refresh_of}
use Rattle.screen.specs.Showing.{Showing, Shows}
use Rattle.screen.specs.State.{Faces, State}
use Rattle.screen_log.specs.Enter.{Enters, ShowIn}
use Rattle.screen_log.specs.declared.entry.Entry.{Entry}
use Rattle.screen_log.specs.declared.entry.Entry.TheVariants.{Refresh, Redraw}

-- the bytes bs are written into the first n bytes of the output xs
pub written : (bs ys xs : List ℕ) (n : ℕ) → length bs ≤ length (take n xs)
    → ys ≡ bs ++ drop (length bs) (take n xs) → ys ++ drop n xs ≡ bs ++ drop (length bs) xs
written bs ys xs n fits e =
    ap (λ (l : List ℕ). l ++ drop n xs) e
    ∙ (append_assoc bs (drop (length bs) (take n xs)) (drop n xs)
    ∙ ap (λ (l : List ℕ). bs ++ l)
    (sym (drop-append-le (length bs) (take n xs) (drop n xs) fits)
    ∙ ap (drop (length bs)) (take-append-drop n xs)))

-- of a list as many are lent as are asked for, or all
pub lent : {X : Type 0} (k n : ℕ) (xs : List X) → n ≡ min k (length xs) → length (take n xs) ≡ min k (length xs)
lent k n xs e =
    let i = min-le_right k (length xs) in
    length-take-le n xs (omega arith) ∙ e

module _ {V : Type 0} (c : Costs V) (a : Answers) (A : ℕ → ℕ → Bool) where
  -- what is sent is no longer than the room for it
  pub sent_fits : (s : Showing) (e : ℕ) (r : Result ℕ Fault) (bs : List ℕ) → Shows c a A s e r bs → length bs ≤ s.room
  sent_fits s e (Ok n) bs h = let i = h.fits in let j = h.count in omega arith
  sent_fits s e (Err why) bs h = let i = ap length h.1 in omega arith

-- a redraw asks nothing of what the panel shows before
always : (X : Type 0) (r : Result ℕ Fault) → OnOk r X → OnOk r (⊤ → X)
always X (Ok n) h = λ _. h
always X (Err why) h = tt

module _ {P C K V Mode : Type 0} (c : Costs V) (answers : P → Answers) (meaning : P → Meaning Mode)
    (fed : Answers → Meaning Mode → ℕ → Meaning Mode) (ready : Mode) (f : C → Glyph) (A : ℕ → ℕ → Bool)
    (s s' : State P) (ws gs gs' : List C) (ls ms : List (Label K)) (xs ys : List ℕ) (k n i j : ℕ) (r : Result ℕ Fault)
    (labels : i ≡ min k (length ls)) (room : j ≡ min n (length xs)) where
  -- a showing q, by how many labels and how many bytes of output it is lent
  module _ (q : ℕ → ℕ → Showing) (roomy : (l m : ℕ) → (q l m).room ≡ m) (Before : Type 0) where
    shown_in : Outcome c answers meaning fed A (q (length (take i ls)) (length (take j xs))) s s' ws gs gs' (take i ls)
        ms (take j xs) ys r
        → OnOk r (Before
        → Faces ready (answers s.panel) s' (meaning s'.panel) (pictured (answers s.panel).size f ws))
        → ShowIn c answers meaning fed ready f A s s' ws ws gs gs' (length ls) xs (ys ++ drop j xs)
        (q (min k (length ls)) (min n (length xs))) Before r
    shown_in o h = record {
      bytes = o.bytes;
      pen = o.pen;
      answer = subst (λ (m : ℕ). Shows c (answers s.panel) A (q (min k (length ls)) m) o.pen r o.bytes)
          (lent n j xs room)
          (subst (λ (l : ℕ). Shows c (answers s.panel) A (q l (length (take j xs))) o.pen r o.bytes)
          (lent k i ls labels) o.answer);
      fixed = o.fixed;
      fed_bytes = o.fed_bytes;
      state = o.state;
      faces = h;
      wanted = refl;
      shown = o.shown;
      output = written o.bytes ys xs j
          (let l = length (take i ls) in
          let m = length (take j xs) in
          let n = sent_fits c (answers s.panel) A (q l m) o.pen r o.bytes o.answer in omega (arith, roomy l m))
          o.output;
    }

  abbrev Entered : Entry → Type 0
  Entered e = Enters c answers meaning fed ready f A s s' ws ws gs gs' (length ls) xs (ys ++ drop j xs) e r

  pub refreshes : (e : Entry) → e ≡ Refresh k n
      → Outcome c answers meaning fed A
      (refresh_of (answers s.panel) f s ws gs (length (take i ls)) (length (take j xs))) s s' ws gs gs' (take i ls) ms
      (take j xs) ys r
      → OnOk r (Faces ready (answers s.panel) s (meaning s.panel) (pictured (answers s.panel).size f gs)
      → Faces ready (answers s.panel) s' (meaning s'.panel) (pictured (answers s.panel).size f ws))
      → Entered e
  refreshes e is o h = subst Entered (sym is)
      (shown_in (refresh_of (answers s.panel) f s ws gs) (λ l m. refl)
      (Faces ready (answers s.panel) s (meaning s.panel) (pictured (answers s.panel).size f gs)) o h)

  pub redraws : (e : Entry) → e ≡ Redraw k n
      → Outcome c answers meaning fed A
      (redraw_of (answers s.panel) f s ws gs (length (take i ls)) (length (take j xs))) s s' ws gs gs' (take i ls) ms
      (take j xs) ys r
      → OnOk r (Faces ready (answers s.panel) s' (meaning s'.panel) (pictured (answers s.panel).size f ws))
      → Entered e
  redraws e is o h = subst Entered (sym is)
      (shown_in (redraw_of (answers s.panel) f s ws gs) (λ l m. refl) ⊤ o (always _ r h))
