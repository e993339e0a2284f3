-- Bytes that are laid one after the other are laid as one; and so is the drawing of one cell more.
use Rattle.std.proofs.Common.{◌≡◌, ◌∙◌, ℕ, ◌+◌, ◌-◌, ◌<◌, ◌≤◌, get_or, map, List, [], ◌∷◌, ◌++◌, drop, length, take, refl, sym, ap, subst, append_assoc, arith}
use Rattle.std.proofs.Math.Seq.{take-append_seam}
use Rattle.std.proofs.lemmas.List.{append-nil, drop-map, length-append, length-take, map_more, take-append-drop, take-map, take_all}
use Rattle.std.proofs.lemmas.Slice.{drop-append-drop}
use Rattle.display.specs.declared.cell.Glyph.{Glyph}
use Rattle.panel.specs.Answers.{Answers}
use Rattle.plan.specs.Drawing.{cells_of, drawing, penned}
use Rattle.plan.proofs.Lengths.{drawing_more, pen_after_more}
use Rattle.planning.specs.Pours.{Draws, Pours}
use Rattle.planning.specs.declared.draw.Inked.{Inked}
use Rattle.runs.specs.declared.run.Run.{Run}

pub pours_none : (xs : List ℕ) (i : ℕ) → Pours [] xs xs i i
pours_none xs i = record {
  end = omega arith;
  size = refl;
  laid = λ room. sym (ap (λ ys. ys ++ drop i xs) (append-nil (take i xs)) ∙ take-append-drop i xs);
}

module _ (bs cs xs ys zs : List ℕ) (i e f : ℕ) (h : Pours bs xs ys i e) (j : Pours cs ys zs e f) where
  -- what was laid first is kept
  laid : e ≤ length xs → ys ≡ (take i xs ++ bs) ++ drop e xs
      → (take e ys ++ cs) ++ drop f ys ≡ (take i xs ++ (bs ++ cs)) ++ drop f xs
  laid room is =
      let first : length (take i xs ++ bs) ≡ e =
      let a = length-append (take i xs) bs in let b = length-take i xs in let c = h.end in omega arith in
      let further : e ≤ f = let a = j.end in omega arith in
      ap (λ us. (take e us ++ cs) ++ drop f us) is
      ∙ (ap (λ us. (us ++ cs) ++ drop f ((take i xs ++ bs) ++ drop e xs))
      (ap (λ (n : ℕ). take n ((take i xs ++ bs) ++ drop e xs)) (sym first)
      ∙ take-append_seam (take i xs ++ bs) (drop e xs))
      ∙ (ap (λ us. ((take i xs ++ bs) ++ cs) ++ us) (drop-append-drop e xs (take i xs ++ bs) f further first)
      ∙ ap (λ us. us ++ drop f xs) (append_assoc (take i xs) bs cs)))

  pub pours_more : Pours (bs ++ cs) xs zs i f
  pours_more = record {
    end = let a = h.end in let b = j.end in let c = length-append bs cs in omega arith;
    size = j.size ∙ h.size;
    laid = λ room.
        let a = h.size in let b = j.end in
        j.laid (omega arith) ∙ laid (omega arith) (h.laid (omega arith));
  }

pub pours_as : (bs cs xs ys : List ℕ) (i e : ℕ) → bs ≡ cs → Pours bs xs ys i e → Pours cs xs ys i e
pours_as bs cs xs ys i e same h = subst (λ (us : List ℕ). Pours us xs ys i e) same h

module _ (a : Answers) (p : ℕ) (xs : List ℕ) (i : ℕ) where
  pub draws_none : Draws a [] p xs xs i (record { pen = p; count = i })
  draws_none = record { pours = pours_none xs i; pen = refl; few = omega arith }

  pub draws_more : (gs : List Glyph) (g : Glyph) (ys zs : List ℕ) (o n : Inked) → Draws a gs p xs ys i o
      → Pours (penned a o.pen g.pen ++ (g.code ∷ [])) ys zs o.count n.count → n.count ≤ o.count + 17 → n.pen ≡ g.pen
      → Draws a (gs ++ (g ∷ [])) p xs zs i n
  draws_more gs g ys zs o n h j few pen = record {
    pours = pours_as _ _ xs zs i n.count
        (ap (λ (q : ℕ). drawing a p gs ++ (penned a q g.pen ++ (g.code ∷ []))) h.pen ∙ sym (drawing_more a p gs g))
        (pours_more (drawing a p gs) (penned a o.pen g.pen ++ (g.code ∷ [])) xs ys zs i o.count n.count h.pours j);
    pen = pen ∙ sym (pen_after_more p gs g);
    few = let x = h.few in let y = length-append gs (g ∷ []) in omega arith;
  }

-- the same of cells, of which f tells the glyphs
module _ {C : Type 0} (f : C → Glyph) (a : Answers) (p : ℕ) (xs : List ℕ) (i : ℕ) where
  pub draws_cell : (cells : List C) (n : ℕ) (x : C) (g : Glyph) (ys zs : List ℕ) (o : Inked) (e : ℕ)
      → n < length cells → x ≡ get_or cells n x → g ≡ f x
      → Draws a (map f (take n cells)) p xs ys i o → Pours (penned a o.pen g.pen ++ (g.code ∷ [])) ys zs o.count e
      → e ≤ o.count + 17 → Draws a (map f (take (n + 1) cells)) p xs zs i (record { pen = g.pen; count = e })
  draws_cell cells n x g ys zs o e below is drawn h j few =
      let same : f (get_or cells n x) ≡ g = ap f (sym is) ∙ sym drawn in
      subst (λ (gs : List Glyph). Draws a gs p xs zs i (record { pen = g.pen; count = e }))
      (sym (map_more f cells n x below ∙ ap (λ (h : Glyph). map f (take n cells) ++ (h ∷ [])) same))
      (draws_more a p xs i (map f (take n cells)) g ys zs o (record { pen = g.pen; count = e }) h j few refl)

  pub draws_cells : (cells : List C) (r : Run) (n : ℕ) (ys : List ℕ) (o : Inked)
      → length (take (r.end - r.first) (drop r.first cells)) ≤ n
      → Draws a (map f (take n (take (r.end - r.first) (drop r.first cells)))) p xs ys i o
      → Draws a (cells_of (map f cells) r) p xs ys i o
  draws_cells cells r n ys o all h =
      subst (λ (gs : List Glyph). Draws a gs p xs ys i o)
      (ap (map f) (take_all n (take (r.end - r.first) (drop r.first cells)) all)
      ∙ (sym (take-map f (r.end - r.first) (drop r.first cells))
      ∙ ap (take (r.end - r.first)) (sym (drop-map f r.first cells)))) h
