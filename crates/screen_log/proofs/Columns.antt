-- The columns put in a row are those of the places put: one more place adds its column in its own row only.
use Rattle.std.proofs.Common.{◌≡◌, ◌∙◌, ◌≢◌, ℕ, ◌<◌, Bool, true, false, cond, eqb, List, [], ◌∷◌, ◌++◌, length, slice_index_or, append-nil, refl, sym, ap, subst, arith}
use Rattle.std.proofs.lemmas.Bool.Decides.{nat_tests}
use Rattle.std.proofs.lemmas.List.{get_or-set_other, get_or-set_same}
use Rattle.damage.specs.Damage.{added, hull, untouched, widened}
use Rattle.damage.specs.declared.damage.PutColumns.{PutColumns}
use Rattle.damage.proofs.Hulls.{hull_more}
use Rattle.display.specs.Surface.{place_of}
use Rattle.display.specs.declared.place.Place.{Place}
use Rattle.screen_log.specs.Keep.{columns_in}

columns_append : (r : ℕ) (ps qs : List Place) → columns_in r (ps ++ qs) ≡ columns_in r ps ++ columns_in r qs
columns_append r [] qs = refl
columns_append r (p ∷ ps) qs = by_cases (eqb p.row r) (columns_append r ps qs)
  where
    by_cases : (b : Bool) → columns_in r (ps ++ qs) ≡ columns_in r ps ++ columns_in r qs
        → cond b (p.column ∷ columns_in r (ps ++ qs)) (columns_in r (ps ++ qs))
        ≡ cond b (p.column ∷ columns_in r ps) (columns_in r ps) ++ columns_in r qs
    by_cases true e = ap (λ (cs : List ℕ). p.column ∷ cs) e
    by_cases false e = e

module _ (rows : List PutColumns) (ps : List Place) (row column : ℕ) (sized : length rows ≡ 24) (there : row < 24)
    (told : (r : ℕ) → r < 24 → slice_index_or rows r untouched ≡ hull (columns_in r ps)) where
  pub spans_more : (r : ℕ) → r < 24
      → slice_index_or (added rows row column) r untouched ≡ hull (columns_in r (ps ++ (place_of row column ∷ [])))
  spans_more r lt =
      by_cases (eqb row r) refl ∙ ap hull (sym (columns_append r ps (place_of row column ∷ [])))
    where
      by_cases : (b : Bool) → eqb row r ≡ b → slice_index_or (added rows row column) r untouched
          ≡ hull (columns_in r ps ++ cond b (column ∷ []) [])
      by_cases true e =
          let same : row ≡ r = grind (arith, nat_tests) in
          subst (λ (x : ℕ). slice_index_or (added rows row column) x untouched ≡ hull (columns_in x ps ++ column ∷ []))
          same
          (get_or-set_same rows row (widened (slice_index_or rows row untouched) column) untouched (omega arith)
          ∙ (ap (λ (p : PutColumns). widened p column) (told row there) ∙ sym (hull_more (columns_in row ps) column)))
      by_cases false e =
          let apart : r ≢ row = grind (arith, nat_tests) in
          get_or-set_other rows row r (widened (slice_index_or rows row untouched) column) untouched apart
          ∙ (told r lt ∙ ap hull (sym (append-nil (columns_in r ps))))
