-- The notes of a list of labels: reading one, and writing one.
use Rattle.std.proofs.Common.{◌≡◌, ◌∙◌, ℕ, ◌<◌, List, length, map, get_or, sym, ap, arith, get_or-set_other, get_or-set_same}
use Rattle.std.proofs.Math.ListN.{set}
use Rattle.std.proofs.lemmas.List.{get_or-map, length-map, map-set}
use Rattle.labels.specs.Label.{note, noted, unnoted}
use Rattle.labels.specs.Note.{Updated}
use Rattle.labels.specs.declared.label.Label.{Label}

module _ {K V : Type 0} (f : K → V) (v : V) where
  pub noted_at : (ls : List (Label K)) (j : ℕ) (l : Label K) → j < length ls → l ≡ get_or ls j l
      → noted f v ls j ≡ note f l
  noted_at ls j l h e = get_or-map (note f) ls j l (unnoted v) h ∙ ap (note f) (sym e)

  pub noted_set : (ls : List (Label K)) (i : ℕ) (l : Label K) → i < length ls
      → Updated (noted f v ls) (noted f v (set ls i l)) i (note f l)
  noted_set ls i l h = record {
    here = ap (λ xs. get_or xs i (unnoted v)) (map-set (note f) ls i l)
        ∙ get_or-set_same (map (note f) ls) i (note f l) (unnoted v) (let n = length-map ls (note f) in omega arith);
    there = λ j d. ap (λ xs. get_or xs j (unnoted v)) (map-set (note f) ls i l)
        ∙ get_or-set_other (map (note f) ls) i j (note f l) (unnoted v) d;
  }
