-- Improving the label of a state improves its note.
use Rattle.std.proofs.Common.{◌≡◌, ◌∙◌, ℕ, ◌<◌, List, length, get_or, sym, ap, subst}
use Rattle.std.proofs.Math.ListN.{set}
use Rattle.cost.specs.Costs.{Costs}
use Rattle.labels.specs.Label.{note, noted}
use Rattle.labels.specs.Note.{Note, Updated, improved, settled}
use Rattle.labels.specs.declared.label.Label.{Label}
use Rattle.labels.proofs.Memory.{noted_at, noted_set}

pub improves : {K V : Type 0} (f : K → V) (c : Costs V) (ls : List (Label K)) (i j : ℕ) (l x : Label K) (v : V)
    (n r : ℕ) → i ≡ j → i < length ls → l ≡ get_or ls i l → note f x ≡ improved c (note f (get_or ls i l)) v n r
    → Updated (noted f c.zero ls) (noted f c.zero (set ls i x)) j (improved c (noted f c.zero ls j) v n r)
improves f c ls i j l x v n r d h e u =
    subst (λ (k : ℕ). Updated (noted f c.zero ls) (noted f c.zero (set ls i x)) k
    (improved c (noted f c.zero ls k) v n r))
    d (subst (λ (y : Note _). Updated (noted f c.zero ls) (noted f c.zero (set ls i x)) i y)
    (u ∙ ap (λ (y : Note _). improved c y v n r) (ap (note f) (sym e) ∙ sym (noted_at f c.zero ls i l h e)))
    (noted_set f c.zero ls i x h))

pub settles : {K V : Type 0} (f : K → V) (v : V) (ls : List (Label K)) (i : ℕ) (l x : Label K)
    → i < length ls → l ≡ get_or ls i l → note f x ≡ settled (note f (get_or ls i l))
    → Updated (noted f v ls) (noted f v (set ls i x)) i (settled (noted f v ls i))
settles f v ls i l x h e u =
    subst (λ (y : Note _). Updated (noted f v ls) (noted f v (set ls i x)) i y)
    (u ∙ ap settled (ap (note f) (sym e) ∙ sym (noted_at f v ls i l h e)))
    (noted_set f v ls i x h)
