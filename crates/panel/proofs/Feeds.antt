-- Byte strings one after the other, and what a ready panel is fed. Assumes nothing.
use Rattle.std.proofs.Common.{◌≡◌, ℕ, List, [], ◌∷◌, ◌++◌, rules}
use Rattle.std.proofs.lemmas.List.Sums.{fold-append}
use Rattle.panel.specs.Answers.{Answers}
use Rattle.panel.specs.Lawful.{Keeps, Sound}
use Rattle.panel.specs.Meaning.{Meaning, feeds, of}

pub feeds_append : {M : Type 0} (f : Meaning M → ℕ → Meaning M) (m : Meaning M) (xs ys : List ℕ)
    → feeds f m (xs ++ ys) ≡ feeds f (feeds f m xs) ys
feeds_append f m xs ys = fold-append f m xs ys

-- what holds of every byte holds of byte strings
pub feeds_keep : {M : Type 0} (a : Answers) (f : Meaning M → ℕ → Meaning M)
    → ((m : Meaning M) (b : ℕ) → Sound a m → Sound a (f m b)) → (bs : List ℕ) → Keeps a f bs
unfolding Keeps
feeds_keep a f one [] m h = h
feeds_keep a f one (b ∷ bs) m h = feeds_keep a f one bs (f m b) (one m b h)

-- a ready meaning, with its reading state written out
pub at_ready : {M : Type 0} (ready : M) (m : Meaning M) → m.mode ≡ ready → m ≡ of m.surface ready
at_ready ready m e = search rules
