-- Four byte strings one after the other, the last of them one byte. Assumes nothing.
use Rattle.std.specs.Prelude.{◌≡◌, ℕ, ◌+◌, ◌*◌, ◌≤◌, List, [], ◌∷◌, ◌++◌, length}
use Rattle.std.proofs.Common.{◌∙◌, arith}
use Rattle.std.proofs.lemmas.List.{length-append}
use Rattle.panel.specs.Answers.{most_bytes}
use Rattle.panel.specs.Meaning.{Meaning, feeds}
use Rattle.panel.proofs.Feeds.{feeds_append}

module _ (ws ns ps : List ℕ) (c : ℕ) where
  pub fed_apart : {Mode : Type 0} (f : Meaning Mode → ℕ → Meaning Mode) (m : Meaning Mode)
      → feeds f m (ws ++ (ns ++ (ps ++ (c ∷ [])))) ≡ f (feeds f (feeds f (feeds f m ws) ns) ps) c
  fed_apart f m =
      feeds_append f m ws _ ∙ feeds_append f (feeds f m ws) ns _
      ∙ feeds_append f (feeds f (feeds f m ws) ns) ps (c ∷ [])

  pub few_bytes : length ws ≤ most_bytes → length ns ≤ most_bytes → length ps ≤ most_bytes
      → length (ws ++ (ns ++ (ps ++ (c ∷ [])))) ≤ 3 * most_bytes + 1
  few_bytes w n p =
      let whole = length-append ws (ns ++ (ps ++ (c ∷ []))) in
      let rest = length-append ns (ps ++ (c ∷ [])) in
      let end = length-append ps (c ∷ []) in
      omega arith
