-- The law holds of no lines; and of one line more, where that is right and the panel shows what is owed: each split of
-- the lines is one of those before, or is at the end.
use Rattle.std.proofs.Common.{◌≡◌, ◌∙◌, inl, inr, ℕ, Bool, true, List, [], ◌∷◌, ◌++◌, sym, subst}
use Rattle.std.specs.List.{AllByRecursion}
use Rattle.cost.specs.Costs.{Costs}
use Rattle.display.specs.Surface.{resting}
use Rattle.panel.specs.Answers.{Answers}
use Rattle.panel.specs.Meaning.{Meaning, of}
use Rattle.plan.specs.Drawn.{stands}
use Rattle.screen_log.specs.Book.{book}
use Rattle.screen_log.specs.History.{Displays, Latest, PutOn, Trusted}
use Rattle.screen_log.specs.Line.{Line}
use Rattle.screen_log.specs.Log.{Law, meant}
use Rattle.screen_log.specs.Right.{Right}
use Rattle.screen_log.proofs.Histories.{Counted, clean_trusted, counted_right, displays_owed, put_on_right}
use Rattle.screen_log.proofs.Splits.{all_at_splits, all_more, nothing_at, nothing_split, split_at_last, split_last}

-- in no lines no redraw was accepted
untrusted : (before after : List Line) → [] ≡ before ++ after → Trusted before → ⊥
untrusted before after e t =
    let b = nothing_split before after e in
    nothing_at t.before t.since t.redraw (sym b.0 ∙ t.are)

module _ {V Mode : Type 0} (c : Costs V) (a : Answers) (A : ℕ → ℕ → Bool) (cells_wanted cells_shown labels room : ℕ)
    (f : Meaning Mode → ℕ → Meaning Mode) (ready : Mode) (opening : Meaning Mode) where
  pub law_none : Law c a A cells_wanted cells_shown labels room f ready opening []
  law_none = record {
    right = λ before l after e. absurd (nothing_at before after l e);
    owed = λ before after e t. absurd (untrusted before after e t);
    displays = λ before after e t seen latest. absurd (untrusted before after e t);
  }

  -- after these lines the panel shows what is owed
  abbrev pub ShowsOwed : List Line → Type 0
  ShowsOwed ls = meant c a A cells_wanted cells_shown labels room f ready opening ls
      ≡ of (stands a.size (book a.size ls).owed (resting (book a.size ls).owed_rest) (book a.size ls).pen) ready

  module _ (ls : List Line) (law : Law c a A cells_wanted cells_shown labels room f ready opening ls) where
    pub all_put_on : AllByRecursion (PutOn a.size) ls
    all_put_on = all_at_splits (PutOn a.size) ls
        (λ before l after e. put_on_right c a A cells_wanted cells_shown labels room (book a.size before) l
        (law.right before l after e))

    pub all_counted : AllByRecursion Counted ls
    all_counted = all_at_splits Counted ls
        (λ before l after e. counted_right c a A cells_wanted cells_shown labels room (book a.size before) l
        (law.right before l after e))

    module _ (l : Line) (right : Right c a A cells_wanted cells_shown labels room (book a.size ls) l)
        (faces : (book a.size (ls ++ (l ∷ []))).clean ≡ true → ShowsOwed (ls ++ (l ∷ []))) where
      right_more : (before : List Line) (k : Line) (after : List Line) → ls ++ (l ∷ []) ≡ before ++ (k ∷ after)
          → Right c a A cells_wanted cells_shown labels room (book a.size before) k
      right_more before k after e = elim (split_at_last ls before after l k e) [
        | inl h ↦
            let b = h.before_is in
            let w = h.last_is in
            subst (λ (ks : List Line). Right c a A cells_wanted cells_shown labels room (book a.size ks) k) (sym b)
            (subst (λ (i : Line). Right c a A cells_wanted cells_shown labels room (book a.size ls) i) (sym w) right)
        | inr h ↦ law.right before k h.rest h.front_is
      ]

      owed_more : (before after : List Line) → ls ++ (l ∷ []) ≡ before ++ after → Trusted before → ShowsOwed before
      owed_more before after e t = elim (split_last ls before after l e) [
        | inl h ↦
            let b = h.all_before in
            subst ShowsOwed (sym b)
            (faces (clean_trusted a.size (ls ++ (l ∷ [])) (subst Trusted b t)))
        | inr h ↦ law.owed before h.rest h.front_is t
      ]

      displays_more : (before after : List Line) → ls ++ (l ∷ []) ≡ before ++ after → Trusted before
          → (seen : List Line) → Latest before seen
          → Displays ready a.size seen (meant c a A cells_wanted cells_shown labels room f ready opening before)
      displays_more before after e t seen latest = elim (split_last ls before after l e) [
        | inl h ↦
            let on_all = subst (λ (ks : List Line). AllByRecursion (PutOn a.size) ks) (sym h.all_before)
            (all_more (PutOn a.size) ls l all_put_on
            (put_on_right c a A cells_wanted cells_shown labels room (book a.size ls) l right)) in
            displays_owed a.size ready _ (book a.size before).pen before seen on_all latest
            (owed_more before after e t)
        | inr h ↦ law.displays before h.rest h.front_is t seen latest
      ]

      pub law_more : Law c a A cells_wanted cells_shown labels room f ready opening (ls ++ (l ∷ []))
      law_more = record { right = right_more; owed = owed_more; displays = displays_more }
