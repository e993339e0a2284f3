-- There is one answer to a showing: of the reasons for a refusal the first that applies rules out those behind it, an
-- accepted showing has none, and there is one plan.
use Rattle.std.proofs.Common.{◌≡◌, ◌∙◌, ℕ, ◌<◌, ◌≤◌, Bool, true, false, List, [], ◌∷◌, ◌++◌, Ok, Err, Result, length, sym, ap, arith}
use Rattle.cost.specs.Costs.{Costs}
use Rattle.display.specs.Surface.{resting}
use Rattle.display.specs.declared.place.Place.{Place}
use Rattle.faults.specs.Causes.{AllGood, FirstBad}
use Rattle.faults.specs.Told.{Told, tell, told}
use Rattle.faults.specs.declared.fault.Fault.{Fault}
use Rattle.faults.proofs.Unique.{bad_not_good, first_bad_one, told_apart}
use Rattle.panel.specs.Answers.{Answers}
use Rattle.plan.specs.Plan.{Blocked}
use Rattle.plan.proofs.Unique.{blocked_one, plan_not_blocked, plan_one}
use Rattle.screen.specs.Showing.{Accepted, Denied, Enough, PlanOf, Ready, Showing, Shows, bad_cell, no_sequence, not_drawn, too_short, too_small}

clash : (b : Bool) → b ≡ true → b ≡ false → ⊥
clash b e f = cc

module _ {V : Type 0} (c : Costs V) (a : Answers) (A : ℕ → ℕ → Bool) (s : Showing) where
  abbrev blocks : Place → Type 0
  blocks q = Blocked c a s.shown s.wanted s.rest (resting s.stand.place) s.stand.pen q

  both_blocked : (q r : Place) → blocks q → blocks r → q ≡ r
  both_blocked q r h i = blocked_one c a s.shown s.wanted s.rest (resting s.stand.place) s.stand.pen q r h i

  never_both : (bs : List ℕ) (e : ℕ) (q : Place) → PlanOf c a A s bs e → blocks q → ⊥
  never_both bs e q h i = plan_not_blocked c a s.shown s.wanted s.rest (resting s.stand.place) s.stand.pen bs e q h i

  both_planned : (bs bs' : List ℕ) (e e' : ℕ) → PlanOf c a A s bs e → PlanOf c a A s bs' e' → (bs ≡ bs') × (e ≡ e')
  both_planned bs bs' e e' h i =
      plan_one c a s.shown s.wanted s.rest (resting s.stand.place) s.stand.pen bs bs' e e' h i

  good_not_bad : (t : Told) → AllGood a A s.wanted → FirstBad a A s.wanted t → ⊥
  good_not_bad t h i = bad_not_good a A s.wanted t i h

  -- what is told of each reason, whatever else is said to be told
  small_told : (u : Told) → (Enough c a A s → ⊥) → Denied c a A s u → u ≡ tell 8 []
  small_told u n (too_small m e) = e
  small_told u n (bad_cell l b) = absurd (n l)
  small_told u n (not_drawn l g f e) = absurd (n l)
  small_told u n (no_sequence r q h e) = absurd (n r.enough)
  small_told u n (too_short r p o h m e) = absurd (n r.enough)

  bad_told : (t u : Told) → Enough c a A s → FirstBad a A s.wanted t → Denied c a A s u → u ≡ t
  bad_told t u l b (too_small m e) = absurd (m l)
  bad_told t u l b (bad_cell k d) = first_bad_one a A s.wanted u t d b
  bad_told t u l b (not_drawn k g f e) = absurd (good_not_bad t g b)
  bad_told t u l b (no_sequence r q h e) = absurd (good_not_bad t r.good b)
  bad_told t u l b (too_short r p o h m e) = absurd (good_not_bad t r.good b)

  undrawn_told : (u : Told) → Enough c a A s → AllGood a A s.wanted → s.begun ≡ false → Denied c a A s u
      → u ≡ tell 5 []
  undrawn_told u l g f (too_small m e) = absurd (m l)
  undrawn_told u l g f (bad_cell k d) = absurd (good_not_bad u g d)
  undrawn_told u l g f (not_drawn k h i e) = e
  undrawn_told u l g f (no_sequence r q h e) = absurd (clash s.begun r.begun f)
  undrawn_told u l g f (too_short r p o h m e) = absurd (clash s.begun r.begun f)

  blocked_told : (u : Told) → Ready c a A s → (q : Place) → blocks q → Denied c a A s u
      → u ≡ tell 6 (q.row ∷ q.column ∷ [])
  blocked_told u r q h (too_small m e) = absurd (m r.enough)
  blocked_told u r q h (bad_cell k d) = absurd (good_not_bad u r.good d)
  blocked_told u r q h (not_drawn k g f e) = absurd (clash s.begun r.begun f)
  blocked_told u r q h (no_sequence k p i e) =
      e ∙ ap (λ (x : Place). tell 6 (x.row ∷ x.column ∷ [])) (both_blocked p q i h)
  blocked_told u r q h (too_short k p o i m e) = absurd (never_both p o q i h)

  short_told : (u : Told) → Ready c a A s → (planned : List ℕ) (o : ℕ) → PlanOf c a A s planned o
      → s.room < length (s.head ++ planned) → Denied c a A s u
      → u ≡ tell 7 (length (s.head ++ planned) ∷ [])
  short_told u r p o h m (too_small n e) = absurd (n r.enough)
  short_told u r p o h m (bad_cell k d) = absurd (good_not_bad u r.good d)
  short_told u r p o h m (not_drawn k g f e) = absurd (clash s.begun r.begun f)
  short_told u r p o h m (no_sequence k q i e) = absurd (never_both p o q h i)
  short_told u r p o h m (too_short k p' o' i n e) =
      e ∙ ap (λ (bs : List ℕ). tell 7 (length (s.head ++ bs) ∷ [])) (both_planned p' p o' o i h).0

  pub denied_one : (t u : Told) → Denied c a A s t → Denied c a A s u → t ≡ u
  denied_one t u (too_small n e) d = e ∙ sym (small_told u n d)
  denied_one t u (bad_cell l b) d = sym (bad_told t u l b d)
  denied_one t u (not_drawn l g f e) d = e ∙ sym (undrawn_told u l g f d)
  denied_one t u (no_sequence r q h e) d = e ∙ sym (blocked_told u r q h d)
  denied_one t u (too_short r p o h m e) d = e ∙ sym (short_told u r p o h m d)

  too_long : (n room : ℕ) (bs bs' : List ℕ) → n ≡ length bs → n ≤ room → bs ≡ bs' → room < length bs' → ⊥
  too_long n room bs bs' e f g h = let i = ap (λ (xs : List ℕ). length xs) g in omega arith

  pub accepted_not_denied : (n e : ℕ) (bs : List ℕ) (t : Told) → Accepted c a A s n e bs → Denied c a A s t → ⊥
  accepted_not_denied n e bs t h (too_small m f) = m h.ready.enough
  accepted_not_denied n e bs t h (bad_cell l b) = good_not_bad t h.ready.good b
  accepted_not_denied n e bs t h (not_drawn l g f i) = clash s.begun h.ready.begun f
  accepted_not_denied n e bs t h (no_sequence r q i f) = never_both h.planned e q h.plan i
  accepted_not_denied n e bs t h (too_short r p o i m f) =
      too_long n s.room bs (s.head ++ p) h.count h.fits
      (h.bytes ∙ ap (λ (xs : List ℕ). s.head ++ xs) (both_planned h.planned p e o h.plan i).0) m

  pub accepted_one : (n n' e e' : ℕ) (bs bs' : List ℕ) → Accepted c a A s n e bs → Accepted c a A s n' e' bs'
      → (n ≡ n') × (e ≡ e') × (bs ≡ bs')
  accepted_one n n' e e' bs bs' h i =
      let one = both_planned h.planned i.planned e e' h.plan i.plan in
      let bytes : bs ≡ bs' = h.bytes ∙ (ap (λ (xs : List ℕ). s.head ++ xs) one.0 ∙ sym i.bytes) in (
        h.count ∙ (ap (λ (xs : List ℕ). length xs) bytes ∙ sym i.count),
        one.1,
        bytes,
      )

  pub shows_one : (e e' : ℕ) (r r' : Result ℕ Fault) (bs bs' : List ℕ) → Shows c a A s e r bs → Shows c a A s e' r' bs'
      → (r ≡ r') × (bs ≡ bs')
  shows_one e e' (Ok n) (Ok n') bs bs' h i =
      let one = accepted_one n n' e e' bs bs' h i in
      (ap (λ (m : ℕ). let r : Result ℕ Fault = Ok m in r) one.0, one.2)
  shows_one e e' (Ok n) (Err y) bs bs' h i = absurd (accepted_not_denied n e bs (told y) h i.0)
  shows_one e e' (Err x) (Ok n') bs bs' h i = absurd (accepted_not_denied n' e' bs' (told x) i h.0)
  shows_one e e' (Err x) (Err y) bs bs' h i = (
    ap (λ (f : Fault). let r : Result ℕ Fault = Err f in r)
        (told_apart x y (denied_one (told x) (told y) h.0 i.0)),
    h.1 ∙ sym i.1,
  )
