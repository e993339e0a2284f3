-- The notes of settled states tell their legs backwards, through settled states only.
use Rattle.std.proofs.Common.{◌≡◌, ◌≢◌, ◌∙◌, ℕ, ◌+◌, ◌<◌, ◌≤◌, Bool, true, false, ◌||◌, eqb, refl, sym, ap, subst}
use Rattle.std.proofs.lemmas.Bool.{eqb-true}
use Rattle.std.specs.List.{list_any}
use Rattle.std.specs.Option.{option_map_or}
use Rattle.legs.specs.Graph.{Graph, ends}
use Rattle.legs.specs.Leg.{Leg}
use Rattle.legs.specs.Sane.{Sane}
use Rattle.legs.specs.Sequence.{Sequence, count, none, then}
use Rattle.legs.proofs.Ends.{ends_ok, one_end}
use Rattle.legs.proofs.Short.{landed, shorter, shorter_by_two, visited}
use Rattle.legs.proofs.Unique.{unique}
use Rattle.labels.specs.Frontier.{Back, Labelled, Traced}
use Rattle.labels.specs.Note.{Note}
use Rattle.labels.specs.Trail.{Trail}
use Rattle.labels.specs.declared.label.Stage.TheVariants.{Reached, Settled}
use Rattle.labels.proofs.Beginning.{stay}

module _ {A V : Type 0} (g : Graph A V) (k : A) (ok : A → Type 0) (m : ℕ) (s : Sane g k ok m) (N : ℕ → Note V)
    (traced : (u : A) → ok u → (N (g.number u)).stage ≡ Settled → Traced g k ok N u) where
  back : (w : Sequence) (n : ℕ) (u : A) → ok u → (N (g.number u)).stage ≡ Settled → Leg g k (then w n) u
      → Back g k ok N u w n
  back w n u o h l = let t = traced u o h in t.back w n (unique g k ok m s t.way (then w n) u t.leg l)

  back_state : (w : Sequence) (n : ℕ) (u : A) (o : ok u) (h : (N (g.number u)).stage ≡ Settled)
      (l : Leg g k (then w n) u)
      → g.number (back w n u o h l).state ≡ g.number l.0
  back_state w n u o h l = ap g.number (one_end g k w (back w n u o h l).state l.0 (back w n u o h l).leads l.1.departs)

  before_ok : (w : Sequence) (n : ℕ) (u : A) (l : Leg g k (then w n) u) → ok l.0
  before_ok w n u l = ends_ok g k ok m s w l.0 l.1.departs

  before_settled : (w : Sequence) (n : ℕ) (u : A) (o : ok u) (h : (N (g.number u)).stage ≡ Settled)
      (l : Leg g k (then w n) u) → (N (g.number l.0)).stage ≡ Settled
  before_settled w n u o h l = subst (λ (j : ℕ). (N j).stage ≡ Settled) (back_state w n u o h l)
      (back w n u o h l).settled

  not_begun : (w : Sequence) (n : ℕ) (u : A) → ok u → Leg g k (then w n) u → g.number u ≢ g.number k
  not_begun w n u o l e =
      let i : u ≡ k = s.apart u k o s.begins e in
      let j : then w n ≡ none = unique g k ok m s (then w n) none k (subst (λ (x : A). Leg g k (then w n) x) i l)
      (stay g k ok m s N) in
      cc

  pub trail : (w : Sequence) (u : A) → ok u → (N (g.number u)).stage ≡ Settled → Leg g k w u
      → Trail N (g.number k) m w (g.number u)
  trail none u o h l = ap g.number (let e : k ≡ u = let i = l.leads in cc in sym e)
  trail (then w n) u o h l = (
    not_begun w n u o l,
    landed g k ok m s w n u l.1.least.leads,
    (back w n u o h l).motion,
    subst (λ (j : ℕ). Trail N (g.number k) m w j)
        (sym ((back w n u o h l).from ∙ back_state w n u o h l))
        (trail w l.0 (before_ok w n u l) (before_settled w n u o h l) l.2),
  )

  on_leg : (w : Sequence) (u : A) → ok u → (N (g.number u)).stage ≡ Settled → Leg g k w u
      → (q : ℕ) → list_any (eqb q) (visited g k w) ≡ true → (N q).stage ≡ Settled
  on_leg none u o h l q e = absurd cc
  on_leg (then w n) u o h l q e =
      by_cases (on_leg w l.0 (before_ok w n u l) (before_settled w n u o h l) l.2 q)
      (eqb q (option_map_or g.number (ends g.step k (then w n)) 0)) refl
    where
      by_cases : (list_any (eqb q) (visited g k w) ≡ true → (N q).stage ≡ Settled)
          → (b : Bool) → eqb q (option_map_or g.number (ends g.step k (then w n)) 0) ≡ b → (N q).stage ≡ Settled
      by_cases ih true f = subst (λ (j : ℕ). (N j).stage ≡ Settled)
          (sym (eqb-true q _ f ∙ ap (λ x. option_map_or g.number x 0) l.1.least.leads)) h
      by_cases ih false f = ih (sym (ap (λ (b : Bool). b || list_any (eqb q) (visited g k w)) f) ∙ e)

  -- the leg of a settled state leaves room for a motion more while the goal is not settled
  pub room : (w : Sequence) (u : A) → ok u → (N (g.number u)).stage ≡ Settled → Leg g k w u
      → (t : ℕ) → t < m → ((N t).stage ≡ Settled → ⊥) → count w + 1 ≤ m
  room w u o h l t i ns = by_cases (list_any (eqb t) (visited g k w)) refl
    where
      by_cases : (b : Bool) → list_any (eqb t) (visited g k w) ≡ b → count w + 1 ≤ m
      by_cases true e = absurd (ns (on_leg w u o h l t e))
      by_cases false e = shorter g k ok m s w u l t i e

  -- and room for two where it is not the goal, nor another state that is not settled
  pub room_for_two : (w : Sequence) (u : A) → ok u → (N (g.number u)).stage ≡ Settled → Leg g k w u
      → (t : ℕ) → t < m → ((N t).stage ≡ Settled → ⊥) → (q : ℕ) → q < m → ((N q).stage ≡ Settled → ⊥) → eqb t q ≡ false
      → count w + 2 ≤ m
  room_for_two w u o h l t i ns q j nq ne =
      by_cases (list_any (eqb t) (visited g k w)) refl (list_any (eqb q) (visited g k w)) refl
    where
      by_cases : (b : Bool) → list_any (eqb t) (visited g k w) ≡ b → (d : Bool)
          → list_any (eqb q) (visited g k w) ≡ d → count w + 2 ≤ m
      by_cases true e d f = absurd (ns (on_leg w u o h l t e))
      by_cases false e true f = absurd (nq (on_leg w u o h l q f))
      by_cases false e false f = shorter_by_two g k ok m s w u l t q i j ne e f

module _ {A V : Type 0} (g : Graph A V) (k : A) (ok : A → Type 0) (m : ℕ) (s : Sane g k ok m) (N : ℕ → Note V)
    (traced : (u : A) → ok u → (N (g.number u)).stage ≡ Settled → Traced g k ok N u) where
  -- and the note of a reached state tells the sequence that it is of
  pub label_trail : (u : A) → (N (g.number u)).stage ≡ Reached → (N (g.number k)).stage ≡ Settled → g.number u < m
      → (l : Labelled g k ok N u)
      → Trail N (g.number k) m (then (traced l.state l.is_ok l.settled).way (N (g.number u)).motion) (g.number u)
  label_trail u r e lt l = (
    λ i. let a = ap (λ (j : ℕ). (N j).stage) i in cc,
    lt,
    refl,
    subst (λ (j : ℕ). Trail N (g.number k) m (traced l.state l.is_ok l.settled).way j) (sym l.from)
        (trail g k ok m s N traced (traced l.state l.is_ok l.settled).way l.state l.is_ok l.settled
        (traced l.state l.is_ok l.settled).leg),
  )

-- the notes tell one sequence only
pub one_trail : {V : Type 0} (N : ℕ → Note V) (b m : ℕ) (w x : Sequence) (j : ℕ) → Trail N b m w j → Trail N b m x j
    → w ≡ x
one_trail N b m none none j h i = refl
one_trail N b m none (then x n) j h i = absurd (i.0 h)
one_trail N b m (then w n) none j h i = absurd (h.0 i)
one_trail N b m (then w n) (then x q) j h i =
    let a : w ≡ x = one_trail N b m w x (N j).from h.3 i.3 in
    let b2 : n ≡ q = sym h.2 ∙ i.2 in cc
