-- A sequence of motions, sent to a panel that shows the glass, takes its cursor where the sequence ends.
use Rattle.std.proofs.Common.{◌≡◌, ◌∙◌, ℕ, ◌+◌, ◌<◌, Bool, true, false, cond, ◌==◌, List, [], ◌∷◌, ◌++◌, length, Some, Option, refl, sym, ap, subst, arith, slice_index_or, slice_set, rules}
use Rattle.std.proofs.lemmas.Bool.Decides.{nat_tests}
use Rattle.std.proofs.lemmas.List.{set-get_or}
use Rattle.std.proofs.ByRecursion.{All-get_or}
use Rattle.std.proofs.lemmas.Option.{option_and_then_some}
use Rattle.std.specs.List.{AllByRecursion}
use Rattle.std.specs.Option.{option_map_or}
use Rattle.display.specs.Cell.{Code, blank, glyph_of}
use Rattle.display.specs.Place.{On, number}
use Rattle.display.specs.Surface.{Printed, place_of, resting, unless_held}
use Rattle.display.specs.declared.cell.Glyph.{Glyph}
use Rattle.display.specs.declared.place.Cursor.{Cursor}
use Rattle.display.specs.declared.place.Place.{Place}
use Rattle.display.proofs.Places.{found, number_below, when_unheld}
use Rattle.legs.specs.Graph.{ends}
use Rattle.legs.specs.Scene.{Scene, motion_sent, retype, sent, steps}
use Rattle.legs.specs.Sequence.{Sequence, none, then}
use Rattle.legs.proofs.Panels.{landing}
use Rattle.panel.specs.Answers.{Answers}
use Rattle.panel.specs.Lawful.{Free, Keeps, Lawful, Sound}
use Rattle.panel.specs.Meaning.{Meaning, feeds, of}
use Rattle.panel.proofs.Feeds.{feeds_append, feeds_keep}
use Rattle.plan.specs.Drawn.{stands}

-- what a lawful panel is fed leaves it with a meaning that it can have
pub sound_fed : {Mode : Type 0} (ready : Mode) (a : Answers) (f : Meaning Mode → ℕ → Meaning Mode)
    → Lawful ready a f → (bs : List ℕ) (m : Meaning Mode) → Sound a m → Sound a (feeds f m bs)
unfolding Keeps
sound_fed ready a f law bs m h = feeds_keep a f law.keeps bs m h

-- where a retype is offered the cursor is unheld, the column is not the last, and the cell has the pen now set
record Retyped (s : Scene) (d : Cursor) (p : Place) : Type 0 where
  unheld : d.held ≡ false
  before : d.place.column + 1 < s.answers.size.columns
  pen : (s.glass d.place).pen ≡ s.pen
  is : p ≡ place_of d.place.row (d.place.column + 1)

unheld_there : {X : Type 0} (k : Cursor) (o : Option X) (p : X) → unless_held k o ≡ Some p → k.held ≡ false
unheld_there k o p e = search rules

retyped : (s : Scene) (d : Cursor) (p : Place) → retype s d ≡ Some p → Retyped s d p
retyped s d p h =
    let a = when_unheld d _ p h in
    let b = found _ _ p a in
    record {
      unheld = unheld_there d _ p h;
      before = grind (arith, nat_tests);
      pen = grind (arith, nat_tests);
      is = sym b.1;
    }

-- a place before the last column is not the corner
pub free_before : (a : Answers) (q : Place) → q.column + 1 < a.size.columns → Free a q
free_before a q h safe e = let i = ap (λ (p : Place). p.column) e in omega arith

pub printed_at : (P : ℕ) (gs : List Glyph) (n : ℕ) → AllByRecursion (Printed P) gs → n < length gs
    → Printed P (slice_index_or gs n blank)
printed_at P gs n h lt = All-get_or (Printed P) gs n blank lt h

-- a cell drawn as it stands leaves the picture as it is
same_picture : (gs : List Glyph) (n c p : ℕ) → slice_index_or gs n blank ≡ glyph_of c p
    → slice_set gs n (glyph_of c p) ≡ gs
same_picture gs n c p e =
    subst (λ (g : Glyph). slice_set gs n g ≡ gs) e (set-get_or gs n blank)

module _ {Mode : Type 0} (ready : Mode) (s : Scene) (f : Meaning Mode → ℕ → Meaning Mode)
    (law : Lawful ready s.answers f) (gs : List Glyph)
    (seen : (q : Place) → On s.answers.size q → s.glass q ≡ slice_index_or gs (number s.answers.size q) blank) where
  -- the panel shows the glass, with the cursor k
  abbrev shows : Cursor → Meaning Mode
  shows k = of (stands s.answers.size gs k s.pen) ready

  retype_taken : (d : Cursor) (p : Place) → Sound s.answers (shows d) → retype s d ≡ Some p
      → f (shows d) (s.glass d.place).code ≡ shows (resting p)
  retype_taken d p h e =
      let t = retyped s d p e in
      let on : On s.answers.size d.place = h.within.place in
      let c : ℕ = (s.glass d.place).code in
      let n : ℕ = number s.answers.size d.place in
      let there : slice_index_or gs n blank ≡ s.glass d.place = sym (seen d.place on) in
      let cell : s.glass d.place ≡ glyph_of c s.pen = ap (glyph_of c) t.pen in
      let drawn_same : slice_set gs n (glyph_of c s.pen) ≡ gs = same_picture gs n c s.pen (there ∙ cell) in
      let code : Code c =
      subst (λ (g : Glyph). Code g.code) there
      (printed_at s.answers.pens gs n h.within.cells (omega (arith, h.within.filled, number_below _ _ on))).code in
      let printed = law.prints (shows d) c h refl t.unheld code (free_before s.answers d.place t.before) in
      let next : s.answers.after d.place ≡ resting p =
      law.bounded.after_next d.place on t.before ∙ ap resting (sym t.is) in
      printed ∙ (ap (λ (g : List Glyph). of (stands s.answers.size g (s.answers.after d.place) s.pen) ready) drawn_same
      ∙ ap shows next)

  motion_taken : (n : ℕ) (d u : Cursor) → Sound s.answers (shows d) → steps s n d ≡ Some u
      → feeds f (shows d) (motion_sent s d n) ≡ shows u
  motion_taken n d u h e = by_cases (n == s.answers.motions) refl
    where
      by_cases : (t : Bool) → (n == s.answers.motions) ≡ t → feeds f (shows d) (motion_sent s d n) ≡ shows u
      by_cases true is =
          let l = landing s n d u e in
          let r : retype s d ≡ Some l.place =
          sym (ap (λ t. cond t (retype s d) (s.answers.lands n d)) is) ∙ l.there in
          let b : motion_sent s d n ≡ (s.glass d.place).code ∷ [] =
          ap (λ t. cond t ((s.glass d.place).code ∷ []) (s.answers.motion_bytes n)) is in
          ap (feeds f (shows d)) b ∙ (retype_taken d l.place h r ∙ ap shows (sym l.is))
      by_cases false is =
          let l = landing s n d u e in
          let r : s.answers.lands n d ≡ Some l.place =
          sym (ap (λ t. cond t (retype s d) (s.answers.lands n d)) is) ∙ l.there in
          let b : motion_sent s d n ≡ s.answers.motion_bytes n =
          ap (λ t. cond t ((s.glass d.place).code ∷ []) (s.answers.motion_bytes n)) is in
          ap (feeds f (shows d)) b ∙ (law.moves (shows d) n h l.place refl r ∙ ap shows (sym l.is))

  -- the picture and the pen stay, and the cursor is where the sequence ends
  pub leg_taken : (w : Sequence) (k u : Cursor) → Sound s.answers (shows k) → ends (steps s) k w ≡ Some u
      → feeds f (shows k) (sent s k w) ≡ shows u
  leg_taken none k u h e = let i : k ≡ u = cc in ap shows i
  leg_taken (then w n) k u h e = option_and_then_some (steps s n) (ends (steps s) k w) u e
      (λ d i j. one_more d i j (leg_taken w k d h i))
    where
      one_more : (d : Cursor) → ends (steps s) k w ≡ Some d → steps s n d ≡ Some u
          → feeds f (shows k) (sent s k w) ≡ shows d
          → feeds f (shows k) (sent s k (then w n)) ≡ shows u
      one_more d i j came =
          let sound : Sound s.answers (shows d) =
          subst (Sound s.answers) came (sound_fed ready s.answers f law (sent s k w) (shows k) h) in
          let b : sent s k (then w n) ≡ sent s k w ++ motion_sent s d n =
          ap (λ (o : Option Cursor). sent s k w ++ option_map_or (λ d. motion_sent s d n) o []) i in
          ap (feeds f (shows k)) b
          ∙ (feeds_append f (shows k) (sent s k w) (motion_sent s d n)
          ∙ (ap (λ (m : Meaning Mode). feeds f m (motion_sent s d n)) came ∙ motion_taken n d u sound j))
