-- A screen that has just been opened is as the book is at the opening; and what is kept of the pictures that it has
-- made blank is kept of those that were lent, which have as many cells, and the same ones past the places.
use Rattle.std.proofs.Common.{◌≡◌, ◌∙◌, ℕ, ◌≤◌, Bool, List, None, drop, length, replicate, refl, sym, ap, subst, arith}
use Rattle.std.proofs.lemmas.List.{get_or-replicate, length-replicate}
use Rattle.cost.specs.Costs.{Costs}
use Rattle.damage.specs.Damage.{untouched}
use Rattle.display.specs.Surface.{place_of}
use Rattle.display.specs.declared.cell.Glyph.{Glyph}
use Rattle.panel.specs.Answers.{Answers}
use Rattle.panel.specs.Meaning.{Meaning}
use Rattle.planning.specs.Planned.{pictured}
use Rattle.screen.specs.Calls.{Blanked, Opens, places}
use Rattle.screen.specs.State.{State, nothing_put}
use Rattle.screen_log.specs.Book.{opened}
use Rattle.screen_log.specs.Keep.{Keeps, Tied}
use Rattle.screen_log.specs.Log.{Law}
use Rattle.screen_log.specs.declared.entry.Entry.{Entry}
use Rattle.screen_log.specs.declared.entry.Line.{Line as Written}
use Rattle.screen_log.proofs.Pictures.{blanked, blanks_apt, copied_length, copied_past}

module _ {C : Type 0} (a : Answers) (f : C → Glyph) (xs ys : List C) (enough : places a ≤ length xs)
    (b : Blanked a f xs ys) where
  blanked_length : length ys ≡ length xs
  blanked_length =
      let n = length-replicate (places a) b.blank_cell in
      ap length b.is ∙ copied_length (places a) (replicate (places a) b.blank_cell) xs (omega arith) enough

  blanked_past : drop (places a) ys ≡ drop (places a) xs
  blanked_past =
      let n = length-replicate (places a) b.blank_cell in
      ap (drop (places a)) b.is ∙ copied_past (places a) (replicate (places a) b.blank_cell) xs (omega arith)

  blanked_picture : pictured a.size f ys ≡ (opened a.size).asked
  blanked_picture = ap (pictured a.size f) b.is ∙ blanked a.size f b.blank_cell xs b.means

module _ {P C Mode : Type 0} (answers : P → Answers) (meaning : P → Meaning Mode) (ready : Mode) (f : C → Glyph)
    (panel : P) (ws ws' gs gs' : List C) (s : State P) (o : Opens (answers panel) f panel ws ws' gs gs' s) where
  tied_here : Tied answers meaning ready f (answers panel) (opened (answers panel).size)
      (record { panel = panel; rest = place_of 0 0; left = None; rows = nothing_put }) ws' gs'
  tied_here =
      let w = blanked_length (answers panel) f ws ws' o.wanted_enough o.wanted in
      let g = blanked_length (answers panel) f gs gs' o.shown_enough o.shown in
      record {
        panel = refl;
        wanted_enough = omega (arith, o.wanted_enough);
        shown_enough = omega (arith, o.shown_enough);
        wanted = blanked_picture (answers panel) f ws ws' o.wanted_enough o.wanted;
        shown = blanked_picture (answers panel) f gs gs' o.shown_enough o.shown;
        apt = blanks_apt (answers panel);
        rest = refl;
        left = refl;
        stand = refl;
        begun = λ e. absurd cc;
        faces = λ e. absurd cc;
        rows = refl;
        spans = λ r lt. get_or-replicate 24 r untouched untouched lt;
      }

  pub opened_tied : Tied answers meaning ready f (answers s.panel) (opened (answers s.panel).size) s ws' gs'
  opened_tied = subst (λ (x : State P). Tied answers meaning ready f (answers x.panel) (opened (answers x.panel).size) x
      ws' gs') (sym o.state) tied_here

  module _ {V : Type 0} (c : Costs V) (fed : Answers → Meaning Mode → ℕ → Meaning Mode) (A : ℕ → ℕ → Bool)
      (vs hs : List C) (labels : ℕ) (xs ys : List ℕ) (es : List Entry) (ks ks' : List Written) (s' : State P) where
    kept_here : Keeps c answers meaning fed ready f A panel ws' vs gs' hs labels xs ys es ks ks' s'
        → Keeps c answers meaning fed ready f A panel ws vs gs hs labels xs ys es ks ks' s'
    kept_here k = record {
      log = k.log;
      entries = k.entries;
      answers_are = k.answers_are;
      begin = k.begin;
      other_lines = k.other_lines;
      output = k.output;
      law = subst (λ (n : ℕ). Law c (answers panel) A n (length gs) labels (length xs) (fed (answers panel)) ready
          (meaning panel) k.log) (blanked_length (answers panel) f ws ws' o.wanted_enough o.wanted)
          (subst (λ (n : ℕ). Law c (answers panel) A (length ws') n labels (length xs) (fed (answers panel)) ready
          (meaning panel) k.log) (blanked_length (answers panel) f gs gs' o.shown_enough o.shown) k.law);
      meaning_is = k.meaning_is;
      tied = k.tied;
      spans = k.spans;
      wanted_past = k.wanted_past ∙ blanked_past (answers panel) f ws ws' o.wanted_enough o.wanted;
      shown_past = k.shown_past ∙ blanked_past (answers panel) f gs gs' o.shown_enough o.shown;
    }

    pub kept_opened : Keeps c answers meaning fed ready f A s.panel ws' vs gs' hs labels xs ys es ks ks' s'
        → Keeps c answers meaning fed ready f A panel ws vs gs hs labels xs ys es ks ks' s'
    kept_opened k = kept_here (subst (λ (p : P). Keeps c answers meaning fed ready f A p ws' vs gs' hs labels xs ys es
        ks ks' s') (ap (λ (x : State P). x.panel) o.state) k)
