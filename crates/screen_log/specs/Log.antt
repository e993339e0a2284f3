-- The law of a log: it holds of every list of entries. All words depend on what those of `Right` depend on; and on what
-- the panel meant at the opening, on f, the step of one byte, and on the reading state in which the panel is ready.
--     meant ls       what the panel means after the lines ls: it has been fed all bytes sent or strayed
--     Law ls         each line is right by the book of the lines before it; and at each line, whenever a redraw was
--                    accepted and no byte has strayed since, the panel displays what was accepted before the latest
--                    accepted showing, which is the picture that is owed, with the cursor on the rest place owed
use Rattle.std.specs.Prelude.{◌≡◌, ℕ, Bool, List, ◌∷◌, ◌++◌}
use Rattle.cost.specs.Costs.{Costs}
use Rattle.display.specs.Surface.{resting}
use Rattle.panel.specs.Answers.{Answers}
use Rattle.panel.specs.Meaning.{Meaning, feeds, of}
use Rattle.plan.specs.Drawn.{stands}
use Rattle.screen_log.specs.Book.{book}
use Rattle.screen_log.specs.History.{Displays, Latest, Trusted}
use Rattle.screen_log.specs.Line.{Line, heard_by}
use Rattle.screen_log.specs.Right.{Right}

module _ {V Mode : Type 0} (c : Costs V) (a : Answers) (A : ℕ → ℕ → Bool) (cells_wanted cells_shown labels room : ℕ)
    (f : Meaning Mode → ℕ → Meaning Mode) (ready : Mode) (opening : Meaning Mode) where
  abbrev pub meant : List Line → Meaning Mode
  meant ls = feeds f opening (heard_by ls)

  pub record Law (ls : List Line) : Type 0 where
    pub right : (before : List Line) (l : Line) (after : List Line) → ls ≡ before ++ (l ∷ after)
        → Right c a A cells_wanted cells_shown labels room (book a.size before) l
    pub owed : (before after : List Line) → ls ≡ before ++ after → Trusted before
        → meant before ≡ of (stands a.size (book a.size before).owed (resting (book a.size before).owed_rest)
        (book a.size before).pen) ready
    pub displays : (before after : List Line) → ls ≡ before ++ after → Trusted before
        → (seen : List Line) → Latest before seen → Displays ready a.size seen (meant before)
