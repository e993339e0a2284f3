-- Each entry, with its answer, makes of the screen and its pictures what it makes of the book: what is denied changes
-- neither, and what is accepted is noted as the call promises it.
use Rattle.std.proofs.Common.{◌≡◌, ◌∙◌, ℕ, ◌-◌, ◌≤◌, min, Bool, true, false, ◌&&◌, List, [], ◌∷◌, ◌++◌, None, Some, Option, Result, Ok, Err, append-nil, drop, length, map, refl, sym, ap, subst, arith, slice_set}
use Rattle.std.specs.Prelude.{⊤}
use Rattle.std.specs.Result.{result_unwrap_or}
use Rattle.std.proofs.Math.Nat.{min-le_right}
use Rattle.std.proofs.lemmas.List.{drop-set-lt, get_or-replicate, length-set}
use Rattle.cost.specs.Costs.{Costs}
use Rattle.damage.specs.Damage.{added, untouched}
use Rattle.display.specs.Cell.{glyph_of}
use Rattle.display.specs.Place.{On, number}
use Rattle.display.specs.Surface.{place_of, resting}
use Rattle.display.specs.declared.cell.Glyph.{Glyph}
use Rattle.display.specs.declared.place.Place.{Place}
use Rattle.display.proofs.Places.{number_below}
use Rattle.faults.specs.Causes.{AllGood}
use Rattle.faults.specs.declared.fault.Fault.{Fault}
use Rattle.panel.specs.Answers.{Answers}
use Rattle.panel.specs.Meaning.{Meaning, feeds, of}
use Rattle.plan.specs.Drawn.{Apt, stands}
use Rattle.plan.specs.declared.stand.Stand.{Stand}
use Rattle.planning.specs.Planned.{pictured}
use Rattle.screen.specs.Calls.{copied, is_left, places, redraw_of, refresh_of, stand_of, state_after}
use Rattle.screen.specs.Showing.{Showing, Shows}
use Rattle.screen.specs.State.{Faces, State, nothing_put}
use Rattle.screen_log.specs.Book.{Book, note, nothing, put_in, rest_in, shown_in, stray_in}
use Rattle.screen_log.specs.Enter.{Enters, PutIn, RestIn, ShowIn}
use Rattle.screen_log.specs.Keep.{Tied}
use Rattle.screen_log.specs.Line.{strayed}
use Rattle.screen_log.specs.Right.{Only, RightBy, redraw_for, refresh_for}
use Rattle.screen_log.specs.Step.{Stepped}
use Rattle.screen_log.specs.declared.entry.Entry.{Entry}
use Rattle.screen_log.specs.declared.entry.Entry.TheVariants.{Put, Rest, Refresh, Redraw, Stray}
use Rattle.screen_log.proofs.Columns.{spans_more}
use Rattle.screen_log.proofs.Entering.{sent_fits}
use Rattle.screen_log.proofs.Histories.{put_on_right}
use Rattle.screen_log.proofs.Only.{only_one}
use Rattle.screen_log.proofs.Pictures.{copied_begins, copied_length, copied_past, good_apt, pictured_length, pictured_set}

both : (b c : Bool) → b && c ≡ true → (b ≡ true) × (c ≡ true)
both true c e = (refl, e)
both false c e = absurd cc

nothing_there : (bs : List ℕ) → nothing bs ≡ true → bs ≡ []
nothing_there [] e = refl
nothing_there (b ∷ bs) e = absurd cc

-- where there was a showing, this is where it left the panel
left_there : (o : Option Stand) → is_left o ≡ true → o ≡ Some (stand_of o)
left_there None e = absurd cc
left_there (Some k) e = refl

module _ {P C Mode : Type 0} (answers : P → Answers) (meaning : P → Meaning Mode) (ready : Mode) (f : C → Glyph)
    (a : Answers) (b : Book) where
  abbrev TiedTo : Book → State P → List C → List C → Type 0
  TiedTo d s ws gs = Tied answers meaning ready f a d s ws gs

  retied : (d : Book) (s s' : State P) (ws ws' gs gs' : List C) → s' ≡ s → ws' ≡ ws → gs' ≡ gs → TiedTo d s ws gs
      → TiedTo d s' ws' gs'
  retied d s s' ws ws' gs gs' e w g t =
      subst (λ (x : State P). TiedTo d x ws' gs') (sym e)
      (subst (λ (x : List C). TiedTo d s x gs') (sym w) (subst (λ (x : List C). TiedTo d s ws x) (sym g) t))

  tied_put : (s : State P) (ws gs : List C) (row column code pen : ℕ) (x : C) → TiedTo b s ws gs
      → On a.size (place_of row column) → f x ≡ glyph_of code pen
      → TiedTo (put_in a.size (place_of row column) (glyph_of code pen) b) (record {
        panel = s.panel;
        rest = s.rest;
        left = s.left;
        rows = added s.rows row column;
      }) (slice_set ws (number a.size (place_of row column)) x) gs
  tied_put s ws gs row column code pen x t on means =
      let below = number_below a.size (place_of row column) on in
      let few = a.size.rows_most in
      let there = on.row in
      let long = length-set ws (number a.size (place_of row column)) x in
      record {
        panel = t.panel;
        wanted_enough = omega (arith, t.wanted_enough);
        shown_enough = t.shown_enough;
        wanted = pictured_set a.size f ws (number a.size (place_of row column)) x below
            ∙ (ap (λ (gs : List Glyph). slice_set gs (number a.size (place_of row column)) (f x)) t.wanted
            ∙ ap (λ (g : Glyph). slice_set b.asked (number a.size (place_of row column)) g) means);
        shown = t.shown;
        apt = t.apt;
        rest = t.rest;
        left = t.left;
        stand = t.stand;
        begun = t.begun;
        faces = t.faces;
        rows = length-set s.rows row _ ∙ t.rows;
        spans = spans_more s.rows b.put row column t.rows (omega arith) t.spans;
      }

  tied_rest : (s : State P) (ws gs : List C) (p : Place) → TiedTo b s ws gs
      → TiedTo (rest_in p b) (record { panel = s.panel; rest = p; left = s.left; rows = s.rows }) ws gs
  tied_rest s ws gs p t = record {
    panel = t.panel;
    wanted_enough = t.wanted_enough;
    shown_enough = t.shown_enough;
    wanted = t.wanted;
    shown = t.shown;
    apt = t.apt;
    rest = refl;
    left = t.left;
    stand = t.stand;
    begun = t.begun;
    faces = t.faces;
    rows = t.rows;
    spans = t.spans;
  }

  tied_stray : (fed : Meaning Mode → ℕ → Meaning Mode) (s : State P) (panel : P) (ws gs : List C) (noise : List ℕ)
      → TiedTo b s ws gs → answers panel ≡ answers s.panel → meaning panel ≡ feeds fed (meaning s.panel) noise
      → TiedTo (stray_in noise b) (record { panel = panel; rest = s.rest; left = s.left; rows = s.rows }) ws gs
  tied_stray fed s panel ws gs noise t fixed fed_bytes = record {
    panel = fixed ∙ t.panel;
    wanted_enough = t.wanted_enough;
    shown_enough = t.shown_enough;
    wanted = t.wanted;
    shown = t.shown;
    apt = t.apt;
    rest = t.rest;
    left = t.left;
    stand = t.stand;
    begun = λ e. t.begun (both b.clean (nothing noise) e).0;
    faces = λ e.
        let q = both b.clean (nothing noise) e in
        fed_bytes ∙ (ap (feeds fed (meaning s.panel)) (nothing_there noise q.1) ∙ t.faces q.0);
    rows = t.rows;
    spans = t.spans;
  }

  -- an accepted showing, where the panel is or is not known to show what was wanted
  tied_shown : (drawn clean : Bool) (n pen : ℕ) (s : State P) (panel : P) (ws gs : List C) → TiedTo b s ws gs
      → answers panel ≡ answers s.panel → Apt a (pictured a.size f ws) → drawn ≡ true
      → (clean ≡ true → meaning panel ≡ of (stands a.size (pictured a.size f ws) (resting s.rest) pen) ready)
      → TiedTo (shown_in drawn clean pen n b) (record {
        panel = panel;
        rest = s.rest;
        left = Some (record { place = s.rest; pen = pen });
        rows = nothing_put;
      }) ws (copied (places a) ws gs)
  tied_shown drawn clean n pen s panel ws gs t fixed apt begun faces =
      let long = copied_length (places a) ws gs t.wanted_enough t.shown_enough in
      record {
        panel = fixed ∙ t.panel;
        wanted_enough = t.wanted_enough;
        shown_enough = omega (arith, t.shown_enough);
        wanted = t.wanted;
        shown = ap (map f) (copied_begins (places a) ws gs t.wanted_enough) ∙ t.wanted;
        apt = subst (Apt a) t.wanted apt;
        rest = t.rest;
        left = sym begun;
        stand = ap (λ (p : Place). let k : Stand = record { place = p; pen = pen } in k) t.rest;
        begun = λ _. begun;
        faces = λ e.
            faces e
            ∙ (ap (λ (gs : List Glyph). of (stands a.size gs (resting s.rest) pen) ready) t.wanted
            ∙ ap (λ (p : Place). of (stands a.size b.asked (resting p) pen) ready) t.rest);
        rows = refl;
        spans = λ r lt. get_or-replicate 24 r untouched untouched lt;
      }

-- a showing by what the book says is that by the screen and its pictures
module _ {P C Mode : Type 0} (answers : P → Answers) (meaning : P → Meaning Mode) (ready : Mode) (f : C → Glyph)
    {V : Type 0} (c : Costs V) (A : ℕ → ℕ → Bool) (a : Answers) (labels room : ℕ) (b : Book) (s : State P)
    (ws gs : List C) (t : Tied answers meaning ready f a b s ws gs) (k n m : ℕ) (left : m ≡ room - b.sent) where
  refresh_same : refresh_of a f s ws gs (min k labels) (min n m)
      ≡ refresh_for c a A (length ws) (length gs) labels room b k n
  refresh_same =
      let i = t.left in
      let j = t.shown in
      let u = t.wanted in
      let v = t.stand in
      let w = t.rest in cc

  redraw_same : redraw_of a f s ws gs (min k labels) (min n m)
      ≡ redraw_for c a A (length ws) (length gs) labels room b k n
  redraw_same = let u = t.wanted in let w = t.rest in cc

module _ {P C V Mode : Type 0} (c : Costs V) (answers : P → Answers) (meaning : P → Meaning Mode)
    (fed : Answers → Meaning Mode → ℕ → Meaning Mode) (ready : Mode) (f : C → Glyph) (A : ℕ → ℕ → Bool)
    (labels room : ℕ) (b : Book) (s s' : State P) (ws ws' gs gs' : List C) (xs ys : List ℕ)
    (left : length xs ≡ room - b.sent) where
  abbrev here : Answers
  here = answers s.panel

  abbrev Tie : Type 0
  Tie = Tied answers meaning ready f here b s ws gs

  abbrev Steps : Entry → Result ℕ Fault → Type 0
  Steps e r = Stepped c answers meaning fed ready f A here labels room b s s' ws ws' gs gs' xs ys e r

  put_step : (row column code pen : ℕ) (r : Result ℕ Fault) → Tie
      → PutIn c answers meaning fed ready f A s s' ws ws' gs gs' labels xs ys row column code pen r
      → Steps (Put row column code pen) r
  put_step row column code pen (Ok k) t h =
      let on : On here.size (place_of row column) = put_on_right c here A (length ws) (length gs) labels room b
      (record { entry = Put row column code pen; answer = Ok k; bytes = []; pen = 0 })
      ((h.call.nothing_against, h.none_sent), refl) in
      let below = number_below here.size (place_of row column) on in
      record {
        bytes = [];
        pen = 0;
        right = ((h.call.nothing_against, h.none_sent), refl);
        count = h.none_sent;
        fits = omega arith;
        output = h.output;
        fed_bytes = ap (λ (x : State P). meaning x.panel) h.call.state;
        tied = retied answers meaning ready f here b
            (put_in here.size (place_of row column) (glyph_of code pen) b) _ s' _ ws' gs gs' h.call.state h.call.wanted
            h.shown
            (tied_put answers meaning ready f here b s ws gs row column code pen h.call.cell t on h.call.means);
        wanted_length = ap length h.call.wanted ∙ length-set ws _ h.call.cell;
        shown_length = ap length h.shown;
        wanted_past = ap (drop (places here)) h.call.wanted
            ∙ drop-set-lt (places here) ws (number here.size (place_of row column)) h.call.cell below;
        shown_past = ap (drop (places here)) h.shown;
      }
  put_step row column code pen (Err why) t h = record {
    bytes = [];
    pen = 0;
    right = (h.call.enough t.wanted_enough, refl);
    count = refl;
    fits = omega arith;
    output = h.output;
    fed_bytes = ap (λ (x : State P). meaning x.panel) h.call.state;
    tied = retied answers meaning ready f here b b s s' ws ws' gs gs' h.call.state h.call.wanted h.shown t;
    wanted_length = ap length h.call.wanted;
    shown_length = ap length h.shown;
    wanted_past = ap (drop (places here)) h.call.wanted;
    shown_past = ap (drop (places here)) h.shown;
  }

  rest_step : (row column : ℕ) (r : Result ℕ Fault) → Tie
      → RestIn c answers meaning fed ready f A s s' ws ws' gs gs' labels xs ys row column r
      → Steps (Rest row column) r
  rest_step row column (Ok k) t h = record {
    bytes = [];
    pen = 0;
    right = ((h.call.on, h.none_sent), refl);
    count = h.none_sent;
    fits = omega arith;
    output = h.output;
    fed_bytes = ap (λ (x : State P). meaning x.panel) h.call.state;
    tied = retied answers meaning ready f here b (rest_in (place_of row column) b) _ s' ws ws' gs gs' h.call.state
        h.wanted h.shown (tied_rest answers meaning ready f here b s ws gs (place_of row column) t);
    wanted_length = ap length h.wanted;
    shown_length = ap length h.shown;
    wanted_past = ap (drop (places here)) h.wanted;
    shown_past = ap (drop (places here)) h.shown;
  }
  rest_step row column (Err why) t h = record {
    bytes = [];
    pen = 0;
    right = ((h.call.off, h.call.why), refl);
    count = refl;
    fits = omega arith;
    output = h.output;
    fed_bytes = ap (λ (x : State P). meaning x.panel) h.call.state;
    tied = retied answers meaning ready f here b b s s' ws ws' gs gs' h.call.state h.wanted h.shown t;
    wanted_length = ap length h.wanted;
    shown_length = ap length h.shown;
    wanted_past = ap (drop (places here)) h.wanted;
    shown_past = ap (drop (places here)) h.shown;
  }

  -- what a panel faces after a showing
  faced : (r : Result ℕ Fault) (pen n : ℕ) → s' ≡ state_after s s'.panel pen (Ok n)
      → Faces ready here s' (meaning s'.panel) (pictured here.size f ws)
      → meaning s'.panel ≡ of (stands here.size (pictured here.size f ws) (resting s.rest) pen) ready
  faced r pen n state k =
      let i = ap (λ (x : State P). x.left) state in
      let j = k.left in
      let l = k.means in
      let at : k.stand ≡ record { place = s.rest; pen = pen } = cc in cc

  -- nothing strays with a showing
  quietly : (e : Entry) (bs : List ℕ) → strayed e ≡ [] → meaning s'.panel ≡ feeds (fed here) (meaning s.panel) bs
      → meaning s'.panel ≡ feeds (fed here) (meaning s.panel) (bs ++ strayed e)
  quietly e bs quiet h =
      h ∙ ap (feeds (fed here) (meaning s.panel)) (sym (ap (λ (xs : List ℕ). bs ++ xs) quiet ∙ append-nil bs))

  module _ (e : Entry) (quiet : strayed e ≡ []) (q : Showing) (Before : Type 0) (t : Tie) where
    abbrev Shown : Result ℕ Fault → Type 0
    Shown r = ShowIn c answers meaning fed ready f A s s' ws ws' gs gs' labels xs ys q Before r

    accepted_step : (n : ℕ) (drawn clean : Bool) (h : Shown (Ok n))
        → RightBy c here A (length ws) (length gs) labels room b e (Ok n) h.bytes h.pen
        → note here.size e (Ok n) h.pen b ≡ shown_in drawn clean h.pen n b → n ≡ length h.bytes
        → length h.bytes ≤ length xs → AllGood here A (pictured here.size f ws) → drawn ≡ true
        → (clean ≡ true → Before) → Steps e (Ok n)
    accepted_step n drawn clean h right noted count fits good begun before = record {
      bytes = h.bytes;
      pen = h.pen;
      right = right;
      count = count;
      fits = fits;
      output = h.output;
      fed_bytes = quietly e h.bytes quiet h.fed_bytes;
      tied = subst (λ (d : Book). Tied answers meaning ready f here d s' ws' gs') (sym noted)
          (retied answers meaning ready f here b (shown_in drawn clean h.pen n b) _ s' ws ws' _ gs' h.state h.wanted
          h.shown
          (tied_shown answers meaning ready f here b drawn clean n h.pen s s'.panel ws gs t h.fixed
          (good_apt here A (pictured here.size f ws) (pictured_length here.size f ws t.wanted_enough) good) begun
          (λ i. faced (Ok n) h.pen n h.state (h.faces (before i)))));
      wanted_length = ap length h.wanted;
      shown_length = ap length h.shown ∙ copied_length (places here) ws gs t.wanted_enough t.shown_enough;
      wanted_past = ap (drop (places here)) h.wanted;
      shown_past = ap (drop (places here)) h.shown ∙ copied_past (places here) ws gs t.wanted_enough;
    }

    denied_step : (why : Fault) (h : Shown (Err why))
        → RightBy c here A (length ws) (length gs) labels room b e (Err why) h.bytes h.pen
        → note here.size e (Err why) h.pen b ≡ b → h.bytes ≡ [] → Steps e (Err why)
    denied_step why h right noted none = record {
      bytes = h.bytes;
      pen = h.pen;
      right = right;
      count = sym (ap length none);
      fits = let l = ap length none in omega arith;
      output = h.output;
      fed_bytes = quietly e h.bytes quiet h.fed_bytes;
      tied = subst (λ (d : Book). Tied answers meaning ready f here d s' ws' gs') (sym noted)
          (retied answers meaning ready f here b b s s' ws ws' gs gs' h.state h.wanted h.shown t);
      wanted_length = ap length h.wanted;
      shown_length = ap length h.shown;
      wanted_past = ap (drop (places here)) h.wanted;
      shown_past = ap (drop (places here)) h.shown;
    }

  abbrev Came : Entry → Result ℕ Fault → Type 0
  Came e r = Enters c answers meaning fed ready f A s s' ws ws' gs gs' labels xs ys e r

  -- the one answer to a showing, in the words of the book
  only : (q q' : Showing) (pen : ℕ) (r : Result ℕ Fault) (bs : List ℕ) → q ≡ q' → Shows c here A q pen r bs
      → Only c here A (length ws) (length gs) labels room q' pen r bs
  only q q' pen r bs same h =
      subst (λ (x : Showing). Only c here A (length ws) (length gs) labels room x pen r bs) same
      (only_one c here A (length ws) (length gs) labels room q pen r bs h)

  -- what the panel faces by the book, in the words of a refresh
  facing : Tie → is_left s.left ≡ true → b.clean ≡ true
      → Faces ready here s (meaning s.panel) (pictured here.size f gs)
  facing t begun clean = record {
    stand = stand_of s.left;
    left = left_there s.left begun;
    means = t.faces clean
        ∙ (ap (λ (xs : List Glyph). of (stands here.size xs (resting b.owed_rest) b.pen) ready) (sym t.shown)
        ∙ ap (λ (k : Stand). of (stands here.size (pictured here.size f gs) (resting k.place) k.pen) ready)
        (sym t.stand));
    apt = subst (Apt here) (sym t.shown) t.apt;
  }

  step_here : (e : Entry) (r : Result ℕ Fault) → Tie → Came e r → Steps e r
  step_here (Put row column code pen) r t h = put_step row column code pen r t h
  step_here (Rest row column) r t h = rest_step row column r t h
  step_here (Refresh k n) (Ok m) t h =
      let q = refresh_of here f s ws gs (min k labels) (min n (length xs)) in
      let i = min-le_right n (length xs) in
      let j = sent_fits c here A q h.pen (Ok m) h.bytes h.answer in
      accepted_step (Refresh k n) refl q _ t m b.drawn b.clean h
      (only q _ h.pen (Ok m) h.bytes
      (refresh_same answers meaning ready f c A here labels room b s ws gs t k n (length xs) left) h.answer)
      refl h.answer.count (omega arith) h.answer.ready.good (sym t.left ∙ h.answer.ready.begun)
      (facing t h.answer.ready.begun)
  step_here (Refresh k n) (Err why) t h =
      let q = refresh_of here f s ws gs (min k labels) (min n (length xs)) in
      denied_step (Refresh k n) refl q _ t why h
      (only q _ h.pen (Err why) h.bytes
      (refresh_same answers meaning ready f c A here labels room b s ws gs t k n (length xs) left) h.answer)
      refl h.answer.1
  step_here (Redraw k n) (Ok m) t h =
      let q = redraw_of here f s ws gs (min k labels) (min n (length xs)) in
      let i = min-le_right n (length xs) in
      let j = sent_fits c here A q h.pen (Ok m) h.bytes h.answer in
      accepted_step (Redraw k n) refl q ⊤ t m true true h
      (only q _ h.pen (Ok m) h.bytes
      (redraw_same answers meaning ready f c A here labels room b s ws gs t k n (length xs) left) h.answer)
      refl h.answer.count (omega arith) h.answer.ready.good refl (λ _. tt)
  step_here (Redraw k n) (Err why) t h =
      let q = redraw_of here f s ws gs (min k labels) (min n (length xs)) in
      denied_step (Redraw k n) refl q ⊤ t why h
      (only q _ h.pen (Err why) h.bytes
      (redraw_same answers meaning ready f c A here labels room b s ws gs t k n (length xs) left) h.answer)
      refl h.answer.1
  step_here (Stray noise) r t h = record {
    bytes = [];
    pen = 0;
    right = (h.answer, refl);
    count = ap (λ (x : Result ℕ Fault). result_unwrap_or x 0) h.answer;
    fits = omega arith;
    output = h.output;
    fed_bytes = h.call.fed_bytes;
    tied = retied answers meaning ready f here b (stray_in noise.now b) _ s' ws ws' gs gs' h.call.state h.wanted h.shown
        (tied_stray answers meaning ready f here b (fed here) s s'.panel ws gs noise.now t h.call.fixed
        h.call.fed_bytes);
    wanted_length = ap length h.wanted;
    shown_length = ap length h.shown;
    wanted_past = ap (drop (places here)) h.wanted;
    shown_past = ap (drop (places here)) h.shown;
  }

  -- what an entry and its answer make of a log so far
  pub step : (a : Answers) (e : Entry) (r : Result ℕ Fault) → Tied answers meaning ready f a b s ws gs → Came e r
      → Stepped c answers meaning fed ready f A a labels room b s s' ws ws' gs gs' xs ys e r
  step a e r t h = subst (λ (x : Answers). Tied answers meaning ready f x b s ws gs
      → Stepped c answers meaning fed ready f A x labels room b s s' ws ws' gs gs' xs ys e r) t.panel
      (λ u. step_here e r u h) t
