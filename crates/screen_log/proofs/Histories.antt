-- The book of a list of lines says what the lines say: each line changes both in the same way; told by going through
-- the lines.
use Rattle.std.proofs.Common.{◌≡◌, ◌∙◌, ℕ, ◌+◌, ◌*◌, ◌/◌, ◌%◌, Bool, true, false, cond, not, ◌&&◌, ◌==◌, List, [], ◌∷◌, ◌++◌, Result, Ok, Err, Some, None, Option, flat_map, fold, length, nat_lt, slice_index_or, slice_set, refl, sym, ap, subst, arith}
use Rattle.std.specs.List.{AllByRecursion}
use Rattle.std.proofs.lemmas.Bool.Decides.{nat_tests}
use Rattle.std.proofs.lemmas.List.{append-nil, get_or-replicate, get_or-set_other, get_or-set_same, length-append, length-replicate, length-set}
use Rattle.std.proofs.lemmas.List.Concat.{flat_map-append}
use Rattle.std.proofs.lemmas.List.Sums.{fold-append, fold_push}
use Rattle.std.proofs.lemmas.Nat.{div-mul-add, mod-mul-add}
use Rattle.cost.specs.Costs.{Costs}
use Rattle.display.specs.Cell.{blank, glyph_of}
use Rattle.display.specs.Place.{On, number}
use Rattle.display.specs.Surface.{place_of, resting}
use Rattle.display.specs.declared.cell.Glyph.{Glyph}
use Rattle.display.specs.declared.place.Place.{Place}
use Rattle.display.specs.declared.size.Size.{Size}
use Rattle.display.proofs.Places.{number_below}
use Rattle.faults.specs.Causes.{is_on, put_cause}
use Rattle.faults.specs.Told.{Told}
use Rattle.faults.specs.declared.fault.Fault.{Fault}
use Rattle.panel.specs.Answers.{Answers}
use Rattle.panel.specs.Meaning.{Meaning, of}
use Rattle.plan.specs.Drawn.{stands}
use Rattle.screen.specs.Showing.{Showing, Shows}
use Rattle.screen_log.specs.Book.{Book, book, note, noted, nothing, opened}
use Rattle.screen_log.specs.History.{Displays, Latest, PutOn, PutOnBy, Trusted, cell_after, last_cell, last_rest, rest_after}
use Rattle.screen_log.specs.Line.{Line, accepted, heard, heard_by, is_showing, redraws, sent_by, shows, strayed}
use Rattle.screen_log.specs.Right.{Right, RightBy, redraw_for, refresh_for}
use Rattle.screen_log.specs.declared.entry.Entry.{Entry}
use Rattle.screen_log.specs.declared.entry.Entry.TheVariants.{Put, Rest, Refresh, Redraw, Stray}
use Rattle.screen_log.proofs.Splits.{all_front}

-- what a list of lines says, and what it says with one line more
pub book_more : (z : Size) (ls : List Line) (l : Line) → book z (ls ++ (l ∷ [])) ≡ noted z (book z ls) l
book_more z ls l = fold_push (noted z) (opened z) ls l

flat_more : (f : Line → List ℕ) (ls : List Line) (l : Line) → flat_map f (ls ++ (l ∷ [])) ≡ flat_map f ls ++ f l
flat_more f ls l = flat_map-append f ls (l ∷ []) ∙ ap (λ (bs : List ℕ). flat_map f ls ++ bs) (append-nil (f l))

pub sent_more : (ls : List Line) (l : Line) → sent_by (ls ++ (l ∷ [])) ≡ sent_by ls ++ l.bytes
sent_more ls l = flat_more (λ (k : Line). k.bytes) ls l

pub heard_more : (ls : List Line) (l : Line) → heard_by (ls ++ (l ∷ [])) ≡ heard_by ls ++ heard l
heard_more ls l = flat_more heard ls l

record Same (p q : Place) : Type 0 where
  row : p.row ≡ q.row
  column : p.column ≡ q.column

-- places on a panel with one number are one
same_number : (z : Size) (p q : Place) → On z p → On z q → number z p ≡ number z q → Same p q
same_number z p q on on' e = record {
  row = sym (div-mul-add p.row z.columns p.column on.column)
      ∙ (ap (λ (n : ℕ). n / z.columns) e ∙ div-mul-add q.row z.columns q.column on'.column);
  column = sym (mod-mul-add p.row z.columns p.column on.column)
      ∙ (ap (λ (n : ℕ). n % z.columns) e ∙ mod-mul-add q.row z.columns q.column on'.column);
}

-- an accepted showing answers how many bytes it sent, and no other line sends any
abbrev pub ShownCounted : Result ℕ Fault → List ℕ → Type 0
ShownCounted (Ok k) bs = k ≡ length bs
ShownCounted (Err why) bs = bs ≡ []

abbrev pub CountedBy : Entry → Result ℕ Fault → List ℕ → Type 0
CountedBy (Put r c n q) a bs = bs ≡ []
CountedBy (Rest r c) a bs = bs ≡ []
CountedBy (Refresh l m) a bs = ShownCounted a bs
CountedBy (Redraw l m) a bs = ShownCounted a bs
CountedBy (Stray noise) a bs = bs ≡ []

abbrev pub Counted : Line → Type 0
Counted l = CountedBy l.entry l.answer l.bytes

none_sent : (b : Book) (bs : List ℕ) → bs ≡ [] → b.sent ≡ b.sent + length bs
none_sent b bs h = let e = ap (λ (cs : List ℕ). length cs) h in omega arith

both : (b c : Bool) → b && c ≡ true → (b ≡ true) × (c ≡ true)
both true c e = (refl, e)
both false c e = absurd cc

-- the test for one place
same_place : (p q : Place) → Same p q → p.row == q.row && p.column == q.column ≡ true
same_place p q h = let r = h.row in let c = h.column in grind (arith, nat_tests)

place_same : (p q : Place) → p.row == q.row && p.column == q.column ≡ true → Same p q
place_same p q e =
    let b = both (p.row == q.row) (p.column == q.column) e in
    record { row = grind (arith, nat_tests, b.0); column = grind (arith, nat_tests, b.1) }

module _ (z : Size) where
  -- a cell is changed where it is put, and nowhere else
  put_at : (gs : List Glyph) (q p : Place) (x g : Glyph) → length gs ≡ z.rows * z.columns → On z q → On z p
      → slice_index_or gs (number z p) blank ≡ g
      → slice_index_or (slice_set gs (number z q) x) (number z p) blank
      ≡ cond (q.row == p.row && q.column == p.column) x g
  put_at gs q p x g len at on h = by_cases (q.row == p.row && q.column == p.column) refl
    where
      by_cases : (t : Bool) → q.row == p.row && q.column == p.column ≡ t
          → slice_index_or (slice_set gs (number z q) x) (number z p) blank ≡ cond t x g
      by_cases true e =
          let s = place_same q p e in
          let r = s.row in
          let c = s.column in
          let one : number z q ≡ number z p = cc in
          let below = number_below z p on in
          subst (λ (n : ℕ). slice_index_or (slice_set gs n x) (number z p) blank ≡ x) (sym one)
          (get_or-set_same gs (number z p) x blank (omega arith))
      by_cases false e =
          get_or-set_other gs (number z q) (number z p) x blank
          (λ one. let t = same_place q p (same_number z q p at on (sym one)) in cc)
          ∙ h

  asked_length_by : (e : Entry) (a : Result ℕ Fault) (n : ℕ) (b : Book)
      → length (note z e a n b).asked ≡ length b.asked
  asked_length_by (Put r c n q) (Ok k) m b = length-set b.asked _ _
  asked_length_by (Put r c n q) (Err why) m b = refl
  asked_length_by (Rest r c) (Ok k) m b = refl
  asked_length_by (Rest r c) (Err why) m b = refl
  asked_length_by (Refresh l m) (Ok k) n b = refl
  asked_length_by (Refresh l m) (Err why) n b = refl
  asked_length_by (Redraw l m) (Ok k) n b = refl
  asked_length_by (Redraw l m) (Err why) n b = refl
  asked_length_by (Stray bs) a n b = refl

  owed_length_by : (e : Entry) (a : Result ℕ Fault) (n k : ℕ) (b : Book) → length b.asked ≡ k → length b.owed ≡ k
      → length (note z e a n b).owed ≡ k
  owed_length_by (Put r c n q) (Ok i) m k b h o = o
  owed_length_by (Put r c n q) (Err why) m k b h o = o
  owed_length_by (Rest r c) (Ok i) m k b h o = o
  owed_length_by (Rest r c) (Err why) m k b h o = o
  owed_length_by (Refresh l m) (Ok i) n k b h o = h
  owed_length_by (Refresh l m) (Err why) n k b h o = o
  owed_length_by (Redraw l m) (Ok i) n k b h o = h
  owed_length_by (Redraw l m) (Err why) n k b h o = o
  owed_length_by (Stray bs) a n k b h o = o

  asked_length_from : (b : Book) (ls : List Line) (k : ℕ) → length b.asked ≡ k
      → length (fold (noted z) b ls).asked ≡ k
  asked_length_from b [] k h = h
  asked_length_from b (l ∷ ls) k h =
      asked_length_from (noted z b l) ls k (asked_length_by l.entry l.answer l.pen b ∙ h)

  owed_length_from : (b : Book) (ls : List Line) (k : ℕ) → length b.asked ≡ k → length b.owed ≡ k
      → length (fold (noted z) b ls).owed ≡ k
  owed_length_from b [] k h o = o
  owed_length_from b (l ∷ ls) k h o =
      owed_length_from (noted z b l) ls k (asked_length_by l.entry l.answer l.pen b ∙ h)
      (owed_length_by l.entry l.answer l.pen k b h o)

  pub asked_length : (ls : List Line) → length (book z ls).asked ≡ z.rows * z.columns
  asked_length ls = asked_length_from (opened z) ls _ (length-replicate (z.rows * z.columns) blank)

  pub owed_length : (ls : List Line) → length (book z ls).owed ≡ z.rows * z.columns
  owed_length ls = owed_length_from (opened z) ls _ (length-replicate (z.rows * z.columns) blank)
      (length-replicate (z.rows * z.columns) blank)

  module _ (p : Place) (on : On z p) where
    cell_by : (e : Entry) (a : Result ℕ Fault) (n : ℕ) (b : Book) (g : Glyph)
        → length b.asked ≡ z.rows * z.columns → PutOnBy z e a → slice_index_or b.asked (number z p) blank ≡ g
        → slice_index_or (note z e a n b).asked (number z p) blank ≡ cell_after p e a g
    cell_by (Put r c n q) (Ok k) m b g len at h = put_at b.asked (place_of r c) p (glyph_of n q) g len at on h
    cell_by (Put r c n q) (Err why) m b g len at h = h
    cell_by (Rest r c) (Ok k) m b g len at h = h
    cell_by (Rest r c) (Err why) m b g len at h = h
    cell_by (Refresh l m) (Ok k) n b g len at h = h
    cell_by (Refresh l m) (Err why) n b g len at h = h
    cell_by (Redraw l m) (Ok k) n b g len at h = h
    cell_by (Redraw l m) (Err why) n b g len at h = h
    cell_by (Stray bs) a n b g len at h = h

    cell_from : (ls : List Line) (b : Book) (g : Glyph) → length b.asked ≡ z.rows * z.columns
        → AllByRecursion (PutOn z) ls → slice_index_or b.asked (number z p) blank ≡ g
        → slice_index_or (fold (noted z) b ls).asked (number z p) blank
        ≡ fold (λ h l. cell_after p l.entry l.answer h) g ls
    cell_from [] b g len on_all h = h
    cell_from (l ∷ ls) b g len on_all h =
        cell_from ls (noted z b l) (cell_after p l.entry l.answer g)
        (asked_length_by l.entry l.answer l.pen b ∙ len) on_all.1
        (cell_by l.entry l.answer l.pen b g len on_all.0 h)

  -- what is asked for at a place is the cell last accepted there
  pub asked_last : (ls : List Line) → AllByRecursion (PutOn z) ls → (p : Place) → On z p
      → slice_index_or (book z ls).asked (number z p) blank ≡ last_cell p ls
  asked_last ls on_all p on =
      cell_from p on ls (opened z) blank (length-replicate (z.rows * z.columns) blank) on_all
      (get_or-replicate (z.rows * z.columns) (number z p) blank blank (number_below z p on))

  rest_by : (e : Entry) (a : Result ℕ Fault) (n : ℕ) (b : Book) → (note z e a n b).rest ≡ rest_after e a b.rest
  rest_by (Put r c n q) (Ok k) m b = refl
  rest_by (Put r c n q) (Err why) m b = refl
  rest_by (Rest r c) (Ok k) m b = refl
  rest_by (Rest r c) (Err why) m b = refl
  rest_by (Refresh l m) (Ok k) n b = refl
  rest_by (Refresh l m) (Err why) n b = refl
  rest_by (Redraw l m) (Ok k) n b = refl
  rest_by (Redraw l m) (Err why) n b = refl
  rest_by (Stray bs) a n b = refl

  rest_from : (ls : List Line) (b : Book) (p : Place) → b.rest ≡ p
      → (fold (noted z) b ls).rest ≡ fold (λ q l. rest_after l.entry l.answer q) p ls
  rest_from [] b p h = h
  rest_from (l ∷ ls) b p h =
      rest_from ls (noted z b l) (rest_after l.entry l.answer p)
      (rest_by l.entry l.answer l.pen b ∙ ap (rest_after l.entry l.answer) h)

  pub rest_last : (ls : List Line) → (book z ls).rest ≡ last_rest ls
  rest_last ls = rest_from ls (opened z) (place_of 0 0) refl

  -- what a book says is owed
  record Owes (b : Book) (gs : List Glyph) (p : Place) : Type 0 where
    cells : b.owed ≡ gs
    rest : b.owed_rest ≡ p

  shown_by : (e : Entry) (a : Result ℕ Fault) (n : ℕ) (b : Book) → shows e && accepted a ≡ true
      → Owes (note z e a n b) b.asked b.rest
  shown_by (Put r c n q) a m b h = absurd cc
  shown_by (Rest r c) a m b h = absurd cc
  shown_by (Refresh l m) (Ok k) n b h = record { cells = refl; rest = refl }
  shown_by (Refresh l m) (Err why) n b h = absurd cc
  shown_by (Redraw l m) (Ok k) n b h = record { cells = refl; rest = refl }
  shown_by (Redraw l m) (Err why) n b h = absurd cc
  shown_by (Stray bs) a n b h = absurd cc

  unshown_by : (e : Entry) (a : Result ℕ Fault) (n : ℕ) (b : Book) → shows e && accepted a ≡ false
      → Owes (note z e a n b) b.owed b.owed_rest
  unshown_by (Put r c n q) (Ok k) m b h = record { cells = refl; rest = refl }
  unshown_by (Put r c n q) (Err why) m b h = record { cells = refl; rest = refl }
  unshown_by (Rest r c) (Ok k) m b h = record { cells = refl; rest = refl }
  unshown_by (Rest r c) (Err why) m b h = record { cells = refl; rest = refl }
  unshown_by (Refresh l m) (Ok k) n b h = absurd cc
  unshown_by (Refresh l m) (Err why) n b h = record { cells = refl; rest = refl }
  unshown_by (Redraw l m) (Ok k) n b h = absurd cc
  unshown_by (Redraw l m) (Err why) n b h = record { cells = refl; rest = refl }
  unshown_by (Stray bs) a n b h = record { cells = refl; rest = refl }

  unshown_from : (ls : List Line) (b : Book) (gs : List Glyph) (p : Place)
      → AllByRecursion (λ l. is_showing l ≡ false) ls → Owes b gs p → Owes (fold (noted z) b ls) gs p
  unshown_from [] b gs p h o = o
  unshown_from (l ∷ ls) b gs p h o =
      let s = unshown_by l.entry l.answer l.pen b h.0 in
      unshown_from ls (noted z b l) gs p h.1 (record { cells = s.cells ∙ o.cells; rest = s.rest ∙ o.rest })

  -- the book goes on from that of the lines before
  book_on : (ls before after : List Line) (l : Line) → ls ≡ before ++ (l ∷ after)
      → book z ls ≡ fold (noted z) (noted z (book z before) l) after
  book_on ls before after l e =
      ap (book z) e ∙ fold-append (noted z) (opened z) before (l ∷ after)

  -- what is owed is what was asked for at the latest accepted showing
  pub owed_latest : (ls seen : List Line) → Latest ls seen
      → ((book z ls).owed ≡ (book z seen).asked) × ((book z ls).owed_rest ≡ (book z seen).rest)
  owed_latest ls seen h =
      let o = unshown_from h.since (noted z (book z seen) h.showing) (book z seen).asked (book z seen).rest h.latest
      (shown_by h.showing.entry h.showing.answer h.showing.pen (book z seen) h.accepted) in
      let e = book_on ls seen h.since h.showing h.are in (
        ap (λ (b : Book). b.owed) e ∙ o.cells,
        ap (λ (b : Book). b.owed_rest) e ∙ o.rest,
      )

  redrawn_by : (e : Entry) (a : Result ℕ Fault) (n : ℕ) (b : Book) → redraws e && accepted a ≡ true
      → (note z e a n b).clean ≡ true
  redrawn_by (Put r c n q) a m b h = absurd cc
  redrawn_by (Rest r c) a m b h = absurd cc
  redrawn_by (Refresh l m) a n b h = absurd cc
  redrawn_by (Redraw l m) (Ok k) n b h = refl
  redrawn_by (Redraw l m) (Err why) n b h = absurd cc
  redrawn_by (Stray bs) a n b h = absurd cc

  quiet_by : (e : Entry) (a : Result ℕ Fault) (n : ℕ) (b : Book) → strayed e ≡ [] → b.clean ≡ true
      → (note z e a n b).clean ≡ true
  quiet_by (Put r c n q) (Ok k) m b q' h = h
  quiet_by (Put r c n q) (Err why) m b q' h = h
  quiet_by (Rest r c) (Ok k) m b q' h = h
  quiet_by (Rest r c) (Err why) m b q' h = h
  quiet_by (Refresh l m) (Ok k) n b q' h = h
  quiet_by (Refresh l m) (Err why) n b q' h = h
  quiet_by (Redraw l m) (Ok k) n b q' h = refl
  quiet_by (Redraw l m) (Err why) n b q' h = h
  quiet_by (Stray bs) a n b q' h =
      ap (λ (t : Bool). t && nothing bs.now) h ∙ ap nothing q'

  quiet_from : (ls : List Line) (b : Book) → AllByRecursion (λ l. strayed l.entry ≡ []) ls → b.clean ≡ true
      → (fold (noted z) b ls).clean ≡ true
  quiet_from [] b q h = h
  quiet_from (l ∷ ls) b q h = quiet_from ls (noted z b l) q.1 (quiet_by l.entry l.answer l.pen b q.0 h)

  -- where a redraw was accepted and no byte has strayed since, the book says that it is clean
  pub clean_trusted : (ls : List Line) → Trusted ls → (book z ls).clean ≡ true
  clean_trusted ls h =
      ap (λ (b : Book). b.clean) (book_on ls h.before h.since h.redraw h.are)
      ∙ quiet_from h.since (noted z (book z h.before) h.redraw) h.quiet
      (redrawn_by h.redraw.entry h.redraw.answer h.redraw.pen (book z h.before) h.accepted)

  -- a panel that shows what is owed displays what was accepted before the latest accepted showing
  pub displays_owed : {Mode : Type 0} (ready : Mode) (m : Meaning Mode) (e : ℕ) (ls seen : List Line)
      → AllByRecursion (PutOn z) ls → Latest ls seen
      → m ≡ of (stands z (book z ls).owed (resting (book z ls).owed_rest) e) ready → Displays ready z seen m
  displays_owed {Mode} ready m e ls seen on_all latest is =
      let owed = owed_latest ls seen latest in
      let front = all_front (PutOn z) seen (latest.showing ∷ latest.since)
      (subst (λ (ks : List Line). AllByRecursion (PutOn z) ks) latest.are on_all) in
      record {
        cells = λ p on.
            ap (λ (n : Meaning Mode). slice_index_or n.surface.picture (number z p) blank) is
            ∙ (ap (λ (gs : List Glyph). slice_index_or gs (number z p) blank) owed.0 ∙ asked_last seen front p on);
        cursor = ap (λ (n : Meaning Mode). n.surface.cursor) is ∙ ap resting (owed.1 ∙ rest_last seen);
        is_ready = ap (λ (n : Meaning Mode). n.mode) is;
      }

  sent_by_line : (e : Entry) (a : Result ℕ Fault) (n : ℕ) (b : Book) (bs : List ℕ) → CountedBy e a bs
      → (note z e a n b).sent ≡ b.sent + length bs
  sent_by_line (Put r c n q) (Ok k) m b bs h = none_sent b bs h
  sent_by_line (Put r c n q) (Err why) m b bs h = none_sent b bs h
  sent_by_line (Rest r c) (Ok k) m b bs h = none_sent b bs h
  sent_by_line (Rest r c) (Err why) m b bs h = none_sent b bs h
  sent_by_line (Refresh l m) (Ok k) n b bs h = ap (λ (i : ℕ). b.sent + i) h
  sent_by_line (Refresh l m) (Err why) n b bs h = none_sent b bs h
  sent_by_line (Redraw l m) (Ok k) n b bs h = ap (λ (i : ℕ). b.sent + i) h
  sent_by_line (Redraw l m) (Err why) n b bs h = none_sent b bs h
  sent_by_line (Stray noise) a n b bs h = none_sent b bs h

  sent_from : (ls : List Line) (b : Book) → AllByRecursion Counted ls
      → (fold (noted z) b ls).sent ≡ b.sent + length (sent_by ls)
  sent_from [] b h = omega arith
  sent_from (l ∷ ls) b h =
      let now = sent_by_line l.entry l.answer l.pen b l.bytes h.0 in
      let later = sent_from ls (noted z b l) h.1 in
      omega (arith, length-append l.bytes (sent_by ls))

  -- as many bytes are sent as the book says
  pub sent_is : (ls : List Line) → AllByRecursion Counted ls → (book z ls).sent ≡ length (sent_by ls)
  sent_is ls h = let e = sent_from ls (opened z) h in omega arith

-- where nothing is told, what would be told first is not the case
first_not : (b : Bool) (t : Told) (o : Option Told) → cond (not b) (Some t) o ≡ None → b ≡ true
first_not true t o h = refl
first_not false t o h = absurd cc

module _ {V : Type 0} (c : Costs V) (a : Answers) (A : ℕ → ℕ → Bool) (cells_wanted cells_shown labels room : ℕ) where
  -- a cell is put on the panel only
  on_put : (row column code pen : ℕ) → put_cause a A row column code pen ≡ None → On a.size (place_of row column)
  on_put row column code pen h =
      let b = both (nat_lt row a.size.rows) (nat_lt column a.size.columns)
      (first_not (is_on a.size row column) _ _ h) in
      record { row = grind (arith, nat_tests, b.0); column = grind (arith, nat_tests, b.1) }

  put_on_by : (b : Book) (e : Entry) (r : Result ℕ Fault) (bs : List ℕ) (n : ℕ)
      → RightBy c a A cells_wanted cells_shown labels room b e r bs n → PutOnBy a.size e r
  put_on_by b (Put row column code pen) (Ok k) bs n h = on_put row column code pen h.0.0
  put_on_by b (Put row column code pen) (Err why) bs n h = tt
  put_on_by b (Rest row column) r bs n h = tt
  put_on_by b (Refresh l m) r bs n h = tt
  put_on_by b (Redraw l m) r bs n h = tt
  put_on_by b (Stray noise) r bs n h = tt

  -- a line that is right is put on the panel
  pub put_on_right : (b : Book) (l : Line) → Right c a A cells_wanted cells_shown labels room b l → PutOn a.size l
  put_on_right b l h = put_on_by b l.entry l.answer l.bytes l.pen h

  shown_counted : (s : Showing) (e : ℕ) (r : Result ℕ Fault) (bs : List ℕ) → Shows c a A s e r bs → ShownCounted r bs
  shown_counted s e (Ok k) bs h = h.count
  shown_counted s e (Err why) bs h = h.1

  counted_by : (b : Book) (e : Entry) (r : Result ℕ Fault) (bs : List ℕ) (n : ℕ)
      → RightBy c a A cells_wanted cells_shown labels room b e r bs n → CountedBy e r bs
  counted_by b (Put row column code pen) r bs n h = h.1
  counted_by b (Rest row column) r bs n h = h.1
  counted_by b (Refresh l m) r bs n h =
      shown_counted (refresh_for c a A cells_wanted cells_shown labels room b l m) n r bs h.is
  counted_by b (Redraw l m) r bs n h =
      shown_counted (redraw_for c a A cells_wanted cells_shown labels room b l m) n r bs h.is
  counted_by b (Stray noise) r bs n h = h.1

  -- and tells how many bytes it sent
  pub counted_right : (b : Book) (l : Line) → Right c a A cells_wanted cells_shown labels room b l → Counted l
  counted_right b l h = counted_by b l.entry l.answer l.bytes l.pen h
