-- What a log says is asked for and owed, from the entries and the answers alone.
--     Book            the picture and the rest place that are asked for; those that are owed: what was asked for at the
--                     latest accepted showing; the pen that is set where its plan ended; whether a redraw was accepted,
--                     and whether one was with no byte strayed since; how many bytes were sent; and the places put
--                     since the latest accepted showing
--     opened z        the book at the opening of a screen of size z
--     noted z b l     the book b with the line l. What is denied changes nothing
--     book z ls       the book after the lines ls
use Rattle.std.specs.Prelude.{ℕ, ◌+◌, Bool, true, false, ◌&&◌, List, [], ◌∷◌, ◌++◌, Result, Ok, Err, fold, slice_set}
use Rattle.display.specs.Cell.{glyph_of}
use Rattle.display.specs.Place.{number}
use Rattle.display.specs.Surface.{blanks, place_of}
use Rattle.display.specs.declared.cell.Glyph.{Glyph}
use Rattle.display.specs.declared.place.Place.{Place}
use Rattle.display.specs.declared.size.Size.{Size}
use Rattle.faults.specs.declared.fault.Fault.{Fault}
use Rattle.screen_log.specs.Line.{Line}
use Rattle.screen_log.specs.declared.entry.Entry.{Entry}
use Rattle.screen_log.specs.declared.entry.Entry.TheVariants.{Put, Rest, Refresh, Redraw, Stray}

pub record Book : Type 0 where
  pub asked : List Glyph
  pub rest : Place
  pub owed : List Glyph
  pub owed_rest : Place
  pub pen : ℕ
  pub drawn : Bool
  pub clean : Bool
  pub sent : ℕ
  pub put : List Place

abbrev pub opened : Size → Book
opened z = record {
  asked = blanks z;
  rest = place_of 0 0;
  owed = blanks z;
  owed_rest = place_of 0 0;
  pen = 0;
  drawn = false;
  clean = false;
  sent = 0;
  put = [];
}

abbrev pub put_in : Size → Place → Glyph → Book → Book
put_in z p g b = record {
  asked = slice_set b.asked (number z p) g;
  rest = b.rest;
  owed = b.owed;
  owed_rest = b.owed_rest;
  pen = b.pen;
  drawn = b.drawn;
  clean = b.clean;
  sent = b.sent;
  put = b.put ++ (p ∷ []);
}

abbrev pub rest_in : Place → Book → Book
rest_in p b = record {
  asked = b.asked;
  rest = p;
  owed = b.owed;
  owed_rest = b.owed_rest;
  pen = b.pen;
  drawn = b.drawn;
  clean = b.clean;
  sent = b.sent;
  put = b.put;
}

-- what is asked for is owed from now on
abbrev pub shown_in : Bool → Bool → ℕ → ℕ → Book → Book
shown_in drawn clean e n b = record {
  asked = b.asked;
  rest = b.rest;
  owed = b.asked;
  owed_rest = b.rest;
  pen = e;
  drawn = drawn;
  clean = clean;
  sent = b.sent + n;
  put = [];
}

abbrev pub nothing : List ℕ → Bool
nothing [] = true
nothing (x ∷ xs) = false

abbrev pub stray_in : List ℕ → Book → Book
stray_in bs b = record {
  asked = b.asked;
  rest = b.rest;
  owed = b.owed;
  owed_rest = b.owed_rest;
  pen = b.pen;
  drawn = b.drawn;
  clean = b.clean && nothing bs;
  sent = b.sent;
  put = b.put;
}

abbrev pub note : Size → Entry → Result ℕ Fault → ℕ → Book → Book
note z (Put r c n p) (Ok k) e b = put_in z (place_of r c) (glyph_of n p) b
note z (Put r c n p) (Err why) e b = b
note z (Rest r c) (Ok k) e b = rest_in (place_of r c) b
note z (Rest r c) (Err why) e b = b
note z (Refresh l m) (Ok k) e b = shown_in b.drawn b.clean e k b
note z (Refresh l m) (Err why) e b = b
note z (Redraw l m) (Ok k) e b = shown_in true true e k b
note z (Redraw l m) (Err why) e b = b
note z (Stray bs) r e b = stray_in bs.now b

abbrev pub noted : Size → Book → Line → Book
noted z b l = note z l.entry l.answer l.pen b

abbrev pub book : Size → List Line → Book
book z ls = fold (noted z) (opened z) ls
