-- One entry more is one line more: what was kept of the entries before it stays, and its line is right by the step of
-- that entry.
use Rattle.std.proofs.Common.{◌≡◌, ◌∙◌, ◌⊎◌, inl, inr, ℕ, ◌+◌, ◌-◌, ◌<◌, ◌≤◌, min, Bool, List, [], ◌∷◌, ◌++◌, Result, append-nil, append_assoc, drop, length, length-append, length-drop, map, take, refl, sym, ap, subst, arith, slice_index_or, slice_set}
use borrow.Rule.Slice.PartMut.{mid_of, post_of, put_mid}
use Rattle.std.specs.Result.{result_unwrap_or}
use Rattle.std.proofs.Math.Seq.{drop-append_seam, take-append_seam}
use Rattle.std.proofs.lemmas.Bool.{cases_order}
use Rattle.std.proofs.lemmas.List.{drop-drop, drop-set-lt, drop_all, map-append, take_all, take_more, take_more_set}
use Rattle.cost.specs.Costs.{Costs}
use Rattle.damage.proofs.Hulls.{hull_of}
use Rattle.damage.specs.Damage.{HullOf}
use Rattle.damage.specs.declared.damage.PutColumns.{PutColumns}
use Rattle.display.specs.declared.cell.Glyph.{Glyph}
use Rattle.faults.specs.declared.fault.Fault.{Fault}
use Rattle.panel.specs.Answers.{Answers}
use Rattle.panel.specs.Meaning.{Meaning, feeds}
use Rattle.panel.proofs.Feeds.{feeds_append}
use Rattle.screen.specs.State.{State}
use Rattle.screen_log.specs.Book.{Book, book, opened}
use Rattle.screen_log.specs.Enter.{Enters}
use Rattle.screen_log.specs.Keep.{Keeps, Tied, columns_in, firsts}
use Rattle.screen_log.specs.Line.{Line, heard_by, sent_by, strayed}
use Rattle.screen_log.specs.Log.{Law}
use Rattle.screen_log.specs.Right.{RightBy}
use Rattle.screen_log.specs.Step.{Keeping, Stepped}
use Rattle.screen_log.specs.declared.entry.Entry.{Entry}
use Rattle.screen_log.specs.declared.entry.Line.{Line as Written}
use Rattle.screen_log.proofs.Histories.{book_more, heard_more, sent_is, sent_more}
use Rattle.screen_log.proofs.Laws.{all_counted, law_more, law_none}
use Rattle.screen_log.proofs.Steps.{step}

-- the bytes of one line more begin behind those of the lines before it
pub firsts_more : (n : ℕ) (ls : List Line) (l : Line)
    → firsts n (ls ++ (l ∷ [])) ≡ firsts n ls ++ ((n + length (sent_by ls)) ∷ [])
firsts_more n [] l =
    let e : n ≡ n + length (sent_by []) = omega arith in
    ap (λ (m : ℕ). let ms : List ℕ = m ∷ [] in ms) e
firsts_more n (k ∷ ls) l =
    let e = length-append k.bytes (sent_by ls) in
    let f : (n + length k.bytes) + length (sent_by ls) ≡ n + length (sent_by (k ∷ ls)) = omega arith in
    ap (λ (ms : List ℕ). n ∷ ms)
    (firsts_more (n + length k.bytes) ls l
    ∙ ap (λ (m : ℕ). firsts (n + length k.bytes) ls ++ (m ∷ [])) f)

drop_next : {X : Type 0} (xs ys : List X) (n : ℕ) → drop n xs ≡ drop n ys → drop (n + 1) xs ≡ drop (n + 1) ys
drop_next xs ys n e = sym (drop-drop 1 n xs) ∙ (ap (λ zs. drop 1 zs) e ∙ drop-drop 1 n ys)

take_least : {X : Type 0} (n : ℕ) (xs : List X) → take (min (length xs) n) xs ≡ take n xs
take_least n xs = by_cases (cases_order (length xs) n)
  where
    past : length xs ≤ n → take (min (length xs) n) xs ≡ take n xs
    past le = take_all (min (length xs) n) xs (omega arith) ∙ sym (take_all n xs le)

    by_cases : (length xs ≡ n) ⊎ ((length xs < n) ⊎ (n < length xs)) → take (min (length xs) n) xs ≡ take n xs
    by_cases (inl e) = past (omega arith)
    by_cases (inr (inl i)) = past (omega arith)
    by_cases (inr (inr i)) = ap (λ (m : ℕ). take m xs) (omega arith)

-- what is written of a list of bytes, behind the first n of them
module _ (sent bs xs : List ℕ) (n : ℕ) (is : n ≡ length sent) (room : n ≤ length xs) where
  abbrev so_far : List ℕ
  so_far = sent ++ drop n xs

  begun_by : take n so_far ≡ sent
  begun_by = ap (λ (m : ℕ). take m so_far) is ∙ take-append_seam sent (drop n xs)

  left_of : drop n so_far ≡ drop n xs
  left_of = ap (λ (m : ℕ). drop m so_far) is ∙ drop-append_seam sent (drop n xs)

  whole : length so_far ≡ length xs
  whole = let d = length-drop n xs in length-append sent (drop n xs) ∙ omega arith

  -- the part that is lent for the next bytes
  rest_lent : mid_of n (length so_far - n) so_far ≡ drop n xs
  rest_lent =
      let d = length-drop n so_far in
      take_all (length so_far - n) (drop n so_far) (omega arith) ∙ left_of

  sent_behind : (zs : List ℕ) → zs ≡ bs ++ drop (length bs) (drop n xs)
      → put_mid n (length so_far - n) so_far zs ≡ (sent ++ bs) ++ drop (n + length bs) xs
  sent_behind zs e =
      let w = whole in
      let d = length-drop n so_far in
      ap (λ (ls : List ℕ). ls ++ (zs ++ post_of n (length so_far - n) so_far)) begun_by
      ∙ (ap (λ (ls : List ℕ). sent ++ (zs ++ ls)) (drop_all (length so_far - n) (drop n so_far) (omega arith))
      ∙ (ap (λ (ls : List ℕ). sent ++ ls) (append-nil zs ∙ (e
      ∙ ap (λ (ls : List ℕ). bs ++ ls) (drop-drop (length bs) n xs)))
      ∙ sym (append_assoc sent bs (drop (n + length bs) xs))))

module _ {P C V Mode : Type 0} (c : Costs V) (answers : P → Answers) (meaning : P → Meaning Mode)
    (fed : Answers → Meaning Mode → ℕ → Meaning Mode) (ready : Mode) (f : C → Glyph) (A : ℕ → ℕ → Bool)
    (panel : P) (ws gs : List C) (labels : ℕ) (xs : List ℕ) (es : List Entry) (ks : List Written) where
  abbrev a : Answers
  a = answers panel

  abbrev Kept : List C → List C → List ℕ → List Written → ℕ → ℕ → State P → Type 0
  Kept vs hs ys ls index first s =
      Keeping c answers meaning fed ready f A panel ws vs gs hs labels xs ys es ks ls index first s

  -- before the first entry
  pub keeping_none : (s : State P) → s.panel ≡ panel
      → Tied answers meaning ready f a (opened a.size) s ws gs → Kept ws gs xs ks 0 0 s
  keeping_none s same t = record {
    log = [];
    count = refl;
    entries = refl;
    answers_are = refl;
    begin = refl;
    other_lines = refl;
    first_is = refl;
    room = omega arith;
    output = refl;
    law = law_none c a A (length ws) (length gs) labels (length xs) (fed a) ready (meaning panel);
    meaning_is = ap meaning same;
    tied = t;
    wanted_length = refl;
    shown_length = refl;
    wanted_past = refl;
    shown_past = refl;
  }

  module _ (s s' : State P) (vs vs' hs hs' : List C) (ys zs : List ℕ) (ls : List Written) (index first : ℕ)
      (e d : Entry) (w : Written) (begins : w.first ≡ first) (k : Kept vs hs ys ls index first s)
      (same : length ls ≡ length ks) (more : index < length es) (line : index < length ks)
      (is : e ≡ slice_index_or es index d) where
    abbrev before : Book
    before = book a.size k.log

    abbrev part : List ℕ
    part = mid_of first (length ys - first) ys

    part_is : part ≡ drop first xs
    part_is =
        ap (λ (l : List ℕ). mid_of first (length l - first) l) k.output
        ∙ rest_lent (sent_by k.log) [] xs first k.first_is k.room

    left : length part ≡ length xs - before.sent
    left =
        let i = sent_is a.size k.log
        (all_counted c a A (length ws) (length gs) labels (length xs) (fed a) ready (meaning panel) k.log
        k.law) in
        let j = k.first_is in
        ap length part_is ∙ (length-drop first xs ∙ omega arith)

    abbrev Step : Type 0
    Step = Stepped c answers meaning fed ready f A a labels (length xs) before s s' vs vs' hs hs' part zs e
        w.answer

    stepped : Enters c answers meaning fed ready f A s s' vs vs' hs hs' labels part zs e w.answer → Step
    stepped h = step c answers meaning fed ready f A labels (length xs) before s s' vs vs' hs hs' part zs left a e
        w.answer k.tied h

    module _ (t : Step) where
      abbrev next : Line
      next = record { entry = e; answer = w.answer; bytes = t.bytes; pen = t.pen }

      abbrev lines : List Line
      lines = k.log ++ (next ∷ [])

      meant_now : meaning s'.panel ≡ feeds (fed a) (meaning panel) (heard_by lines)
      meant_now =
          t.fed_bytes
          ∙ (ap (λ m. feeds (fed a) m (t.bytes ++ strayed e)) k.meaning_is
          ∙ (sym (feeds_append (fed a) (meaning panel) (heard_by k.log) (t.bytes ++ strayed e))
          ∙ ap (feeds (fed a) (meaning panel)) (sym (heard_more k.log next))))

      tied_now : Tied answers meaning ready f a (book a.size lines) s' vs' hs'
      tied_now = subst (λ (x : Book). Tied answers meaning ready f a x s' vs' hs')
          (sym (book_more a.size k.log next)) t.tied

      right_now : RightBy c a A (length ws) (length gs) labels (length xs) before e w.answer t.bytes t.pen
      right_now =
          subst (λ (n : ℕ). RightBy c a A n (length gs) labels (length xs) before e w.answer t.bytes t.pen)
          k.wanted_length
          (subst (λ (n : ℕ). RightBy c a A (length vs) n labels (length xs) before e w.answer t.bytes t.pen)
          k.shown_length t.right)

      law_now : Law c a A (length ws) (length gs) labels (length xs) (fed a) ready (meaning panel) lines
      law_now = law_more c a A (length ws) (length gs) labels (length xs) (fed a) ready (meaning panel)
          k.log k.law next right_now (λ clean. sym meant_now ∙ tied_now.faces clean)

      sent_now : first + result_unwrap_or w.answer 0 ≡ length (sent_by lines)
      sent_now =
          let i = k.first_is in
          let j = t.count in
          sym (ap length (sent_more k.log next) ∙ (length-append (sent_by k.log) t.bytes ∙ omega arith))

      output_now : put_mid first (length ys - first) ys zs
          ≡ sent_by lines ++ drop (first + result_unwrap_or w.answer 0) xs
      output_now =
          ap (λ (l : List ℕ). put_mid first (length l - first) l zs) k.output
          ∙ (sent_behind (sent_by k.log) t.bytes xs first k.first_is k.room zs
          (t.output ∙ ap (λ (l : List ℕ). t.bytes ++ drop (length t.bytes) l) part_is)
          ∙ (ap (λ (l : List ℕ). l ++ drop (first + length t.bytes) xs) (sym (sent_more k.log next))
          ∙ ap (λ (n : ℕ). sent_by lines ++ drop (first + n) xs) (sym t.count)))

      -- what is told of the line written is told behind what is told of those before it
      told_now : {X : Type 0} (h : Written → X) → map h (take (index + 1) (slice_set ls index w))
          ≡ map h (take index ls) ++ (h w ∷ [])
      told_now h =
          ap (map h) (take_more_set ls index w (omega arith))
          ∙ map-append h (take index ls) (w ∷ [])

      begin_now : firsts 0 lines ≡ firsts 0 k.log ++ (first ∷ [])
      begin_now =
          let e : 0 + length (sent_by k.log) ≡ first = let i = k.first_is in omega arith in
          firsts_more 0 k.log next ∙ ap (λ (n : ℕ). firsts 0 k.log ++ (n ∷ [])) e

      keeping_next : Kept vs' hs' (put_mid first (length ys - first) ys zs)
          (slice_set ls index w) (index + 1) (first + result_unwrap_or w.answer 0) s'
      keeping_next = record {
        log = lines;
        count = let i = k.count in length-append k.log (next ∷ []) ∙ omega arith;
        entries = map-append (λ l. l.entry) k.log (next ∷ [])
            ∙ (ap (λ (l : List Entry). l ++ (e ∷ [])) k.entries
            ∙ (ap (λ (x : Entry). take index es ++ (x ∷ [])) is ∙ sym (take_more es index d more)));
        answers_are = map-append (λ l. l.answer) k.log (next ∷ [])
            ∙ (ap (λ (l : List (Result ℕ Fault)). l ++ (w.answer ∷ [])) k.answers_are ∙ sym (told_now (λ l. l.answer)));
        begin = begin_now ∙ (ap (λ (l : List ℕ). l ++ (first ∷ [])) k.begin
            ∙ (ap (λ (n : ℕ). map (λ l. l.first) (take index ls) ++ (n ∷ [])) (sym begins)
            ∙ sym (told_now (λ l. l.first))));
        other_lines = drop-set-lt (index + 1) ls index w (omega arith)
            ∙ drop_next ls ks index k.other_lines;
        first_is = sent_now;
        room =
            let i = t.fits in
            let j = ap length part_is in
            let m = length-drop first xs in
            let n = t.count in
            let o = k.room in omega arith;
        output = output_now;
        law = law_now;
        meaning_is = meant_now;
        tied = tied_now;
        wanted_length = t.wanted_length ∙ k.wanted_length;
        shown_length = t.shown_length ∙ k.shown_length;
        wanted_past = t.wanted_past ∙ k.wanted_past;
        shown_past = t.shown_past ∙ k.shown_past;
      }

    -- an entry more, which sends n bytes
    pub keeping_more : (n at_hand : ℕ) → n ≡ result_unwrap_or w.answer 0 → at_hand ≡ labels
        → Enters c answers meaning fed ready f A s s' vs vs' hs hs' at_hand part zs e w.answer
        → Kept vs' hs' (put_mid first (length ys - first) ys zs) (slice_set ls index w) (index + 1) (first + n) s'
    keeping_more n at_hand count lent h =
        subst (λ (m : ℕ). Kept vs' hs' (put_mid first (length ys - first) ys zs) (slice_set ls index w) (index + 1)
        (first + m) s') (sym count)
        (keeping_next (stepped
        (subst (λ (m : ℕ). Enters c answers meaning fed ready f A s s' vs vs' hs hs' m part zs e w.answer) lent h)))

  -- after the last entry
  pub keeping_all : (s : State P) (vs hs : List C) (ys : List ℕ) (ls : List Written) (index first : ℕ)
      → index ≡ min (length es) (length ks) → Kept vs hs ys ls index first s
      → Keeps c answers meaning fed ready f A panel ws vs gs hs labels xs ys es ks ls s
  keeping_all s vs hs ys ls index first end k = record {
    log = k.log;
    entries = k.entries ∙ (ap (λ (n : ℕ). take n es) end ∙ take_least (length ks) es);
    answers_are = k.answers_are ∙ ap (λ (n : ℕ). map (λ l. l.answer) (take n ls)) (sym k.count);
    begin = k.begin ∙ ap (λ (n : ℕ). map (λ l. l.first) (take n ls)) (sym k.count);
    other_lines = subst (λ (n : ℕ). drop n ls ≡ drop n ks) (sym k.count) k.other_lines;
    output = k.output ∙ ap (λ (n : ℕ). sent_by k.log ++ drop n xs) k.first_is;
    law = k.law;
    meaning_is = k.meaning_is;
    tied = k.tied;
    spans = λ r below. subst (λ (p : PutColumns). HullOf (columns_in r (book a.size k.log).put) p)
        (sym (k.tied.spans r (let most = a.size.rows_most in omega arith)))
        (hull_of (columns_in r (book a.size k.log).put));
    wanted_past = k.wanted_past;
    shown_past = k.shown_past;
  }
