-- A showing that is accepted: the bytes that are fed are those of the plan, and they lie first in the output.
use Rattle.std.proofs.Common.{◌≡◌, ◌∙◌, ℕ, Bool, List, ◌++◌, Ok, drop, length, take, refl, subst, ◌≤◌, sym, ap, slice_index_or}
use Rattle.std.proofs.Math.Seq.{take-append_seam}
use Rattle.cost.specs.Costs.{Costs}
use Rattle.display.specs.Cell.{blank}
use Rattle.display.specs.Surface.{resting}
use Rattle.display.specs.declared.cell.Glyph.{Glyph}
use Rattle.labels.specs.declared.label.Label.{Label}
use Rattle.panel.specs.Answers.{Answers}
use Rattle.panel.specs.Meaning.{Meaning, feeds}
use Rattle.plan.specs.declared.stand.Stand.{Stand}
use Rattle.plan.proofs.Blanks.{plan_same}
use Rattle.planning.specs.Planned.{Planned, pictured}
use Rattle.planning.specs.declared.walk.Sent.{Sent}
use Rattle.screen.specs.Accepting.{Accepts}
use Rattle.screen.specs.Calls.{Outcome}
use Rattle.screen.specs.Showing.{Ready}
use Rattle.screen.specs.State.{State}
use Rattle.screen.proofs.Refused.{asked}

written : (n : ℕ) (bs xs ys : List ℕ) → n ≡ length bs → ys ≡ bs ++ drop n xs → take n ys ≡ bs
written n bs xs ys e f = ap (take n) f ∙ (ap (λ (m : ℕ). take m (bs ++ drop n xs)) e ∙ take-append_seam bs (drop n xs))

module _ {P C K V Mode : Type 0} (c : Costs V) (answers : P → Answers) (meaning : P → Meaning Mode)
    (fed : Answers → Meaning Mode → ℕ → Meaning Mode) (A : ℕ → ℕ → Bool) (f : C → Glyph) (st : State P)
    (ws gs : List C) (ls : List (Label K)) (xs : List ℕ) (head : List ℕ) (begun : Bool) (shown : List Glyph)
    (k : Stand) (cells : List C)
    (alike : (n : ℕ)
    → slice_index_or (pictured (answers st.panel).size f cells) n blank ≡ slice_index_or shown n blank) where
  pub plan_accepted : (gs' : List C) (ms : List (Label K)) (ys : List ℕ) (sent : Sent) (after : State P) (n : ℕ)
      → Ready c (answers st.panel) A (asked answers f st ws gs ls xs head begun shown k)
      → Planned c (answers st.panel) f cells ws head k st.rest ls ms xs ys sent
      → Accepts answers meaning fed ws gs gs' ys sent st after n
      → Outcome c answers meaning fed A (asked answers f st ws gs ls xs head begun shown k)
      st after ws gs gs' ls ms xs ys (Ok n)
  plan_accepted gs' ms ys sent after n ready p h = record {
    bytes = head ++ p.wrote.bytes;
    pen = sent.pen;
    answer = record {
      ready = ready;
      planned = p.wrote.bytes;
      plan = plan_same c (answers st.panel) _ shown _ st.rest alike (resting k.place) k.pen p.wrote.bytes sent.pen
          p.wrote.plan;
      bytes = refl;
      count = h.count ∙ p.wrote.count;
      fits = subst (λ (m : ℕ). m ≤ length xs) (sym h.count) p.wrote.fits;
    };
    fixed = h.fixed;
    fed_bytes = h.fed_bytes ∙ ap (feeds (fed (answers st.panel)) (meaning st.panel))
        (written sent.count (head ++ p.wrote.bytes) xs ys p.wrote.count p.wrote.output);
    state = h.state;
    output = p.wrote.output ∙ ap (λ (m : ℕ). (head ++ p.wrote.bytes) ++ drop m xs) p.wrote.count;
    shown = h.shown;
    labels = p.looked.labels;
    spared = tt;
  }
