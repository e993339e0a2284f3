-- The way back along the notes.
--     Trail N b m w j    the notes from the state j back to the state b tell the sequence w: j is b, and w has no
--                        motion; or j is another state, with a number below m, whose note tells the last motion of w,
--                        and the rest is told from the state before it
use Rattle.std.specs.Prelude.{◌≡◌, ◌≢◌, ℕ, ◌<◌}
use Rattle.labels.specs.Note.{Note}
use Rattle.legs.specs.Sequence.{Sequence, none, then}

abbrev pub Trail : {V : Type 0} → (ℕ → Note V) → ℕ → ℕ → Sequence → ℕ → Type 0
Trail N b m none j = j ≡ b
Trail N b m (then w n) j = (j ≢ b) × (j < m) × ((N j).motion ≡ n) × Trail N b m w (N j).from
