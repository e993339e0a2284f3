-- What a panel means, and what it means after bytes.
--     Meaning M        a surface and a reading state, of the panel's own type M
--     feeds f m bs     the meaning after the bytes bs, one by one, where f is the step of one byte
use Rattle.std.specs.Prelude.{ℕ, List, fold}
use Rattle.display.specs.Surface.{Surface}

pub record Meaning (Mode : Type 0) : Type 0 where
  pub surface : Surface
  pub mode : Mode

abbrev pub of : {Mode : Type 0} → Surface → Mode → Meaning Mode
of s r = record { surface = s; mode = r }

abbrev pub feeds : {Mode : Type 0} → (Meaning Mode → ℕ → Meaning Mode) → Meaning Mode → List ℕ → Meaning Mode
feeds f m bs = fold f m bs
