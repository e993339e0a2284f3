-- In which direction a motion goes, and how far.
--     upright m    m goes up or down
--     backward m   m goes up or to the left
--     steps m      how many rows or columns m goes
use Rattle.std.specs.Prelude.{ℕ, Bool, true, false}
use Rattle.dec_rules.specs.declared.motion.Motion.{Motion}
use Rattle.dec_rules.specs.declared.motion.Motion.TheVariants.{Return, Back, Feed, Up, Down, Right, Left, Address}

abbrev pub upright : Motion → Bool
upright Return = false
upright Back = false
upright Feed = true
upright (Up n) = true
upright (Down n) = true
upright (Right n) = false
upright (Left n) = false
upright (Address p) = false

abbrev pub backward : Motion → Bool
backward Return = false
backward Back = true
backward Feed = false
backward (Up n) = true
backward (Down n) = false
backward (Right n) = false
backward (Left n) = true
backward (Address p) = false

abbrev pub steps : Motion → ℕ
steps Return = 1
steps Back = 1
steps Feed = 1
steps (Up n) = n
steps (Down n) = n
steps (Right n) = n
steps (Left n) = n
steps (Address p) = 1
