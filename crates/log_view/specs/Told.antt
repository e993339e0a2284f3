-- What is told of a line of a log.
--     entry_words e     the entry e
--     answer_words r b  the answer r: how many bytes were sent, if b says that it is a showing's; that it was accepted;
--                       or the number and the values of the refusal
--     sent_of r n bs    the bytes that an entry sent that answered r, which begin at n in the output bs
--     heard_of e r n bs the bytes that reached the panel: those, or those that strayed
--     told_line e r bs  a line of the two, and a line of the bytes sent, bs, if there is any
use Rattle.std.specs.Prelude.{ℕ, Bool, true, false, List, [], ◌∷◌, ◌++◌, Result, Ok, Err, codes, decimal, drop, length, take}
use Rattle.faults.specs.Told.{told, words}
use Rattle.faults.specs.declared.fault.Fault.{Fault}
use Rattle.leg_view.specs.Report.{bytes_line}
use Rattle.screen_log.specs.Line.{shows}
use Rattle.screen_log.specs.declared.entry.Entry.{Entry}
use Rattle.screen_log.specs.declared.entry.Entry.TheVariants.{Put, Rest, Refresh, Redraw, Stray}
use Rattle.view.specs.Report.{line}

abbrev pub entry_words : Entry → List ℕ
entry_words (Put r c n p) =
    codes "put " ++ decimal r ++ codes " " ++ decimal c ++ codes " code " ++ decimal n ++ codes " pen " ++ decimal p
entry_words (Rest r c) = codes "rest " ++ decimal r ++ codes " " ++ decimal c
entry_words (Refresh l n) = codes "refresh labels " ++ decimal l ++ codes " room " ++ decimal n
entry_words (Redraw l n) = codes "redraw labels " ++ decimal l ++ codes " room " ++ decimal n
entry_words (Stray bs) = codes "stray " ++ decimal (length bs.now) ++ codes " bytes"

abbrev pub answer_words : Result ℕ Fault → Bool → List ℕ
answer_words (Ok n) true = codes "sent " ++ decimal n
answer_words (Ok n) false = codes "accepted"
answer_words (Err why) b = codes "refused " ++ words (told why)

abbrev pub sent_of : Result ℕ Fault → ℕ → List ℕ → List ℕ
sent_of (Ok n) i bs = take n (drop i bs)
sent_of (Err why) i bs = []

abbrev pub heard_of : Entry → Result ℕ Fault → ℕ → List ℕ → List ℕ
heard_of (Put r c n p) a i bs = sent_of a i bs
heard_of (Rest r c) a i bs = sent_of a i bs
heard_of (Refresh l m) a i bs = sent_of a i bs
heard_of (Redraw l m) a i bs = sent_of a i bs
heard_of (Stray noise) a i bs = noise.now

abbrev pub bytes_told : List ℕ → List ℕ
bytes_told [] = []
bytes_told (b ∷ bs) = bytes_line (b ∷ bs)

abbrev pub told_line : Entry → Result ℕ Fault → List ℕ → List ℕ
told_line e r bs = line (entry_words e ++ codes ": " ++ answer_words r (shows e)) ++ bytes_told bs
