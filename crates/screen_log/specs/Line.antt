-- The lines of a log.
--     Line          an entry, its answer, the bytes that it sent, and the pen that is set where the last accepted plan
--                   ended
--     accepted l    the entry was accepted
--     is_showing l, is_redraw l
--                   it was an accepted refresh or redraw, an accepted redraw
--     strayed e     the bytes that reach the panel by e and that no showing sends
--     heard l       the bytes that reached the panel: those sent, or those that strayed
--     sent_by ls, heard_by ls
--                   the bytes sent, and those that reached the panel, by all of the lines ls
use Rattle.std.specs.Prelude.{ℕ, Bool, true, false, ◌&&◌, List, [], ◌++◌, Result, Ok, Err}
use Rattle.std.specs.List.{flat_map}
use Rattle.faults.specs.declared.fault.Fault.{Fault}
use Rattle.screen_log.specs.declared.entry.Entry.{Entry}
use Rattle.screen_log.specs.declared.entry.Entry.TheVariants.{Put, Rest, Refresh, Redraw, Stray}

pub record Line : Type 0 where
  pub entry : Entry
  pub answer : Result ℕ Fault
  pub bytes : List ℕ
  pub pen : ℕ

abbrev pub accepted : Result ℕ Fault → Bool
accepted (Ok n) = true
accepted (Err why) = false

abbrev pub shows : Entry → Bool
shows (Put r c n p) = false
shows (Rest r c) = false
shows (Refresh k n) = true
shows (Redraw k n) = true
shows (Stray bs) = false

abbrev pub redraws : Entry → Bool
redraws (Put r c n p) = false
redraws (Rest r c) = false
redraws (Refresh k n) = false
redraws (Redraw k n) = true
redraws (Stray bs) = false

abbrev pub is_showing : Line → Bool
is_showing l = shows l.entry && accepted l.answer

abbrev pub is_redraw : Line → Bool
is_redraw l = redraws l.entry && accepted l.answer

abbrev pub strayed : Entry → List ℕ
strayed (Put r c n p) = []
strayed (Rest r c) = []
strayed (Refresh k n) = []
strayed (Redraw k n) = []
strayed (Stray bs) = bs.now

abbrev pub heard : Line → List ℕ
heard l = l.bytes ++ strayed l.entry

abbrev pub sent_by : List Line → List ℕ
sent_by ls = flat_map (λ l. l.bytes) ls

abbrev pub heard_by : List Line → List ℕ
heard_by ls = flat_map heard ls
