-- What is told of a leg, as bytes.
--     scene_now a s           what the legs on a panel depend on that has the answers a and the surface s: the answers,
--                             the picture of s and its pen
--     no_sequence             the line where no sequence leads to the goal
--     hex_pair n              the byte n as two hexadecimal digits
--     motion_word n, byte_word b
--                             a motion by its number, and a byte, each after a space
--     motions_line ns         the motions ns, the first one first
--     bytes_line bs           the bytes bs
--     cost_line ws            a cost in the words ws
--     leg_lines ns bs ws      the three of them
--     ToldLeg c f w s k q bs  bs are the three lines of the leg by the costs c from the cursor k to the place q in the
--                             scene s, of which there is one; f tells the value of a machine's cost, and w its words
--     TellsLeg c f w s k q bs bs are these lines; or no sequence leads there, and they are the line that tells so
--     TellsOn c f w s k q bs  the same, of a place that is on the panel
--     OffPanel z r c o        the row r and the column c are no place of a panel of size z, and o tells of them
use Rattle.std.specs.Prelude.{◌≡◌, ◌⊎◌, ℕ, ◌/◌, ◌%◌, List, [], ◌∷◌, ◌++◌, codes, decimal, slice_index_or}
use Rattle.std.specs.List.{flat_map}
use Rattle.cost.specs.Costs.{Costs}
use Rattle.display.specs.Cell.{blank}
use Rattle.display.specs.Place.{On, number}
use Rattle.display.specs.Surface.{Surface, place_of, resting}
use Rattle.display.specs.declared.place.Cursor.{Cursor}
use Rattle.display.specs.declared.place.Place.{Place}
use Rattle.display.specs.declared.size.Size.{Size}
use Rattle.leg_view.specs.declared.goal.Outside.{Outside}
use Rattle.legs.specs.Graph.{spent}
use Rattle.legs.specs.Leg.{Leg}
use Rattle.legs.specs.Scene.{NoWay, Scene, graph, sent}
use Rattle.legs.specs.Sequence.{Sequence, listed}
use Rattle.panel.specs.Answers.{Answers}
use Rattle.view.specs.Report.{hex_digit, line}

abbrev pub scene_now : Answers → Surface → Scene
scene_now a s = record {
  answers = a;
  glass = λ q. slice_index_or s.picture (number a.size q) blank;
  pen = s.pen;
}

abbrev pub no_sequence : List ℕ
no_sequence = line (codes "no sequence")

abbrev pub hex_pair : ℕ → List ℕ
hex_pair n = hex_digit (n / 16) ∷ hex_digit (n % 16) ∷ []

abbrev pub motion_word : ℕ → List ℕ
motion_word n = codes " " ++ decimal n

abbrev pub byte_word : ℕ → List ℕ
byte_word b = codes " " ++ hex_pair b

abbrev pub motions_line : List ℕ → List ℕ
motions_line ns = line (codes "motions" ++ flat_map motion_word ns)

abbrev pub bytes_line : List ℕ → List ℕ
bytes_line bs = line (codes "bytes" ++ flat_map byte_word bs)

abbrev pub cost_line : List ℕ → List ℕ
cost_line ws = line (codes "cost " ++ ws)

abbrev pub leg_lines : List ℕ → List ℕ → List ℕ → List ℕ
leg_lines ns bs ws = motions_line ns ++ (bytes_line bs ++ cost_line ws)

module _ {K V : Type 0} (c : Costs V) (f : K → V) (w : K → List ℕ) (s : Scene) (k : Cursor) (q : Place) where
  pub record ToldLeg (bs : List ℕ) : Type 0 where
    pub way : Sequence
    pub leg : Leg (graph c s) k way (resting q)
    pub only : (x : Sequence) → Leg (graph c s) k x (resting q) → x ≡ way
    pub cost : K
    pub spends : f cost ≡ spent (graph c s) way
    pub lines : bs ≡ leg_lines (listed way) (sent s k way) (w cost)

  abbrev pub TellsLeg : List ℕ → Type 0
  TellsLeg bs = (NoWay c s k q × (bs ≡ no_sequence)) ⊎ ToldLeg bs

  pub record TellsOn (bs : List ℕ) : Type 0 where
    pub on : On s.answers.size q
    pub tells : TellsLeg bs

pub record OffPanel (z : Size) (row column : ℕ) (o : Outside) : Type 0 where
  pub is : o ≡ record { row = row; column = column; size = z }
  pub off : On z (place_of row column) → ⊥
