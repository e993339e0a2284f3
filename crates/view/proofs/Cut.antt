-- A list that is cut into rows of one length. Assumes nothing.
use Rattle.std.proofs.Common.{◌≡◌, ℕ, ◌+◌, ◌*◌, ◌<◌, ◌≤◌, List, ◌++◌, Bor, Some, None, length, take, drop, arith, rules, ap}
use Rattle.std.specs.List.{range_with_len, flat_map}
use Rattle.std.specs.Slice.Iter.{chunks_exact_rest, chunks_exact_size, chunks_exact_steps}
use Rattle.std.specs.declared.slice.ChunksExact.{ChunksExact}
use Rattle.std.proofs.Math.Nat.{le_of_mul-le-mul_right}
use Rattle.std.proofs.Math.Seq.{drop-append_seam, take-append_seam}
use Rattle.std.proofs.lemmas.Grind.{common_steps}
use Rattle.std.proofs.lemmas.List.{drop-drop, map-id}
use Rattle.std.proofs.lemmas.List.FromFn.{map-range_with_len_more}

-- it has cut k rows of n elements off xs, which has as many rows as stated
pub record HasCut {X : Type 0} (n rows : ℕ) (xs : List X) (it : ChunksExact X) (k : ℕ) : Type 0 where
  pub size : chunks_exact_size it ≡ n
  pub left : chunks_exact_rest it ≡ drop (k * n) xs
  pub within : k ≤ rows

module _ {X : Type 0} {n rows : ℕ} {xs : List X} {it later : ChunksExact X} {k : ℕ} (so_far : HasCut n rows xs it k)
    (filled : length xs ≡ rows * n) (some : 0 < n) where
  pub HasCut-more : (row : Bor (List X)) → chunks_exact_steps it (Some row) later
      → HasCut n rows xs later (k + 1) × (row.now ≡ take n (drop (k * n) xs))
  HasCut-more row step =
      let cut : drop (k * n) xs ≡ row.now ++ chunks_exact_rest later = cc in (
        record {
          size = search rules;
          left = grind (arith, drop-append_seam row.now (chunks_exact_rest later), drop-drop);
          within = grind (arith, common_steps, le_of_mul-le-mul_right, ap length cut);
        },
        grind (arith, common_steps, take-append_seam),
      )

  pub HasCut-all : chunks_exact_steps it None later → k ≡ rows
  HasCut-all step = grind (arith, common_steps)

-- one row more is written
pub written_more : {X : Type 0} (f : ℕ → List X) (start : List X) (k : ℕ)
    → (start ++ flat_map f (range_with_len 0 k)) ++ f k ≡ start ++ flat_map f (range_with_len 0 (k + 1))
written_more f start k = grind (arith, common_steps, map-range_with_len_more (λ k. k) 0 k k, map-id {A = ℕ})
