-- What the motions of the deferred-wrap panel do, in plain numbers. Assumes nothing.
--     Counted n b      b bytes are no fewer than a motion by n has: three, or four if n is not 1, or five above 9
--     Up, Down, Right, Left, Address
--                      the motion n, which takes t milliseconds and sends b bytes, leads from the place d to the place
--                      p as the motions of that name do
--     Freely n d p t b
--                      the same as a motion does that is offered only while the cursor is unheld
--     Moves k n p t b  the same from the cursor k as any motion does
--     Digits n l       l digits write n, which is below 100
--     Told n m         the motion m has the number n
use Rattle.std.proofs.Common.{◌≡◌, ◌⊎◌, inl, inr, ℕ, ◌+◌, ◌-◌, ◌*◌, ◌<◌, ◌≤◌, Bool, true, false, Some, None, Option}
use Rattle.std.proofs.Common.{cond, ◌==◌, [], length, decimal, length-append, ap, subst, arith, rules, refl}
use Rattle.std.proofs.lemmas.Bool.Decides.{nat_tests}
use Rattle.display.specs.declared.place.Cursor.{Cursor}
use Rattle.display.specs.declared.place.Place.{Place}
use Rattle.legs.specs.Scene.{Scene, lands, retype}
use Rattle.panel.specs.Answers.{answered}
use Rattle.dec_rules.specs.Motions.{numbered, offered, relative, spelled, takes}
use Rattle.dec_rules.specs.declared.motion.Motion.{Motion}
use Rattle.dec_rules.specs.declared.motion.Motion.TheVariants.{Return as Returns, Back as Backs, Feed as Feeds}
use Rattle.dec_rules.specs.declared.motion.Motion.TheVariants.{Up as Ups, Down as Downs, Right as Rights, Left as Lefts}
use Rattle.dec_rules.specs.declared.motion.Motion.TheVariants.{Address as Addresses}
use Rattle.dec_rules.proofs.Digits.{one_digit, two_digits}
use Rattle.worked_legs.specs.Scenes.{blank_scene, screen}
use Rattle.worked_legs.specs.declared.row.PanelKind.TheVariants.{Deferred}
use Rattle.worked_legs.proofs.Moves.{Back, Feed, Retype, Return, bytes, milliseconds}

abbrev pub s : Scene
s = blank_scene Deferred

pub record Counted (n b : ℕ) : Type 0 where
  pub some : 3 ≤ b
  pub more : (n ≡ 1) ⊎ (4 ≤ b)
  pub most : (n ≤ 9) ⊎ (5 ≤ b)

pub record Up (n : ℕ) (d p : Place) (t b : ℕ) : Type 0 where
  pub least : 3 ≤ n
  pub greatest : n ≤ 25
  pub row : p.row + (n - 2) ≡ d.row
  pub column : p.column ≡ d.column
  pub time : t ≡ 2
  pub counted : Counted (n - 2) b

pub record Down (n : ℕ) (d p : Place) (t b : ℕ) : Type 0 where
  pub least : 26 ≤ n
  pub greatest : n ≤ 48
  pub row : p.row ≡ d.row + (n - 25)
  pub column : p.column ≡ d.column
  pub time : t ≡ 2
  pub counted : Counted (n - 25) b

pub record Right (n : ℕ) (d p : Place) (t b : ℕ) : Type 0 where
  pub least : 49 ≤ n
  pub greatest : n ≤ 127
  pub row : p.row ≡ d.row
  pub column : p.column ≡ d.column + (n - 48)
  pub on : p.column < 80
  pub time : t ≡ 2
  pub counted : Counted (n - 48) b

pub record Left (n : ℕ) (d p : Place) (t b : ℕ) : Type 0 where
  pub least : 128 ≤ n
  pub greatest : n ≤ 206
  pub row : p.row ≡ d.row
  pub column : p.column + (n - 127) ≡ d.column
  pub time : t ≡ 2
  pub counted : Counted (n - 127) b

pub record Address (n : ℕ) (p : Place) (t b : ℕ) : Type 0 where
  pub number : n ≡ 207 + (p.row * 80 + p.column)
  pub on : p.column < 80
  pub time : t ≡ 5
  pub bytes : 6 ≤ b

abbrev pub Freely : ℕ → Place → Place → ℕ → ℕ → Type 0
Freely n d p t b =
    Back n d p t b ⊎ (Feed n d p t b ⊎ (Up n d p t b ⊎ (Down n d p t b ⊎ (Right n d p t b ⊎ (Left n d p t b
    ⊎ Retype 2127 n d p t b)))))

abbrev pub Moves : Cursor → ℕ → Place → ℕ → ℕ → Type 0
Moves k n p t b = Return n k.place p t b ⊎ (Address n p t b ⊎ ((k.held ≡ false) × Freely n k.place p t b))

-- how many digits a number has
record Digits (n l : ℕ) : Type 0 where
  pub one : (10 ≤ n) ⊎ (l ≡ 1)
  pub two : (n ≤ 9) ⊎ (l ≡ 2)

digits : (n : ℕ) → n < 100 → Digits n (length (decimal n))
digits n h = by_size (grind arith)
  where
    by_size : (n ≤ 9) ⊎ (10 ≤ n) → Digits n (length (decimal n))
    by_size (inl low) =
        let e : length (decimal n) ≡ 1 = ap length (one_digit n (omega arith)) in
        record { one = inr e; two = inl low }
    by_size (inr high) =
        let e : length (decimal n) ≡ 2 = ap length (two_digits n high h) in
        record { one = inl high; two = inr e }

count_length : (n l : ℕ) → 1 ≤ n → Digits n l → Counted n (cond (n == 1) 3 (3 + l))
count_length n l h d = grind (arith, nat_tests)

relative_is : (n letter : ℕ) → length (relative n letter) ≡ cond (n == 1) 3 (3 + length (decimal n))
relative_is n letter = search (rules, length-append)

pub relative_counted : (n letter : ℕ) → 1 ≤ n → n < 100 → Counted n (length (relative n letter))
relative_counted n letter h few = rw (relative_is n letter) (count_length n (length (decimal n)) h (digits n few))

address_long : (p : Place) → p.row < 24 → p.column < 80 → 6 ≤ length (spelled (Addresses p))
address_long p low left =
    let r = digits (p.row + 1) (omega arith) in
    let c = digits (p.column + 1) (omega arith) in
    simp length-append (grind arith)

-- a motion's own facts, from its number
abbrev Told : ℕ → Motion → Type 0
Told n Returns = n ≡ 0
Told n Backs = n ≡ 1
Told n Feeds = n ≡ 2
Told n (Ups j) = (3 ≤ n) × (n ≤ 25) × (j ≡ n - 2)
Told n (Downs j) = (26 ≤ n) × (n ≤ 48) × (j ≡ n - 25)
Told n (Rights j) = (49 ≤ n) × (n ≤ 127) × (j ≡ n - 48)
Told n (Lefts j) = (128 ≤ n) × (n ≤ 206) × (j ≡ n - 127)
Told n (Addresses p) = (n ≡ 207 + (p.row * 80 + p.column)) × (p.row < 24) × (p.column < 80)

abbrev ToldIf : ℕ → Option Motion → Type 0
ToldIf n None = Unit {0}
ToldIf n (Some m) = Told n m

told_if : (n : ℕ) → ToldIf n (numbered screen n)
told_if n = grind (arith, nat_tests)

named_moves : (k : Cursor) (n : ℕ) (m : Motion) (p : Place) → Told n m → offered screen k m ≡ Some p
    → Moves k n p (takes m) (length (spelled m))
named_moves k n Returns p t e = grind (arith, nat_tests)
named_moves k n Backs p t e = grind (arith, nat_tests)
named_moves k n Feeds p t e = grind (arith, nat_tests)
named_moves k n (Ups j) p t e =
    let c = relative_counted j 0x41 (omega arith) (omega arith) in
    grind (arith, nat_tests)
named_moves k n (Downs j) p t e =
    let c = relative_counted j 0x42 (omega arith) (omega arith) in
    grind (arith, nat_tests)
named_moves k n (Rights j) p t e =
    let c = relative_counted j 0x43 (omega arith) (omega arith) in
    grind (arith, nat_tests)
named_moves k n (Lefts j) p t e =
    let c = relative_counted j 0x44 (omega arith) (omega arith) in
    grind (arith, nat_tests)
named_moves k n (Addresses q) p t e = let l = address_long q t.1 t.2 in grind (arith, nat_tests)

retyped : (k : Cursor) (p : Place) → retype s k ≡ Some p → Moves k 2127 p 0 1
retyped k p e = grind (arith, nat_tests)

pub moves : (n : ℕ) (k : Cursor) (p : Place) → lands s n k ≡ Some p → Moves k n p (milliseconds s n) (bytes s n)
moves n k p e = by_test (n == 2127) refl e
  where
    by_motion : (o : Option Motion) → ToldIf n o → answered None (offered screen k) o ≡ Some p
        → Moves k n p (answered 0 takes o) (length (answered [] spelled o))
    by_motion None t e = absurd (cc)
    by_motion (Some m) t e = named_moves k n m p t e

    by_test : (b : Bool) → (n == 2127) ≡ b
        → cond b (retype s k) (answered None (offered screen k) (numbered screen n)) ≡ Some p
        → Moves k n p (cond b 0 (answered 0 takes (numbered screen n)))
        (cond b 1 (length (answered [] spelled (numbered screen n))))
    by_test true f e =
        let same : 2127 ≡ n = grind (arith, nat_tests) in
        subst (λ (i : ℕ). Moves k i p 0 1) same (retyped k p e)
    by_test false f e = by_motion (numbered screen n) (told_if n) e
