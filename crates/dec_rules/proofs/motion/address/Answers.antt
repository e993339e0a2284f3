-- Five pieces, one after the other, which are short together. By hand: the search does not chain four capped steps.
use Rattle.std.proofs.Common.{◌≡◌, ℕ, ◌+◌, List, [], ◌∷◌, ◌++◌, take, decimal, ap, ◌∙◌, append_assoc, arith}
use Rattle.std.proofs.lemmas.List.{take_all}
use Rattle.panel.proofs.Capped.{capped_more}
use Rattle.dec_rules.specs.Motions.{spelled}
use Rattle.dec_rules.specs.declared.motion.Motion.TheVariants.{Address}
use Rattle.dec_rules.proofs.Bounds.{address_short}
use Rattle.dec_rules.proofs.motion.address.Goals as goal

pub returns : goal.returns
returns c =
    let p = c.args.place in
    let r = decimal (p.row + 1) in
    let k = decimal (p.column + 1) in
    let begin : List ℕ = 27 ∷ 91 ∷ [] in
    let semi : List ℕ = 59 ∷ [] in
    let last : List ℕ = 72 ∷ [] in
    let e1 = capped_more 16 begin r _ _ c.from_slice-bytes.ensures c.push_decimal.ensures.is in
    let e2 = capped_more 16 (begin ++ r) semi _ _ e1 c.push.ensures in
    let e3 = capped_more 16 ((begin ++ r) ++ semi) k _ _ e2 c.push_decimal-2.ensures.is in
    let joined : (((begin ++ r) ++ semi) ++ k) ++ last ≡ spelled (Address p) = simp append_assoc in
    capped_more 16 (((begin ++ r) ++ semi) ++ k) last _ _ e3 c.push-2.ensures
    ∙ ap (take 16) joined
    ∙ take_all 16 (spelled (Address p)) (address_short p (omega arith) (omega arith)).1
