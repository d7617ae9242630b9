-- `sampletext::find` meets its contract. What it passes over is what std's `position` passes over. Assumes nothing.
use Rattle.std.proofs.Common.{◌≡◌, ℕ, ◌+◌, ◌≤◌, cond, eqb, ltb, List, [], ◌∷◌, length, drop, Option, Some, None, ◌∙◌, arith, rules, tests, drop_of_length-le}
use Rattle.std.specs.List.{between, position_or_len}
use Rattle.std.proofs.lemmas.Iterator.{YieldsList-from_slice}
use Rattle.std.proofs.lemmas.Iterator.Search.{position_from_yields_List}
use Rattle.std.proofs.lemmas.Slice.{between_to_end}
use Rattle.std.proofs.lemmas.Bool.Decides.{nat_tests}
use Rattle.std.proofs.lemmas.Grind.{common_steps}
use Rattle.sampletext.specs.Text.{skipped}
use Rattle.sampletext.proofs.find.Goals as goal

skipped-is : (wanted : ℕ) (text : List ℕ) → (skipped text wanted ≡ position_or_len (λ c. eqb c wanted) text) × (skipped text wanted ≤ length text)
unfolding skipped
skipped-is wanted [] = grind (arith, nat_tests)
skipped-is wanted (c ∷ text) = let h = skipped-is wanted text in grind (arith, nat_tests)

pub returns-in_default-clause-value : goal.returns-in_default-clause-value
unfolding skipped
returns-in_default-clause-value c =
    let h = c.in_default.ensures.lookup.0 in
    let past : length c.args.text.now ≤ c.args.from = omega arith in
    rw (drop_of_length-le c.args.text.now past) (omega arith)

-- what `position` answers of the rest that `get` gives
place : (wanted : ℕ) (text rest : List ℕ) (from : ℕ) {r : Option ℕ} {E : Type 0}
    → ((from ≤ length text) × (length text ≤ length text) × (rest ≡ between from (length text) text) × (length rest + from ≡ length text)) × E
    → r ≡ cond (ltb (position_or_len (λ c. eqb c wanted) rest) (length rest)) (Some (position_or_len (λ c. eqb c wanted) rest)) None
    → ((n : ℕ) → r ≡ Some n → from + n ≡ from + skipped (drop from text) wanted) × (r ≡ None → length text ≡ from + skipped (drop from text) wanted)
place wanted text rest from {r} g p =
    let h = skipped-is wanted rest in
    let e : rest ≡ drop from text = g.0.2 ∙ between_to_end text from _ (omega arith) in
    ((λ n s. grind (arith, nat_tests, common_steps)), (λ s. grind (arith, nat_tests, common_steps)))

pub returns-in-Some-position-clause-value : goal.returns-in-Some-position-clause-value
returns-in-Some-position-clause-value c =
    let p = position_from_yields_List (λ x. eqb x c.args.wanted) _ _ c.position.result c.position.ensures.ran (YieldsList-from_slice c.in-Some.rest.now cc) (λ x b q k. search (rules, tests)) in
    (place _ _ _ _ c.in-Some.ensures.lookup p).0 _ c.in-Some-position.is

pub returns-in-None-clause-value : goal.returns-in-None-clause-value
returns-in-None-clause-value c =
    let p = position_from_yields_List (λ x. eqb x c.args.wanted) _ _ c.position.result c.position.ensures.ran (YieldsList-from_slice c.in-Some.rest.now cc) (λ x b q k. search (rules, tests)) in
    (place _ _ _ _ c.in-Some.ensures.lookup p).1 c.in-None.is
