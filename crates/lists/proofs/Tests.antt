-- What holds on both sides of a test, and what two tests tell.
-- Assumes nothing.
use mathlib.Core.Bool.{Bool, true, false, ◌&&◌, ◌||◌, cond, true≢false}
use mathlib.Core.Path.{◌≡◌, refl, sym}

-- what holds on both sides of a test holds of what it picks
pub by-test : {A : Type 0} (P : A → Type 0) (t : Bool) {a b : A} → (t ≡ true → P a) → (t ≡ false → P b) → P (cond t a b)
by-test P true f g = f refl
by-test P false f g = g refl

-- both of two tests pass
pub both-pass : (a b : Bool) → (a && b) ≡ true → (a ≡ true) × (b ≡ true)
both-pass true b e = (refl, e)
both-pass false b e = absurd (true≢false (sym e))

-- neither of them does
pub neither-passes : (a b : Bool) → (a || b) ≡ false → (a ≡ false) × (b ≡ false)
neither-passes true b e = absurd (true≢false e)
neither-passes false b e = (refl, e)
