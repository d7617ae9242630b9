-- `noises::noise_at` meets its contract. Assumes nothing.
use mathlib.Core.Path.{sym, ◌∙◌}
use Rattle.places.specs.Places.{tone_at}
use Rattle.noises.proofs.Places.{no-noise, noise-there}
use Rattle.noises.proofs.noise_at.Goals as goal

pub returns-then-not-has_noise : goal.returns-then-not-has_noise
returns-then-not-has_noise c =
    let a = c.args in
    sym (no-noise (tone_at a.s.now a.place).kind (sym c.has_noise.ensures ∙ c.if-not-has_noise.true))

pub returns : goal.returns
returns c =
    let a = c.args in
    c.number_at.ensures.meaning ∙ rw c.carried_at-carried.ensures (sym (noise-there a.s.now a.place (sym c.has_noise.ensures ∙ c.if-not-has_noise.false)))
