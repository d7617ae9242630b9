-- The ratio of a usable reading: it is no NaN, its bits give it back, and they say whether it is finite.
-- Assumes nothing.
use mathlib.Core.Path.{◌≡◌, sym, ap, ◌∙◌}
use mathlib.Core.Bool.{not, ◌&&◌, and-true}
use lib.Dec.{T, ltb}
use lib.Ieee.{binary32, fits, is_nan, of_bits, to_bits}
use lib.Ieee.Bits.{is_true, of_bits-to_bits}
use lib.Ieee.Fits.{div-fits}
use lib.Ieee.Scale.{finite}
use Rattle.readings.specs.declared.Reading.{Reading}
use Rattle.readings.specs.declared.Reading.TheVariants.{Both, Ratio}
use Rattle.readings.specs.Reading.{Usable, ratio}
use Rattle.readings.proofs.Signs.{clear, not-nan, positive-clear, quotient-clear}
use Rattle.readings.proofs.Patterns.{finite-bits}

ratio-clear : (r : Reading) → Usable r → T (clear (ratio r))
ratio-clear (Both l) u = quotient-clear l.noise l.gain u.0.above_zero u.1.above_zero
ratio-clear (Ratio x) u = positive-clear x u.above_zero

pub ratio-not-nan : (r : Reading) → Usable r → T (not (is_nan (ratio r)))
ratio-not-nan r u = not-nan (ratio r) (ratio-clear r u)

ratio-held : (r : Reading) → Usable r → T (fits binary32 (ratio r))
ratio-held (Both l) u = div-fits binary32 l.noise l.gain
ratio-held (Ratio x) u = u.held

pub ratio-back : (r : Reading) → Usable r → of_bits binary32 (to_bits binary32 (ratio r)) ≡ ratio r
ratio-back r u = of_bits-to_bits binary32 (ratio r) (ratio-held r u)

pub ratio_finite : (r : Reading) → Usable r → finite (ratio r) ≡ ltb (to_bits binary32 (ratio r)) 0x7f80_0000
ratio_finite r u =
    sym (and-true (finite (ratio r)))
    ∙ ap (λ t. finite (ratio r) && t) (sym (is_true (clear (ratio r)) (ratio-clear r u)))
    ∙ ap (λ x. finite x && clear x) (sym (ratio-back r u))
    ∙ finite-bits (to_bits binary32 (ratio r))
