-- The order of ranks is the order of steps: by size, then by lower tone number.
-- Assumes nothing.
use Prim.Native.Nat.{ℕ, ◌<◌}
use native.Mathlib.Decide.{dec_lt}
use native.Mathlib.Omega.{arith}
use Rattle.sizes.specs.Sizes.{most_tones}
use Rattle.steps.specs.Tones.{Tones, step, Before, by_size, by_tone}
use Rattle.ranks.specs.Ranks.{rank}

module _ (T : Tones) {i b j c : ℕ} (il : i < most_tones) (jl : j < most_tones) where
  pub rank-before : rank (step T i b) i < rank (step T j c) j → Before T i b j c
  rank-before h = go (dec_lt (step T i b) (step T j c))
    where
      go : Dec (step T i b < step T j c) → Before T i b j c
      go (yes q) = by_size q
      go (no q) = by_tone (omega arith) (omega arith)

  pub before-rank : Before T i b j c → rank (step T i b) i < rank (step T j c) j
  before-rank (by_size h) = omega arith
  before-rank (by_tone e h) = omega arith
