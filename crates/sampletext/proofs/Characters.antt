-- The text from a place on, by the character that stands there: how `spelled` goes on, and where it stops.
-- Assumes nothing.
use Rattle.std.proofs.Common.{◌≡◌, ℕ, ◌+◌, ◌*◌, ◌<◌, ◌≤◌, List, length, get_or, drop, add-one, drop_of_length-le, drop-cons, le-ltb, lt-ltb}
use Rattle.sampletext.specs.Text.{digit_of, spelled}

pub spelled-end : (text : List ℕ) (i : ℕ) → length text ≤ i → (value : ℕ) → spelled value (drop i text) ≡ value
unfolding spelled
spelled-end text i past value = rw (drop_of_length-le text past)

module _ (text : List ℕ) (i : ℕ) (inside : i < length text) (value : ℕ) {d : ℕ} (read : d ≡ digit_of (get_or text i 0)) where
  pub spelled-other : 9 < d → spelled value (drop i text) ≡ value
  unfolding spelled
  spelled-other other = rw (drop-cons text i 0 inside, ← read, lt-ltb 9 d other)

  pub spelled-full : d ≤ 9 → 999999999 < value → spelled value (drop i text) ≡ value
  unfolding spelled
  spelled-full digit full = rw (drop-cons text i 0 inside, ← read, le-ltb 9 d digit, lt-ltb _ value full)

  pub spelled-next : d ≤ 9 → value ≤ 999999999 → spelled value (drop i text) ≡ spelled (value * 10 + d) (drop (i + 1) text)
  unfolding spelled
  spelled-next digit room = rw (add-one, drop-cons text i 0 inside, ← read, le-ltb 9 d digit, le-ltb _ value room)
