-- The bytes of a table: how many they are, what they go by, and what a buffer holds once they are written at its start.
-- Assumes nothing.
use mathlib.Core.List.{List, ◌++◌}
use mathlib.Core.Path.{◌≡◌, ap, ◌∙◌}
use Prim.Native.Nat.{ℕ, ◌*◌, ◌≤◌, ◌<◌}
use native.Mathlib.Omega.{arith}
use lib.ListN.{length, drop}
use lib.Seq.{sets}
use Rattle.lists.specs.Joined.{joined_below}
use Rattle.lists.proofs.Joined.{joined_same, length-even}
use Rattle.lists.proofs.Stores.{from_start}
use Rattle.sizes.specs.Sizes.{bytes_a_tone}
use Rattle.bigendian.proofs.Numbers.{length-bytes}
use Rattle.steps.specs.Tones.{Tones, Table, ◌!◌}
use Rattle.line.specs.Arrays.{Arrays, power_at, StandsFor}
use Rattle.tables.specs.Tables.{tone_entry, table_bytes}

-- so many bytes a tone
pub length-entry : (T : Tones) (t : Table) (i : ℕ) → length (tone_entry T t i) ≡ bytes_a_tone
length-entry T t i = omega (arith, length-bytes 8 (T.power i (t ! i)))

pub length-entries : (T : Tones) (t : Table) (n : ℕ) → length (joined_below (tone_entry T t) n) ≡ bytes_a_tone * n
length-entries T t = length-even (tone_entry T t) bytes_a_tone (length-entry T t)

-- tones by their costs, doublings and rests alone
abbrev pub plain : Arrays → Tones
plain A = record { count = 0; limit = λ i. 0; power = power_at A }

-- they give the bytes of whatever table the array and the bits stand for
pub plain-table-bytes : {count : ℕ} {A : Arrays} {bits : List ℕ} {T : Tones} {t : Table}
    → StandsFor count A bits T t → joined_below (tone_entry (plain A) bits) T.count ≡ table_bytes T t
plain-table-bytes {count} {A} {bits} {T} {t} S = joined_same (tone_entry (plain A) bits) (tone_entry T t) T.count (λ i l.
    let il : i < count = omega (arith, S.describes.same_count) in
    rw (S.describes.same_power i (t ! i) il (S.within.under i l), S.same_bits i il))

-- a table written at a buffer's start, and what stays behind it
pub table-written : (T : Tones) (t : Table) (out : List ℕ) → bytes_a_tone * T.count ≤ length out → sets out 0 (table_bytes T t) ≡ table_bytes T t ++ drop (bytes_a_tone * T.count) out
table-written T t out h =
    let n = length-entries T t T.count in
    from_start (table_bytes T t) out (omega (arith, n)) ∙ ap (λ (m : ℕ). table_bytes T t ++ drop m out) n
