-- The answers of a host call, stored one after another; and that a refusal stores none.
-- Assumes nothing.
use Rattle.std.proofs.Common.{List, [], ◌∷◌, ◌++◌, append-nil, append_assoc, ◌≡◌, refl, ap, sym, ◌∙◌, ℕ, ◌+◌, ◌*◌, ◌≤◌, ◌<◌, add-one, arith, length, take, get_or, length-append, take_all}
use lib.ListN.{length-take}
use lib.Seq.{sets, length-sets, take-suc}
use Rattle.bigendian.specs.Number.{bytes, with_number}
use Rattle.bigendian.proofs.Numbers.{length-bytes, number_fits}
use Rattle.lists.proofs.Stores.{from_start, sets-append}
use Rattle.refusals.specs.declared.Refusal.{Refusal}
use Rattle.refusals.specs.declared.Refusal.TheVariants.{SheetTooLong, SheetEnds, CommandNotAllowed, OperandOutOfRange, ToneBeyondLine, ToneRepeated, BytesAfterEnd, DestinationTooSmall, StartLengthWrong, StartAboveLimit, TargetNotCarried, FloatOutOfRange, CostOutOfRange, ToneCannotTake, RestOutOfRange, RestsOverBudget}
use Rattle.refusals.specs.Refusals.{refusal}
use Rattle.answers.specs.Answers.{answer_bytes, answers_in, shown, answered}

length-answers : (answers : List ℕ) → length (answer_bytes answers) ≡ 8 * length answers
unfolding answer_bytes
length-answers [] = refl
length-answers (a ∷ rest) = simp length-append (omega (arith, length-bytes 8 a, length-answers rest))

-- one answer more
answers_next : (answers : List ℕ) (a : ℕ) → answer_bytes (answers ++ a ∷ []) ≡ answer_bytes answers ++ bytes 8 a
unfolding answer_bytes
answers_next [] a = append-nil (bytes 8 a)
answers_next (b ∷ rest) a = rw (answers_next rest a) (sym (append_assoc (bytes 8 b) (answer_bytes rest) (bytes 8 a)))

module _ (numbers old : List ℕ) (room : 8 * length numbers ≤ length old) (i : ℕ) {buffer : List ℕ} (stored : buffer ≡ sets old 0 (answer_bytes (take i numbers))) where
  pub one-stored : i < length numbers → with_number buffer (8 * i) 8 (get_or numbers i 0) ≡ sets old 0 (answer_bytes (take (i + 1) numbers))
  one-stored inside =
      number_fits buffer (8 * i) 8 number (omega (arith, ap length stored, length-sets old 0 (answer_bytes (take i numbers))))
      ∙ rw (place, stored, add-one, take-suc numbers i 0 inside, answers_next)
      (sym (sets-append old 0 (answer_bytes (take i numbers)) (bytes 8 number)))
    where
      number : ℕ
      number = get_or numbers i 0

      place : 8 * i ≡ 0 + length (answer_bytes (take i numbers))
      place = omega (arith, length-answers (take i numbers), length-take i numbers)

  pub all-stored : length numbers ≤ i → buffer ≡ answers_in numbers old
  all-stored past = stored ∙ rw (take_all i numbers past) (from_start (answer_bytes numbers) old (omega (arith, length-answers numbers)))

-- no refusal has number 0, so none writes an answer
pub none-shown : (n : ℕ) (q : Refusal) → shown (refusal n q) ≡ []
none-shown n SheetTooLong = refl
none-shown n (SheetEnds p) = refl
none-shown n (CommandNotAllowed p) = refl
none-shown n (OperandOutOfRange p) = refl
none-shown n (ToneBeyondLine p) = refl
none-shown n (ToneRepeated p) = refl
none-shown n (BytesAfterEnd p) = refl
none-shown n DestinationTooSmall = refl
none-shown n StartLengthWrong = refl
none-shown n (StartAboveLimit p) = refl
none-shown n TargetNotCarried = refl
none-shown n (FloatOutOfRange p) = refl
none-shown n (CostOutOfRange p) = refl
none-shown n (ToneCannotTake p) = refl
none-shown n (RestOutOfRange p) = refl
none-shown n RestsOverBudget = refl

-- so none touches the buffer
pub untouched : (n : ℕ) (q : Refusal) (old : List ℕ) → answered (refusal n q) old ≡ old
unfolding answer_bytes
untouched n q old = rw (none-shown n q)
