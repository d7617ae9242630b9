-- What a host call returns and leaves, by the room for its answers.
-- Assumes nothing.
use Rattle.std.proofs.Common.{List, ◌≡◌, refl, sym, ap, ◌∙◌, ℕ, ◌≤◌, ◌<◌, length, lt-ltb, le-ltb, Result, Ok, Err}
use Rattle.sizes.specs.Sizes.{answer_room}
use Rattle.refusals.specs.declared.Refusal.{Refusal}
use Rattle.refusals.specs.declared.Refusal.TheVariants.{DestinationTooSmall}
use Rattle.refusals.specs.Refusals.{Outcome, success, refusal}
use Rattle.sheet.specs.Reading.{Meaning, accepted, refused, reading}
use Rattle.answers.specs.Answers.{code, answers_in, answered, replied, without_room, hosted, hosted_buffer}
use Rattle.answers.proofs.Stored.{none-shown, untouched}

-- what a call has to show that ends in an outcome: of its result, and of the answer buffer
abbrev pub Ends : Outcome → (old after : List ℕ) → (result : ℕ) → Type 0
Ends o old after result = (result ≡ code o) × (after ≡ answered o old)

-- what a call has to show of its result and of the answer buffer
abbrev pub Answers : (s : List ℕ) → Outcome → (answer after : List ℕ) → (result : ℕ) → Type 0
Answers s o answer after result = Ends (hosted s answer o) answer after result

-- the same, and between the two of another lent buffer, which becomes `then` where there is room for the answers
abbrev pub Writes : (s : List ℕ) → Outcome → (old then new answer after : List ℕ) → (result : ℕ) → Type 0
Writes s o old then new answer after result =
    (result ≡ code (hosted s answer o)) × ((new ≡ hosted_buffer answer old then) × (after ≡ answered (hosted s answer o) answer))

-- ---- too short an answer buffer

-- the outcome is a refusal, so no byte of the answer buffer changes
kept : (x : Meaning) (answer : List ℕ) → answer ≡ answered (without_room x) answer
kept (accepted l) answer = sym (untouched 0 DestinationTooSmall answer)
kept (refused q) answer = sym (untouched 0 q answer)

module _ (s : List ℕ) (o : Outcome) (answer : List ℕ) {result : ℕ} (h : length answer < answer_room) (e : result ≡ code (without_room (reading s))) where
  pub short-answers : Answers s o answer answer result
  short-answers = rw (lt-ltb (length answer) answer_room h) (e, kept (reading s) answer)

  pub short-writes : (old then : List ℕ) → Writes s o old then old answer answer result
  short-writes old then = rw (lt-ltb (length answer) answer_room h) (e, (refl, kept (reading s) answer))

-- ---- room for the answers: what `reply` makes of the call's result

-- an outcome by cases on a result is told as `reply` tells the result, however many answers its refusals have
module _ {A : Type 0} (numbers : A → List ℕ) (count : ℕ) (outcome : Result A Refusal → Outcome) (done : (a : A) → outcome (Ok a) ≡ success (numbers a))
    (turned : (q : Refusal) → outcome (Err q) ≡ refusal count q) where
  pub ends : (r : Result A Refusal) {o : Outcome} → outcome r ≡ o → (old : List ℕ) {after : List ℕ} {result : ℕ} → Ends (replied numbers r) old after result → Ends o old after result
  ends (Ok a) e old p = rw (← e, done a) p
  ends (Err q) e old p =
      rw (← e, turned q) (p.0, p.1 ∙ ap (λ xs. answers_in xs old) (none-shown 0 q ∙ sym (none-shown count q)))

  module _ (s : List ℕ) {r : Result A Refusal} {o : Outcome} (answer : List ℕ) {after : List ℕ} {result : ℕ} (h : answer_room ≤ length answer) (n : outcome r ≡ o)
      (p : Ends (replied numbers r) answer after result) where
    pub long-answers : Answers s o answer after result
    long-answers = rw (le-ltb (length answer) answer_room h) (ends r n answer p)

    pub long-writes : (old : List ℕ) {then new : List ℕ} → new ≡ then → Writes s o old then new answer after result
    long-writes old New-is =
        let a = ends r n answer p in rw (le-ltb (length answer) answer_room h) (a.0, (New-is, a.1))
