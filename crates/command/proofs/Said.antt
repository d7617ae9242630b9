-- What is known of a command that is not refused, by what it does.
-- Assumes nothing.
use mathlib.Core.Bool.{true, false}
use mathlib.Core.List.{List, [], ◌∷◌}
use mathlib.Core.Logic.{inl, inr}
use mathlib.Core.Path.{◌≡◌, refl}
use Prim.Native.Nat.{ℕ, zero, suc, ◌+◌, ◌-◌, ◌≤◌, ◌<◌}
use native.Mathlib.Nat.{add_assoc}
use native.Mathlib.Omega.{arith}
use borrow.Author.Rules.{rules}
use borrow.Author.Tests.{leb-false, ltb-false}
use lib.Dec.{leb, ltb}
use lib.ListN.{length, get_or}
use Rattle.std.specs.Prelude.{Result, Ok, Err}
use Rattle.sizes.specs.Sizes.{most_words, longest_sheet}
use Rattle.lists.proofs.Tests.{by-test}
use Rattle.bigendian.specs.Number.{number}
use Rattle.bigendian.proofs.Numbers.{number-one}
use Rattle.silence.specs.Map.{names_beyond}
use Rattle.gaps.specs.Gap.{parts}
use Rattle.line.specs.Line.{is_described}
use Rattle.refusals.specs.declared.Refusal.{Refusal}
use Rattle.rows.specs.declared.Header.{Header}
use Rattle.rows.specs.declared.Command.{Command}
use Rattle.rows.specs.declared.Command.TheVariants.{End, Head, Describe, Rest, High, Silence}
use Rattle.rows.specs.declared.Decoded.{Decoded}
use Rattle.rows.specs.Rows.{Known, Operand, takes_rest, takes_high, is_rest_of, Row, rest, high, describing, numbers, level_operands, ratio_operands, width}
use Rattle.noises.specs.Noises.{entry_has_noise, entry_low}
use Rattle.addresses.specs.Addresses.{code_of, number_width, addressed, carried_at}
use Rattle.command.specs.Format.{today, is_too_long, command_at}
use Rattle.rows.specs.Codes.{ToneCode, RestCode, HighCode, command_bytes, silence_row}
use Rattle.command.proofs.Walk.{Each, first-value, passes, takes, in_within, Does, by_rows}

-- its bytes are there, in a sheet that is not too long
pub record There (length at next : ℕ) : Type 0 where
  pub onward : at < next
  pub inside : next ≤ length
  pub short : length ≤ longest_sheet

-- a new header is one of the first three commands'
pub record Heads (s : List ℕ) (at stage next : ℕ) : Type 0 where
  pub there : There (length s) at next
  pub early : stage < 3

-- a tone is the one that the command addresses, of the line and not described before; its command is whole, and not one of the first three
pub record DescribesTone (h : Header) (known : Known) (s : List ℕ) (at stage next i : ℕ) : Type 0 where
  pub there : There (length s) at next
  pub late : 3 ≤ stage
  pub code : ToneCode (get_or s at 0)
  pub whole : at + command_bytes (get_or s at 0) ≤ length s
  pub tone : i ≡ addressed s at
  pub of_line : i < h.size
  pub new : is_described known.entry ≡ false

-- a rest is given to the tone that the command addresses, of the line, described and without a rest before, which takes it; its command is whole
pub record RestsTone (h : Header) (known : Known) (s : List ℕ) (at stage next i : ℕ) : Type 0 where
  pub there : There (length s) at next
  pub late : 3 ≤ stage
  pub code : RestCode (get_or s at 0)
  pub whole : at + command_bytes (get_or s at 0) ≤ length s
  pub tone : i ≡ addressed s at
  pub of_line : i < h.size
  pub takes_one : takes_rest known ≡ true
  pub fits : is_rest_of (parts h.gap) known.entry (number s (carried_at s at) 4) ≡ true

-- a high noise is given to the tone that the command addresses, of the line, described by whole numbers and without a high noise before, and is no
-- lower than its noise; its command is whole
pub record WidensTone (h : Header) (known : Known) (s : List ℕ) (at stage next i : ℕ) : Type 0 where
  pub there : There (length s) at next
  pub late : 3 ≤ stage
  pub code : HighCode (get_or s at 0)
  pub whole : at + command_bytes (get_or s at 0) ≤ length s
  pub tone : i ≡ addressed s at
  pub of_line : i < h.size
  pub takes_one : takes_high known ≡ true
  pub noise_known : entry_has_noise known.entry ≡ true
  pub no_lower : entry_low known.entry ≤ number s (carried_at s at) 2

-- a word is one that a sheet may have, and its map names tones of the line
pub record Silences (h : Header) (s : List ℕ) (at stage next word map : ℕ) : Type 0 where
  pub there : There (length s) at next
  pub late : 3 ≤ stage
  pub word_is : word ≡ get_or s (at + 1) 0
  pub word_high : word < most_words
  pub map_is : map ≡ number s (at + 2) 4
  pub of_line : names_beyond h.size word map ≡ false

pub record Ends (s : List ℕ) (at stage next : ℕ) : Type 0 where
  pub there : There (length s) at next
  pub late : 3 ≤ stage

abbrev pub Said : Header → (known : Known) → List ℕ → (at stage next : ℕ) → Command → Type 0
Said h known s at stage next End = Ends s at stage next
Said h known s at stage next (Head h') = Heads s at stage next
Said h known s at stage next (Describe i) = DescribesTone h known s at stage next i
Said h known s at stage next (Rest i) = RestsTone h known s at stage next i
Said h known s at stage next (High i) = WidensTone h known s at stage next i
Said h known s at stage next (Silence word map) = Silences h s at stage next word map

-- nothing of a refusal
abbrev pub SaidUnless : Header → (known : Known) → List ℕ → (at stage next : ℕ) → Result Command Refusal → Type 0
SaidUnless h known s at stage next (Ok c) = Said h known s at stage next c
SaidUnless h known s at stage next (Err q) = Unit {0}

-- the same of what is decoded
abbrev pub SaidOf : Header → (known : Known) → List ℕ → (at stage : ℕ) → Decoded → Type 0
SaidOf h known s at stage d = SaidUnless h known s at stage d.next d.command

-- a row that makes a new header
abbrev IsHead : Command → Type 0
IsHead (Head h) = Unit {0}
IsHead End = ⊥
IsHead (Describe i) = ⊥
IsHead (Rest i) = ⊥
IsHead (High i) = ⊥
IsHead (Silence word map) = ⊥

abbrev Heading : Row → Type 0
Heading r = (h : Header) (v : List ℕ) → IsHead (r.does h v)

module _ (h : Header) (known : Known) (s : List ℕ) (at : ℕ) (short : length s ≤ longest_sheet) where
  there : (w : ℕ) → at + 1 + w ≤ length s → There (length s) at (at + 1 + w)
  there w whole = record { onward = omega arith; inside = whole; short = short }

  -- a byte's row has the tone number of its width
  module _ {code w : ℕ} (own : get_or s at 0 ≡ code) (wide : number_width code ≡ w) where
    tone-is : number s (at + 1) w ≡ addressed s at
    tone-is = rw (own, wide)

  tone-said : (stage w short : ℕ) (os : List Operand) → 3 ≤ stage → ToneCode (code_of w short) → number_width (code_of w short) ≡ w
      → command_bytes (code_of w short) ≡ 1 + width (describing w short os).operands
      → Does (SaidOf h known s at stage) h known s at (describing w short os)
  tone-said stage w short os late which wide bytes own whole p =
      let v = passes (leb h.size (number s (at + 1) w)) _ _ p.0 in
      rw (first-value (number s (at + 1) w) [] s (at + 1 + w) os)
      record {
        there = there (w + width os) whole;
        late = late;
        code = rw own which;
        whole = rw own (omega (arith, bytes));
        tone = tone-is own wide;
        of_line = leb-false _ _ v.0;
        new = (passes (is_described known.entry) _ _ v.1).0;
      }

  silence-said : (stage : ℕ) → 3 ≤ stage → Does (SaidOf h known s at stage) h known s at silence_row
  silence-said stage late own whole p =
      let v = in_within (number s (at + 1) 1) 0 (most_words - 1) _ _ p.0 in
      record {
        there = there 5 whole;
        late = late;
        word_is = number-one s (at + 1);
        word_high = omega arith;
        map_is = rw add_assoc;
        of_line = (passes (names_beyond h.size (number s (at + 1) 1) (number s (at + 1 + 1) 4)) _ _ p.1.0).0;
      }

  rest-said : (stage w : ℕ) → 3 ≤ stage → RestCode (rest w).code → number_width (rest w).code ≡ w → command_bytes (rest w).code ≡ 1 + width (rest w).operands
      → Does (SaidOf h known s at stage) h known s at (rest w)
  rest-said stage w late which wide bytes own whole p =
      let v = passes (leb h.size (number s (at + 1) w)) _ _ p.0 in
      record {
        there = there (w + 4) whole;
        late = late;
        code = rw own which;
        whole = rw own (omega (arith, bytes));
        tone = tone-is own wide;
        of_line = leb-false _ _ v.0;
        takes_one = (takes (takes_rest known) _ _ v.1).0;
        fits = rw (own, wide) (takes (is_rest_of (parts h.gap) known.entry (number s (at + 1 + w) 4)) _ _ p.1.0).0;
      }

  high-said : (stage w : ℕ) → 3 ≤ stage → HighCode (high w).code → number_width (high w).code ≡ w → command_bytes (high w).code ≡ 1 + width (high w).operands
      → Does (SaidOf h known s at stage) h known s at (high w)
  high-said stage w late which wide bytes own whole p =
      let v = passes (leb h.size (number s (at + 1) w)) _ _ p.0 in
      let u = takes (takes_high known) _ _ v.1 in
      record {
        there = there (w + 2) whole;
        late = late;
        code = rw own which;
        whole = rw own (omega (arith, bytes));
        tone = tone-is own wide;
        of_line = leb-false _ _ v.0;
        takes_one = u.0;
        noise_known = (takes (entry_has_noise known.entry) _ _ u.1).0;
        no_lower = rw (own, wide) (ltb-false _ _ (passes (ltb (number s (at + 1 + w) 2) (entry_low known.entry)) _ _ p.1.0).0);
      }

  -- such rows stand among the first three commands
  heads-said : (stage : ℕ) → stage < 3 → (rs : List Row) → Each Heading rs → Each (Does (SaidOf h known s at stage) h known s at) rs
  heads-said stage early [] all = tt
  heads-said stage early (r ∷ rs) all =
      (λ own whole p. by (r.does h _) (all.0 h _) (there (width r.operands) whole), heads-said stage early rs all.1)
    where
      by : {next : ℕ} (c : Command) → IsHead c → There (length s) at next → Said h known s at stage next c
      by (Head h') i t = record { there = t; early = early }
      by End i t = absurd i
      by (Describe i) k t = absurd k
      by (Rest i) k t = absurd k
      by (High i) k t = absurd k
      by (Silence word map) i t = absurd i

  all_said : (stage : ℕ) → Each (Does (SaidOf h known s at stage) h known s at) (today.rows stage)
  all_said zero = heads-said 0 (omega arith) (today.rows 0) (search rules)
  all_said (suc zero) = heads-said 1 (omega arith) (today.rows 1) (search rules)
  all_said (suc (suc zero)) = heads-said 2 (omega arith) (today.rows 2) (search rules)
  all_said (suc (suc (suc n))) =
      let late : 3 ≤ suc (suc (suc n)) = omega arith in (
        tone-said _ 1 4 (numbers false) late (inl (inl refl)) refl refl,
        (
          tone-said _ 1 5 (numbers true) late (inl (inr refl)) refl refl,
          (
            silence-said _ late,
            (
              λ own whole p. record { there = there 0 whole; late = late },
              (
                tone-said _ 1 9 level_operands late (inr (inl refl)) refl refl,
                (
                  tone-said _ 1 10 ratio_operands late (inr (inr refl)) refl refl,
                  (
                    rest-said _ 1 late refl refl refl,
                    (
                      tone-said _ 2 4 (numbers false) late (inl (inl refl)) refl refl,
                      (
                        tone-said _ 2 5 (numbers true) late (inl (inr refl)) refl refl,
                        (
                          tone-said _ 2 9 level_operands late (inr (inl refl)) refl refl,
                          (tone-said _ 2 10 ratio_operands late (inr (inr refl)) refl refl, (rest-said _ 2 late refl refl refl, (high-said _ 1 late refl refl refl, (high-said _ 2 late refl refl refl, tt)))),
                        ),
                      ),
                    ),
                  ),
                ),
              ),
            ),
          ),
        ),
      )

-- What is known of the command at a place.
pub command-said : (h : Header) (known : Known) (s : List ℕ) (at stage : ℕ) → SaidOf h known s at stage (command_at today h known s at stage)
unfolding command_at
command-said h known s at stage =
    by-test (SaidOf h known s at stage) (is_too_long today s) (λ e. tt)
    (λ e. by_rows today h known s at stage (SaidOf h known s at stage) (λ q next. tt) (all_said h known s at (ltb-false _ _ e) stage))
