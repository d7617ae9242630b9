-- `command::operands` meets its contract. Assumes nothing.
use mathlib.Core.Logic.{◌⊎◌, inl, inr}
use mathlib.Core.Path.{◌≡◌, sym, ap, ◌∙◌}
use Prim.Native.Nat.{ℕ, ◌+◌, ◌≤◌, ◌<◌}
use native.Mathlib.Decide.{ℕ_discrete}
use native.Mathlib.Omega.{arith}
use Rattle.places.proofs.Entries.{entry-there}
use Rattle.rows.specs.Rows.{width, row_at}
use Rattle.rows.specs.Codes.{ShortToneCode, ToneCode, RestCode, HighCode}
use Rattle.rows.proofs.Judging.{tone-row, rest-row, high-row}
use Rattle.command.proofs.operands.Goals.{In-11, In-12, In-4-1, In_default, else-this-lt6+else-this-lt9+then-this-lt11, in_default-via-else-this-lt4+else-this-lt6+else-this-lt9+else-this-lt11, in_default-via-else-this-lt4+else-this-lt6+then-this-lt9, in_default-via-then-this-lt4, then-this-lt6}
use Rattle.command.proofs.operands.Goals as goal

-- a number or the one after it
one_of_two : (short k : ℕ) → k ≤ short → short < k + 2 → (short ≡ k) ⊎ (short ≡ k + 1)
one_of_two short k l h = by (ℕ_discrete short k)
  where
    by : Dec (short ≡ k) → (short ≡ k) ⊎ (short ≡ k + 1)
    by (yes e) = inl e
    by (no n) = inr (omega arith)

tone-code : (c : In-4-1) → ToneCode c.args.code
tone-code c = rw (sym c.short_of.ensures) (elim c.in-4-1.branch [
  | then-this-lt6 w ↦ inl (one_of_two c.short_of.result 4 (omega arith) (omega arith))
  | else-this-lt6+else-this-lt9+then-this-lt11 w ↦ inr (one_of_two c.short_of.result 9 (omega arith) (omega arith))
])

-- a short byte of a tone's command is 4 or 5, or 9 or 10
within : (short : ℕ) → ShortToneCode short → ((4 ≤ short) × (short < 6)) ⊎ ((9 ≤ short) × (short < 11))
within short (inl (inl e)) = inl (omega arith, omega arith)
within short (inl (inr e)) = inl (omega arith, omega arith)
within short (inr (inl e)) = inr (omega arith, omega arith)
within short (inr (inr e)) = inr (omega arith, omega arith)

no-tone : (c : In_default) → ToneCode c.args.code → ⊥
no-tone c t = by (within short (rw (sym c.short_of.ensures) at t))
  where
    short : ℕ
    short = c.short_of.result

    by : ((4 ≤ short) × (short < 6)) ⊎ ((9 ≤ short) × (short < 11)) → ⊥
    by (inl h) = elim c.in_default.branch [
      | in_default-via-then-this-lt4 w ↦ omega arith
      | in_default-via-else-this-lt4+else-this-lt6+then-this-lt9 w ↦ omega arith
      | in_default-via-else-this-lt4+else-this-lt6+else-this-lt9+else-this-lt11 w ↦ omega arith
    ]
    by (inr h) = elim c.in_default.branch [
      | in_default-via-then-this-lt4 w ↦ omega arith
      | in_default-via-else-this-lt4+else-this-lt6+then-this-lt9 w ↦ omega arith
      | in_default-via-else-this-lt4+else-this-lt6+else-this-lt9+else-this-lt11 w ↦ omega arith
    ]

rest-code : (c : In-11) → RestCode c.args.code
rest-code c = sym c.short_of.ensures ∙ c.in-11.is

pub rest_command-requires : goal.rest_command-requires
rest_command-requires c = record {
  code_in_bounds = omega (arith, ap (λ r. width r.operands) (rest-row c.args.code (rest-code (goal.at.rest_command-requires c).In-11)), c.requires.code_in_bounds);
  s_len_bound = omega arith;
  in_range = λ l. (rw (entry-there c.args.s.now c.args.noted.rest c.args.noted.high c.args.noted.own l) at c.requires.entry_in_range).0;
}

high-code : (c : In-12) → HighCode c.args.code
high-code c = sym c.short_of.ensures ∙ c.in-12.is

pub high_command-requires : goal.high_command-requires
high_command-requires c =
    record {
      code_in_bounds = omega (arith, ap (λ r. width r.operands) (high-row c.args.code (high-code (goal.at.high_command-requires c).In-12)), c.requires.code_in_bounds);
      s_len_bound = omega arith;
    }

pub returns-in-11 : goal.returns-in-11
returns-in-11 c = c.rest_command.ensures c.args.noted.high ∙ ap (row_at _ _ _ _) (rest-row c.args.code (rest-code (goal.at.returns-in-11 c).In-11))

pub returns-in-12 : goal.returns-in-12
returns-in-12 c = c.high_command.ensures c.args.noted.rest ∙ ap (row_at _ _ _ _) (high-row c.args.code (high-code (goal.at.returns-in-12 c).In-12))

pub tone_command-requires : goal.tone_command-requires
tone_command-requires c = record {
  code_in_bounds = omega (arith, ap (λ r. width r.operands) (tone-row c.args.code (tone-code (goal.at.tone_command-requires c).In-4-1)), c.requires.code_in_bounds);
  s_len_bound = omega arith;
}

pub returns-in-4 : goal.returns-in-4
returns-in-4 c = c.tone_command.ensures c.args.noted.rest c.args.noted.high ∙ ap (row_at _ _ _ _) (tone-row c.args.code (tone-code (goal.at.returns-in-4 c).In-4-1))

pub line_operands-requires : goal.line_operands-requires
line_operands-requires c = record {
  no_tone = no-tone (goal.at.line_operands-requires c).In_default;
  no_rest = λ e. let short : c.short_of.result ≡ 11 = c.short_of.ensures ∙ e in omega arith;
  no_high = λ e. let short : c.short_of.result ≡ 12 = c.short_of.ensures ∙ e in omega arith;
  code_in_bounds = omega (arith, c.requires.code_in_bounds);
  s_len_bound = omega arith;
}

pub returns-in_default : goal.returns-in_default
returns-in_default c = c.line_operands.ensures _
