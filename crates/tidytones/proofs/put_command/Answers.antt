-- `tidytones::put_command` meets its contract. Assumes nothing.
use mathlib.Core.Path.{◌≡◌, sym, ap, ◌∙◌}
use Prim.Native.Nat.{ℕ, ◌+◌, ◌-◌, ◌≤◌}
use native.Mathlib.Omega.{arith}
use lib.ListN.{length, get_or, take, drop, length-set}
use Rattle.bigendian.proofs.Numbers.{number_fits}
use Rattle.addresses.specs.Addresses.{carried_at}
use Rattle.tidyform.specs.Tidy.{tidy_width}
use Rattle.tidylengths.specs.Copies.{part, carried_bytes}
use Rattle.tidylengths.proofs.Commands.{length-command, length_part}
use Rattle.tidytones.proofs.Writes.{part-lent, command-stores}
use Rattle.tidytones.proofs.put_command.Goals.{After-bytes_of, Start}
use Rattle.tidytones.proofs.put_command.Goals as goal

-- the command has room
room : (c : Start) → (let a = c.args in
    a.at + (1 + tidy_width a.tone + carried_bytes (get_or a.s.now a.place 0)) ≤ length a.out.now)
room c = let a = c.args in omega (arith, c.requires.bytes_in_bounds, length-command a.s.now a.tone a.place)

-- what it carries, as the code takes it
carried-is : (c : After-bytes_of) → (let a = c.args in
    let from = a.place + 1 + c.number_width-number.result in
    take (a.place + c.bytes_of.result - from) (drop from a.s.now) ≡ part a.s.now (carried_at a.s.now a.place) (carried_bytes (get_or a.s.now a.place 0)))
carried-is c =
    let a = c.args in
    let s = a.s.now in
    let code = get_or s a.place 0 in
    let number = c.number_width-number.ensures.0 in
    let bytes = c.bytes_of.ensures.0 in
    let numbered = c.requires.inside.numbered c.requires.place_nonzero in
    let from = a.place + 1 + c.number_width-number.result in
    let wide : a.place + c.bytes_of.result - from ≡ carried_bytes code = omega (arith, number, bytes, numbered) in
    ap (λ (w : ℕ). take w (drop from s)) wide
    ∙ part-lent s from (carried_bytes code) (omega (arith, number, numbered, c.requires.inside.whole c.requires.place_nonzero))
    ∙ ap (λ (n : ℕ). part s (a.place + 1 + n) (carried_bytes code)) number

carried-long : (c : After-bytes_of) → (let a = c.args in
    let from = a.place + 1 + c.number_width-number.result in
    length (take (a.place + c.bytes_of.result - from) (drop from a.s.now)) ≡ carried_bytes (get_or a.s.now a.place 0))
carried-long c = let a = c.args in rw (carried-is c) (length_part a.s.now (carried_at a.s.now a.place) (carried_bytes (get_or a.s.now a.place 0)))

-- the buffer keeps its length
kept : (c : After-bytes_of) → length c.put_number.new.out ≡ length c.args.out.now
kept c = c.put_number.auto.out ∙ simp length-set

pub copy-requires : goal.copy-requires
copy-requires c =
    let p = goal.at.copy-requires c in
    omega (arith, room p.Start, carried-long p.After-bytes_of, kept p.After-bytes_of, c.tidy_width-width.ensures.0)

pub returns-clause-place : goal.returns-clause-place
returns-clause-place c =
    let a = c.args in
    omega (arith, length-command a.s.now a.tone a.place, c.tidy_width-width.ensures.0, carried-long (goal.at.returns-clause-place c).After-bytes_of)

pub returns-clause-bytes : goal.returns-clause-bytes
returns-clause-bytes c =
    let a = c.args in
    let p = goal.at.returns-clause-bytes c in
    let width = c.tidy_width-width.ensures.0 in
    let number = c.put_number.ensures ∙ number_fits _ _ _ _ (simp length-set (omega (arith, room p.Start, width))) in
    c.copy.ensures
    ∙ rw (number, carried-is p.After-bytes_of, c.code_of.ensures, c.short_of.ensures, width)
    (sym (command-stores a.s.now a.tone a.place a.out.now a.at))
