-- `tidy::tidy` meets its contract. Assumes nothing.
use mathlib.Core.Path.{◌≡◌, refl, ap, ◌∙◌}
use Prim.Native.Nat.{◌+◌}
use Rattle.std.specs.Prelude.{Ok}
use native.Mathlib.Omega.{arith}
use lib.ListN.{length}
use Rattle.line.specs.Line.{Line}
use Rattle.sheet.specs.Reading.{accepted, said}
use Rattle.sheet.proofs.Sound.{Bytes}
use Rattle.sheet.proofs.Uses.{read-line, size_high}
use Rattle.sheet.proofs.Writes.{short-ends, written-ends}
use Rattle.tidyform.specs.Tidy.{tidy}
use Rattle.tidyform.proofs.Length.{length-head}
use Rattle.tidy.proofs.Index.{tones-inside, tidy-bytes}
use Rattle.tidy.proofs.Outcomes.{tidy-writes}
use Rattle.tidy.proofs.tidy.Goals.{After-words_bytes}
use Rattle.tidy.proofs.tidy.Goals as goal

-- what is counted is the length of the tidy form of the line that the sheet means
counted : (c : After-words_bytes) → Bytes c.args.s.now → (l : Line) → said c.args.s.now ≡ accepted l
    → 13 + c.gap_bytes.result + c.tones_bytes.result + c.words_bytes.result ≡ length (tidy l)
counted c b l e =
    let x = (read-line c.in_ok-header.ensures).index in
    omega (arith, tidy-bytes x b l e, length-head c.in_ok-header.header, c.gap_bytes.ensures.0, c.tones_bytes.ensures.0, c.words_bytes.ensures.0)

pub tones_bytes-requires : goal.tones_bytes-requires
tones_bytes-requires c =
    let x = (read-line c.in_ok-header.ensures).index in
    record { size_le_most_tones = size_high x (λ i. (c.type_inv.s i).fits); inside = tones-inside x }

pub returns-then-out-bytes : goal.returns-then-out-bytes
returns-then-out-bytes c =
    let x = read-line c.in_ok-header.ensures in
    let length-is = counted (goal.at.returns-then-out-bytes c).After-words_bytes (λ i. (c.type_inv.s i).fits) x.index.line x.index.means in
    let w = short-ends tidy-writes x.means c.args.out.now (omega (arith, length-is)) refl in
    record { answer = w.0; numbers = w.1.0; bytes = w.1.1 }

pub put_line-requires : goal.put_line-requires
put_line-requires c = record {
  indexed = (read-line c.in_ok-header.ensures).index;
  form_in_bounds = λ l e. omega (arith, counted (goal.at.put_line-requires c).After-words_bytes (λ i. (c.type_inv.s i).fits) l e);
}

pub returns : goal.returns
returns c =
    let x = read-line c.in_ok-header.ensures in
    let length-is = counted (goal.at.returns c).After-words_bytes (λ i. (c.type_inv.s i).fits) x.index.line x.index.means in
    let w = written-ends tidy-writes x.means c.args.out.now (omega (arith, length-is)) (ap Ok length-is) in
    record { answer = w.0; numbers = w.1.0; bytes = c.put_line.ensures x.index.line x.index.means ∙ w.1.1 }
