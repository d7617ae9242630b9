-- `guarded::load_line` meets its contract. Assumes nothing.
use Rattle.std.proofs.lemmas.Result.{err_from_is_err_and}
use Rattle.line.specs.Line.{tones}
use Rattle.noises.specs.Noises.{at_high}
use Rattle.sheet.proofs.Sound.{Bytes}
use Rattle.arrays.proofs.Indexed.{own-low}
use Rattle.guarded.proofs.Lines.{only, filled, low-loadable, high-loadable, both}
use Rattle.guarded.proofs.load_line.Goals as goal

pub fill_arrays-requires-clause-indexed_low : goal.fill_arrays-requires-clause-indexed_low
fill_arrays-requires-clause-indexed_low c = own-low c.requires.indexed

pub most_bits-plain-requires : goal.most_bits-plain-requires
most_bits-plain-requires c =
    let x = c.requires.indexed in
    let bytes : Bytes c.args.s.now = λ i. (c.type_inv.s i).fits in
    record { tones = tones x.line; loadable = low-loadable x bytes c.requires.judged (filled x bytes c.requires.judged c.fill_arrays.ensures) }

pub raise-requires : goal.raise-requires
raise-requires c =
    let x = c.requires.indexed in
    let bytes : Bytes c.args.s.now = λ i. (c.type_inv.s i).fits in
    let low = filled x bytes c.requires.judged c.fill_arrays.ensures in
    record { indexed = x; holds = λ l e. rw (only x l e) at low }

pub most-requires : goal.most-requires
most-requires c =
    let x = c.requires.indexed in
    let bytes : Bytes c.args.s.now = λ i. (c.type_inv.s i).fits in
    record { tones = tones (at_high x.line); loadable = high-loadable x bytes c.requires.judged (c.raise.ensures x.line x.means) }

pub returns-in_err-totals : goal.returns-in_err-totals
returns-in_err-totals c =
    let x = c.requires.indexed in
    let bytes : Bytes c.args.s.now = λ i. (c.type_inv.s i).fits in
    let p = err_from_is_err_and c.from_residual.result c.from_residual.ensures.1 in
    let plain = c.most_bits-plain.ensures (tones x.line) (low-loadable x bytes c.requires.judged (filled x bytes c.requires.judged c.fill_arrays.ensures)) in
    let raised = c.in_err-totals.ensures (tones (at_high x.line)) (high-loadable x bytes c.requires.judged (c.raise.ensures x.line x.means)) in
    let b = both x bytes c.requires.judged plain raised in
    rw (p.1, p.2) (record { answer = b.answer; bytes = b.bytes_after })

pub returns : goal.returns
returns c =
    let x = c.requires.indexed in
    let bytes : Bytes c.args.s.now = λ i. (c.type_inv.s i).fits in
    let plain = c.most_bits-plain.ensures (tones x.line) (low-loadable x bytes c.requires.judged (filled x bytes c.requires.judged c.fill_arrays.ensures)) in
    let raised = c.in_ok-totals.ensures (tones (at_high x.line)) (high-loadable x bytes c.requires.judged (c.raise.ensures x.line x.means)) in
    let b = both x bytes c.requires.judged plain raised in
    record { answer = b.answer; bytes = b.bytes_after }
