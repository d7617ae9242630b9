-- The adding pass over the tones of a line that is indexed in its sheet: the front of its array.
-- Assumes nothing.
use mathlib.Core.List.{List}
use mathlib.Core.Path.{◌≡◌}
use Prim.Native.Nat.{ℕ, ◌*◌, ◌≤◌}
use native.Mathlib.Omega.{arith}
use lib.ListN.{length, take}
use lib.Seq.{sets}
use Rattle.sizes.specs.Sizes.{totals_bytes}
use Rattle.line.specs.Line.{Line, tones, LineInRange}
use Rattle.line.specs.Arrays.{Arrays, ArraysOf}
use Rattle.rows.specs.declared.Header.{Header}
use Rattle.budgetlist.specs.Budgets.{budget_of, budget_count}
use Rattle.sheet.specs.Reading.{accepted, said}
use Rattle.sheet.specs.declared.Index.{Index}
use Rattle.sheet.specs.Index.{Indexed}
use Rattle.sheet.proofs.Uses.{size_is}
use Rattle.arrays.specs.Tones.{HoldsLineOf}
use Rattle.loadings.specs.Loads.{Loadable}
use Rattle.loadings.proofs.Runs.{line-loadable}
use Rattle.budgets.specs.Budgets.{totals_bytes_of, judged_with}
use Rattle.budgets.specs.Pass.{Passable, PassedBy}
use Rattle.budgets.proofs.Laws.{judged-is, none_falls}

module _ {s : List ℕ} {h : Header} {i : Index} (x : Indexed s h i) (list : List ℕ)
    (judged : judged_with list (accepted x.line) ≡ accepted x.line) (A : Arrays) (holds : HoldsLineOf (said s) A) where
  held : LineInRange x.line × ArraysOf x.line A
  held = rw x.means at holds

  loadable : Loadable (length (take h.size A)) (budget_of list 0) (take h.size A) (tones x.line)
  loadable = rw (← size_is x) (line-loadable x.line held.0 (budget_of list 0) (judged-is list (accepted x.line) x.line judged).fits held.1)

  pub line-passable : (out : List ℕ) → totals_bytes * budget_count list ≤ length out → Passable (length (take h.size A)) (take h.size A) list (budget_count list) out
  line-passable out room =
      let R = (judged-is list (accepted x.line) x.line judged).right in
      record {
        some_tones = record { tones = tones x.line; loadable = loadable };
        few_budgets = R.few;
        listed = omega (arith, R.whole);
        none_falls = none_falls R;
        room = room;
      }

  -- the bytes that it leaves are those of the line
  pub line-passed : {old new : List ℕ} {moves : ℕ} → PassedBy (length (take h.size A)) (take h.size A) list (budget_count list) old new moves
      → (l : Line) → said s ≡ accepted l → new ≡ sets old 0 (totals_bytes_of list l)
  line-passed P l e =
      let same : x.line ≡ l = cc x.means in
      rw same at (P.written (tones x.line) loadable)
