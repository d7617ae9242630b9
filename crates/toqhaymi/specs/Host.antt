-- What each host call comes to, and what it leaves in the buffer that it writes besides the answers. Document 01, refusal 8: 'in a host call,
-- an answer buffer under 24 bytes'.
-- Assumes nothing.
use Rattle.std.specs.Prelude.{List, ℕ, length}
use Rattle.refusals.specs.Refusals.{Outcome}
use Rattle.refusals.specs.Writing.{after_writing}
use Rattle.sheet.specs.Reading.{reading}
use Rattle.sheet.specs.Check.{check_outcome}
use Rattle.loadings.specs.Loads.{Loading, load_outcome, after_loading}
use Rattle.loadings.specs.Refits.{refit_outcome}
use Rattle.tidy.specs.Tidying.{tidying, tidy_outcome}
use Rattle.loader.specs.Calls.{load_most, load_target, refit, one_step}
use Rattle.answers.specs.Answers.{hosted, hosted_buffer}

abbrev pub host_check : (sheet answer : List ℕ) → Outcome
host_check sheet answer = hosted sheet answer (check_outcome (reading sheet))

-- ---- the loadings and the re-fits, by what they come to in a buffer of so many bytes

abbrev pub host_most : (sheet table answer : List ℕ) → Outcome
host_most sheet table answer = hosted sheet answer (load_outcome (load_most sheet (length table)))

abbrev pub host_target : (sheet : List ℕ) → (target : ℕ) → (table answer : List ℕ) → Outcome
host_target sheet target table answer = hosted sheet answer (load_outcome (load_target sheet target (length table)))

abbrev pub host_refit : (sheet start table answer : List ℕ) → Outcome
host_refit sheet start table answer = hosted sheet answer (refit_outcome (refit sheet start (length table)))

abbrev pub host_step : (sheet start table answer : List ℕ) → Outcome
host_step sheet start table answer = hosted sheet answer (refit_outcome (one_step sheet start (length table)))

-- the table afterwards
abbrev pub host_table : ((room : ℕ) → Loading) → (table answer : List ℕ) → List ℕ
host_table on table answer = hosted_buffer answer table (after_loading (on (length table)) table)

-- ---- the tidying

abbrev pub host_tidy : (sheet tidy answer : List ℕ) → Outcome
host_tidy sheet tidy answer = hosted sheet answer (tidy_outcome (tidying (reading sheet) (length tidy)))

abbrev pub host_tidied : (sheet tidy answer : List ℕ) → List ℕ
host_tidied sheet tidy answer = hosted_buffer answer tidy (after_writing (tidying (reading sheet) (length tidy)) tidy)
