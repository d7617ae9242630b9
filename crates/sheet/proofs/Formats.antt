-- A sheet that a format accepts is accepted by every larger format, and means the same line.
-- Assumes nothing.
use mathlib.Core.Bool.{Bool, true, false, cond, true≢false}
use mathlib.Core.List.{List}
use mathlib.Core.Option.{Option, none, some}
use mathlib.Core.Path.{◌≡◌, refl, sym}
use Prim.Native.Nat.{ℕ, zero, suc, ◌+◌}
use native.Mathlib.Omega.{arith}
use borrow.Author.Tests.{ltb-false, le-ltb}
use lib.Dec.{ltb, leb}
use lib.ListN.{length, get_or, replicate}
use Rattle.std.specs.Prelude.{Result, Ok, Err, is_ok}
use Rattle.bigendian.specs.Number.{number}
use Rattle.lists.proofs.Tests.{by-test}
use Rattle.lists.proofs.Stores.{all_same}
use Rattle.silence.specs.Map.{silenced}
use Rattle.steps.proofs.Sums.{sum-zero}
use Rattle.line.specs.declared.Tone.{Tone}
use Rattle.line.specs.Line.{none_added, Entry, undescribed, described, Line, entry_of, entry_rest, rest_of, rest_total}
use Rattle.refusals.specs.declared.Refusal.{Refusal}
use Rattle.rows.specs.declared.Header.{Header}
use Rattle.rows.specs.declared.Command.{Command}
use Rattle.rows.specs.declared.Command.TheVariants.{End, Head, Describe, Rest, High, Silence}
use Rattle.rows.specs.declared.Decoded.{Decoded}
use Rattle.rows.specs.Rows.{Known, Row, width, with_code}
use Rattle.addresses.specs.Addresses.{addressed}
use Rattle.command.specs.Format.{Format, document01, with_tenths, with_readings, with_rests, with_twins, with_sizes, today, is_too_long, decoded_row, decoded, Covered, Within}
use Rattle.command.proofs.Walk.{Each}
use Rattle.command.proofs.Formats.{tenths-within, readings-within, rests-within, twins-within, small_with_highs, small-highs-within, highs-within, sizes-within}
use Rattle.sheet.specs.Reading.{accepted, header_of, with_entry, SoFar, nothing, after_command, after_judged, known_of, command_in, read_on, read_from, said_in, reading_in, reading}
use Rattle.sheet.proofs.Walk.{Leads, said-by}
use Rattle.sheet.proofs.Rests.{never, accepted-is, is-accepted}
use Rattle.sheet.proofs.Sound.{after-any-store}

-- what is the same where it is not refused is the same behind a test
behind : (t : Bool) (x : Decoded) {y z : Decoded} → (is_ok y.command ≡ true → z ≡ y) → is_ok (cond t x y).command ≡ true → cond t x z ≡ cond t x y
behind true x same taken = refl
behind false x same taken = same taken

module _ (F G : Format) (wider : Within F G) where
  module _ (h : Header) (known : Known) (s : List ℕ) (at : ℕ) where
    -- a row that covers another decodes what that one takes as that one does
    same_row : (o o' : Option Row) → Covered o o' → is_ok (decoded_row h known s at o).command ≡ true → decoded_row h known s at o' ≡ decoded_row h known s at o
    same_row none o' c taken = absurd (true≢false (sym taken))
    same_row (some r) none c taken = absurd c
    same_row (some r) (some r') c taken =
        rw c.same_width (behind (ltb (length s) (at + 1 + width r.operands)) _ (λ q. rw (c.same_effect h known s at q)) taken)

    same-decoded : (stage : ℕ) → is_ok (decoded F h known s at stage).command ≡ true → decoded G h known s at stage ≡ decoded F h known s at stage
    unfolding decoded
    same-decoded stage = behind (leb (length s) at) _ (same_row (with_code (F.rows stage) (get_or s at 0)) (with_code (G.rows stage) (get_or s at 0)) (wider.covered stage (get_or s at 0)))

  module _ (s : List ℕ) (l : Line) where
    wider-from : (most at stage : ℕ) (x : SoFar) → read_from F most s at stage x ≡ accepted l → read_from G most s at stage x ≡ accepted l
    unfolding read_from
    wider-from zero at stage x e = e
    wider-from (suc most) at stage x e =
        let k = taken (command_in F x s at stage).command (command_in F x s at stage).next (wider-from most) e in
        rw (same-decoded (header_of x.line) (known_of x (addressed s at)) s at stage k.0) k.1
      where
        -- a command is followed alike
        onward : (c : Command) (next : ℕ)
            → ((at stage : ℕ) (x : SoFar) → read_from F most s at stage x ≡ accepted l → read_from G most s at stage x ≡ accepted l)
            → read_on (after_command c next s at stage x) (read_from F most s) ≡ accepted l
            → read_on (after_command c next s at stage x) (read_from G most s) ≡ accepted l
        onward End next ih e = e
        onward (Head h) next ih e = ih _ _ _ e
        onward (Describe i) next ih e = ih _ _ _ e
        onward (Rest i) next ih e = ih _ _ _ e
        onward (High i) next ih e = ih _ _ _ e
        onward (Silence word map) next ih e = ih _ _ _ e

        -- and what is accepted goes on after no refusal
        taken : (r : Result Command Refusal) (next : ℕ)
            → ((at stage : ℕ) (x : SoFar) → read_from F most s at stage x ≡ accepted l → read_from G most s at stage x ≡ accepted l)
            → read_on (after_judged r next s at stage x) (read_from F most s) ≡ accepted l
            → (is_ok r ≡ true) × (read_on (after_judged r next s at stage x) (read_from G most s) ≡ accepted l)
        taken (Err q) next ih e = never e
        taken (Ok c) next ih e = (refl, onward c next ih e)

    wider-said : said_in F s ≡ accepted l → said_in G s ≡ accepted l
    unfolding said_in
    wider-said =
        by-test (λ m. m ≡ accepted l → said_in G s ≡ accepted l) (is_too_long F s) (λ t e. never e)
        (λ t e. rw (le-ltb G.bytes (length s) (omega (arith, ltb-false F.bytes (length s) t, wider.no_longer))) (wider-from (suc (length s)) 0 0 nothing e))

    wider-reading : reading_in F s ≡ accepted l → reading_in G s ≡ accepted l
    wider-reading e =
        let a = accepted-is F s l e in
        is-accepted G s l (wider-said a.says) a.fits

pub said-wider : (F G : Format) → Within F G → (s : List ℕ) (l : Line) → said_in F s ≡ accepted l → said_in G s ≡ accepted l
said-wider = wider-said

pub accepted-wider : (F G : Format) → Within F G → (s : List ℕ) (l : Line) → reading_in F s ≡ accepted l → reading_in G s ≡ accepted l
accepted-wider = wider-reading

-- ---- the formats before W6, which had no refusal 16: what their bytes say was accepted

-- no tone of a line has a rest
abbrev NoRests : Line → Type 0
NoRests l = (i : ℕ) → entry_rest (entry_of l i) false ≡ 0

none-sent : (e : Entry) (q : Bool) → entry_rest e false ≡ 0 → entry_rest e q ≡ 0
none-sent e true h = refl
none-sent e false h = h

module _ (s : List ℕ) where
  abbrev Along : (at stage : ℕ) → SoFar → Type 0
  Along at stage x = NoRests x.line

  abbrev NoneSent : Line → Type 0
  NoneSent l = rest_total l ≡ 0

  bare : (n i : ℕ) → entry_rest (get_or (replicate n undescribed) i undescribed) false ≡ 0
  bare n i = rw (all_same n i undescribed)

  total-none : (l : Line) → NoRests l → NoneSent l
  total-none l z = sum-zero l.size (rest_of l) (λ i h. none-sent (entry_of l i) (silenced l.maps i) (z i))

  describes : (l : Line) (i : ℕ) (t : Tone) → NoRests l → NoRests (with_entry l i (described t (none_added t)))
  describes l i t z j = after-any-store (λ j e. entry_rest e false ≡ 0) l.entries i (described t (none_added t)) undescribed j (λ e. refl) (z j)

  kept : (at stage : ℕ) (x : SoFar) → Along at stage x → Each (Leads with_readings s Along NoneSent at stage x) (with_readings.rows stage)
  kept at zero x z = (λ is fits p. bare (number s (at + 1) 2), tt)
  kept at (suc zero) x z = (λ is fits p. bare x.line.size, (λ is fits p. bare x.line.size, tt))
  kept at (suc (suc zero)) x z = (λ is fits p. bare x.line.size, tt)
  kept at (suc (suc (suc n))) x z = (
    λ is fits p. describes x.line _ _ z,
    (
      λ is fits p. describes x.line _ _ z,
      (
        λ is fits p. z,
        (
          λ is fits p e. total-none x.line z,
          (λ is fits p. describes x.line _ _ z, (λ is fits p. describes x.line _ _ z, tt)),
        ),
      ),
    ),
  )

  pub none_before : (l : Line) → said_in with_readings s ≡ accepted l → rest_total l ≡ 0
  none_before = said-by with_readings s Along NoneSent kept (bare 0)

-- W9: a sheet that the format before it accepts, with refusal 16, is accepted, and means the same line
pub accepted-before-highs : (s : List ℕ) (l : Line) → reading_in with_sizes s ≡ accepted l → reading s ≡ accepted l
accepted-before-highs = accepted-wider with_sizes today highs-within

-- W8: and so is one that the format before that accepts
pub accepted-before-twins : (s : List ℕ) (l : Line) → reading_in with_rests s ≡ accepted l → reading s ≡ accepted l
accepted-before-twins s l e =
    accepted-wider small_with_highs today sizes-within s l
    (accepted-wider with_twins small_with_highs small-highs-within s l (accepted-wider with_rests with_twins twins-within s l e))

-- W6: and one that the format before that accepts
pub accepted-before-rests : (s : List ℕ) (l : Line) → said_in with_readings s ≡ accepted l → reading s ≡ accepted l
accepted-before-rests s l e =
    accepted-before-twins s l (is-accepted with_rests s l (said-wider with_readings with_rests rests-within s l e) (omega (arith, none_before s l e)))

-- W5: and one that the format before that accepts
pub accepted-before-readings : (s : List ℕ) (l : Line) → said_in with_tenths s ≡ accepted l → reading s ≡ accepted l
accepted-before-readings s l e = accepted-before-rests s l (said-wider with_tenths with_readings readings-within s l e)

-- W1: and one that document 01's format accepts
pub accepted-before-tenths : (s : List ℕ) (l : Line) → said_in document01 s ≡ accepted l → reading s ≡ accepted l
accepted-before-tenths s l e = accepted-before-readings s l (said-wider document01 with_tenths tenths-within s l e)
