-- A tone of a line that is indexed in its sheet, as the code finds it: by what is noted of it and by the maps.
-- Assumes nothing.
use mathlib.Core.Bool.{Bool, true, false}
use mathlib.Core.List.{List}
use mathlib.Core.Path.{◌≡◌, refl, sym, ap, ◌∙◌}
use Prim.Native.Nat.{ℕ, zero, suc, ◌≤◌, ◌<◌}
use native.Mathlib.Omega.{arith}
use Rattle.sizes.specs.Sizes.{most_tones}
use Rattle.silence.specs.Map.{silenced}
use Rattle.gaps.specs.Gap.{parts}
use Rattle.line.specs.Tone.{InRange}
use Rattle.line.specs.Line.{EntryInRange, entry_steps, steps_at}
use Rattle.rows.specs.declared.Header.{Header}
use Rattle.places.specs.Places.{tone_at, entry_at, entry_noted}
use Rattle.places.proofs.Entries.{entry-there}
use Rattle.sheet.specs.declared.Index.{Index}
use Rattle.sheet.specs.Index.{noted_of, Indexed}
use Rattle.sheet.proofs.Sound.{Bytes, Sound}
use Rattle.sheet.proofs.Uses.{size_is, gap_is, silenced-here, line-sound}
use Rattle.arrays.specs.Tones.{IndexedLow}

-- an index of a sheet, and what holds of every line that a sheet means
pub record SoundIndex (s : List ℕ) (h : Header) (x : Index) : Type 0 where
  pub indexed : Indexed s h x
  pub sound : Sound indexed.line

abbrev pub sound-index : {s : List ℕ} {h : Header} {x : Index} → Bytes s → Indexed s h x → SoundIndex s h x
sound-index b I = record { indexed = I; sound = line-sound I b }

-- a tone that stands at a place is in range where its entry is
tone-of-entry : (g : ℕ) (s : List ℕ) (place rest high : ℕ) → EntryInRange g (entry_at s place rest high) → 0 < place → InRange g (tone_at s place)
tone-of-entry g s place rest high I h = (rw (entry-there s rest high place h) at I).0

-- at its own noise nothing of it goes by its high noise
pub own-steps : (g : ℕ) (s : List ℕ) (place rest high : ℕ) (q : Bool) → entry_steps g (entry_at s place rest high) q ≡ entry_steps g (entry_at s place rest 0) q
own-steps g s place rest high true = refl
own-steps g s zero rest high false = refl
own-steps g s (suc p) rest high false = refl

-- an index is one for what goes by the low noises
pub own-low : {s : List ℕ} {h : Header} {x : Index} → Indexed s h x → IndexedLow s h x
own-low {x = x} I = record { other = x; index = I; same_own = λ i. refl; same_rest = λ i. refl; same_maps = refl }

module _ {s : List ℕ} {h : Header} {x : Index} (X : SoundIndex s h x) where
  pub size_high : h.size ≤ most_tones
  size_high = omega (arith, size_is X.indexed, X.sound.in_range.size_high)

  pub tone-in-range : (i : ℕ) → i < h.size → 0 < (noted_of x i).own → InRange (parts h.gap) (tone_at s (noted_of x i).own)
  tone-in-range i l =
      tone-of-entry _ s (noted_of x i).own (noted_of x i).rest (noted_of x i).high
      (rw (← X.indexed.indexes.entry i, ← gap_is X.indexed) (X.sound.in_range.entries i (omega (arith, size_is X.indexed))))

  -- what is found by its places is that of tone i of the line
  pub steps-found : (i : ℕ) {g : ℕ} {q : Bool} → g ≡ parts h.gap → q ≡ silenced x.maps i → entry_steps g (entry_noted s (noted_of x i)) q ≡ steps_at X.indexed.line i
  steps-found i gap silent = rw (gap, silent, ← silenced-here X.indexed.indexes i, ← X.indexed.indexes.entry i, ← gap_is X.indexed)

-- what is found by the places of such an index
module _ {s : List ℕ} {h : Header} {x : Index} (L : IndexedLow s h x) (S : Sound L.index.line) where
  abbrev low-sound : SoundIndex s h L.other
  low-sound = record { indexed = L.index; sound = S }

  pub low-size-high : h.size ≤ most_tones
  low-size-high = size_high low-sound

  pub low-in-range : (i : ℕ) → i < h.size → 0 < (noted_of x i).own → InRange (parts h.gap) (tone_at s (noted_of x i).own)
  low-in-range i l = rw (L.same_own i) (tone-in-range low-sound i l)

  pub low-steps-found : (i : ℕ) {g : ℕ} {q : Bool} → g ≡ parts h.gap → q ≡ silenced x.maps i → entry_steps g (entry_noted s (noted_of x i)) q ≡ steps_at L.index.line i
  low-steps-found i {g} {q} gap silent =
      let n = noted_of x i in
      let m = noted_of L.other i in
      own-steps g s n.own n.rest n.high q
      ∙ ap (λ (own : ℕ). entry_steps g (entry_at s own n.rest 0) q) (L.same_own i)
      ∙ ap (λ (rest : ℕ). entry_steps g (entry_at s m.own rest 0) q) (L.same_rest i)
      ∙ sym (own-steps g s m.own m.rest m.high q)
      ∙ steps-found low-sound i gap (silent ∙ ap (λ (maps : List ℕ). silenced maps i) L.same_maps)
