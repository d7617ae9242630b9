-- Laws of silence maps:
--   joined-bit, joined-lt                                   the bits of a map that joins two, and its range
--   some-false, some-true, none-some                        whether some number below another passes a test
--   count-le, counted-le, count_same, count_past, count-more   how many do
--   beyond-clear, beyond-zero, clear-beyond, beyond-shift   maps that name no tone from N on
--   joined-silences                                         maps of one word join
--   ones-count, silenced-in, count_word                     the ones of each map are the tones that the maps silence
-- Assumes nothing.
use mathlib.Core.Bool.{Bool, true, false, not, ◌&&◌, ◌||◌, true≢false, or-false, and-true, and-false}
use mathlib.Core.Logic.{⊎_elim}
use mathlib.Core.List.{List}
use mathlib.Core.Path.{◌≡◌, refl, ap, sym, ◌∙◌}
use Prim.Native.Nat.{ℕ, zero, suc, ◌+◌, ◌*◌, ◌-◌, ◌/◌, ◌%◌, ◌^◌, ◌≤◌, ◌<◌, max}
use native.Mathlib.Nat.{eq-or-lt_of_le, le_of_suc-le-suc, not-suc-le-zero, mod-lt, mod-eq_of_lt, zero-div, div-eq_of_lt, lt_of_lt_of_le, add_comm, add_assoc, add-suc, add-zero}
use native.Mathlib.Numerals.{add-one}
use native.Mathlib.Omega.{arith}
use borrow.Author.Tests.{eqb-true, eqb-false, eq-eqb, ne_eqb, leb-true, ltb-true, ltb-false, le-leb, not-false}
use lib.Bits.{bit_or, or_shr, or_step, or_lt}
use lib.Count.{ones, ones_cat}
use lib.Dec.{eqb, leb, ltb}
use lib.ListN.{length, get_or}
use lib.Pow.{pow_pos, pow_mono, mod-pow-add, shr_le, shr-shr}
use lib.Seq.{get_or-set_same, get_or-set_other}
use Rattle.silence.specs.Map.{bit, silenced, joined, some, names_beyond, one, count}

-- Bits

bit-lt : (map k : ℕ) → bit map k < 2
bit-lt map k = omega arith

-- a bit is 0 or 1
by_bit : (P : ℕ → Type 0) → P 0 → P 1 → (b : ℕ) → b < 2 → P b
by_bit P x y zero h = x
by_bit P x y (suc zero) h = y
by_bit P x y (suc (suc b)) h = absurd (not-suc-le-zero (le_of_suc-le-suc (le_of_suc-le-suc h)))

-- a number below 2 ^ n whose bits are all clear is 0
all-clear : (n x : ℕ) → x < 2 ^ n → ((k : ℕ) → bit x k ≡ 0) → x ≡ 0
all-clear zero x l z = omega arith
all-clear (suc n) x l z =
    let h : x / 2 ≡ 0 = all-clear n (x / 2) (omega arith) (λ k. ap (λ (q : ℕ). q % 2) (shr-shr x 1 k) ∙ z (1 + k)) in
    let e : bit x 0 ≡ 0 = z 0 in
    omega arith

-- no bit is set from the top on
high-clear : (n x k : ℕ) → x < 2 ^ n → n ≤ k → bit x k ≡ 0
high-clear n x k l h = ap (λ (q : ℕ). q % 2) (div-eq_of_lt (lt_of_lt_of_le l (pow_mono h)))

pub joined-bit : (a b k : ℕ) → bit (bit_or a b) k ≡ max (bit a k) (bit b k)
joined-bit a b k =
    let x = a / 2 ^ k in
    let y = b / 2 ^ k in
    ap (λ (n : ℕ). n % 2) (or_shr a b k) ∙ low (bit_or x y) (bit_or (x / 2) (y / 2)) (bit a k) (bit b k) (or_step x y) (bit-lt a k) (bit-lt b k)
  where
    low : (o h p q : ℕ) → o ≡ h * 2 + max p q → p < 2 → q < 2 → o % 2 ≡ max p q
    low o h p q e hp hq = omega arith

pub joined-lt : (a b : ℕ) → a < 2 ^ 32 → b < 2 ^ 32 → bit_or a b < 2 ^ 32
joined-lt = or_lt 32

-- Tests below a number

-- a test passes or fails
by-test : {P : Type 0} (t : Bool) → (t ≡ true → P) → (t ≡ false → P) → P
by-test true f g = f refl
by-test false f g = g refl

or-clear : (a b : Bool) → (a || b) ≡ false → (a ≡ false) × (b ≡ false)
or-clear true b e = absurd (true≢false e)
or-clear false b e = (refl, e)

pub some-false : (n : ℕ) (test : ℕ → Bool) → some n test ≡ false → (k : ℕ) → k < n → test k ≡ false
unfolding some
some-false zero test e k l = absurd (not-suc-le-zero l)
some-false (suc n) test e k l =
    let o = or-clear (some n test) (test n) e in
    ⊎_elim (λ q. ap test q ∙ o.1) (λ b. some-false n test o.0 k b) (eq-or-lt_of_le (le_of_suc-le-suc l))

pub some-true : (n : ℕ) (test : ℕ → Bool) (k : ℕ) → k < n → test k ≡ true → some n test ≡ true
some-true n test k l h = by-test (some n test) (λ e. e) (λ e. absurd (true≢false (sym h ∙ some-false n test e k l)))

-- the converse of some-false
pub none-some : (n : ℕ) (test : ℕ → Bool) → ((k : ℕ) → k < n → test k ≡ false) → some n test ≡ false
unfolding some
none-some zero test h = refl
none-some (suc n) test h =
    ap (λ (b : Bool). b || test n) (none-some n test (λ k l. h k (omega arith))) ∙ h n (omega arith)

pub count-le : (n : ℕ) (test : ℕ → Bool) → count n test ≤ n
unfolding count
count-le zero test = omega arith
count-le (suc n) test = omega (arith, count-le n test, one-le (test n))
  where
    one-le : (t : Bool) → one t ≤ 1
    one-le true = omega arith
    one-le false = omega arith

pub counted-le : (n : ℕ) (test : ℕ → Bool) {m : ℕ} → m ≡ count n test → m ≤ n
counted-le n test e = omega (arith, count-le n test)

pub count_same : (n : ℕ) (f g : ℕ → Bool) → ((k : ℕ) → k < n → f k ≡ g k) → count n f ≡ count n g
unfolding count
count_same zero f g h = refl
count_same (suc n) f g h =
    let p : count n f ≡ count n g = count_same n f g (λ k l. h k (omega arith)) in
    let q : f n ≡ g n = h n (omega arith) in
    cc

count_add : (n m : ℕ) (test : ℕ → Bool) → count (n + m) test ≡ count n test + count m (λ k. test (n + k))
unfolding count
count_add n zero test = rw (add-zero n, add-zero (count n test))
count_add n (suc m) test = rw (add-suc, count_add n m test) (add_assoc (count n test) (count m (λ k. test (n + k))) (one (test (n + m))))

count_none : (n : ℕ) → count n (λ k. false) ≡ 0
unfolding count
count_none zero = refl
count_none (suc n) = omega (arith, count_none n)

-- where none passes from n on, those below n are all
pub count_past : (n m : ℕ) (test : ℕ → Bool) → n ≤ m → ((k : ℕ) → n ≤ k → test k ≡ false) → count m test ≡ count n test
count_past n m test h past =
    let e : n + (m - n) ≡ m = omega arith in
    ap (λ (k : ℕ). count k test) (sym e)
    ∙ count_add n (m - n) test
    ∙ ap (λ (k : ℕ). count n test + k) (count_same (m - n) _ _ (λ k l. past (n + k) (omega arith)) ∙ count_none (m - n))
    ∙ add-zero (count n test)

-- one number more
pub count-more : (n : ℕ) (test : ℕ → Bool) → count (n + 1) test ≡ count n test + one (test n)
unfolding count
count-more n test = ap (λ (k : ℕ). count k test) (add-one n)

-- Tones that are `size` or more

pub beyond-clear : (size word map : ℕ) → map < 2 ^ 32 → names_beyond size word map ≡ false → (k : ℕ) → size ≤ 32 * word + k → bit map k ≡ 0
unfolding names_beyond
beyond-clear size word map l e k h =
    by-test (ltb k 32) (λ t. unset (some-false 32 _ e k (ltb-true k 32 t))) (λ t. high-clear 32 map k l (ltb-false k 32 t))
  where
    unset : (eqb (bit map k) 1 && leb size (32 * word + k)) ≡ false → bit map k ≡ 0
    unset q =
        let s : eqb (bit map k) 1 ≡ false = sym (rw (le-leb size (32 * word + k) h) (and-true (eqb (bit map k) 1))) ∙ q in
        omega (arith, bit-lt map k, eqb-false (bit map k) 1 s)

-- a map names no tone beyond, and has no other: it is 0
pub beyond-zero : (size word map : ℕ) → map < 2 ^ 32 → size ≤ 32 * word → names_beyond size word map ≡ false → map ≡ 0
beyond-zero size word map l h e = all-clear 32 map l (λ k. beyond-clear size word map l e k (omega arith))

pub clear-beyond : (size word map : ℕ) → ((k : ℕ) → k < 32 → size ≤ 32 * word + k → bit map k ≡ 0) → names_beyond size word map ≡ false
unfolding names_beyond
clear-beyond size word map h =
    none-some 32 _ (λ k b. by-test (leb size (32 * word + k)) (λ t. clear k (h k b (leb-true _ _ t))) (inside k))
  where
    clear : (k : ℕ) → bit map k ≡ 0 → (eqb (bit map k) 1 && leb size (32 * word + k)) ≡ false
    clear k z = ap (λ (s : Bool). s && leb size (32 * word + k)) (ne_eqb (bit map k) 1 (λ q. omega arith))

    inside : (k : ℕ) → leb size (32 * word + k) ≡ false → (eqb (bit map k) 1 && leb size (32 * word + k)) ≡ false
    inside k t = ap (λ (s : Bool). eqb (bit map k) 1 && s) t ∙ and-false (eqb (bit map k) 1)

same_false : (a b : Bool) → (a ≡ false → b ≡ false) → (b ≡ false → a ≡ false) → a ≡ b
same_false true true f g = refl
same_false true false f g = g refl
same_false false b f g = sym (f refl)

-- how the code judges it: by the bits from the first such tone on
pub beyond-shift : (size word map from : ℕ) → map < 2 ^ 32 → from ≡ size - 32 * word → not (eqb (map / 2 ^ from) 0) ≡ names_beyond size word map
beyond-shift size word map from l d =
    same_false _ _ (λ e. clear-beyond size word map (λ k b h. gone (eqb-true rest 0 (not-false _ e)) k (omega arith))) (λ e. ap not (eq-eqb rest 0 (none e)))
  where
    rest : ℕ
    rest = map / 2 ^ from

    gone : rest ≡ 0 → (k : ℕ) → from ≤ k → bit map k ≡ 0
    gone e k h =
        let s : from + (k - from) ≡ k = omega arith in
        ap (λ (j : ℕ). bit map j) (sym s)
        ∙ ap (λ (q : ℕ). q % 2) (sym (shr-shr map from (k - from)) ∙ ap (λ (q : ℕ). q / 2 ^ (k - from)) e ∙ zero-div _)

    none : names_beyond size word map ≡ false → rest ≡ 0
    none e =
        all-clear 32 rest (omega (arith, shr_le map from)) (λ k. ap (λ (q : ℕ). q % 2) (shr-shr map from k) ∙ beyond-clear size word map l e (from + k) (omega arith))

-- Maps that join

-- a bit of a map that joins two is set where one of theirs is
both : (a b : ℕ) → a < 2 → b < 2 → eqb (max a b) 1 ≡ (eqb a 1 || eqb b 1)
both a b p q =
    by_bit (λ x. eqb (max x b) 1 ≡ (eqb x 1 || eqb b 1))
    (by_bit (λ y. eqb (max 0 y) 1 ≡ eqb y 1) refl refl b q)
    (by_bit (λ y. eqb (max 1 y) 1 ≡ true) refl refl b q)
    a
    p

-- 'Maps of one word join': a tone is silenced that was, or that the map names
pub joined-silences : (maps : List ℕ) (word map tone : ℕ) → word < length maps → silenced (joined maps word map) tone ≡ (silenced maps tone || (eqb (tone / 32) word && eqb (bit map (tone % 32)) 1))
joined-silences maps word map tone l =
    by-test (eqb (tone / 32) word) (λ t. here (eqb-true (tone / 32) word t)) there
  where
    k : ℕ
    k = tone % 32

    old : ℕ
    old = get_or maps word 0

    here : tone / 32 ≡ word → silenced (joined maps word map) tone ≡ (silenced maps tone || (eqb (tone / 32) word && eqb (bit map k) 1))
    here q =
        rw (q, eq-eqb word word refl, get_or-set_same maps word (bit_or old map) 0 l, joined-bit old map k) (both (bit old k) (bit map k) (bit-lt old k) (bit-lt map k))

    there : eqb (tone / 32) word ≡ false → silenced (joined maps word map) tone ≡ (silenced maps tone || (eqb (tone / 32) word && eqb (bit map k) 1))
    there t =
        rw (t, get_or-set_other maps word (tone / 32) (bit_or old map) 0 (eqb-false (tone / 32) word t)) (sym (or-false _))

-- The ones of a map

ones_bit : (r : ℕ) → r < 2 → ones r ≡ one (eqb r 1)
unfolding ones
ones_bit = by_bit (λ r. ones r ≡ one (eqb r 1)) refl refl

count_ones : (n map : ℕ) → ones (map % 2 ^ n) ≡ count n (λ k. eqb (bit map k) 1)
unfolding count
count_ones zero map =
    let e : map % 2 ^ 0 ≡ 0 = omega arith in
    ap ones e ∙ ones_bit 0 (omega arith)
count_ones (suc n) map =
    let s : suc n ≡ 1 + n = omega arith in
    ap (λ (k : ℕ). ones (map % 2 ^ k)) s
    ∙ ap ones (mod-pow-add map 1 n)
    ∙ ones_cat n (bit map n) (map % 2 ^ n) (mod-lt map (pow_pos n))
    ∙ ap (λ (k : ℕ). k + ones (map % 2 ^ n)) (ones_bit (bit map n) (bit-lt map n))
    ∙ ap (λ (k : ℕ). one (eqb (bit map n) 1) + k) (count_ones n map)
    ∙ add_comm _ _

-- the ones of a map are its tones
pub ones-count : (map : ℕ) → map < 2 ^ 32 → ones map ≡ count 32 (λ k. eqb (bit map k) 1)
ones-count map l = ap ones (sym (mod-eq_of_lt l)) ∙ count_ones 32 map

-- tone k of a word
pub silenced-in : (maps : List ℕ) (word k : ℕ) → k < 32 → silenced maps (32 * word + k) ≡ eqb (bit (get_or maps word 0) k) 1
silenced-in maps word k l =
    let p : (32 * word + k) / 32 ≡ word = omega arith in
    let q : (32 * word + k) % 32 ≡ k = omega arith in
    rw (p, q)

-- the tones of one word more
pub count_word : (maps : List ℕ) (word : ℕ) → count (32 * (word + 1)) (silenced maps) ≡ count (32 * word) (silenced maps) + count 32 (λ k. eqb (bit (get_or maps word 0) k) 1)
count_word maps word =
    let e : 32 * (word + 1) ≡ 32 * word + 32 = omega arith in
    ap (λ (n : ℕ). count n (silenced maps)) e
    ∙ count_add (32 * word) 32 (silenced maps)
    ∙ ap (λ (n : ℕ). count (32 * word) (silenced maps) + n) (count_same 32 _ _ (silenced-in maps word))
