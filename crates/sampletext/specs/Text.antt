-- What is read of the test program's text, by its characters. Assumes nothing.
use Rattle.std.specs.Prelude.{ℕ, suc, ◌+◌, ◌-◌, ◌*◌, cond, ◌&&◌, List, [], ◌∷◌, ◌==◌, nat_le, nat_lt}

-- how many characters stand before the first that is wanted: all of them where none is
unfoldable pub skipped : List ℕ → (wanted : ℕ) → ℕ
skipped [] wanted = 0
skipped (c ∷ text) wanted = cond (c == wanted) 0 (suc (skipped text wanted))

-- the value of a hex digit, `0` to `9` or `a` to `f`, and 16 for any other character
unfoldable pub digit_of : ℕ → ℕ
digit_of c = cond (nat_le 48 c && nat_le c 57) (c - 48) (cond (nat_le 97 c && nat_le c 102) (c - 97 + 10) 16)

-- the decimal number that a value and the digits after it spell; a value of ten digits takes no more
unfoldable pub spelled : (value : ℕ) → List ℕ → ℕ
spelled value [] = value
spelled value (c ∷ text) =
    cond (nat_lt 9 (digit_of c)) value (cond (nat_lt 999999999 value) value (spelled (value * 10 + digit_of c) text))
