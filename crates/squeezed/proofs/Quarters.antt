-- Four entries in a word, and each of them read back.
use mathlib.Core.Path.{◌≡◌, sym, ap, ◌∙◌}
use Prim.Native.Nat.{ℕ, zero, suc, ◌+◌, ◌*◌, ◌/◌, ◌%◌, ◌^◌, ◌<◌}
use native.Mathlib.Omega.{arith}
use native.Mathlib.Nat.{add-zero}
use Rattle.squeezed.specs.Words.{packed}

-- the entries of n words have 16 bits
abbrev pub Fit : (ℕ → ℕ) → ℕ → Type 0
Fit table n = (x : ℕ) → x < 4 * n → table x < 65536

-- the entry of a word at its place k, as the source takes it out
abbrev pub taken : ℕ → ℕ → ℕ
taken word k = (word / 2 ^ (16 * k)) % 65536

first : (a x : ℕ) → a < 65536 → (a + 65536 * x) / 1 % 65536 ≡ a
first a x p = omega arith

second : (a b x : ℕ) → a < 65536 → b < 65536 → (a + 65536 * (b + 65536 * x)) / 65536 % 65536 ≡ b
second a b x p q = omega arith

third : (a b c x : ℕ) → a < 65536 → b < 65536 → c < 65536 → (a + 65536 * (b + 65536 * (c + 65536 * x))) / 4294967296 % 65536 ≡ c
third a b c x p q r = omega arith

fourth : (a b c d : ℕ) → a < 65536 → b < 65536 → c < 65536 → d < 65536
    → (a + 65536 * (b + 65536 * (c + 65536 * d))) / 281474976710656 % 65536 ≡ d
fourth a b c d p q r s = omega arith

module _ (table : ℕ → ℕ) (n i : ℕ) (fit : Fit table n) (h : i < n) where
  low : table (4 * i) < 65536
  low = fit (4 * i) (omega arith)

  fits : (k : ℕ) → k < 4 → table (4 * i + k) < 65536
  fits k l = fit (4 * i + k) (omega arith)

  read_back : (k : ℕ) → k < 4 → taken (packed table i) k ≡ table (4 * i + k)
  unfolding packed
  read_back zero l = first _ _ low ∙ ap table (sym (add-zero (4 * i)))
  read_back (suc zero) l = second _ _ _ low (fits 1 l)
  read_back (suc (suc zero)) l = third _ _ _ _ low (fits 1 (omega arith)) (fits 2 l)
  read_back (suc (suc (suc zero))) l = fourth _ _ _ _ low (fits 1 (omega arith)) (fits 2 (omega arith)) (fits 3 l)
  read_back (suc (suc (suc (suc k)))) l = absurd (omega arith)

-- the entry at any place
pub entry-back : (table : ℕ → ℕ) (n : ℕ) → Fit table n → (at : ℕ) {word : ℕ} → word ≡ packed table (at / 4) → at / 4 < n
    → taken word (at % 4) ≡ table at
entry-back table n fit at e h =
    ap (λ (w : ℕ). taken w (at % 4)) e
    ∙ read_back table n (at / 4) fit h (at % 4) (omega arith)
    ∙ ap table (let q : 4 * (at / 4) + at % 4 ≡ at = omega arith in q)
