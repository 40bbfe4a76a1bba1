-- Laws of how long a listing can be. Assumes nothing.
use mathlib.Core.Path.{◌≡◌, refl, ap}
use mathlib.Core.Bool.{true}
use mathlib.Core.List.{List, [], ◌∷◌, ◌++◌}
use Prim.Native.Nat.{ℕ, zero, suc, ◌+◌, ◌-◌, ◌*◌, ◌/◌, ◌%◌, ◌^◌, ◌≤◌, ◌<◌}
use Prim.Native.String.{String}
use native.Mathlib.Omega.{arith}
use native.Mathlib.Nat.{pow-suc}
use lib.ListN.{length, get_or, take, drop, length-append, length-drop}
use lib.Seq.{get_or-drop, length-take-le}
use Rattle.rules.specs.Write.{rows_in, ends_rise}
use Rattle.listing_text.specs.Text.{ascii, newline, digit, decimal}
use Rattle.listing_text.specs.Sheet.{tabbed, text_line, row_line, row_lines, listing_text}
use Rattle.listing_text.specs.Listed.{Rising}
use Rattle.listing_text.proofs.Digits.{decimal-ind}
use Rattle.listing_text.proofs.Rowing.{row_to, rises}

-- a number below 10 ^ k has at most k digits
pub decimal-short : (k n : ℕ) → n < 10 ^ suc k → length (decimal n) ≤ suc k
decimal-short k n = decimal-ind (λ (n : ℕ) (ds : List ℕ). (k : ℕ) → n < 10 ^ suc k → length ds ≤ suc k) one more n k
  where
    one : (n : ℕ) → n < 10 → (k : ℕ) → n < 10 ^ suc k → length (digit n ∷ []) ≤ suc k
    one n h k l = omega arith

    more : (n : ℕ) (ds : List ℕ) → 10 ≤ n → ((k : ℕ) → n / 10 < 10 ^ suc k → length ds ≤ suc k) → (k : ℕ) → n < 10 ^ suc k → length (ds ++ digit (n % 10) ∷ []) ≤ suc k
    more n ds h f zero l = absurd (omega arith)
    more n ds h f (suc k) l = omega (arith, length-append ds (digit (n % 10) ∷ []), f k (omega (arith, pow-suc 10 (suc k))))

-- numbers of 32 bits
pub record Words (xs : List ℕ) : Type 0 where
  pub small : (i : ℕ) → get_or xs i 0 < 4294967296

words-cons : (x : ℕ) (xs : List ℕ) → x < 4294967296 → Words xs → Words (x ∷ xs)
words-cons x xs h w = record { small = each }
  where
    each : (i : ℕ) → get_or (x ∷ xs) i 0 < 4294967296
    each zero = h
    each (suc i) = w.small i

words_tail : (x : ℕ) (xs : List ℕ) → Words (x ∷ xs) → Words xs
words_tail x xs w = record { small = λ i. w.small (suc i) }

words_take : (n : ℕ) (xs : List ℕ) → Words xs → Words (take n xs)
words_take zero xs w = record { small = λ i. omega arith }
words_take (suc n) [] w = record { small = λ i. omega arith }
words_take (suc n) (x ∷ xs) w = words-cons x (take n xs) (w.small 0) (words_take n xs (words_tail x xs w))

words-drop : (n : ℕ) (xs : List ℕ) → Words xs → Words (drop n xs)
words-drop n xs w = record { small = λ i. omega (arith, w.small (n + i), get_or-drop n xs i 0) }

tabbed-is : (n : ℕ) (ns : List ℕ) → length (tabbed (n ∷ ns)) ≡ 1 + length (decimal n) + length (tabbed ns)
unfolding tabbed
tabbed-is n ns = omega (arith, length-append (decimal n) (tabbed ns))

-- a tab and ten digits for each
pub tabbed-short : (ns : List ℕ) → Words ns → length (tabbed ns) ≤ 11 * length ns
unfolding tabbed
tabbed-short [] w = omega arith
tabbed-short (n ∷ ns) w =
    omega (arith, tabbed-is n ns, tabbed-short ns (words_tail n ns w), decimal-short 9 n (omega (arith, w.small 0)))

-- ---- Lines

line-is : (word : String) (ns : List ℕ) → length (text_line word ns) ≡ length (ascii word) + length (tabbed ns) + 1
unfolding text_line
line-is word ns = omega (arith, length-append (ascii word) (tabbed ns ++ newline ∷ []), length-append (tabbed ns) (newline ∷ []))

row-short : (n mark : ℕ) (row : List ℕ) → n < 2 ^ 64 → mark < 256 → length row < 2 ^ 64 → Words row → length (row_line n mark row) ≤ 50 + 11 * length row
unfolding ascii
row-short n mark row h k l w =
    omega (
      arith,
      line-is "row" (n ∷ mark ∷ length row ∷ row),
      tabbed-is n (mark ∷ length row ∷ row),
      tabbed-is mark (length row ∷ row),
      tabbed-is (length row) row,
      decimal-short 19 n (omega arith),
      decimal-short 2 mark (omega arith),
      decimal-short 19 (length row) (omega arith),
      tabbed-short row w,
    )

-- marks, which are bytes
abbrev pub Marks : List ℕ → Type 0
Marks ms = (i : ℕ) → get_or ms i 0 < 256

pub marks-take : (n : ℕ) (ms : List ℕ) → Marks ms → Marks (take n ms)
marks-take zero ms k i = omega arith
marks-take (suc n) [] k i = omega arith
marks-take (suc n) (m ∷ ms) k zero = k 0
marks-take (suc n) (m ∷ ms) k (suc i) = marks-take n ms (λ j. k (suc j)) i

-- the rows that are left have the changes from `base` on
rows_short : (changes : List ℕ) → Words changes → length changes < 2 ^ 64 → (ends marks : List ℕ) → Marks marks → (n base : ℕ) → n + length ends ≤ 2 ^ 64 → base ≤ length changes
    → ends_rise (length changes) base ends ≡ true
    → length (row_lines n (rows_in base changes ends) marks) + 11 * base ≤ 50 * length ends + 11 * length changes
unfolding row_lines rows_in
rows_short changes w f [] marks k n base h l r = omega arith
rows_short changes w f (e ∷ ends) [] k n base h l r = omega arith
rows_short changes w f (e ∷ ends) (m ∷ marks) k n base h l r =
    let s = rises (length changes) base e ends r in
    let row = row_to changes base e in
    let size : length row ≡ e - base = length-take-le (e - base) (drop base changes) (omega (arith, s.low, s.high, length-drop base changes)) in
    omega (
      arith,
      s.low,
      length-append (row_line n m row) (row_lines (suc n) (rows_in e changes ends) marks),
      row-short n m row (omega arith) (k 0) (omega (arith, size, s.high, f)) (words_take (e - base) (drop base changes) (words-drop base changes w)),
      rows_short changes w f ends marks (λ i. k (suc i)) (suc n) e (omega arith) s.high s.rest,
    )

pub rows-count : (changes ends : List ℕ) (base : ℕ) → length (rows_in base changes ends) ≡ length ends
unfolding rows_in
rows-count changes [] base = refl
rows-count changes (e ∷ ends) base = ap suc (rows-count changes ends e)

-- a line of one number, and one of three, of which the last two may have 64 bits
columns-short : (columns : ℕ) → columns < 4294967296 → length (text_line "columns" (columns ∷ [])) ≤ 19
unfolding ascii tabbed
columns-short columns h = omega (arith, line-is "columns" (columns ∷ []), tabbed-is columns [], decimal-short 9 columns (omega arith))

stop-short : (a b c : ℕ) → a < 4294967296 → b < 2 ^ 64 → c < 2 ^ 64 → length (text_line "stop" (a ∷ b ∷ c ∷ [])) ≤ 58
unfolding ascii tabbed
stop-short a b c h l m =
    omega (
      arith,
      line-is "stop" (a ∷ b ∷ c ∷ []),
      tabbed-is a (b ∷ c ∷ []),
      tabbed-is b (c ∷ []),
      tabbed-is c [],
      decimal-short 9 a (omega arith),
      decimal-short 19 b (omega arith),
      decimal-short 19 c (omega arith),
    )

pub listing-short : (columns answer bytes : ℕ) (changes ends marks : List ℕ) → columns < 4294967296 → answer < 4294967296 → bytes < 2 ^ 64 → length ends < 2 ^ 64
    → Words changes → length changes < 2 ^ 64 → Marks marks → Rising changes ends
    → length (listing_text columns answer (rows_in 0 changes ends) marks bytes) ≤ 77 + 50 * length ends + 11 * length changes
unfolding listing_text
listing-short columns answer bytes changes ends marks hc ha hb he w f k r =
    let rows = rows_in 0 changes ends in
    let stop = text_line "stop" (answer ∷ length rows ∷ bytes ∷ []) in
    omega (
      arith,
      length-append (text_line "columns" (columns ∷ [])) (row_lines 1 rows marks ++ stop),
      length-append (row_lines 1 rows marks) stop,
      columns-short columns hc,
      rows_short changes w f ends marks k 1 0 (omega arith) (omega arith) r,
      stop-short answer (length rows) bytes ha (omega (arith, rows-count changes ends 0)) hb,
    )
