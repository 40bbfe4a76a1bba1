-- What the codes say to the bits taken: a code's first bits as a number, and the verdict as one look at each row of a colour's tables. Assumes nothing.
use mathlib.Core.Path.{◌≡◌, refl, sym, ap, ap₂, ◌∙◌, subst}
use mathlib.Core.Bool.{Bool, true, false, cond, true≢false}
use mathlib.Core.List.{List, [], ◌∷◌, ◌++◌, map, map-append, Memᴰ}
use Prim.Native.Nat.{ℕ, zero, suc, ◌+◌, ◌-◌, ◌*◌, ◌/◌, ◌^◌, ◌≤◌, ◌<◌}
use native.Mathlib.Omega.{arith}
use native.Mathlib.Numerals.{add-one}
use lib.Dec.{eqb, leb}
use lib.ListN.{length, get_or, drop, length-append, length-drop, drop_of_length-le, get_or-map, get_or-append}
use lib.Seq.{drop-cons, get_or-append-add}
use borrow.Author.Tests.{leb-true, leb-false, eq-eqb, ne_eqb, eqb-true, eqb-false}
use Rattle.rules.specs.Bits.{bits_for, peek}
use Rattle.rules.specs.Codes.{Colour, white, black, Code, code_bits, code_at, common_makeup, terminating_of, makeup_of, codes_of}
use Rattle.rules.specs.Lookup.{begins}
use Rattle.rules.specs.Plain.{Candidate, candidate, candidates, agreeing, Verdict, no_code, is_code, more_bits, or_more_bits, verdict}
use Rattle.rules.proofs.Bits.{peek-lt, peek-high, peek-bits, length-bits_for}
use Rattle.rules.proofs.Codes.{Shape, shape, length-code_bits}
use Rattle.tables.specs.Tables.{row, rows, code_of}
use Rattle.codes.specs.Plain.{agreed, codes_in, Words, Asked}

-- ---- A code's first bits as a number

same_sum : (a p q : ℕ) → eqb (a + p) (a + q) ≡ eqb p q
same_sum a p q = tests (eqb p q) refl
  where
    tests : (b : Bool) → eqb p q ≡ b → eqb (a + p) (a + q) ≡ b
    tests true e = eq-eqb (a + p) (a + q) (let h : p ≡ q = eqb-true p q e in omega arith)
    tests false e = ne_eqb (a + p) (a + q) (λ z. eqb-false p q e (omega arith))

-- a word begins bits that are enough, where it is their number
begins-number : (xs ys : List Bool) → length xs ≤ length ys → begins xs ys ≡ eqb (peek (length xs) ys) (peek (length xs) xs)
unfolding begins peek
begins-number [] ys h = refl
begins-number (x ∷ xs) [] h = absurd (omega arith)
begins-number (true ∷ xs) (true ∷ ys) h = begins-number xs ys (omega arith) ∙ sym (same_sum (1 * 2 ^ length xs) _ _)
begins-number (false ∷ xs) (false ∷ ys) h = begins-number xs ys (omega arith) ∙ sym (same_sum (0 * 2 ^ length xs) _ _)
begins-number (true ∷ xs) (false ∷ ys) h =
    sym (ne_eqb (0 * 2 ^ length xs + peek (length xs) ys) (1 * 2 ^ length xs + peek (length xs) xs) (λ z. omega (arith, z, peek-lt (length xs) ys)))
begins-number (false ∷ xs) (true ∷ ys) h =
    sym (ne_eqb (1 * 2 ^ length xs + peek (length xs) ys) (0 * 2 ^ length xs + peek (length xs) xs) (λ z. omega (arith, z, peek-lt (length xs) xs)))

-- a longer word begins none
begins-longer : (xs ys : List Bool) → length ys < length xs → begins xs ys ≡ false
unfolding begins
begins-longer [] ys h = absurd (omega arith)
begins-longer (x ∷ xs) [] h = refl
begins-longer (true ∷ xs) (true ∷ ys) h = begins-longer xs ys (omega arith)
begins-longer (true ∷ xs) (false ∷ ys) h = refl
begins-longer (false ∷ xs) (true ∷ ys) h = refl
begins-longer (false ∷ xs) (false ∷ ys) h = begins-longer xs ys (omega arith)

pub too_long : (taken word size code : ℕ) → size < taken → begins (bits_for taken word) (bits_for size code) ≡ false
too_long taken word size code h = begins-longer (bits_for taken word) (bits_for size code) (omega (arith, length-bits_for taken word, length-bits_for size code))

pub first-bits : (taken word size code : ℕ) → taken ≤ size → code < 2 ^ size → word < 2 ^ taken
    → begins (bits_for taken word) (bits_for size code) ≡ eqb (code / 2 ^ (size - taken)) word
first-bits taken word size code h k l =
    begins-number (bits_for taken word) (bits_for size code) (omega (arith, length-bits_for taken word, length-bits_for size code))
    ∙ ap (λ (n : ℕ). eqb (peek n (bits_for size code)) (peek n (bits_for taken word))) (length-bits_for taken word)
    ∙ ap₂ eqb high' (peek-bits taken word l)
  where
    high' : peek taken (bits_for size code) ≡ code / 2 ^ (size - taken)
    high' =
        sym (peek-high taken (size - taken) (bits_for size code))
        ∙ ap (λ (n : ℕ). peek n (bits_for size code) / 2 ^ (size - taken)) (let e : taken + (size - taken) ≡ size = omega arith in e)
        ∙ ap (λ (n : ℕ). n / 2 ^ (size - taken)) (peek-bits size code k)

-- ---- The candidates after some bits

-- a code stays as long as the bits begin it, and then what is behind them is to come
agreed-then : (bs xs : List Bool) (run : ℕ) (cs : List Candidate)
    → agreed bs (candidate xs run ∷ cs) ≡ cond (begins bs xs) (candidate (drop (length bs) xs) run ∷ agreed bs cs) (agreed bs cs)
unfolding agreed agreeing begins
agreed-then [] xs run cs = refl
agreed-then (true ∷ bs) [] run cs = refl
agreed-then (false ∷ bs) [] run cs = refl
agreed-then (true ∷ bs) (true ∷ xs) run cs = agreed-then bs xs run (agreeing true cs)
agreed-then (true ∷ bs) (false ∷ xs) run cs = refl
agreed-then (false ∷ bs) (true ∷ xs) run cs = refl
agreed-then (false ∷ bs) (false ∷ xs) run cs = agreed-then bs xs run (agreeing false cs)

none_left : (bs : List Bool) → verdict (agreed bs []) ≡ no_code
unfolding agreed agreeing verdict
none_left [] = refl
none_left (b ∷ bs) = none_left bs

begun-enough : (xs ys : List Bool) → begins xs ys ≡ true → length xs ≤ length ys
begun-enough xs ys e = tests (leb (length xs) (length ys)) refl
  where
    tests : (b : Bool) → leb (length xs) (length ys) ≡ b → length xs ≤ length ys
    tests true q = leb-true (length xs) (length ys) q
    tests false q = absurd (true≢false (sym e ∙ begins-longer xs ys (leb-false (length xs) (length ys) q)))

all-came : (xs : List Bool) (run : ℕ) (cs : List Candidate) → length xs ≡ 0 → verdict (candidate xs run ∷ cs) ≡ is_code run
unfolding verdict
all-came [] run cs h = refl
all-came (x ∷ xs) run cs h = absurd (omega arith)

some-come : (xs : List Bool) (run : ℕ) (cs : List Candidate) → 1 ≤ length xs → verdict (candidate xs run ∷ cs) ≡ or_more_bits (verdict cs)
unfolding verdict
some-come [] run cs h = absurd (omega arith)
some-come (x ∷ xs) run cs h = refl

first_more : (size taken : ℕ) {n : ℕ} → taken ≤ size → (size ≡ taken → ⊥) → n ≡ size - taken → 1 ≤ n
first_more size taken h k e = omega arith

-- ---- The verdict, one row after another

-- what some codes say to the bits taken
abbrev pub saying : ℕ → ℕ → List Code → Verdict
saying taken word cs = verdict (agreed (bits_for taken word) (candidates cs))

-- no code says so
says_nothing : (taken word : ℕ) → saying taken word [] ≡ no_code
unfolding candidates
says_nothing taken word = none_left (bits_for taken word)

-- one code more: it is not begun; it is just these bits; or bits of it are to come
says_then : (taken word : ℕ) (k : Code) (cs : List Code)
    → saying taken word (k ∷ cs)
    ≡ cond (begins (bits_for taken word) (code_bits k)) (cond (eqb k.size taken) (is_code k.run) (or_more_bits (saying taken word cs))) (saying taken word cs)
unfolding candidates
says_then taken word k cs = ap verdict (agreed-then (bits_for taken word) (code_bits k) k.run (candidates cs)) ∙ tests (begins (bits_for taken word) (code_bits k)) refl
  where
    l : length (bits_for taken word) ≡ taken
    l = length-bits_for taken word

    coming : List Bool
    coming = drop (length (bits_for taken word)) (code_bits k)

    long : length coming ≡ k.size - taken
    long = omega (arith, l, length-drop (length (bits_for taken word)) (code_bits k), length-code_bits k)

    others : List Candidate
    others = agreed (bits_for taken word) (candidates cs)

    tests : (b : Bool) → begins (bits_for taken word) (code_bits k) ≡ b
        → verdict (cond b (candidate coming k.run ∷ others) others) ≡ cond b (cond (eqb k.size taken) (is_code k.run) (or_more_bits (verdict others))) (verdict others)
    tests false q = refl
    tests true q = sizes (eqb k.size taken) (eqb-true k.size taken) (eqb-false k.size taken)
      where
        enough : taken ≤ k.size
        enough = omega (arith, l, begun-enough (bits_for taken word) (code_bits k) q, length-code_bits k)

        sizes : (b : Bool) → (b ≡ true → k.size ≡ taken) → (b ≡ false → k.size ≡ taken → ⊥)
            → verdict (candidate coming k.run ∷ others) ≡ cond b (is_code k.run) (or_more_bits (verdict others))
        sizes true h n = all-came coming k.run others (omega (arith, long, h refl))
        sizes false h n = some-come coming k.run others (first_more k.size taken enough (n refl) long)

-- whether a code with bits to come was met, and what the others say
abbrev pub with_met : Bool → Verdict → Verdict
with_met true v = or_more_bits v
with_met false v = v

met-again : (b : Bool) (v : Verdict) → with_met b (or_more_bits v) ≡ or_more_bits v
met-again false v = refl
met-again true no_code = refl
met-again true (is_code run) = refl
met-again true more_bits = refl

met-code : (b : Bool) (run : ℕ) → with_met b (is_code run) ≡ is_code run
met-code true run = refl
met-code false run = refl

-- what was met up to the i-th code, and what those from it on say, is what all say
pub record Looking (cs : List Code) (taken word : ℕ) (met : Bool) (i : ℕ) : Type 0 where
  pub inside : i ≤ 104
  pub same : with_met met (saying taken word (drop i cs)) ≡ saying taken word cs

pub look-first : (cs : List Code) (taken word : ℕ) → Looking cs taken word false 0
look-first cs taken word = record { inside = omega arith; same = refl }

pub look-last : {cs : List Code} {taken word i : ℕ} {met : Bool} → length cs ≡ 104 → Looking cs taken word met i → 104 ≤ i → with_met met no_code ≡ saying taken word cs
look-last {cs} {taken} {word} {i} {met} l g h =
    ap (with_met met) (sym (ap (saying taken word) (drop_of_length-le cs {i = i} (omega (arith, l))) ∙ says_nothing taken word)) ∙ g.same

module _ {cs : List Code} {taken word i : ℕ} {met : Bool} (g : Looking cs taken word met i) (l : length cs ≡ 104) (h : i < 104) where
  -- what the code that is looked at says together with those behind it
  this : (v : Verdict) → saying taken word (code_at cs i ∷ drop (suc i) cs) ≡ v → with_met met v ≡ saying taken word cs
  this v e = ap (with_met met) (sym e ∙ ap (saying taken word) (sym (drop-cons cs i _ (omega (arith, l))))) ∙ g.same

  module _ (b : begins (bits_for taken word) (code_bits (code_at cs i)) ≡ true) where
    pub look-is-code : (code_at cs i).size ≡ taken → is_code (code_at cs i).run ≡ saying taken word cs
    look-is-code e =
        sym (met-code met (code_at cs i).run)
        ∙ this (is_code (code_at cs i).run) (says_then taken word (code_at cs i) (drop (suc i) cs) ∙ rw (b, eq-eqb (code_at cs i).size taken e))

    pub look-met : ((code_at cs i).size ≡ taken → ⊥) → Looking cs taken word true (i + 1)
    look-met e = record {
      inside = omega arith;
      same =
          rw add-one
          (sym (met-again met (saying taken word (drop (suc i) cs)))
          ∙ this (or_more_bits (saying taken word (drop (suc i) cs))) (says_then taken word (code_at cs i) (drop (suc i) cs) ∙ rw (b, ne_eqb (code_at cs i).size taken e)));
    }

  pub look-on : begins (bits_for taken word) (code_bits (code_at cs i)) ≡ false → Looking cs taken word met (i + 1)
  look-on b = record {
    inside = omega arith;
    same = rw add-one (this (saying taken word (drop (suc i) cs)) (says_then taken word (code_at cs i) (drop (suc i) cs) ∙ rw b));
  }

-- ---- The tables

-- the rows of three tables, one table after another
module _ (t m c : List (List ℕ)) (i : ℕ) (l : length t ≡ 64) where
  pub row_first : i < 64 → get_or t i [] ≡ get_or (t ++ (m ++ c)) i []
  row_first h = sym (get_or-append t (m ++ c) [] i (omega (arith, l)))

  behind : 64 ≤ i → get_or (m ++ c) (i - 64) [] ≡ get_or (t ++ (m ++ c)) i []
  behind h = sym (get_or-append-add t (m ++ c) (i - 64) []) ∙ ap (λ (n : ℕ). get_or (t ++ (m ++ c)) n []) (let e : length t + (i - 64) ≡ i = omega (arith, l) in e)

  module _ (k : length m ≡ 27) where
    pub row-second : 64 ≤ i → i < 91 → get_or m (i - 64) [] ≡ get_or (t ++ (m ++ c)) i []
    row-second h j = sym (get_or-append m c [] (i - 64) (omega (arith, k))) ∙ behind h

    pub row-third : 91 ≤ i → get_or c (i - 91) [] ≡ get_or (t ++ (m ++ c)) i []
    row-third h =
        sym (get_or-append-add m c (i - 91) [])
        ∙ ap (λ (n : ℕ). get_or (m ++ c) n []) (let e : length m + (i - 91) ≡ i - 64 = omega (arith, k) in e)
        ∙ behind (omega arith)

codes-rows : (cs : List Code) → map code_of (rows cs) ≡ cs
codes-rows [] = refl
codes-rows (c ∷ cs) = ap (λ (l : List Code). c ∷ l) (codes-rows cs)

count : (colour : Colour) → length (codes_of colour) ≡ 104
unfolding codes_of
count white = refl
count black = refl

member-at : (cs : List Code) (i : ℕ) → i < length cs → Memᴰ (code_at cs i) cs
member-at [] i h = absurd (omega arith)
member-at (c ∷ cs) zero h = Memᴰ.head refl
member-at (c ∷ cs) (suc i) h = Memᴰ.tail (member-at cs i (omega arith))

module _ {t m c : List (List ℕ)} {taken word : ℕ} (a : Asked t m c taken word) where
  asked-codes : codes_in t m c ≡ codes_of a.colour
  asked-codes = ap (map code_of) a.tables ∙ codes-rows (codes_of a.colour)

  pub asked-count : length (codes_in t m c) ≡ 104
  asked-count = ap length asked-codes ∙ count a.colour

-- the three tables of a colour have its codes
count-terminating : (colour : Colour) → length (rows (terminating_of colour)) ≡ 64
unfolding terminating_of
count-terminating white = refl
count-terminating black = refl

count-makeup : (colour : Colour) → length (rows (makeup_of colour)) ≡ 27 + length (rows common_makeup)
unfolding makeup_of common_makeup
count-makeup white = refl
count-makeup black = refl

module _ (colour : Colour) (t m c : List (List ℕ)) (et : t ≡ rows (terminating_of colour)) (em : m ++ rows common_makeup ≡ rows (makeup_of colour)) (ec : c ≡ rows common_makeup) where
  all_rows : t ++ (m ++ c) ≡ rows (codes_of colour)
  unfolding codes_of
  all_rows = ap₂ ◌++◌ et (ap (λ (l : List (List ℕ)). m ++ l) ec ∙ em) ∙ sym (map-append row (terminating_of colour) (makeup_of colour))

  pub all_codes : codes_in t m c ≡ codes_of colour
  all_codes = ap (map code_of) all_rows ∙ codes-rows (codes_of colour)

  pub asks : {taken word : ℕ} → word < 2 ^ taken → Asked t m c taken word
  asks h = record {
    colour = colour;
    tables = all_rows;
    terminating = ap length et ∙ count-terminating colour;
    makeup = omega (arith, length-append m (rows common_makeup), ap length em, count-makeup colour);
    small_word = h;
  }

-- a look at the i-th row: its size and its word
pub record Turn (t m c : List (List ℕ)) (taken word : ℕ) (met : Bool) (i : ℕ) (row : List ℕ) (size code : ℕ) : Type 0 where
  pub asked : Asked t m c taken word
  pub looking : Looking (codes_in t m c) taken word met i
  pub more : i < 104
  pub row_is : row ≡ get_or (t ++ (m ++ c)) i []
  pub size_is : size ≡ get_or row 1 0
  pub code_is : code ≡ get_or row 2 0

module _ {t m c : List (List ℕ)} {taken word : ℕ} {met : Bool} {i : ℕ} {row : List ℕ} {size code : ℕ} (u : Turn t m c taken word met i row size code) where
  this-code : code_of row ≡ code_at (codes_in t m c) i
  this-code = ap code_of u.row_is ∙ sym (get_or-map code_of (t ++ (m ++ c)) i [])

  pub turn-words : Words taken word size code
  turn-words =
      let colour = u.asked.colour in
      let s : Shape (code_of row) = subst Shape (sym (this-code ∙ ap (λ (cs : List Code). code_at cs i) (asked-codes u.asked)))
      (shape colour (code_at (codes_of colour) i) (member-at (codes_of colour) i (omega (arith, count colour, u.more)))) in
      record {
        few = omega (arith, s.few_bits, u.size_is);
        small_code = subst (λ (n : ℕ). code < 2 ^ n) (sym u.size_is) (omega (arith, s.small_word, u.code_is));
        small_word = u.asked.small_word;
      }

  same_size : (code_at (codes_in t m c) i).size ≡ size
  same_size = ap (λ (k : Code). k.size) (sym this-code) ∙ sym u.size_is

  same-begins : (b : Bool) → b ≡ begins (bits_for taken word) (bits_for size code) → begins (bits_for taken word) (code_bits (code_at (codes_in t m c) i)) ≡ b
  unfolding code_bits
  same-begins b e =
      ap (λ (k : Code). begins (bits_for taken word) (code_bits k)) (sym this-code)
      ∙ (λ j. begins (bits_for taken word) (bits_for (sym u.size_is j) (sym u.code_is j)))
      ∙ sym e

  pub turn-is-code : (b : Bool) → b ≡ begins (bits_for taken word) (bits_for size code) → b ≡ true → size ≡ taken → is_code (get_or row 0 0) ≡ saying taken word (codes_in t m c)
  turn-is-code b e y q = ap (λ (k : Code). is_code k.run) this-code ∙ look-is-code u.looking (asked-count u.asked) u.more (same-begins b e ∙ y) (same_size ∙ q)

  pub turn-met : (b : Bool) → b ≡ begins (bits_for taken word) (bits_for size code) → b ≡ true → (size ≡ taken → ⊥) → Looking (codes_in t m c) taken word true (i + 1)
  turn-met b e y q = look-met u.looking (asked-count u.asked) u.more (same-begins b e ∙ y) (λ z. q (sym same_size ∙ z))

  pub turn_on : (b : Bool) → b ≡ begins (bits_for taken word) (bits_for size code) → b ≡ false → Looking (codes_in t m c) taken word met (i + 1)
  turn_on b e y = look-on u.looking (asked-count u.asked) u.more (same-begins b e ∙ y)
