-- The codes of a run, one after the other, as a writer puts them. Assumes nothing.
use mathlib.Core.Path.{◌≡◌, refl, sym, ap, ◌∙◌}
use mathlib.Core.Bool.{Bool, true, false, cond}
use mathlib.Core.List.{List, [], ◌∷◌, ◌++◌, append-nil}
use Prim.Native.Nat.{ℕ, suc, ◌+◌, ◌-◌, ◌*◌, ◌/◌, ◌%◌, ◌≤◌, ◌<◌}
use native.Mathlib.Omega.{arith}
use lib.Dec.{leb}
use lib.ListN.{length, replicate, length-append}
use borrow.Author.Tests.{leb-true, leb-false}
use Rattle.rules.specs.Bits.{bits_for}
use Rattle.rules.specs.Codes as Rule
use Rattle.rules.specs.Codes.{Colour, code_bits}
use Rattle.rules.specs.Write.{most_makeup, terminating, makeup, wholes, run_codes, codes_bits, run_bits}
use Rattle.rules.proofs.Codes.{shape, length-code_bits}
use Rattle.rules.specs.Runs.{For, Made, last, next}
use Rattle.rules.proofs.WriteRuns.{terminating-for, makeup-for, made-run}
use Rattle.tables.specs.Tables.{SameBits}
use Rattle.tables.specs.declared.Code.{Code}
use Rattle.writer.specs.Putting.{Sound, Spells, Room, Puts}
use Rattle.writer.specs.Coding.{largest}
use Rattle.writer.proofs.Owing.{Owes, first_code, owes-code, last_code, puts-all}

-- ---- Codes of the tables

-- a code of the source spells the code of the tables that it stands for
pub code-spells : {colour : Colour} {run : ℕ} {c : Rule.Code} {code : Code} → For colour run c → SameBits code c → Spells code (code_bits c)
unfolding code_bits
code-spells {colour} {c = c} f s =
    let h = shape colour c f.member in
    record {
      sound = record {
        some_bits = omega (arith, h.some_bits, s.same_size);
        few_bits = omega (arith, h.few_bits, s.same_size);
        small = rw (s.same_size, s.same_word) h.small_word;
      };
      bits = rw (s.same_size, s.same_word);
    }

-- ---- A run's codes

-- by the counts of its codes
module _ (colour : Colour) (n : ℕ) where
  run_is : (q m t : ℕ) → n / (64 * most_makeup) ≡ q → n % (64 * most_makeup) / 64 ≡ m → n % 64 ≡ t
      → run_bits colour n ≡ codes_bits (replicate q (makeup colour most_makeup) ++ (wholes colour m ++ terminating colour t ∷ []))
  unfolding run_bits run_codes
  run_is q m t e f g = rw (e, f, g)

-- a run below 64 is a terminating code
pub run-last : (colour : Colour) (n : ℕ) → n < 64 → run_bits colour n ≡ code_bits (terminating colour n)
unfolding codes_bits
run-last colour n h = run_is colour n 0 0 n (omega arith) (omega arith) (omega arith) ∙ append-nil (code_bits (terminating colour n))

-- any other begins with the largest make-up code that it holds
pub run_more : (colour : Colour) (n : ℕ) → 64 ≤ n
    → run_bits colour n ≡ code_bits (makeup colour (largest n)) ++ run_bits colour (n - 64 * largest n)
unfolding codes_bits
run_more colour n h = by (leb most_makeup (n / 64)) (leb-true most_makeup (n / 64)) (leb-false most_makeup (n / 64))
  where
    long : most_makeup ≤ n / 64 → run_bits colour n ≡ code_bits (makeup colour most_makeup) ++ run_bits colour (n - 64 * most_makeup)
    long k =
        let r = n - 64 * most_makeup in
        run_is colour n (suc (r / (64 * most_makeup))) (r % (64 * most_makeup) / 64) (r % 64) (omega arith) (omega arith) (omega arith)
        ∙ ap (λ (l : List Bool). code_bits (makeup colour most_makeup) ++ l)
        (sym (run_is colour r (r / (64 * most_makeup)) (r % (64 * most_makeup) / 64) (r % 64) refl refl refl))

    short : n / 64 < most_makeup → run_bits colour n ≡ code_bits (makeup colour (n / 64)) ++ run_bits colour (n - 64 * (n / 64))
    short k =
        let e : suc (n / 64 - 1) ≡ n / 64 = omega arith in
        let r = n - 64 * (n / 64) in
        run_is colour n 0 (suc (n / 64 - 1)) r (omega arith) (omega arith) (omega arith)
        ∙ ap (λ (m : ℕ). code_bits (makeup colour m) ++ codes_bits (terminating colour r ∷ [])) e
        ∙ ap (λ (l : List Bool). code_bits (makeup colour (n / 64)) ++ l) (sym (run_is colour r 0 0 r (omega arith) (omega arith) (omega arith)))

    by : (b : Bool) → (b ≡ true → most_makeup ≤ n / 64) → (b ≡ false → n / 64 < most_makeup)
        → run_bits colour n
        ≡ code_bits (makeup colour (cond b most_makeup (n / 64))) ++ run_bits colour (n - 64 * cond b most_makeup (n / 64))
    by true p q = long (p refl)
    by false p q = short (q refl)

-- there is such a code, and the run holds it
pub record Largest (n : ℕ) : Type 0 where
  pub some-64s : 1 ≤ largest n
  pub in_table : largest n ≤ 40
  pub held : 64 * largest n ≤ n

pub largest-held : (n : ℕ) → 64 ≤ n → Largest n
largest-held n h = by (leb most_makeup (n / 64)) refl
  where
    by : (b : Bool) → leb most_makeup (n / 64) ≡ b → Largest n
    by true e = record { some-64s = rw e (omega arith); in_table = rw e (omega arith); held = rw e (omega (arith, leb-true most_makeup (n / 64) e)) }
    by false e =
        let k = leb-false most_makeup (n / 64) e in
        record { some-64s = rw e (omega arith); in_table = rw e (omega arith); held = rw e (omega arith) }

-- ---- How many bits

-- a code has at most 13, and stands for 64 pixels at least unless it is the last
codes-few : {colour : Colour} {n : ℕ} {cs : List Rule.Code} → Made colour n cs → length (codes_bits cs) ≤ 13 + 13 * (n / 64)
unfolding codes_bits
codes-few {colour} (last {c = c} f h) =
    omega (arith, length-append (code_bits c) [], length-code_bits c, (shape colour c f.member).few_bits)
codes-few {colour} (next {c = c} {cs = cs} f h m) =
    omega (arith, length-append (code_bits c) (codes_bits cs), length-code_bits c, (shape colour c f.member).few_bits, codes-few m)

-- so has a run
pub run-few : (colour : Colour) (n : ℕ) → length (run_bits colour n) ≤ 13 + 13 * (n / 64)
unfolding run_bits
run-few colour n = codes-few (made-run colour n)

-- ---- The code that comes next

module _ (colour : Colour) (left : ℕ) {code : Code} where
  -- a make-up code
  module _ (h : 64 ≤ left) (m : ℕ) (e : m ≡ largest left) (s : SameBits code (makeup colour m)) where
    pub makeup-spells : Spells code (code_bits (makeup colour m))
    makeup-spells = let l = largest-held left h in code-spells (makeup-for colour m (rw e l.some-64s) (rw e l.in_table)) s

    pub makeup-first : run_bits colour left ≡ code_bits (makeup colour m) ++ run_bits colour (left - 64 * m)
    makeup-first = rw e (run_more colour left h)

  -- the terminating code
  pub terminating-spells : left < 64 → SameBits code (terminating colour left) → Spells code (code_bits (terminating colour left))
  terminating-spells h s = code-spells (terminating-for colour left h) s

-- ---- A run of which so much is left to put

module _ {write : Bool} (colour : Colour) {at : ℕ} (run : ℕ) {start : List ℕ} (room : Room write at (length (run_bits colour run)) (length start))
    {p : ℕ} (left : ℕ) {out : List ℕ} (owes : Owes write p (run_bits colour left) out at (run_bits colour run) start) {code : Code} where
  -- a make-up code
  module _ (h : 64 ≤ left) (m : ℕ) (e : m ≡ largest left) (s : SameBits code (makeup colour m)) where
    pub makeup-room : Room write p code.size (length out) × Sound code
    makeup-room = first_code owes (makeup-spells colour left h m e s) _ (makeup-first colour left h m e s) room

    pub makeup-put : {r : ℕ} {out' : List ℕ} → Puts write p (bits_for code.size code.word) out r out'
        → Owes write r (run_bits colour (left - 64 * m)) out' at (run_bits colour run) start
    makeup-put = owes-code owes (makeup-spells colour left h m e s) _ (makeup-first colour left h m e s) room.inside

  -- the terminating code
  module _ (h : left < 64) (s : SameBits code (terminating colour left)) where
    pub terminating-room : Room write p code.size (length out) × Sound code
    terminating-room = last_code owes (terminating-spells colour left h s) (run-last colour left h) room

    pub terminating-put : {r : ℕ} {out' : List ℕ} → Puts write p (bits_for code.size code.word) out r out'
        → Puts write at (run_bits colour run) start r out'
    terminating-put = puts-all owes (terminating-spells colour left h s) (run-last colour left h)
