-- A run of one code, and of two, by their entries. Assumes nothing.
use mathlib.Core.Path.{◌≡◌, refl, sym, ap, ◌∙◌}
use mathlib.Core.Bool.{Bool, cond}
use mathlib.Core.List.{List}
use Prim.Native.Nat.{ℕ, ◌+◌, ◌-◌, ◌*◌, ◌/◌, ◌%◌, ◌^◌, ◌≤◌, ◌<◌}
use native.Mathlib.Omega.{arith}
use native.Mathlib.Nat.{zero-add}
use lib.ListN.{length, get_or, drop}
use borrow.Author.Tests.{le-leb, lt-ltb, le-ltb, eq-eqb, ne_eqb}
use Rattle.rules.specs.Machine.{more, done}
use Rattle.rules.specs.Bits.{bits_of, window, peek}
use Rattle.rules.specs.Codes.{Colour}
use Rattle.rules.specs.Lookup.{Entry, valid, invalid, lookup, entry_number, lookup_table}
use Rattle.rules.specs.Runs.{ok, sum, run_step}
use Rattle.rules.proofs.Bits.{length-bits_of}
use Rattle.rules.proofs.Codes.{shape}
use Rattle.rules.proofs.Lookup.{length-tabulate, lookup-valid, table_at}
use Rattle.rules.proofs.Units.{one_unit, two-units}
use Rattle.bit_reader.specs.Loaded.{Ahead}
use Rattle.bit_reader.proofs.Window.{ahead-first, ahead-shift}
use Rattle.codes.specs.Fronts.{FrontRun, no_front, behind_code, front_of, Fronted}
use Rattle.codes.proofs.Runs.{steps_by, step_by, Summing, no-sum, sum-stops, sum_goes}

-- ---- Each case of `front_of`

module _ (table : List ℕ) (first bits : ℕ) where
  pub front-one : first % 4096 < 64 → record { pixels = first % 4096; size = first / 4096 } ≡ front_of table first bits
  unfolding front_of
  front-one k = rw (lt-ltb (first % 4096) 64 k) refl

  module _ (long : 64 ≤ first % 4096) where
    pub front-none : first % 4096 ≡ 4095 → no_front ≡ front_of table first bits
    unfolding front_of
    front-none k = rw (le-ltb (first % 4096) 64 long, eq-eqb (first % 4096) 4095 k) refl

    module _ (is-run : first % 4096 ≡ 4095 → ⊥) {last : ℕ} (there : last ≡ get_or table (behind_code first bits) 0) where
      pub front-makeups : 64 ≤ last % 4096 → no_front ≡ front_of table first bits
      unfolding front_of
      front-makeups k = rw (le-ltb (first % 4096) 64 long, ne_eqb (first % 4096) 4095 is-run, sym there, le-ltb (last % 4096) 64 k) refl

      pub front-two : last % 4096 < 64
          → record { pixels = first % 4096 + last % 4096; size = first / 4096 + last / 4096 } ≡ front_of table first bits
      unfolding front_of
      front-two k = rw (le-ltb (first % 4096) 64 long, ne_eqb (first % 4096) 4095 is-run, sym there, lt-ltb (last % 4096) 64 k) refl

-- an entry's code has 13 bits at most, but where no code begins the bits
entry-size : (colour : Colour) (ws : List Bool) (e : ℕ) → e ≡ entry_number (lookup colour ws) → (e % 4096 ≡ 4095 → ⊥) → e / 4096 ≤ 13
entry-size colour ws e q n = cases (lookup colour ws) refl q
  where
    cases : (o : Entry) → lookup colour ws ≡ o → e ≡ entry_number o → e / 4096 ≤ 13
    cases (invalid size) p f = absurd (n (omega arith))
    cases (valid run size) p f =
        let v = lookup-valid colour ws run size p in
        let s = shape colour v.code v.member in
        omega (arith, s.small-run, s.few_bits, v.run_is, v.size_is)

-- where 26 bits from `at` on are in the data, and the entry for the first 13 of them is known
module _ (colour : Colour) {bytes : List ℕ} {at live bits : ℕ} (h : Ahead bytes at live bits) (enough : 26 ≤ live) {first : ℕ}
    (e : first ≡ entry_number (lookup colour (window 13 (drop at (bits_of bytes))))) where
  abbrev bs : List Bool
  bs = bits_of bytes

  abbrev run : ℕ
  run = first % 4096

  abbrev size : ℕ
  size = first / 4096

  module _ (is-run : first % 4096 ≡ 4095 → ⊥) where
    short : first / 4096 ≤ 13
    short = entry-size colour (window 13 (drop at bs)) first e is-run

    fits : at + size ≤ length bs
    fits = omega (arith, short, h.there, length-bits_of bytes)

    -- a make-up code goes on behind it
    goes : 64 ≤ run → run_step colour bs (sum at 0) ≡ more (sum (at + size) (0 + run))
    unfolding steps_by
    goes k = step_by colour bs (sum at 0) first e ∙ rw (le-leb (at + size) (length bs) fits, ne_eqb run 4095 is-run, le-leb (0 + run) 4294967295 (omega arith), le-ltb run 64 k)

  -- a terminating code is all
  pub one_code : first % 4096 < 64 → FrontRun colour bytes at (record { pixels = first % 4096; size = first / 4096 })
  unfolding steps_by
  one_code k =
      let n : (run ≡ 4095 → ⊥) = λ z. omega arith in
      let step : run_step colour bs (sum at 0) ≡ done (ok (sum (at + size) (0 + run))) = step_by colour bs (sum at 0) first e ∙ rw (le-leb (at + size) (length bs) (fits n), ne_eqb run 4095 n, le-leb (0 + run) 4294967295 (omega arith), lt-ltb run 64 k) in
      record {
        within = omega (arith, short n);
        same = sym (sum-stops no-sum (ok (sum (at + size) (0 + run))) step) ∙ ap (λ (t : ℕ). ok (sum (at + size) t)) (zero-add run);
        codes = one_unit bs colour at step ∙ sym (ap (λ (b : Bool). cond b 1 2) (lt-ltb run 64 k));
      }

  -- a make-up code, and a terminating code behind it, by the entry for the bits there
  module _ (is-run : first % 4096 ≡ 4095 → ⊥) {table : List ℕ} (t : table ≡ lookup_table colour) {second : ℕ} (there : second ≡ get_or table (behind_code first bits) 0) where
    behind : Ahead bytes (at + size) (live - size) (bits * 2 ^ size % 2 ^ 64)
    behind = ahead-shift h size (omega (arith, short is-run))

    entered : second ≡ entry_number (lookup colour (window 13 (drop (at + size) bs)))
    entered =
        there
        ∙ ap (λ (i : ℕ). get_or table i 0) (ahead-first behind 13 (omega (arith, short is-run)))
        ∙ ap (λ (l : List ℕ). get_or l (peek 13 (drop (at + size) bs)) 0) t
        ∙ table_at colour (drop (at + size) bs)

    pub two-codes : 64 ≤ first % 4096 → second % 4096 < 64
        → FrontRun colour bytes at (record { pixels = first % 4096 + second % 4096; size = first / 4096 + second / 4096 })
    unfolding steps_by
    two-codes k l =
        let n : (second % 4096 ≡ 4095 → ⊥) = λ z. omega arith in
        let few : second / 4096 ≤ 13 = entry-size colour (window 13 (drop (at + size) bs)) second entered n in
        let there : at + size + second / 4096 ≤ length bs = omega (arith, short is-run, few, h.there, length-bits_of bytes) in
        let on : Summing colour bytes at (sum (at + size) (0 + run)) = sum_goes no-sum (sum (at + size) (0 + run)) (goes is-run k) (omega arith) in
        let step : run_step colour bs (sum (at + size) (0 + run)) ≡ done (ok (sum (at + size + second / 4096) (0 + run + second % 4096))) = step_by colour bs (sum (at + size) (0 + run)) second entered ∙ rw (le-leb (at + size + second / 4096) (length bs) there, ne_eqb (second % 4096) 4095 n, le-leb (0 + run + second % 4096) 4294967295 (omega arith), lt-ltb (second % 4096) 64 l) in
        let end : at + size + second / 4096 ≡ at + (size + second / 4096) = omega arith in
        let total : 0 + run + second % 4096 ≡ run + second % 4096 = omega arith in
        record {
          within = omega (arith, short is-run, few);
          same = sym (sum-stops on (ok (sum (at + size + second / 4096) (0 + run + second % 4096))) step) ∙ (λ i. ok (sum (end i) (total i)));
          codes =
              two-units bs colour at (goes is-run k) step (omega (arith, h.there, length-bits_of bytes))
              ∙ sym (ap (λ (b : Bool). cond b 1 2) (le-ltb (run + second % 4096) 64 (omega arith)));
        }

-- a terminating code's entry, of whatever table
pub one-front : (table : List ℕ) {first bits run size : ℕ} → run ≡ first % 4096 → (size ≡ first / 4096) × (size ≤ 15) → run < 64
    → Fronted table first bits (record { pixels = run; size = size })
one-front table {first} {bits} r s k = record {
  is = rw (r, s.0) (front-one table first bits (omega (arith, r)));
  few = omega (arith, s.1);
  narrow = omega (arith, r);
  read = λ colour bytes at live t h l e p. rw (r, s.0) (one_code colour h l e (omega (arith, r)));
}

-- a lookup table has an entry for each 13 bits
pub table-length : (colour : Colour) {table : List ℕ} → table ≡ lookup_table colour → length table ≡ 8192
unfolding lookup_table
table-length colour t = ap length t ∙ length-tabulate _ 8192 0
