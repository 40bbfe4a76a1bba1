-- The run reader, one code at a time: a step of the definition by the number of a table's entry, as the code takes it. Assumes nothing.
use mathlib.Core.Path.{◌≡◌, refl, sym, ap, ◌∙◌}
use mathlib.Core.Bool.{Bool, true, false, cond}
use mathlib.Core.List.{List}
use Prim.Native.Nat.{ℕ, ◌+◌, ◌-◌, ◌*◌, ◌/◌, ◌%◌, ◌≤◌, ◌<◌}
use native.Mathlib.Omega.{arith}
use lib.Dec.{eqb, leb, ltb}
use lib.ListN.{length, get_or, drop}
use borrow.Author.Tests.{le-leb, lt-leb, lt-ltb, le-ltb, eq-eqb, ne_eqb}
use Rattle.rules.specs.Machine.{Out, more, done, ends}
use Rattle.rules.specs.Bits.{bits_of, window, peek}
use Rattle.rules.specs.Codes.{Colour}
use Rattle.rules.specs.Lookup.{Entry, valid, invalid, lookup, entry_number, lookup_table}
use Rattle.rules.specs.Runs.{Res, ok, fault, Sum, sum, run_take, run_step, bits_after, answer, read_run}
use Rattle.rules.proofs.Machine.{ends_more, ends-done}
use Rattle.rules.proofs.Bits.{length-bits_of}
use Rattle.rules.proofs.Codes.{shape}
use Rattle.rules.proofs.Lookup.{lookup-valid, table_at}
use Rattle.rules.proofs.Runs.{run-falls}
use Rattle.bit_reader.specs.Loaded.{Loaded, LoadedAt, Top}
use Rattle.bit_reader.specs.declared.buffer.Buffer.{Buffer}

-- ---- A step by an entry's number

-- `run_take` by the two parts of an entry
unfoldable pub steps_by : ℕ → Sum → ℕ → ℕ → Out Sum (Res Sum)
steps_by bits s run size =
    cond (leb (s.at + size) bits)
    (cond (eqb run 4095)
    (done (fault 1 s.at))
    (cond (leb (s.total + run) 4294967295)
    (cond (ltb run 64) (done (ok (sum (s.at + size) (s.total + run)))) (more (sum (s.at + size) (s.total + run))))
    (done (fault 3 s.at))))
    (done (fault 2 s.at))

-- 4,095 is the run of invalid entries alone
pub step_by : (colour : Colour) (bs : List Bool) (s : Sum) (e : ℕ) → e ≡ entry_number (lookup colour (window 13 (drop s.at bs)))
    → run_step colour bs s ≡ steps_by (length bs) s (e % 4096) (e / 4096)
unfolding run_step run_take steps_by
step_by colour bs s e = entry (lookup colour (window 13 (drop s.at bs))) refl
  where
    entry : (o : Entry) → lookup colour (window 13 (drop s.at bs)) ≡ o → e ≡ entry_number o
        → run_take (length bs) s o ≡ steps_by (length bs) s (e % 4096) (e / 4096)
    entry (invalid size) q f =
        let d : e / 4096 ≡ size = omega arith in
        let m : e % 4096 ≡ 4095 = omega arith in
        rw (d, m) (tests (leb (s.at + size) (length bs)))
      where
        tests : (b : Bool)
            → ◌≡◌ {A = Out Sum (Res Sum)} (done (fault (cond b 1 2) s.at)) (cond b (done (fault 1 s.at)) (done (fault 2 s.at)))
        tests true = refl
        tests false = refl
    entry (valid run size) q f =
        let v = lookup-valid colour _ run size q in
        let k : run ≤ 2560 = omega (arith, (shape colour v.code v.member).small-run, v.run_is) in
        let d : e / 4096 ≡ size = omega arith in
        let m : e % 4096 ≡ run = omega arith in
        rw (d, m, ne_eqb run 4095 (λ z. omega arith))

-- ---- The loop

-- where the codes from a sum on lead
abbrev outcome : Colour → List ℕ → Sum → Out Sum (Res Sum)
outcome colour bytes s = ends (run_step colour (bits_of bytes)) (bits_after (bits_of bytes)) s

-- a sum that leads to the same answer as the start does
pub record Summing (colour : Colour) (bytes : List ℕ) (start : ℕ) (s : Sum) : Type 0 where
  pub small : s.total ≤ 4294967295
  pub same : outcome colour bytes s ≡ outcome colour bytes (sum start 0)

-- at the start nothing is summed
pub no-sum : {colour : Colour} {bytes : List ℕ} {start : ℕ} → Summing colour bytes start (sum start 0)
no-sum = record { small = omega arith; same = refl }

module _ {colour : Colour} {bytes : List ℕ} {start : ℕ} {s : Sum} (g : Summing colour bytes start s) where
  -- where a step ends, the end is the answer
  pub sum-stops : (r : Res Sum) → run_step colour (bits_of bytes) s ≡ done r → r ≡ read_run colour (bits_of bytes) start
  unfolding read_run
  sum-stops r e = ap answer (sym (ends-done (run_step colour (bits_of bytes)) (bits_after (bits_of bytes)) (run-falls colour (bits_of bytes)) s r e) ∙ g.same)

  -- where it goes on, so does the sum
  pub sum_goes : (t : Sum) → run_step colour (bits_of bytes) s ≡ more t → t.total ≤ 4294967295 → Summing colour bytes start t
  sum_goes t e h = record {
    small = h;
    same = sym (ends_more (run_step colour (bits_of bytes)) (bits_after (bits_of bytes)) (run-falls colour (bits_of bytes)) s t e) ∙ g.same;
  }

-- the same with the data from its bit on
pub record Going (colour : Colour) (bytes : List ℕ) (start : ℕ) (b : Buffer) (total : ℕ) : Type 0 where
  pub loaded : Loaded bytes b
  pub summing : Summing colour bytes start (sum b.at total)

-- the same with the run and the length of the entry for the next 13 bits
pub record Turn (colour : Colour) (bytes : List ℕ) (start : ℕ) (b : Buffer) (total run size : ℕ) : Type 0 where
  pub going : Going colour bytes start b total
  pub entry : ℕ
  pub entered : entry ≡ entry_number (lookup colour (window 13 (drop b.at (bits_of bytes))))
  pub run_is : run ≡ entry % 4096
  pub size_is : size ≡ entry / 4096

pub begin : {colour : Colour} {bytes : List ℕ} {b : Buffer} → Loaded bytes b → Going colour bytes b.at b 0
begin l = record { loaded = l; summing = no-sum }

-- a turn begins with a look at the colour's entry
pub look : {colour : Colour} {bytes : List ℕ} {start entry top total run size : ℕ} {b : Buffer} → Going colour bytes start b total
    → entry ≡ get_or (lookup_table colour) top 0 → Top b top → run ≡ entry % 4096 → size ≡ entry / 4096 → Turn colour bytes start b total run size
look {colour} {bytes} {entry = entry} {b = b} g t k r s = record {
  going = g;
  entry = entry;
  entered = t ∙ ap (λ (i : ℕ). get_or (lookup_table colour) i 0) (k.value bytes g.loaded) ∙ table_at colour (drop b.at (bits_of bytes));
  run_is = r;
  size_is = s;
}

module _ {colour : Colour} {bytes : List ℕ} {start total run size : ℕ} {b : Buffer} (t : Turn colour bytes start b total run size) where
  -- the turn's step
  by_number : run_step colour (bits_of bytes) (sum b.at total) ≡ steps_by (8 * length bytes) (sum b.at total) run size
  by_number =
      step_by colour (bits_of bytes) (sum b.at total) t.entry t.entered
      ∙ ap (λ (n : ℕ). steps_by n (sum b.at total) (t.entry % 4096) (t.entry / 4096)) (length-bits_of bytes)
      ∙ (λ i. steps_by (8 * length bytes) (sum b.at total) (sym t.run_is i) (sym t.size_is i))

  stops : (r : Res Sum) → run_step colour (bits_of bytes) (sum b.at total) ≡ done r → r ≡ read_run colour (bits_of bytes) start
  stops r e = sum-stops t.going.summing r e

  -- too few bits
  pub short : 8 * length bytes < b.at + size → fault 2 b.at ≡ read_run colour (bits_of bytes) start
  unfolding steps_by
  short h = stops _ (by_number ∙ simp (lt-leb _ _ h))

  -- with a buffer behind the code
  module _ {c : Buffer} (m : LoadedAt bytes (b.at + size) c) where
    -- the code's bits are there
    fits : b.at + size ≤ 8 * length bytes
    fits = omega (arith, m.place, m.loaded.reached, m.loaded.inside)

    -- no code
    pub wrong : run ≡ 4095 → fault 1 b.at ≡ read_run colour (bits_of bytes) start
    unfolding steps_by
    wrong h = stops _ (by_number ∙ simp (le-leb _ _ fits, eq-eqb _ _ h))

    module _ (is-run : run ≡ 4095 → ⊥) where
      -- a sum above the limit
      pub large : 4294967295 - run < total → fault 3 b.at ≡ read_run colour (bits_of bytes) start
      unfolding steps_by
      large h = stops _ (by_number ∙ simp (le-leb _ _ fits, ne_eqb _ _ is-run, lt-leb (total + run) 4294967295 (omega arith)))

      module _ (h : total ≤ 4294967295 - run) where
        -- or not
        pub small : total + run ≤ 4294967295
        small = omega (arith, t.run_is)

        -- a terminating code
        pub last : run < 64 → ok (sum c.at (total + run)) ≡ read_run colour (bits_of bytes) start
        unfolding steps_by
        last k =
            ap (λ (a : ℕ). ok (sum a (total + run))) m.place
            ∙ stops _ (by_number ∙ simp (le-leb _ _ fits, ne_eqb _ _ is-run, le-leb _ _ small, lt-ltb _ _ k))

        -- a make-up code
        goes : 64 ≤ run → run_step colour (bits_of bytes) (sum b.at total) ≡ more (sum (b.at + size) (total + run))
        unfolding steps_by
        goes k = by_number ∙ simp (le-leb _ _ fits, ne_eqb _ _ is-run, le-leb _ _ small, le-ltb _ _ k)

        pub on : 64 ≤ run → Going colour bytes start c (total + run)
        on k = record {
          loaded = m.loaded;
          summing = sum_goes t.going.summing (sum c.at (total + run)) (goes k ∙ ap (λ (a : ℕ). more (sum a (total + run))) (sym m.place)) small;
        }

        pub falls : 64 ≤ run → 8 * length bytes - c.at < 8 * length bytes - b.at
        falls k = omega (arith, run-falls colour (bits_of bytes) (sum b.at total) _ (goes k), length-bits_of bytes, m.place)

-- ---- One code alone

-- the entry for the 13 bits at a bit
pub record At (colour : Colour) (bytes : List ℕ) (at run size : ℕ) : Type 0 where
  pub entry : ℕ
  pub entered : entry ≡ entry_number (lookup colour (window 13 (drop at (bits_of bytes))))
  pub run_is : run ≡ entry % 4096
  pub size_is : size ≡ entry / 4096

pub look_at : {colour : Colour} {bytes : List ℕ} {at entry top run size : ℕ} → entry ≡ get_or (lookup_table colour) top 0 → top ≡ peek 13 (drop at (bits_of bytes))
    → run ≡ entry % 4096 → size ≡ entry / 4096 → At colour bytes at run size
look_at {colour} {bytes} {at} {entry} t k r s = record {
  entry = entry;
  entered = t ∙ ap (λ (i : ℕ). get_or (lookup_table colour) i 0) k ∙ table_at colour (drop at (bits_of bytes));
  run_is = r;
  size_is = s;
}
