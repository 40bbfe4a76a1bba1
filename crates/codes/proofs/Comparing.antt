-- The plain engine: a code as one verdict after another, and a run of such codes. Assumes nothing.
use mathlib.Core.Path.{◌≡◌, refl, sym, ap, ◌∙◌, subst}
use mathlib.Core.Bool.{Bool, true, false, cond}
use mathlib.Core.List.{List, [], ◌∷◌, ◌++◌}
use Prim.Native.Nat.{ℕ, suc, ◌+◌, ◌-◌, ◌*◌, ◌^◌, ◌≤◌, ◌<◌}
use native.Mathlib.Omega.{arith}
use native.Mathlib.Numerals.{add-one}
use lib.Dec.{leb, ltb}
use Rattle.std.specs.Prelude.{Result, Ok, Err}
use lib.ListN.{length, get_or, take, drop, length-drop, drop_of_length-le}
use lib.Pow.{pow_mono}
use lib.Seq.{take-suc, drop-cons}
use borrow.Author.Tests.{leb-true, le-leb, lt-leb, lt-ltb, le-ltb}
use Rattle.rules.specs.Bits.{bits_for, bits_of, window, peek}
use Rattle.rules.specs.Codes.{Colour, codes_of}
use Rattle.rules.specs.Lookup.{Entry, valid, invalid, lookup}
use Rattle.rules.specs.Machine.{more, done}
use Rattle.rules.specs.Pages.{most_bytes}
use Rattle.rules.specs.Runs.{ok, fault, sum, run_take, run_step, read_run}
use Rattle.rules.specs.Plain.{Candidate, candidates, agreeing, Verdict, no_code, is_code, more_bits, verdict, compare, plain, Found, lost, found, by_entry}
use Rattle.rules.proofs.Plain.{Short, short-table, short-agreeing, more-bits-come, plain-is-lookup, found_take, plain_step}
use Rattle.rules.proofs.Lookup.{lookup-valid}
use Rattle.rules.proofs.Bits.{window-take, peek-lt, peek-one, bits-peek, length-bits_of}
use Rattle.rules.proofs.Codes.{shape}
use Rattle.codes.specs.Plain.{agreed, found_of}
use Rattle.codes.specs.Runs.{summed, Addable}
use Rattle.codes.specs.declared.plain.Code.{Code}
use Rattle.codes.specs.declared.plain.LostCode.{LostCode}
use Rattle.codes.proofs.Runs.{Summing, sum-stops, sum_goes}
use Rattle.codes.proofs.Verdicts.{saying}

-- ---- Bit after bit

-- the candidates after one bit more
agreed-snoc : (bs : List Bool) (b : Bool) (cs : List Candidate) → agreed (bs ++ b ∷ []) cs ≡ agreeing b (agreed bs cs)
unfolding agreed
agreed-snoc [] b cs = refl
agreed-snoc (x ∷ bs) b cs = agreed-snoc bs b (agreeing x cs)

-- `taken` bits of the data were compared, and more are needed
pub record Comparing (colour : Colour) (ds : List Bool) (taken word : ℕ) : Type 0 where
  pub inside : taken ≤ length ds
  pub word-is : word ≡ peek taken ds
  pub few : taken ≤ 12
  pub short : Short (13 - taken) (agreed (take taken ds) (candidates (codes_of colour)))
  pub same : compare taken (agreed (take taken ds) (candidates (codes_of colour))) (drop taken ds) ≡ plain colour ds

pub compare-first : (colour : Colour) (ds : List Bool) → Comparing colour ds 0 0
unfolding peek agreed plain
compare-first colour ds = record { inside = omega arith; word-is = refl; few = omega arith; short = short-table colour; same = refl }

-- the number fits
pub word_fits : {colour : Colour} {ds : List Bool} {taken word : ℕ} → Comparing colour ds taken word → word ≤ 4095
word_fits {ds = ds} {taken = taken} g = let k : 2 ^ taken ≤ 2 ^ 12 = pow_mono g.few in omega (arith, g.word-is, peek-lt taken ds)

pub compare-last : {colour : Colour} {ds : List Bool} {taken word : ℕ} → Comparing colour ds taken word → length ds ≤ taken → lost 2 taken ≡ plain colour ds
unfolding compare
compare-last {colour} {ds} {taken} g h =
    sym (ap (compare taken (agreed (take taken ds) (candidates (codes_of colour)))) (drop_of_length-le ds h)) ∙ g.same

-- what a verdict leads to
abbrev judged : ℕ → List Candidate → List Bool → Verdict → Found
judged taken cs rest no_code = lost 1 taken
judged taken cs rest (is_code run) = found run taken
judged taken cs rest more_bits = compare taken cs rest

-- with one bit more
module _ {colour : Colour} {ds : List Bool} {taken word : ℕ} (g : Comparing colour ds taken word) (h : taken < length ds) (bit : ℕ) (b : bit ≡ peek 1 (drop taken ds)) where
  next_word : 2 * word + bit ≡ peek (suc taken) ds
  next_word = omega (arith, g.word-is, b, peek-one taken ds)

  pub next_small : 2 * word + bit < 2 ^ (taken + 1)
  next_small = rw add-one (omega (arith, next_word, peek-lt (suc taken) ds))

  pub next_fits : 2 * word + bit ≤ 8191
  next_fits = omega (arith, b, word_fits g, peek-lt 1 (drop taken ds))

  -- what all codes say to it
  saying-left : saying (taken + 1) (2 * word + bit) (codes_of colour) ≡ verdict (agreed (take (suc taken) ds) (candidates (codes_of colour)))
  saying-left =
      rw add-one
      (ap (λ (bs : List Bool). verdict (agreed bs (candidates (codes_of colour))))
      (ap (bits_for (suc taken)) next_word ∙ bits-peek (suc taken) ds ∙ window-take (suc taken) ds (omega arith)))

  next-left : agreeing (get_or ds taken false) (agreed (take taken ds) (candidates (codes_of colour))) ≡ agreed (take (suc taken) ds) (candidates (codes_of colour))
  next-left =
      sym
      (ap (λ (bs : List Bool). agreed bs (candidates (codes_of colour))) (take-suc ds taken false h)
      ∙ agreed-snoc (take taken ds) (get_or ds taken false) (candidates (codes_of colour)))

  compared : (v : Verdict) → v ≡ saying (taken + 1) (2 * word + bit) (codes_of colour)
      → judged (suc taken) (agreed (take (suc taken) ds) (candidates (codes_of colour))) (drop (suc taken) ds) v ≡ plain colour ds
  unfolding compare
  compared v e =
      ap (judged (suc taken) (agreed (take (suc taken) ds) (candidates (codes_of colour))) (drop (suc taken) ds)) (e ∙ saying-left)
      ∙ sym (ap (λ (cs : List Candidate). judged (suc taken) cs (drop (suc taken) ds) (verdict cs)) next-left)
      ∙ by-verdict (verdict (agreeing (get_or ds taken false) (agreed (take taken ds) (candidates (codes_of colour)))))
      ∙ sym (ap (compare taken (agreed (take taken ds) (candidates (codes_of colour)))) (drop-cons ds taken false h))
      ∙ g.same
    where
      by-verdict : (v : Verdict) → judged (suc taken) (agreeing (get_or ds taken false) (agreed (take taken ds) (candidates (codes_of colour)))) (drop (suc taken) ds) v
          ≡ elim v [
            | no_code ↦ lost 1 (suc taken)
            | is_code run ↦ found run (suc taken)
            | more_bits ↦ compare (suc taken) (agreeing (get_or ds taken false) (agreed (take taken ds) (candidates (codes_of colour)))) (drop (suc taken) ds)
          ]
      by-verdict no_code = refl
      by-verdict (is_code run) = refl
      by-verdict more_bits = refl

  pub compare-no-code : no_code ≡ saying (taken + 1) (2 * word + bit) (codes_of colour) → lost 1 (taken + 1) ≡ plain colour ds
  compare-no-code e = rw add-one (compared no_code e)

  pub compare-is-code : (run : ℕ) → is_code run ≡ saying (taken + 1) (2 * word + bit) (codes_of colour) → found run (taken + 1) ≡ plain colour ds
  compare-is-code run e = rw add-one (compared (is_code run) e)

  pub compare-on : more_bits ≡ saying (taken + 1) (2 * word + bit) (codes_of colour) → Comparing colour ds (taken + 1) (2 * word + bit)
  compare-on e = rw add-one (record {
    inside = omega arith;
    word-is = next_word;
    few = omega (arith, more-bits-come left (sym (e ∙ saying-left)));
    short = left;
    same = compared more_bits e;
  })
    where
      left : Short (13 - suc taken) (agreed (take (suc taken) ds) (candidates (codes_of colour)))
      left =
          let k : 13 - taken ≡ suc (13 - suc taken) = omega (arith, g.few) in
          subst (Short (13 - suc taken)) next-left (short-agreeing (get_or ds taken false) (subst (λ (n : ℕ). Short n (agreed (take taken ds) (candidates (codes_of colour)))) k g.short))

-- ---- A run of such codes

-- a code that is found has a bit at least, none past the data, and a run of a code
pub record Known (bs : List Bool) (run size : ℕ) : Type 0 where
  pub some_bits : 1 ≤ size
  pub inside : size ≤ length bs
  pub small-run : run ≤ 2560

found-known : (colour : Colour) (bs : List Bool) (run size : ℕ) → found run size ≡ plain colour bs → Known bs run size
found-known colour bs run size e = entry (lookup colour (window 13 bs)) refl (e ∙ plain-is-lookup colour bs)
  where
    entry : (o : Entry) → lookup colour (window 13 bs) ≡ o → found run size ≡ by_entry (length bs) o → Known bs run size
    entry (invalid len) q f = absurd (tests (leb len (length bs)) f)
      where
        tests : (b : Bool) → found run size ≡ cond b (lost 1 len) (lost 2 (length bs)) → ⊥
        tests true f = let z : ◌≡◌ {A = ℕ} 0 1 = cc in omega arith
        tests false f = let z : ◌≡◌ {A = ℕ} 0 1 = cc in omega arith
    entry (valid n len) q f = tests (leb len (length bs)) refl f
      where
        tests : (b : Bool) → leb len (length bs) ≡ b → found run size ≡ cond b (found n len) (lost 2 (length bs)) → Known bs run size
        tests false p f = absurd (let z : ◌≡◌ {A = ℕ} 0 1 = cc in omega arith)
        tests true p f =
            let v = lookup-valid colour (window 13 bs) n len q in
            let s = shape colour v.code v.member in
            let same-run : run ≡ n = cc in
            let same_size : size ≡ len = cc in
            record {
              some_bits = omega (arith, s.some_bits, v.size_is);
              inside = omega (arith, leb-true len (length bs) p);
              small-run = omega (arith, s.small-run, v.run_is);
            }

-- one code, at a bit that lies in the data, added to any sum
module _ (colour : Colour) (bytes : List ℕ) (at : ℕ) (inside' : at ≤ 8 * length bytes) (total : ℕ) where
  -- no code, or too few bits
  pub lost-step : (n size : ℕ) → lost n size ≡ plain colour (drop at (bits_of bytes)) → run_step colour (bits_of bytes) (sum at total) ≡ done (fault n at)
  lost-step n size e = plain_step colour (bits_of bytes) (sum at total) ∙ ap (found_take (length (bits_of bytes)) (sum at total)) (sym e)

  module _ (run size : ℕ) (e : found run size ≡ plain colour (drop at (bits_of bytes))) where
    known : Known (drop at (bits_of bytes)) run size
    known = found-known colour (drop at (bits_of bytes)) run size e

    pub found_inside : (1 ≤ size) × (at + size ≤ 8 * length bytes) × (run ≤ 2560)
    found_inside = omega (arith, known.some_bits, known.inside, known.small-run, length-drop at (bits_of bytes), length-bits_of bytes)

    -- the code is added as an entry is
    added : run_step colour (bits_of bytes) (sum at total)
        ≡ cond (leb (total + run) 4294967295)
        (cond (ltb run 64) (done (ok (sum (at + size) (total + run)))) (more (sum (at + size) (total + run))))
        (done (fault 3 at))
    unfolding run_take
    added =
        plain_step colour (bits_of bytes) (sum at total)
        ∙ ap (found_take (length (bits_of bytes)) (sum at total)) (sym e)
        ∙ simp (le-leb (at + size) (length (bits_of bytes)) (omega (arith, found_inside, length-bits_of bytes)))

    pub found-large : 4294967295 < total + run → run_step colour (bits_of bytes) (sum at total) ≡ done (fault 3 at)
    found-large h = added ∙ simp (lt-leb (total + run) 4294967295 h)

    module _ (h : total + run ≤ 4294967295) where
      pub found-last : run < 64 → run_step colour (bits_of bytes) (sum at total) ≡ done (ok (sum (at + size) (total + run)))
      found-last k = added ∙ simp (le-leb (total + run) 4294967295 h, lt-ltb run 64 k)

      pub found-next : 64 ≤ run → run_step colour (bits_of bytes) (sum at total) ≡ more (sum (at + size) (total + run))
      found-next k = added ∙ simp (le-leb (total + run) 4294967295 h, le-ltb run 64 k)

-- whichever code was found at a bit of the data, it can be added, and that is a step of the run
module _ (colour : Colour) (bytes : List ℕ) (at : ℕ) (inside' : at ≤ 8 * length bytes) where
  pub addable : length bytes ≤ most_bytes → (f : Result Code LostCode) → found_of f ≡ plain colour (drop at (bits_of bytes)) → Addable at f
  addable h (Ok c) e = let k = found_inside colour bytes at inside' 0 c.run c.taken e in (omega (arith, k), omega (arith, k))
  addable h (Err l) e = tt

  pub code-steps : (total : ℕ) (f : Found) → f ≡ plain colour (drop at (bits_of bytes)) → summed (sum at total) f ≡ run_step colour (bits_of bytes) (sum at total)
  code-steps total (found run taken) e = sym (added colour bytes at inside' total run taken e)
  code-steps total (lost n taken) e = sym (lost-step colour bytes at inside' total n taken e)

-- the bit that a sum has come to lies in the data
pub record Adding (colour : Colour) (bytes : List ℕ) (start at total : ℕ) : Type 0 where
  pub inside : at ≤ 8 * length bytes
  pub summing : Summing colour bytes start (sum at total)

module _ {colour : Colour} {bytes : List ℕ} {start at total : ℕ} (g : Adding colour bytes start at total) where
  pub add-lost : (n size : ℕ) → lost n size ≡ plain colour (drop at (bits_of bytes)) → fault n at ≡ read_run colour (bits_of bytes) start
  add-lost n size e = sum-stops g.summing (fault n at) (lost-step colour bytes at g.inside total n size e)

  module _ (run size : ℕ) (e : found run size ≡ plain colour (drop at (bits_of bytes))) where
    pub add-inside : (1 ≤ size) × (at + size ≤ 8 * length bytes) × (run ≤ 2560)
    add-inside = found_inside colour bytes at g.inside total run size e

    pub add-large : 4294967295 < total + run → fault 3 at ≡ read_run colour (bits_of bytes) start
    add-large h = sum-stops g.summing (fault 3 at) (found-large colour bytes at g.inside total run size e h)

    module _ (h : total + run ≤ 4294967295) where
      pub add-last : run < 64 → ok (sum (at + size) (total + run)) ≡ read_run colour (bits_of bytes) start
      add-last k = sum-stops g.summing (ok (sum (at + size) (total + run))) (found-last colour bytes at g.inside total run size e h k)

      pub add-next : 64 ≤ run → Adding colour bytes start (at + size) (total + run)
      add-next k = record {
        inside = omega (arith, add-inside);
        summing = sum_goes g.summing (sum (at + size) (total + run)) (found-next colour bytes at g.inside total run size e h k) h;
      }
