-- Where no line is read, and none is found: in zeros to the end of the data there is no code, so no 1D line; and where no EOL stands, the search finds none. Assumes nothing.
use mathlib.Core.Path.{◌≡◌, refl, sym, ap, ◌∙◌}
use mathlib.Core.Bool.{Bool, true, false}
use mathlib.Core.List.{List, [], ◌∷◌, ◌++◌, append-nil}
use mathlib.Core.Option.{none}
use Prim.Native.Nat.{ℕ, zero, suc, ◌+◌, ◌<◌}
use native.Mathlib.Omega.{arith}
use lib.Dec.{ltb}
use lib.ListN.{length, drop, replicate}
use borrow.Author.Tests.{lt-ltb}
use Rattle.rules.specs.Machine.{done, ends}
use Rattle.rules.specs.Codes.{Colour, white, Code, code_bits}
use Rattle.rules.specs.Runs.{Res, ok, fault, Sum, sum, run_step, bits_after, answer, read_run}
use Rattle.rules.specs.Lines.{Rules, Line, new_line, went, after_run, push_run, one, read_line}
use Rattle.rules.specs.Eols.{zero_run, skip, skip_to_eol}
use Rattle.rules.specs.Damage.{no_eol}
use Rattle.rules.proofs.Bits.{both_true}
use Rattle.rules.proofs.Machine.{ends-stops}
use Rattle.rules.proofs.Codes.{shape}
use Rattle.rules.proofs.Runs.{Takes, First, run-first, run-falls}
use Rattle.rules.proofs.Lines.{moves, line-failed}
use Rattle.rules.proofs.Group3Back.{word-zeros}
use Rattle.rules.proofs.EolChains.{Quiet, soon-quiet, none-quiet}
use Rattle.rules.proofs.NextEol.{Towards, here, past_one, leads}

-- ---- No code in zeros

module _ (bs : List Bool) where
  -- a code has a one
  no_code : (colour : Colour) (s : Sum) (c : Code) → Takes colour bs s c → zero_run (drop s.at bs) ≡ none → ⊥
  no_code colour s c t e =
      let z : ◌≡◌ {A = ℕ} 0 1 = cc (sym e ∙ ap zero_run t.there ∙ word-zeros (code_bits c) (drop (s.at + c.size) bs) (shape colour c t.member).has_one) in
      omega arith

  no_run : (colour : Colour) (at : ℕ) → zero_run (drop at bs) ≡ none → (n : ℕ) × (place : ℕ) × (read_run colour bs at ≡ fault n place)
  unfolding read_run
  no_run colour at e =
      let s = ends-stops (run_step colour bs) (bits_after bs) (run-falls colour bs) (sum at 0) in
      cases s.0 s.1 (run-first bs colour (sum at 0) s.0 s.1)
    where
      cases : (r : Res Sum) → ends (run_step colour bs) (bits_after bs) (sum at 0) ≡ done r → First bs colour (sum at 0) r → (n : ℕ) × (place : ℕ) × (read_run colour bs at ≡ fault n place)
      cases (ok r) q f = absurd (no_code colour (sum at 0) f.0 f.1 e)
      cases (fault n place) q f = (n, place, ap answer q)

  pub no-line-in-zeros : (R : Rules) → 0 < R.width → (at : ℕ) → zero_run (drop at bs) ≡ none → (l : Line) → read_line R one bs at ≡ went l → ⊥
  unfolding read_line push_run
  no-line-in-zeros R wide at e l q =
      let r = no_run white at e in
      let f = line-failed R.width (push_run R bs) bs (moves R one bs) (new_line at) (new_line at) r.0 r.1 (λ h. omega arith) (ap (after_run R (new_line at)) r.2) in
      let z : ◌≡◌ {A = ℕ} 0 1 = cc in
      omega arith

  -- ---- No EOL

  -- to the end of the data no EOL stands: past ones that end none, to zeros
  abbrev pub Bare : ℕ → Type 0
  Bare at = (q : ℕ) × Towards bs at q × (zero_run (drop q bs) ≡ none)

  pub bare-quiet : (at : ℕ) → Bare at → Quiet bs at
  bare-quiet at (q, here, e) = none-quiet bs at e
  bare-quiet at (q, past_one {z = z} f h t, e) = soon-quiet bs at (z, f, h)

  bare-on : {at q : ℕ} → Towards bs at q → zero_run (drop q bs) ≡ none → (n : ℕ) → skip n bs at ≡ none
  unfolding skip
  bare-on t e zero = refl
  bare-on here e (suc n) = rw (e, skip)
  bare-on {at = at} {q = q} (past_one {z = z} f h t) e (suc n) = rw (f, lt-ltb z 11 (omega arith), skip) (bare-on {at = at + suc z} t e n)

  pub bare-skip : (at : ℕ) → Bare at → skip_to_eol bs at ≡ none
  bare-skip at (q, t, e) = bare-on t e (length bs)

  -- so from bits without an EOL that end the data
  pub bare-bits : (at : ℕ) → no_eol 0 (drop at bs) ≡ true → Bare at
  unfolding zero_run
  bare-bits at h =
      let d = leads bs [] (drop at bs) 0 at h (sym (append-nil (drop at bs))) in
      (d.start, d.past, ap zero_run d.there ∙ only-zeros d.trailing)
    where
      only-zeros : (n : ℕ) → zero_run (replicate n false ++ []) ≡ none
      only-zeros zero = refl
      only-zeros (suc n) = rw (only-zeros n)

-- the first of bits without an EOL
pub no-eol-first : (zeros : ℕ) (xs ys : List Bool) → no_eol zeros (xs ++ ys) ≡ true → no_eol zeros xs ≡ true
unfolding no_eol
no-eol-first zeros [] ys h = refl
no-eol-first zeros (false ∷ xs) ys h = no-eol-first (suc zeros) xs ys h
no-eol-first zeros (true ∷ xs) ys h =
    let p = both_true (ltb zeros 11) (no_eol 0 (xs ++ ys)) h in
    rw p.0 (no-eol-first 0 xs ys p.1)
