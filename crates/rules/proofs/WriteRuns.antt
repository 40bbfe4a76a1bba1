-- Runs as they are written: make-up codes and then a terminating one, all of the colour, that sum to the run; and they are read back as that run.
-- Assumes nothing.
use mathlib.Core.Path.{◌≡◌, refl, sym, ap, ◌∙◌, subst}
use mathlib.Core.Bool.{Bool, true, ◌&&◌}
use mathlib.Core.List.Memᴰ
use mathlib.Core.List.{List, [], ◌∷◌, ◌++◌, append_assoc, append-nil, Memᴰ}
use Prim.Native.Nat.{ℕ, zero, suc, ◌+◌, ◌-◌, ◌*◌, ◌/◌, ◌%◌, ◌≤◌, ◌<◌}
use native.Mathlib.Omega.{arith}
use native.Mathlib.Nat.{zero-mul, zero-add, suc-mul, mod-lt, mod-mod_of_dvd, dvd-mul_right, div-add-mod'}
use lib.Dec.{T, eqb, eqb→eq}
use lib.ListN.{length, drop, replicate, length-append}
use borrow.Author.Tests.{lt-ltb, le-ltb}
use Rattle.rules.specs.Machine.{Out, more, done, ends}
use Rattle.rules.specs.Codes.{Colour, white, black, Code, code_bits, code_at, terminating_of, makeup_of, codes_of}
use Rattle.rules.specs.Runs.{Res, ok, fault, Sum, sum, run_step, bits_after, answer, read_run, For, Made, last, next}
use Rattle.rules.specs.Write.{most_makeup, terminating, makeup, wholes, run_codes, codes_bits, run_bits}
use Rattle.rules.proofs.Machine.{ends_more, ends-done, ends-ind, ends-stops}
use Rattle.rules.proofs.Bits.{drop-after, fits_after}
use Rattle.rules.proofs.Codes.{both, shape, length-code_bits}
use Rattle.rules.proofs.Runs.{Takes, after, run-cases, step-code, run-falls}

-- ---- The codes of a table by their places

-- each code's run is f of its place, from place i on
placed : (ℕ → ℕ) → ℕ → List Code → Bool
placed f i [] = true
placed f i (c ∷ cs) = eqb c.run (f i) && placed f (suc i) cs

-- so each place of the table has one of its codes, of that run
placed_at : (f : ℕ → ℕ) (i : ℕ) (cs : List Code) → T (placed f i cs) → (k : ℕ) → k < length cs → Memᴰ (code_at cs k) cs × ((code_at cs k).run ≡ f (i + k))
unfolding placed
placed_at f i [] t k h = absurd (omega arith)
placed_at f i (c ∷ cs) t zero h =
    (Memᴰ.head refl, eqb→eq c.run (f i) (both (eqb c.run (f i)) (placed f (suc i) cs) t).0 ∙ ap f (let e : i ≡ i + 0 = omega arith in e))
placed_at f i (c ∷ cs) t (suc k) h =
    let r = placed_at f (suc i) cs (both (eqb c.run (f i)) (placed f (suc i) cs) t).1 k (omega arith) in
    (Memᴰ.tail r.0, r.1 ∙ ap f (let e : suc i + k ≡ i + suc k = omega arith in e))

-- a terminating code is one of the colour, for its run
pub terminating-for : (colour : Colour) (run : ℕ) → run < 64 → For colour run (terminating colour run)
unfolding codes_of terminating_of placed
terminating-for colour run h = record { member = Memᴰ.append_left (makeup_of colour) (at colour).0; run_is = (at colour).1 ∙ zero-add run }
  where
    at : (colour : Colour) → Memᴰ (terminating colour run) (terminating_of colour) × ((terminating colour run).run ≡ 0 + run)
    at white = placed_at (λ i. i) 0 (terminating_of white) tt run h
    at black = placed_at (λ i. i) 0 (terminating_of black) tt run h

-- a make-up code is one of the colour, for 64 times its number
pub makeup-for : (colour : Colour) (m : ℕ) → 1 ≤ m → m ≤ 40 → For colour (64 * m) (makeup colour m)
unfolding codes_of makeup_of placed
makeup-for colour m h k = record { member = Memᴰ.append_right (terminating_of colour) (at colour).0; run_is = (at colour).1 ∙ (let e : 64 * suc (0 + (m - 1)) ≡ 64 * m = omega arith in e) }
  where
    at : (colour : Colour) → Memᴰ (makeup colour m) (makeup_of colour) × ((makeup colour m).run ≡ 64 * suc (0 + (m - 1)))
    at white = placed_at (λ i. 64 * suc i) 0 (makeup_of white) tt (m - 1) (omega arith)
    at black = placed_at (λ i. 64 * suc i) 0 (makeup_of black) tt (m - 1) (omega arith)

-- ---- What is written

-- a make-up code k times
made-repeated : {colour : Colour} {run n : ℕ} {c : Code} {cs : List Code} (k : ℕ) → For colour run c → 64 ≤ run → Made colour n cs
    → Made colour (k * run + n) (replicate k c ++ cs)
made-repeated {colour} {run} {n} {c} {cs} zero f h m = subst (λ (t : ℕ). Made colour t cs) (let e : n ≡ 0 * run + n = omega (arith, zero-mul run) in e) m
made-repeated {colour} {run} {n} {c} {cs} (suc k) f h m =
    subst (λ (t : ℕ). Made colour t (c ∷ replicate k c ++ cs)) (let e : run + (k * run + n) ≡ suc k * run + n = omega (arith, suc-mul k run) in e)
    (next f h (made-repeated k f h m))

-- the whole 64s that are left, and the rest
made-ending : (colour : Colour) (m t : ℕ) → m ≤ 40 → t < 64 → Made colour (64 * m + t) (wholes colour m ++ terminating colour t ∷ [])
made-ending colour zero t h k = subst (λ (n : ℕ). Made colour n (terminating colour t ∷ [])) (let e : t ≡ 64 * 0 + t = omega arith in e) (last (terminating-for colour t k) k)
made-ending colour (suc m) t h k = next (makeup-for colour (suc m) (omega arith) h) (omega arith) (last (terminating-for colour t k) k)

-- a run's codes are such, and sum to it
pub made-run : (colour : Colour) (n : ℕ) → Made colour n (run_codes colour n)
unfolding run_codes
made-run colour n =
    subst (λ (t : ℕ). Made colour t (run_codes colour n)) sums
    (made-repeated (n / (64 * most_makeup)) (makeup-for colour most_makeup (omega arith) (omega arith)) (omega arith)
    (made-ending colour (n % (64 * most_makeup) / 64) (n % 64) (omega (arith, left)) (omega arith)))
  where
    left : n % (64 * most_makeup) < 64 * most_makeup
    left = mod-lt n (omega arith)

    sums : n / (64 * most_makeup) * (64 * most_makeup) + (64 * (n % (64 * most_makeup) / 64) + n % 64) ≡ n
    sums = rw (← mod-mod_of_dvd 64 n (dvd-mul_right 64 most_makeup)) (omega (arith, div-add-mod' n (64 * most_makeup)))

-- ---- What is written is read back

-- ends with the same bit and total
same_end : {a b t u : ℕ} → a ≡ b → t ≡ u → ◌≡◌ {A = Out Sum (Res Sum)} (done (ok (sum a t))) (done (ok (sum b u)))
same_end p q = λ i. done (ok (sum (p i) (q i)))

module _ (colour : Colour) (bs : List Bool) where
  -- a code that stands at the bit, with whatever follows, can be taken
  takes : (s : Sum) {run : ℕ} {c : Code} (rest : List Bool) → For colour run c → drop s.at bs ≡ code_bits c ++ rest → s.total + run ≤ 4294967295 → Takes colour bs s c
  takes s {c = c} rest f e h =
      let l = length-code_bits c in
      record {
        member = f.member;
        there = e ∙ ap (λ (t : List Bool). code_bits c ++ t) (sym (rw l at (drop-after bs (code_bits c) rest s.at e)));
        fits = rw l at (fits_after bs (code_bits c) rest s.at e (omega (arith, (shape colour c f.member).some_bits)));
        small = omega (arith, f.run_is);
      }

  -- the codes of a run are read as their sum
  read_made : (s : Sum) {n : ℕ} {cs : List Code} (rest : List Bool) → Made colour n cs → drop s.at bs ≡ codes_bits cs ++ rest → s.total + n ≤ 4294967295
      → ends (run_step colour bs) (bits_after bs) s ≡ done (ok (sum (s.at + length (codes_bits cs)) (s.total + n)))
  unfolding codes_bits
  read_made s rest (last {c = c} f h) e small =
      ends-done (run_step colour bs) (bits_after bs) (run-falls colour bs) s (ok (after s c))
      (rw (lt-ltb c.run 64 (omega (arith, f.run_is))) at (step-code colour bs s c (takes s rest f (e ∙ append_assoc (code_bits c) [] rest) small)))
      ∙ same_end (rw length-append (omega (arith, length-code_bits c))) (omega (arith, f.run_is))
  read_made s rest (next {c = c} {cs = cs} f h m) e small =
      ends_more (run_step colour bs) (bits_after bs) (run-falls colour bs) s (after s c)
      (rw (le-ltb c.run 64 (omega (arith, f.run_is))) at (step-code colour bs s c (takes s (codes_bits cs ++ rest) f here (omega arith))))
      ∙ read_made (after s c) rest m (rw (length-code_bits c) at (drop-after bs (code_bits c) (codes_bits cs ++ rest) s.at here)) (omega (arith, f.run_is))
      ∙ same_end (rw length-append (omega (arith, length-code_bits c))) (omega (arith, f.run_is))
    where
      here : drop s.at bs ≡ code_bits c ++ (codes_bits cs ++ rest)
      here = e ∙ append_assoc (code_bits c) (codes_bits cs) rest

  -- so data that hold such codes are read as the run
  pub read-codes : (at : ℕ) {n : ℕ} {cs : List Code} (rest : List Bool) → Made colour n cs → drop at bs ≡ codes_bits cs ++ rest → n ≤ 4294967295
      → read_run colour bs at ≡ ok (sum (at + length (codes_bits cs)) n)
  unfolding read_run
  read-codes at rest m e h = ap answer (read_made (sum at 0) rest m e (omega arith) ∙ same_end refl (zero-add _))

  -- and a run that is read stands in the data as such codes
  Stands : Sum → Res Sum → Type 0
  Stands s (ok r) = (n : ℕ) × (cs : List Code) × Made colour n cs × (drop s.at bs ≡ codes_bits cs ++ drop r.at bs) × (r.total ≡ s.total + n)
  Stands s (fault n p) = Unit {0}

  run-stands : (s : Sum) (r : Res Sum) → ends (run_step colour bs) (bits_after bs) s ≡ done r → Stands s r
  unfolding Stands codes_bits
  run-stands s r e = ends-ind (run_step colour bs) Stands base next' (bits_after bs) s r e
    where
      of : (s : Sum) (c : Code) → Takes colour bs s c → For colour c.run c
      of s c k = record { member = k.member; run_is = refl }

      base : (s : Sum) (r : Res Sum) → run_step colour bs s ≡ done r → Stands s r
      base s r =
          run-cases colour bs s (λ o. o ≡ done r → Stands s r)
          (λ c k l e. subst (Stands s) (let q : ok (after s c) ≡ r = cc in q)
          (c.run, c ∷ [], last (of s c k) l, k.there ∙ ap (λ (t : List Bool). t ++ drop (s.at + c.size) bs) (sym (append-nil (code_bits c))), refl))
          (λ c k l e. absurd (let z : ◌≡◌ {A = ℕ} 0 1 = cc in omega arith))
          (λ n p q e. subst (Stands s) (let q : fault n s.at ≡ r = cc in q) tt)

      along : (s : Sum) (c : Code) → Takes colour bs s c → 64 ≤ c.run → (r : Res Sum) → Stands (after s c) r → Stands s r
      along s c k l (fault n p) w = tt
      along s c k l (ok r) (n, cs, m, e, t) = (
        c.run + n,
        c ∷ cs,
        next (of s c k) l m,
        k.there ∙ ap (λ (w : List Bool). code_bits c ++ w) e ∙ sym (append_assoc (code_bits c) (codes_bits cs) (drop r.at bs)),
        omega arith,
      )

      next' : (s t : Sum) (r : Res Sum) → run_step colour bs s ≡ more t → Stands t r → Stands s r
      next' s t r =
          run-cases colour bs s (λ o. o ≡ more t → Stands t r → Stands s r)
          (λ c k l e. absurd (let z : ◌≡◌ {A = ℕ} 0 1 = cc in omega arith))
          (λ c k l e w. along s c k l r (subst (λ (x : Sum). Stands x r) (let q : t ≡ after s c = cc in q) w))
          (λ n p q e. absurd (let z : ◌≡◌ {A = ℕ} 0 1 = cc in omega arith))

  pub stands-codes : (at : ℕ) (r : Sum) → read_run colour bs at ≡ ok r → (cs : List Code) × Made colour r.total cs × (drop at bs ≡ codes_bits cs ++ drop r.at bs)
  unfolding read_run Stands
  stands-codes at r e =
      let p = ends-stops (run_step colour bs) (bits_after bs) (run-falls colour bs) (sum at 0) in
      let w = subst (Stands (sum at 0)) (sym (ap answer p.1) ∙ e) (run-stands (sum at 0) p.0 p.1) in
      (w.1, subst (λ (n : ℕ). Made colour n w.1) (let q : w.0 ≡ r.total = omega (arith, w.4) in q) w.2, w.3)

-- a run's bits are read as the run, whatever follows
pub read-run : (colour : Colour) (n : ℕ) (bs rest : List Bool) (at : ℕ) → n ≤ 4294967295
    → drop at bs ≡ run_bits colour n ++ rest → read_run colour bs at ≡ ok (sum (at + length (run_bits colour n)) n)
unfolding run_bits
read-run colour n bs rest at h e = read-codes colour bs at rest (made-run colour n) e h
