-- A code that is read never reaches past the one of an EOL that begins at or after its start: of the eleven zeros of an EOL it takes three at most, since
-- no code ends with more and eight begin none. So the third of them is a bound of every line that begins before it. Assumes nothing.
use mathlib.Core.Path.{◌≡◌, refl, sym, ap, ◌∙◌, subst}
use mathlib.Core.Bool.{Bool, true, false, ◌||◌}
use mathlib.Core.List.{List, [], ◌∷◌, ◌++◌}
use mathlib.Core.Option.{Option, none, some}
use Prim.Native.Nat.{ℕ, zero, suc, ◌+◌, ◌-◌, ◌≤◌, ◌<◌}
use native.Mathlib.Omega.{arith}
use lib.Dec.{T, leb, ltb}
use lib.ListN.{length, take, drop, replicate}
use lib.Seq.{drop-drop, drop-append-le}
use borrow.Author.Tests.{ltb-true, ltb-false, leb-true, leb-false}
use Rattle.rules.specs.Machine.{more, done, ends}
use Rattle.rules.specs.Codes.{Colour, Code, code_bits}
use Rattle.rules.specs.Runs.{Res, ok, fault, Sum, sum, run_step, bits_after, answer, read_run}
use Rattle.rules.specs.Modes.{mode_bits}
use Rattle.rules.specs.Eols.{zero_run}
use Rattle.rules.proofs.Machine.{ends-ind, ends-stops}
use Rattle.rules.proofs.Codes.{both, holds_one, spread, soon, shape, length-code_bits}
use Rattle.rules.proofs.Runs.{Takes, after, run-cases, run-falls}
use Rattle.rules.proofs.Modes.{Modes, ModeAt, mode_is_at, coded-soon}
use Rattle.rules.proofs.Lines.{Bound}

-- ---- A word among zeros

-- a word that stands where n zeros stand has no one among its first n bits
zeros-none : (n : ℕ) (xs rest more' : List Bool) → xs ++ rest ≡ replicate n false ++ more' → T (holds_one (take n xs)) → ⊥
unfolding holds_one
zeros-none zero xs rest more' e t = t
zeros-none (suc n) [] rest more' e t = t
zeros-none (suc n) (true ∷ xs) rest more' e t = absurd (let z : ◌≡◌ {A = ℕ} 0 1 = cc in omega arith)
zeros-none (suc n) (false ∷ xs) rest more' e t = zeros-none n xs rest more' (let q : xs ++ rest ≡ replicate n false ++ more' = cc in q) t

-- the zeros from a later bit on
zeros-later : (n k : ℕ) (bs more' : List Bool) (p : ℕ) → drop p bs ≡ replicate (k + n) false ++ more' → drop (p + k) bs ≡ replicate n false ++ more'
zeros-later n zero bs more' p e = ap (λ (i : ℕ). drop i bs) (let q : p + 0 ≡ p = omega arith in q) ∙ e ∙ ap (λ (i : ℕ). replicate i false ++ more') (let q : 0 + n ≡ n = omega arith in q)
zeros-later n (suc k) bs more' p e =
    ap (λ (i : ℕ). drop i bs) (let q : p + suc k ≡ suc p + k = omega arith in q)
    ∙ zeros-later n k bs more' (suc p) (sym (ap (λ (i : ℕ). drop i bs) (let q : p + 1 ≡ suc p = omega arith in q)) ∙ sym (drop-drop 1 p bs) ∙ ap (drop 1) (e ∙ ap (λ (i : ℕ). replicate i false ++ more') (let q : suc k + n ≡ suc (k + n) = omega arith in q)))

-- an end part of a word in which a one comes soon
spread_at : (xs : List Bool) → T (spread xs) → (i : ℕ) → 4 ≤ length xs - i → T (holds_one (take 11 (drop i xs)))
unfolding spread
spread_at [] t i h = absurd (omega arith)
spread_at (x ∷ xs) t zero h = cases (ltb (length (x ∷ xs)) 4) refl (both (ltb (length (x ∷ xs)) 4 || holds_one (take 11 (x ∷ xs))) (spread xs) t).0
  where
    cases : (b : Bool) → ltb (length (x ∷ xs)) 4 ≡ b → T (b || holds_one (take 11 (x ∷ xs))) → T (holds_one (take 11 (x ∷ xs)))
    cases true e u = absurd (omega (arith, ltb-true (length (x ∷ xs)) 4 e))
    cases false e u = u
spread_at (x ∷ xs) t (suc i) h = spread_at xs (both (ltb (length (x ∷ xs)) 4 || holds_one (take 11 (x ∷ xs))) (spread xs) t).1 i (omega arith)

module _ (bs : List Bool) (p : ℕ) (rest : List Bool) (zeros : drop p bs ≡ replicate 11 false ++ rest) where
  -- A word that begins no later than the third of eleven zeros ends no later than there.
  word-stays : (xs : List Bool) → T (soon xs) → (q : ℕ) (more' : List Bool) → drop q bs ≡ xs ++ more' → q ≤ p + 3 → q + length xs ≤ p + 3
  unfolding soon
  word-stays xs t q more' e h = cases (ltb p q) refl
    where
      -- it begins in the zeros, of which eight are left at least
      late : p < q → ⊥
      late k =
          let s : drop q bs ≡ replicate 8 false ++ (replicate (3 - (q - p)) false ++ rest) = later in
          zeros-none 8 xs more' _ (sym e ∙ s) (both (holds_one (take 8 xs)) (spread xs) t).0
        where
          split : (n m : ℕ) → replicate (n + m) false ++ rest ≡ replicate n false ++ (replicate m false ++ rest)
          split zero m = ap (λ (i : ℕ). replicate i false ++ rest) (let z : 0 + m ≡ m = omega arith in z)
          split (suc n) m = ap (λ (i : ℕ). replicate i false ++ rest) (let z : suc n + m ≡ suc (n + m) = omega arith in z) ∙ ap (λ (l : List Bool). false ∷ l) (split n m)

          later : drop q bs ≡ replicate 8 false ++ (replicate (3 - (q - p)) false ++ rest)
          later =
              ap (λ (i : ℕ). drop i bs) (let z : q ≡ p + (q - p) = omega arith in z)
              ∙ zeros-later (8 + (3 - (q - p))) (q - p) bs rest p (zeros ∙ ap (λ (i : ℕ). replicate i false ++ rest) (let z : 11 ≡ (q - p) + (8 + (3 - (q - p))) = omega arith in z))
              ∙ split 8 (3 - (q - p))

      -- it ends in the zeros, after four of them or more
      deep : q ≤ p → 4 ≤ length xs - (p - q) → ⊥
      deep k l =
          zeros-none 11 (drop (p - q) xs) more' rest
          (sym (drop-append-le (p - q) xs more' (omega arith)) ∙ ap (drop (p - q)) (sym e) ∙ drop-drop (p - q) q bs ∙ ap (λ (i : ℕ). drop i bs) (let z : q + (p - q) ≡ p = omega arith in z) ∙ zeros)
          (spread_at xs (both (holds_one (take 8 xs)) (spread xs) t).1 (p - q) l)

      cases : (b : Bool) → ltb p q ≡ b → q + length xs ≤ p + 3
      cases true c = absurd (late (ltb-true p q c))
      cases false c = ends-soon (leb (q + length xs) (p + 3)) refl
        where
          ends-soon : (b : Bool) → leb (q + length xs) (p + 3) ≡ b → q + length xs ≤ p + 3
          ends-soon true d = leb-true (q + length xs) (p + 3) d
          ends-soon false d = let k = ltb-false p q c in absurd (deep k (omega (arith, leb-false (q + length xs) (p + 3) d)))

  -- ---- Codes, runs and modes

  code_stays : (colour : Colour) (s : Sum) (c : Code) → Takes colour bs s c → s.at ≤ p + 3 → s.at + c.size ≤ p + 3
  code_stays colour s c t h =
      let w = word-stays (code_bits c) (shape colour c t.member).one-soon s.at (drop (s.at + c.size) bs) t.there h in
      omega (arith, length-code_bits c)

  abbrev Stays : Sum → Res Sum → Type 0
  Stays s (ok r) = s.at ≤ p + 3 → r.at ≤ p + 3
  Stays s (fault n place) = Unit {0}

  run-ends-before : (colour : Colour) (s : Sum) (r : Res Sum) → ends (run_step colour bs) (bits_after bs) s ≡ done r → Stays s r
  run-ends-before colour s r e = ends-ind (run_step colour bs) Stays base goes (bits_after bs) s r e
    where
      base : (s : Sum) (r : Res Sum) → run_step colour bs s ≡ done r → Stays s r
      base s r =
          run-cases colour bs s (λ o. o ≡ done r → Stays s r)
          (λ c k l e. subst (Stays s) (let q : ok (after s c) ≡ r = cc in q) (code_stays colour s c k))
          (λ c k l e. absurd (let z : ◌≡◌ {A = ℕ} 0 1 = cc in omega arith))
          (λ n i j e. subst (Stays s) (let q : fault n s.at ≡ r = cc in q) tt)

      along : (s t : Sum) → (s.at ≤ p + 3 → t.at ≤ p + 3) → (r : Res Sum) → Stays t r → Stays s r
      along s t f (ok r) g = λ h. g (f h)
      along s t f (fault n place) g = tt

      goes : (s t : Sum) (r : Res Sum) → run_step colour bs s ≡ more t → Stays t r → Stays s r
      goes s t r =
          run-cases colour bs s (λ o. o ≡ more t → Stays t r → Stays s r)
          (λ c k l e. absurd (let z : ◌≡◌ {A = ℕ} 0 1 = cc in omega arith))
          (λ c k l e. let q : after s c ≡ t = cc in along s t (λ h. omega (arith, code_stays colour s c k h, ap (λ (x : Sum). x.at) q)) r)
          (λ n i j e. absurd (let z : ◌≡◌ {A = ℕ} 0 1 = cc in omega arith))

  -- The third of the eleven zeros bounds every reading that begins before it.
  pub zeros-bound : Bound bs (p + 3)
  unfolding read_run
  zeros-bound = record {
    run-stays = λ colour at r e h.
        let n = ends-stops (run_step colour bs) (bits_after bs) (run-falls colour bs) (sum at 0) in
        subst (Stays (sum at 0)) (sym (ap answer n.1) ∙ e) (run-ends-before colour (sum at 0) n.0 n.1) h;
    mode-stays = λ at r e h.
        let m : Modes bs at r = subst (ModeAt bs at) e (mode_is_at bs at) in
        let w = word-stays (mode_bits r.mode) (coded-soon r.mode m.coded) at (drop r.at bs) m.there h in
        omega (arith, m.next);
  }

-- ---- EOLs

-- the zeros of an EOL
pub eol-zeros : (n : ℕ) (ds : List Bool) (z : ℕ) → zero_run ds ≡ some z → n ≤ z → ds ≡ replicate n false ++ drop n ds
unfolding zero_run
eol-zeros zero ds z e h = refl
eol-zeros (suc n) [] z e h = absurd (let y : ◌≡◌ {A = ℕ} 0 1 = cc in omega arith)
eol-zeros (suc n) (true ∷ ds) z e h = absurd (let y : 0 ≡ z = cc in omega arith)
eol-zeros (suc n) (false ∷ ds) z e h = cases (λ k. eol-zeros n ds k) (zero_run ds) refl e
  where
    cases : ((k : ℕ) → zero_run ds ≡ some k → n ≤ k → ds ≡ replicate n false ++ drop n ds) → (o : Option ℕ) → zero_run ds ≡ o → (elim o as (λ _. Option ℕ) [ none ↦ none | some k ↦ some (suc k) ]) ≡ some z → false ∷ ds ≡ false ∷ (replicate n false ++ drop n ds)
    cases ih none q f = absurd (let y : ◌≡◌ {A = ℕ} 0 1 = cc in omega arith)
    cases ih (some k) q f = let y : suc k ≡ z = cc in ap (λ (l : List Bool). false ∷ l) (ih k q (omega arith))

-- An EOL that begins at bit p bounds every line that begins no later.
pub eol-bound : (bs : List Bool) (p z : ℕ) → zero_run (drop p bs) ≡ some z → 11 ≤ z → Bound bs (p + 3)
eol-bound bs p z e h = zeros-bound bs p (drop 11 (drop p bs)) (eol-zeros 11 (drop p bs) z e h)
