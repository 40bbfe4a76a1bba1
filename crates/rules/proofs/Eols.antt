-- Laws of EOLs: reading them moves forwards inside the data, and past eleven zeros and a one for each; the search finds the next one. Assumes nothing.
use mathlib.Core.Path.{◌≡◌, refl, sym, ap, ◌∙◌, subst}
use mathlib.Core.Bool.{Bool, true, false, cond}
use mathlib.Core.List.{List, [], ◌∷◌}
use mathlib.Core.Option.{Option, none, some}
use Prim.Native.Nat.{ℕ, zero, suc, ◌+◌, ◌-◌, ◌≤◌, ◌<◌}
use native.Mathlib.Omega.{arith}
use lib.Dec.{eqb, leb, ltb}
use lib.ListN.{length, drop, length-drop, drop_of_length-le}
use borrow.Author.Tests.{leb-true, leb-false, ltb-false, le-ltb, eqb-false}
use Rattle.rules.specs.Bits.{front_bit}
use Rattle.rules.specs.Eols.{zero_run, eol_after, Eols, eols_to, read_eols, all_eols, skip, skip_to_eol, EolAt}
use Rattle.rules.specs.Group3.{Tagging, untagged, tagged, between_tags, eols3}
use Rattle.rules.proofs.Lines.{Bound, data-bound}
use Rattle.rules.proofs.Barrier.{eol-bound}

-- ---- One EOL

-- the one that closes a run of zeros is there
pub zeros-inside : (ds : List Bool) (z : ℕ) → zero_run ds ≡ some z → z < length ds
unfolding zero_run
zeros-inside [] z e = absurd (let y : ◌≡◌ {A = ℕ} 0 1 = cc in omega arith)
zeros-inside (true ∷ ds) z e = let y : 0 ≡ z = cc in omega arith
zeros-inside (false ∷ ds) z e = cases (λ k. zeros-inside ds k) (zero_run ds) refl e
  where
    cases : ((k : ℕ) → zero_run ds ≡ some k → k < length ds) → (o : Option ℕ) → zero_run ds ≡ o → (elim o as (λ _. Option ℕ) [ none ↦ none | some k ↦ some (suc k) ]) ≡ some z → z < length (false ∷ ds)
    cases ih none q f = absurd (let y : ◌≡◌ {A = ℕ} 0 1 = cc in omega arith)
    cases ih (some k) q f = let y : suc k ≡ z = cc in omega (arith, ih k q)

pub eol-inside : (bs : List Bool) (at : ℕ) (e : EolAt bs at) → at + e.zeros < length bs
eol-inside bs at e = omega (arith, zeros-inside (drop at bs) e.zeros e.run, length-drop at bs)

-- ---- EOLs in a row

-- zeros without a one are no EOL
pub no_one : (n : ℕ) (bs : List Bool) (at : ℕ) → zero_run (drop at bs) ≡ none → read_eols n bs at ≡ eols_to 0 at
unfolding read_eols
no_one zero bs at e = refl
no_one (suc n) bs at e = rw (e, read_eols)

-- where EOLs were read: forwards, inside the data, and past one that stands there if any was read
pub record Ahead (bs : List Bool) (at : ℕ) (r : Eols) : Type 0 where
  pub forward : at ≤ r.at
  pub inside : at ≤ length bs → r.at ≤ length bs
  pub stood : 0 < r.count → EolAt bs at × (at + 12 ≤ r.at)
  pub none_read : r.count ≡ 0 → r.at ≡ at

pub eols-ahead : (most : ℕ) (bs : List Bool) (at : ℕ) → Ahead bs at (read_eols most bs at)
unfolding read_eols
eols-ahead zero bs at = record { forward = omega arith; inside = λ h. h; stood = λ h. absurd (omega arith); none_read = λ h. refl }
eols-ahead (suc most) bs at = cases (λ a. eols-ahead most bs a) (zero_run (drop at bs)) refl
  where
    step : Option ℕ → Eols
    step o = elim o as (λ _. Eols) [ none ↦ eols_to 0 at | some a ↦ let later = read_eols most bs a in eols_to (suc later.count) later.at ]

    nothing : Ahead bs at (eols_to 0 at)
    nothing = record { forward = omega arith; inside = λ h. h; stood = λ h. absurd (omega arith); none_read = λ h. refl }

    closed : ((a : ℕ) → Ahead bs a (read_eols most bs a)) → (z : ℕ) → zero_run (drop at bs) ≡ some z → (b : Bool) → ltb z 11 ≡ b → Ahead bs at (step (cond b none (some (at + suc z))))
    closed ih z e true q = nothing
    closed ih z e false q =
        let f = ih (at + suc z) in
        let here : EolAt bs at = record { zeros = z; run = e; many = ltb-false z 11 q } in
        record {
          forward = omega (arith, f.forward);
          inside = λ h. f.inside (omega (arith, eol-inside bs at here));
          stood = λ h. (here, omega (arith, f.forward, ltb-false z 11 q));
          none_read = λ h. absurd (omega arith);
        }

    cases : ((a : ℕ) → Ahead bs a (read_eols most bs a)) → (o : Option ℕ) → zero_run (drop at bs) ≡ o → Ahead bs at (step (eol_after at o))
    cases ih none e = nothing
    cases ih (some z) e = closed ih z e (ltb z 11) refl

-- where one stands, one is read
pub eol-read : (most : ℕ) (bs : List Bool) (at : ℕ) → EolAt bs at → 0 < (read_eols (suc most) bs at).count
unfolding read_eols
eol-read most bs at e = rw (e.run, le-ltb e.zeros 11 e.many, read_eols) (omega arith)

-- ---- With tag bits between them

first-inside : (bs : List Bool) (at : ℕ) → front_bit (drop at bs) ≡ true → at < length bs
first-inside bs at e = cases (leb (length bs) at) refl
  where
    cases : (b : Bool) → leb (length bs) at ≡ b → at < length bs
    cases true q = absurd (let f : front_bit [] ≡ true = ap front_bit (sym (drop_of_length-le bs (leb-true (length bs) at q))) ∙ e in let y : ◌≡◌ {A = ℕ} 0 1 = cc in omega arith)
    cases false q = leb-false (length bs) at q

-- tag bits and more EOLs are further on, and none is forgotten
pub record Beyond (bs : List Bool) (e r : Eols) : Type 0 where
  pub forward : e.at ≤ r.at
  pub inside : e.at ≤ length bs → r.at ≤ length bs
  pub count : e.count ≤ r.count

pub tags-beyond : (n : ℕ) (bs : List Bool) (e : Eols) → Beyond bs e (between_tags n bs e)
unfolding between_tags
tags-beyond zero bs e = record { forward = omega arith; inside = λ h. h; count = omega arith }
tags-beyond (suc n) bs e = cases (λ d. tags-beyond n bs d) (front_bit (drop e.at bs)) refl
  where
    later : Eols
    later = all_eols bs (suc e.at)

    joined : Eols
    joined = eols_to (e.count + later.count) later.at

    stay : Beyond bs e e
    stay = record { forward = omega arith; inside = λ h. h; count = omega arith }

    last : (b : Bool) → e.at < length bs → Beyond bs e (cond b (eols_to e.count (suc e.at)) e)
    last true h = record { forward = omega arith; inside = λ k. h; count = omega arith }
    last false h = stay

    more' : ((d : Eols) → Beyond bs d (between_tags n bs d)) → e.at < length bs → (b : Bool)
        → Beyond bs e (elim b as (λ _. Eols) [ true ↦ cond (leb 6 e.count) (eols_to e.count (suc e.at)) e | false ↦ between_tags n bs joined ])
    more' ih h true = last (leb 6 e.count) h
    more' ih h false =
        let f = ih joined in
        let a = eols-ahead (length bs) bs (suc e.at) in
        record { forward = omega (arith, f.forward, a.forward); inside = λ k. f.inside (a.inside h); count = omega (arith, f.count) }

    cases : ((d : Eols) → Beyond bs d (between_tags n bs d)) → (b : Bool) → front_bit (drop e.at bs) ≡ b
        → Beyond bs e (elim b as (λ _. Eols) [ false ↦ e | true ↦ elim (eqb later.count 0) as (λ _. Eols) [ true ↦ cond (leb 6 e.count) (eols_to e.count (suc e.at)) e | false ↦ between_tags n bs joined ] ])
    cases ih false q = stay
    cases ih true q = more' ih (first-inside bs e.at q) (eqb later.count 0)

-- Group 3's EOLs, with or without tags
pub eols3-ahead : (bs : List Bool) (t : Tagging) (at : ℕ) → Ahead bs at (eols3 bs t at)
eols3-ahead bs untagged at = eols-ahead (length bs) bs at
eols3-ahead bs tagged at = cases (eqb e.count 0) refl
  where
    e : Eols
    e = all_eols bs at

    a : Ahead bs at e
    a = eols-ahead (length bs) bs at

    cases : (b : Bool) → eqb e.count 0 ≡ b → Ahead bs at (cond b e (between_tags (length bs) bs e))
    cases true q = a
    cases false q =
        let f = tags-beyond (length bs) bs e in
        let s = a.stood (positive e.count (eqb-false e.count 0 q)) in
        record {
          forward = omega (arith, f.forward, a.forward);
          inside = λ h. f.inside (a.inside h);
          stood = λ h. (s.0, omega (arith, s.1, f.forward));
          none_read = λ h. absurd (omega (arith, f.count, positive e.count (eqb-false e.count 0 q)));
        }
      where
        positive : (n : ℕ) → (n ≡ 0 → ⊥) → 0 < n
        positive zero z = absurd (z refl)
        positive (suc n) z = omega arith

-- where one stands, one is read
pub eols3-read : (bs : List Bool) (t : Tagging) (at : ℕ) → EolAt bs at → 0 < (eols3 bs t at).count
eols3-read bs t at e = cases t
  where
    all_read : 0 < (all_eols bs at).count
    all_read = let i = eol-inside bs at e in let s : suc (length bs - 1) ≡ length bs = omega arith in subst (λ (n : ℕ). 0 < (read_eols n bs at).count) s (eol-read (length bs - 1) bs at e)

    cases : (t : Tagging) → 0 < (eols3 bs t at).count
    cases untagged = all_read
    cases tagged = tests (eqb (all_eols bs at).count 0)
      where
        tests : (b : Bool) → 0 < (cond b (all_eols bs at) (between_tags (length bs) bs (all_eols bs at))).count
        tests true = all_read
        tests false = omega (arith, all_read, (tags-beyond (length bs) bs (all_eols bs at)).count)

-- ---- The search

-- the next EOL from a bit on stands further on
pub record Next (bs : List Bool) (at a : ℕ) : Type 0 where
  pub forward : at ≤ a
  pub eol : EolAt bs a

pub skip-finds : (n : ℕ) (bs : List Bool) (at a : ℕ) → skip n bs at ≡ some a → Next bs at a
unfolding skip
skip-finds zero bs at a e = absurd (let y : ◌≡◌ {A = ℕ} 0 1 = cc in omega arith)
skip-finds (suc n) bs at a e = cases (λ b. skip-finds n bs b a) (zero_run (drop at bs)) refl e
  where
    closed : ((b : ℕ) → skip n bs b ≡ some a → Next bs b a) → (z : ℕ) → zero_run (drop at bs) ≡ some z → (b : Bool) → ltb z 11 ≡ b
        → (elim b as (λ _. Option ℕ) [ true ↦ skip n bs (at + suc z) | false ↦ some at ]) ≡ some a → Next bs at a
    closed ih z q true t f = let r = ih (at + suc z) f in record { forward = omega (arith, r.forward); eol = r.eol }
    closed ih z q false t f = let g : at ≡ a = cc in subst (Next bs at) g (record { forward = omega arith; eol = record { zeros = z; run = q; many = ltb-false z 11 t } })

    cases : ((b : ℕ) → skip n bs b ≡ some a → Next bs b a) → (o : Option ℕ) → zero_run (drop at bs) ≡ o
        → (elim o as (λ _. Option ℕ) [ none ↦ none | some z ↦ elim (ltb z 11) [ true ↦ skip n bs (at + suc z) | false ↦ some at ] ]) ≡ some a → Next bs at a
    cases ih none q f = absurd (let y : ◌≡◌ {A = ℕ} 0 1 = cc in omega arith)
    cases ih (some z) q f = closed ih z q (ltb z 11) refl f

-- an EOL at the bit itself is found there
pub skip-here : (n : ℕ) (bs : List Bool) (at : ℕ) → EolAt bs at → skip (suc n) bs at ≡ some at
unfolding skip
skip-here n bs at e = rw (e.run, le-ltb e.zeros 11 e.many, skip)

-- ---- How far a damaged line may reach: into the next EOL, or to the end of the data

abbrev pub reach_of : List Bool → Option ℕ → ℕ
reach_of bs none = length bs
reach_of bs (some a) = a + 3

abbrev pub reach : List Bool → ℕ → ℕ
reach bs at = reach_of bs (skip_to_eol bs at)

pub record Reach (bs : List Bool) (at : ℕ) : Type 0 where
  pub bound : Bound bs (reach bs at)
  pub here : at ≤ length bs → at ≤ reach bs at
  pub beyond : at < length bs → suc at ≤ reach bs at
  pub inside : reach bs at ≤ length bs

pub reaches : (bs : List Bool) (at : ℕ) → Reach bs at
reaches bs at = cases (skip_to_eol bs at) refl
  where
    cases : (o : Option ℕ) → skip_to_eol bs at ≡ o → Reach bs at
    cases none e =
        let q : reach bs at ≡ length bs = ap (reach_of bs) e in
        record { bound = subst (Bound bs) (sym q) (data-bound bs); here = λ x. omega arith; beyond = λ x. omega arith; inside = omega arith }
    cases (some a) e =
        let n = skip-finds (length bs) bs at a e in
        let q : reach bs at ≡ a + 3 = ap (reach_of bs) e in
        record {
          bound = subst (Bound bs) (sym q) (eol-bound bs a n.eol.zeros n.eol.run n.eol.many);
          here = λ x. omega (arith, n.forward);
          beyond = λ x. omega (arith, n.forward);
          inside = omega (arith, eol-inside bs a n.eol, n.eol.many);
        }

-- where an EOL stands at the bit itself, it reaches no further than into that
pub reach-eol : (bs : List Bool) (at : ℕ) → EolAt bs at → reach bs at ≡ at + 3
reach-eol bs at e = ap (reach_of bs) (ap (λ (n : ℕ). skip n bs at) (let s = eol-inside bs at e in let q : length bs ≡ suc (length bs - 1) = omega arith in q) ∙ skip-here (length bs - 1) bs at e)
