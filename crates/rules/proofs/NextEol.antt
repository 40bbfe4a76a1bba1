-- The next EOL from a bit on: the ones before it come too soon to end one, and the search goes past them. From a little further on, the next EOL is the
-- same. Bits without an EOL, put before one, lead to it. Assumes nothing.
use mathlib.Core.Path.{◌≡◌, refl, sym, ap, ◌∙◌, subst}
use mathlib.Core.Bool.{Bool, true, false}
use mathlib.Core.List.{List, [], ◌∷◌, ◌++◌, append_assoc}
use mathlib.Core.Option.{Option, none, some}
use Prim.Native.Nat.{ℕ, zero, suc, ◌+◌, ◌-◌, ◌≤◌, ◌<◌}
use native.Mathlib.Omega.{arith}
use lib.Dec.{leb, ltb}
use lib.ListN.{length, drop, replicate, length-append, length-replicate}
use lib.Seq.{drop-drop}
use borrow.Author.Tests.{lt-ltb, ltb-true, leb-true, leb-false}
use Rattle.rules.specs.Eols.{zero_run, skip, skip_to_eol, EolAt}
use Rattle.rules.specs.Damage.{found, no_eol, stray}
use Rattle.rules.proofs.Bits.{both_true, drop-after}
use Rattle.rules.proofs.Eols.{eol-inside, skip-here}
use Rattle.rules.proofs.PageBack.{Soon}
use Rattle.rules.proofs.EolChains.{zeros-then}

-- ---- From a bit to the next EOL

module _ (bs : List Bool) where
  -- from one bit to another, past ones that come too soon to end an EOL
  pub data Towards : ℕ → ℕ → Type 0 where
    here : {at : ℕ} → Towards at at
    past_one : {at p z : ℕ} → zero_run (drop at bs) ≡ some z → z ≤ 10 → Towards (at + suc z) p → Towards at p

  -- the next EOL begins at `start`, and the bit after it is e
  pub record Facing (at e : ℕ) : Type 0 where
    pub start : ℕ
    pub past : Towards at start
    pub eol : EolAt bs start
    pub to : start + suc eol.zeros ≡ e

  pub towards-ahead : {at p : ℕ} → Towards at p → at ≤ p
  towards-ahead here = omega arith
  towards-ahead (past_one e h t) = omega (arith, towards-ahead t)

  -- the search finds it
  skip-towards : {at p : ℕ} → Towards at p → EolAt bs p → (n : ℕ) → p - at < n → skip n bs at ≡ some p
  unfolding skip
  skip-towards t h zero k = absurd (omega arith)
  skip-towards {at} here h (suc n) k = skip-here n bs at h
  skip-towards {at} (past_one {z = z} e l t) h (suc n) k = rw (e, lt-ltb z 11 (omega arith), skip) (skip-towards {at = at + suc z} t h n (omega (arith, towards-ahead t)))

  pub skips-to : {at p : ℕ} → Towards at p → EolAt bs p → skip_to_eol bs at ≡ some p
  skips-to {at} {p} t h = skip-towards t h (length bs) (omega (arith, eol-inside bs p h))

-- ---- From a little further on

-- fewer zeros are left behind some of them
zeros-drop : (i : ℕ) (ds : List Bool) (z : ℕ) → zero_run ds ≡ some z → i ≤ z → zero_run (drop i ds) ≡ some (z - i)
unfolding zero_run
zeros-drop zero ds z e h = e ∙ ap (λ (n : ℕ). some n) (let q : z ≡ z - 0 = omega arith in q)
zeros-drop (suc i) [] z e h = absurd (let y : ◌≡◌ {A = ℕ} 0 1 = cc in omega arith)
zeros-drop (suc i) (true ∷ ds) z e h = absurd (let y : 0 ≡ z = cc in omega arith)
zeros-drop (suc i) (false ∷ ds) z e h = cases (zero_run ds) (zeros-drop i ds) refl e
  where
    cases : (o : Option ℕ) → ((k : ℕ) → zero_run ds ≡ some k → i ≤ k → zero_run (drop i ds) ≡ some (k - i)) → zero_run ds ≡ o
        → (elim o as (λ _. Option ℕ) [ none ↦ none | some k ↦ some (suc k) ]) ≡ some z → zero_run (drop i ds) ≡ some (z - suc i)
    cases none ih q f = absurd (let y : ◌≡◌ {A = ℕ} 0 1 = cc in omega arith)
    cases (some k) ih q f = let y : suc k ≡ z = cc in ih k q (omega arith) ∙ ap (λ (n : ℕ). some n) (let g : k - i ≡ z - suc i = omega arith in g)

module _ (bs : List Bool) where
  zeros-from : (at a z : ℕ) → at ≤ a → a ≤ at + z → zero_run (drop at bs) ≡ some z → zero_run (drop a bs) ≡ some (at + z - a)
  zeros-from at a z h k e =
      ap (λ (n : ℕ). zero_run (drop n bs)) (let q : a ≡ at + (a - at) = omega arith in q)
      ∙ ap zero_run (sym (drop-drop (a - at) at bs))
      ∙ zeros-drop (a - at) (drop at bs) z e (omega arith)
      ∙ ap (λ (n : ℕ). some n) (let q : z - (a - at) ≡ at + z - a = omega arith in q)

  towards-on : {at p : ℕ} → Towards bs at p → (a : ℕ) → at ≤ a → a ≤ p → Towards bs a p
  towards-on {at} {p} here a h k = subst (λ (n : ℕ). Towards bs n p) (let q : p ≡ a = omega arith in q) here
  towards-on {at} {p} (past_one {z = z} e l t) a h k = tests (leb a (at + z)) refl (λ i. towards-on t a i k)
    where
      tests : (b : Bool) → leb a (at + z) ≡ b → (at + suc z ≤ a → Towards bs a p) → Towards bs a p
      tests true q later =
          past_one (zeros-from at a z h (leb-true a (at + z) q) e) (omega arith)
          (subst (λ (n : ℕ). Towards bs n p) (let y : at + suc z ≡ a + suc (at + z - a) = omega (arith, leb-true a (at + z) q) in y) t)
      tests false q later = later (omega (arith, leb-false a (at + z) q))

  -- as long as eleven of its zeros are left
  pub facing-on : {at e : ℕ} (f : Facing bs at e) → (a : ℕ) → at ≤ a → a + 11 ≤ f.start + f.eol.zeros → Facing bs a e
  facing-on {at} {e} f a h k = tests (leb a f.start) refl
    where
      tests : (b : Bool) → leb a f.start ≡ b → Facing bs a e
      tests true q = record { start = f.start; past = towards-on f.past a h (leb-true a f.start q); eol = f.eol; to = f.to }
      tests false q =
          let l : f.start < a = leb-false a f.start q in
          record {
            start = a;
            past = here;
            eol = record { zeros = f.start + f.eol.zeros - a; run = zeros-from f.start a f.eol.zeros (omega arith) (omega arith) f.eol.run; many = omega arith };
            to = omega (arith, f.to);
          }

-- ---- Bits without an EOL

-- one zero more
zeros-snoc : (n : ℕ) (rest : List Bool) → replicate n false ++ false ∷ rest ≡ replicate (suc n) false ++ rest
zeros-snoc zero rest = refl
zeros-snoc (suc n) rest = ap (λ (l : List Bool). false ∷ l) (zeros-snoc n rest)

-- they lead to their last zeros, where so many were seen before them
pub record Leads (bs : List Bool) (at zeros : ℕ) (bits rest : List Bool) : Type 0 where
  pub start : ℕ
  pub past : Towards bs at start
  pub trailing : ℕ
  pub there : drop start bs ≡ replicate trailing false ++ rest
  pub size : start + trailing ≡ at + zeros + length bits

module _ (bs rest : List Bool) where
  pub leads : (bits : List Bool) (zeros at : ℕ) → no_eol zeros bits ≡ true → drop at bs ≡ replicate zeros false ++ (bits ++ rest) → Leads bs at zeros bits rest
  unfolding no_eol zero_run
  leads [] zeros at q e = record { start = at; past = here; trailing = zeros; there = e; size = omega arith }
  leads (false ∷ bits) zeros at q e =
      let r = leads bits (suc zeros) at q (e ∙ zeros-snoc zeros (bits ++ rest)) in
      record { start = r.start; past = r.past; trailing = r.trailing; there = r.there; size = omega (arith, r.size) }
  leads (true ∷ bits) zeros at q e =
      let p = both_true (ltb zeros 11) (no_eol 0 bits) q in
      let r = leads bits 0 (at + suc zeros) p.1 behind in
      record {
        start = r.start;
        past = past_one first (omega (arith, ltb-true zeros 11 p.0)) r.past;
        trailing = r.trailing;
        there = r.there;
        size = omega (arith, r.size);
      }
    where
      first : zero_run (drop at bs) ≡ some zeros
      first = ap zero_run e ∙ zeros-then zeros (true ∷ (bits ++ rest)) 0 refl ∙ ap (λ (n : ℕ). some n) (let y : zeros + 0 ≡ zeros = omega arith in y)

      behind : drop (at + suc zeros) bs ≡ bits ++ rest
      behind =
          ap (λ (n : ℕ). drop n bs) (let y : at + suc zeros ≡ at + length (replicate zeros false ++ true ∷ []) = omega (arith, length-append (replicate zeros false) (true ∷ []), length-replicate zeros false) in y)
          ∙ drop-after bs (replicate zeros false ++ true ∷ []) (bits ++ rest) at (e ∙ sym (append_assoc (replicate zeros false) (true ∷ []) (bits ++ rest)))

-- where there is a one, it comes soon
first-soon : (bits rest : List Bool) (zeros : ℕ) → found (zero_run bits) ≡ true → no_eol zeros bits ≡ true → (z : ℕ) × (zero_run (bits ++ rest) ≡ some z) × (zeros + z ≤ 10)
unfolding no_eol zero_run
first-soon [] rest zeros f q = absurd (let y : ◌≡◌ {A = ℕ} 0 1 = cc in omega arith)
first-soon (true ∷ bits) rest zeros f q = (0, refl, omega (arith, ltb-true zeros 11 (both_true (ltb zeros 11) (no_eol 0 bits) q).0))
first-soon (false ∷ bits) rest zeros f q =
    let r = first-soon bits rest (suc zeros) (cases (zero_run bits) f) q in
    (suc r.0, rw r.1, omega (arith, r.2))
  where
    cases : (o : Option ℕ) → found (elim o as (λ _. Option ℕ) [ none ↦ none | some k ↦ some (suc k) ]) ≡ true → found o ≡ true
    cases none h = h
    cases (some k) h = refl

pub stray-soon : (bits rest : List Bool) → stray bits ≡ true → Soon 10 (bits ++ rest)
stray-soon bits rest s =
    let p = both_true (found (zero_run bits)) (no_eol 0 bits) s in
    let r = first-soon bits rest 0 p.0 p.1 in
    (r.0, r.1, omega (arith, r.2))
