-- EOLs that stand one behind another, with fill before them or tag bits behind them, and what is read there. Assumes nothing.
use mathlib.Core.Path.{◌≡◌, refl, sym, ap, ap₂, ◌∙◌, subst}
use mathlib.Core.Bool.{Bool, true, false, cond}
use mathlib.Core.List.{List, [], ◌∷◌, ◌++◌, append_assoc}
use mathlib.Core.Logic.{◌⊎◌, inl, inr}
use mathlib.Core.Option.{none, some}
use Prim.Native.Nat.{ℕ, zero, suc, ◌+◌, ◌-◌, ◌≤◌, ◌<◌}
use native.Mathlib.Omega.{arith}
use lib.Dec.{eqb, leb}
use lib.ListN.{length, drop, replicate, length-append, length-replicate}
use borrow.Author.Tests.{le-leb}
use Rattle.rules.specs.Bits.{front_bit}
use Rattle.rules.specs.Eols.{zero_run, Eols, eols_to, read_eols, all_eols, EolAt}
use Rattle.rules.specs.Group3.{between_tags}
use Rattle.rules.specs.Write.{eol_bits}
use Rattle.rules.specs.WriteGroup3.{times}
use Rattle.rules.proofs.Bits.{drop-after}
use Rattle.rules.proofs.Eols.{no_one, eol-inside}
use Rattle.rules.proofs.PageBack.{Soon, no-eols, one-eol, eol-zeros}

-- ---- Zeros, and no EOL

-- some zeros, and whatever follows them
pub zeros-then : (m : ℕ) (rest : List Bool) (z : ℕ) → zero_run rest ≡ some z → zero_run (replicate m false ++ rest) ≡ some (m + z)
unfolding zero_run
zeros-then zero rest z e = e ∙ ap (λ (n : ℕ). some n) (let q : z ≡ 0 + z = omega arith in q)
zeros-then (suc m) rest z e = rw (zeros-then m rest z e) (ap (λ (n : ℕ). some n) (let q : suc (m + z) ≡ suc m + z = omega arith in q))

-- no EOL stands at a bit, however many are looked for
abbrev pub Quiet : List Bool → ℕ → Type 0
Quiet bs at = (n : ℕ) → read_eols n bs at ≡ eols_to 0 at

pub soon-quiet : (bs : List Bool) (at : ℕ) → Soon 10 (drop at bs) → Quiet bs at
soon-quiet bs at (z, e, h) n = no-eols n bs at z e h

pub none-quiet : (bs : List Bool) (at : ℕ) → zero_run (drop at bs) ≡ none → Quiet bs at
none-quiet bs at e n = no_one n bs at e

-- ---- EOLs

-- so many from one bit to another, and no more there
pub data Chain (bs : List Bool) : ℕ → ℕ → ℕ → Type 0 where
  no_more : {at : ℕ} → Quiet bs at → Chain bs 0 at at
  eol-then : {j at e : ℕ} (h : EolAt bs at) → Chain bs j (at + suc h.zeros) e → Chain bs (suc j) at e

pub chain-read : {bs : List Bool} {j at e : ℕ} → Chain bs j at e → (n : ℕ) → j ≤ n → read_eols n bs at ≡ eols_to j e
chain-read (no_more q) n h = q n
chain-read (eol-then k c) zero h = absurd (omega arith)
chain-read {bs} {at = at} (eol-then k c) (suc n) h = one-eol n bs at k.zeros k.run k.many ∙ rw (chain-read c n (omega arith))

chain_fits : {bs : List Bool} {j at e : ℕ} → Chain bs j at e → j ≤ length bs - at
chain_fits (no_more q) = omega arith
chain_fits {bs} {at = at} (eol-then k c) = omega (arith, eol-inside bs at k, chain_fits c)

-- all of them are read
pub chain-all : {bs : List Bool} {j at e : ℕ} → Chain bs j at e → all_eols bs at ≡ eols_to j e
chain-all {bs} c = chain-read c (length bs) (omega (arith, chain_fits c))

-- ---- As they are written

pub eol-long : length eol_bits ≡ 12
unfolding eol_bits
eol-long = refl

module _ (bs : List Bool) where
  pub after-bit : (a : ℕ) (b : Bool) (l : List Bool) → drop a bs ≡ b ∷ l → drop (suc a) bs ≡ l
  after-bit a b l e = ap (λ (n : ℕ). drop n bs) (let q : suc a ≡ a + 1 = omega arith in q) ∙ drop-after bs (b ∷ []) l a e

  -- fill and an EOL
  module _ (fill at : ℕ) (rest : List Bool) (there : drop at bs ≡ replicate fill false ++ (eol_bits ++ rest)) where
    abbrev pub fill-eol : EolAt bs at
    fill-eol = record { zeros = fill + 11; run = ap zero_run there ∙ zeros-then fill (eol_bits ++ rest) 11 (eol-zeros rest); many = omega arith }

    -- and the EOLs that follow
    pub fill-then : {j e : ℕ} → Chain bs j (at + (fill + 12)) e → Chain bs (suc j) at e
    fill-then {j} {e} c = eol-then fill-eol (subst (λ (a : ℕ). Chain bs j a e) (let q : at + (fill + 12) ≡ at + suc (fill + 11) = omega arith in q) c)

    pub fill-after : drop (at + (fill + 12)) bs ≡ rest
    unfolding eol_bits
    fill-after =
        ap (λ (n : ℕ). drop n bs) (let q : at + (fill + 12) ≡ at + fill + 12 = omega arith in q)
        ∙ drop-after bs eol_bits rest (at + fill)
        (ap (λ (n : ℕ). drop (at + n) bs) (sym (length-replicate fill false)) ∙ drop-after bs (replicate fill false) (eol_bits ++ rest) at there)

    -- and none that follows
    pub fill_one : Soon 10 rest → Chain bs 1 at (at + (fill + 12))
    fill_one h = fill-then (no_more (soon-quiet bs (at + (fill + 12)) (subst (Soon 10) (sym fill-after) h)))

  -- EOLs without fill, to the last one of the data
  pub eols-chain : (j at : ℕ) (rest : List Bool) → drop at bs ≡ times j eol_bits ++ rest → zero_run rest ≡ none → Chain bs j at (at + length (times j eol_bits))
  unfolding times
  eols-chain zero at rest e q = subst (Chain bs 0 at) (let p : at ≡ at + 0 = omega arith in p) (no_more (none-quiet bs at (ap zero_run e ∙ q)))
  eols-chain (suc j) at rest e q =
      let here : drop at bs ≡ eol_bits ++ (times j eol_bits ++ rest) = e ∙ append_assoc eol_bits (times j eol_bits) rest in
      fill-then 0 at (times j eol_bits ++ rest) here
      (subst (Chain bs j (at + 12)) (let p : at + 12 + length (times j eol_bits) ≡ at + length (eol_bits ++ times j eol_bits) = rw length-append (omega (arith, eol-long)) in p)
      (eols-chain j (at + 12) rest (fill-after 0 at (times j eol_bits ++ rest) here) q))

  -- at least so many, whatever follows them
  pub eols-least : (j at : ℕ) (rest : List Bool) → drop at bs ≡ times j eol_bits ++ rest → (n : ℕ) → j ≤ n → j ≤ (read_eols n bs at).count
  unfolding times
  eols-least zero at rest e n h = omega arith
  eols-least (suc j) at rest e zero h = absurd (omega arith)
  eols-least (suc j) at rest e (suc n) h =
      let here : drop at bs ≡ eol_bits ++ (times j eol_bits ++ rest) = e ∙ append_assoc eol_bits (times j eol_bits) rest in
      omega (
        arith,
        ap (λ (x : Eols). x.count) (one-eol n bs at 11 (ap zero_run here ∙ eol-zeros (times j eol_bits ++ rest)) (omega arith)),
        eols-least j (at + 12) rest (fill-after 0 at (times j eol_bits ++ rest) here) n (omega arith),
      )

  -- ---- Tag bits

  -- before a line: a tag bit, and no EOL behind it
  pub tags-stay : (n e : ℕ) → (front_bit (drop e bs) ≡ false) ⊎ Quiet bs (suc e) → between_tags n bs (eols_to 1 e) ≡ eols_to 1 e
  unfolding between_tags
  tags-stay zero e h = refl
  tags-stay (suc n) e (inl h) = rw (h, between_tags)
  tags-stay (suc n) e (inr q) = tests (front_bit (drop e bs)) refl
    where
      tests : (b : Bool) → front_bit (drop e bs) ≡ b → between_tags (suc n) bs (eols_to 1 e) ≡ eols_to 1 e
      tests false h = rw (h, between_tags)
      tests true h = rw (h, q (length bs), between_tags)

  -- a one, and another EOL behind it
  tags-more : (n c e a : ℕ) → front_bit (drop e bs) ≡ true → all_eols bs (suc e) ≡ eols_to 1 a → between_tags (suc n) bs (eols_to c e) ≡ between_tags n bs (eols_to (c + 1) a)
  unfolding between_tags
  tags-more n c e a h q = rw (h, between_tags) (rw q (ap (λ (x : Eols). between_tags n bs (eols_to (c + x.count) x.at)) q))

  -- the one after the last of six or more
  tags-last : (n c e : ℕ) → front_bit (drop e bs) ≡ true → Quiet bs (suc e) → 6 ≤ c → between_tags (suc n) bs (eols_to c e) ≡ eols_to c (suc e)
  unfolding between_tags
  tags-last n c e h q k = rw (h, q (length bs), le-leb 6 c k, between_tags)

  -- an EOL with a one behind it
  abbrev tagged1 : List Bool
  tagged1 = eol_bits ++ true ∷ []

  -- from the one behind some EOLs that were read, so many more to the last one of the data
  pub tags-chain : (n j c e : ℕ) (rest : List Bool) → drop e bs ≡ true ∷ (times j tagged1 ++ rest) → zero_run rest ≡ none → j < n → 6 ≤ c + j
      → between_tags n bs (eols_to c e) ≡ eols_to (c + j) (suc e + length (times j tagged1))
  unfolding times zero_run
  tags-chain zero j c e rest d q h k = absurd (omega arith)
  tags-chain (suc n) zero c e rest d q h k =
      tags-last n c e (ap front_bit d) (none-quiet bs (suc e) (ap zero_run (after-bit e true rest d) ∙ q)) (omega arith)
      ∙ ap₂ eols_to (let p : c ≡ c + 0 = omega arith in p) (let p : suc e ≡ suc e + 0 = omega arith in p)
  tags-chain (suc n) (suc j) c e rest d q h k =
      tags-more n c e (suc e + 12) (ap front_bit d) (chain-all (fill_one 0 (suc e) _ here (0, refl, omega arith)))
      ∙ tags-chain n j (c + 1) (suc e + 12) rest (fill-after 0 (suc e) _ here) q (omega arith) (omega arith)
      ∙ ap₂ eols_to (let p : c + 1 + j ≡ c + suc j = omega arith in p)
      (let p : suc (suc e + 12) + length (times j tagged1) ≡ suc e + length (tagged1 ++ times j tagged1) = rw (length-append, length-append) (omega (arith, eol-long)) in p)
    where
      here : drop (suc e) bs ≡ eol_bits ++ (true ∷ (times j tagged1 ++ rest))
      here = after-bit e true _ d ∙ append_assoc tagged1 (times j tagged1) rest ∙ append_assoc eol_bits (true ∷ []) (times j tagged1 ++ rest)

  -- no EOL that was read is taken back
  tags-grow : (n : ℕ) (e : Eols) → e.count ≤ (between_tags n bs e).count
  unfolding between_tags
  tags-grow zero e = omega arith
  tags-grow (suc n) e = tests (front_bit (drop e.at bs)) (all_eols bs (suc e.at)) (tags-grow n)
    where
      tests : (b : Bool) (later : Eols) → ((x : Eols) → x.count ≤ (between_tags n bs x).count) → e.count ≤ (elim b as (λ _. Eols) [
        | false ↦ e
        | true ↦ elim (eqb later.count 0) as (λ _. Eols) [
          | true ↦ cond (leb 6 e.count) (eols_to e.count (suc e.at)) e
          | false ↦ between_tags n bs (eols_to (e.count + later.count) later.at)
        ]
      ]).count
      tests false later ih = omega arith
      tests true later ih = inner (eqb later.count 0) (leb 6 e.count) (ih (eols_to (e.count + later.count) later.at))
        where
          inner : (c d : Bool) → e.count + later.count ≤ (between_tags n bs (eols_to (e.count + later.count) later.at)).count
              → e.count ≤ (elim c as (λ _. Eols) [ true ↦ cond d (eols_to e.count (suc e.at)) e | false ↦ between_tags n bs (eols_to (e.count + later.count) later.at) ]).count
          inner true true h = omega arith
          inner true false h = omega arith
          inner false d h = omega arith

  -- from the one behind some EOLs that were read, so many more at least, whatever follows them
  pub tags-least : (n j c e : ℕ) (rest : List Bool) → drop e bs ≡ true ∷ (times j tagged1 ++ rest) → j < n → c + j ≤ (between_tags n bs (eols_to c e)).count
  unfolding times zero_run
  tags-least zero j c e rest d h = absurd (omega arith)
  tags-least (suc n) zero c e rest d h = omega (arith, tags-grow (suc n) (eols_to c e))
  tags-least (suc n) (suc j) c e rest d h =
      omega (
        arith,
        ap (λ (x : Eols). x.count) (tags-more n c e (suc e + 12) (ap front_bit d) (chain-all (fill_one 0 (suc e) _ here (0, refl, omega arith)))),
        tags-least n j (c + 1) (suc e + 12) rest (fill-after 0 (suc e) _ here) (omega arith),
      )
    where
      here : drop (suc e) bs ≡ eol_bits ++ (true ∷ (times j tagged1 ++ rest))
      here = after-bit e true _ d ∙ append_assoc tagged1 (times j tagged1) rest ∙ append_assoc eol_bits (true ∷ []) (times j tagged1 ++ rest)
