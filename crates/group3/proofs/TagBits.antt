-- EOLs with tag bits between them, one tag bit at a time. Assumes nothing.
use mathlib.Core.Path.{◌≡◌, refl, sym, ap, ◌∙◌}
use mathlib.Core.Bool.{Bool, true, false, cond}
use mathlib.Core.List.{List, [], ◌∷◌}
use mathlib.Core.Option.{Option, none, some}
use Prim.Native.Nat.{ℕ, zero, suc, ◌+◌, ◌-◌, ◌*◌, ◌≤◌, ◌<◌}
use native.Mathlib.Omega.{arith}
use native.Mathlib.Numerals.{add-one}
use lib.Dec.{eqb, leb, ltb}
use lib.ListN.{length, drop, drop_of_length-le}
use borrow.Author.Tests.{eq-eqb, ne_eqb, le-leb, lt-leb, leb-true, leb-false, eqb-true, eqb-false}
use Rattle.rules.specs.Bits.{bits_of, front_bit, peek}
use Rattle.rules.specs.Eols as Rule
use Rattle.rules.specs.Eols.{zero_run, eol_after, eols_to, read_eols, all_eols}
use Rattle.rules.specs.Group3.{Tagging, untagged, tagged, between_tags, with_tags, eols3}
use Rattle.rules.proofs.Bits.{length-bits_of}
use Rattle.rules.proofs.Eols.{eols-ahead}
use Rattle.bit_reader.specs.Loaded.{Loading}
use Rattle.codes.specs.declared.eol.Eols.{Eols}
use Rattle.codes.specs.Eols.{eols_of}
use Rattle.group3.specs.Tags.{is_tagged, EolsRead}

-- ---- One bit

-- past the data there is no one
pub past_end : (bs : List Bool) (at : ℕ) → length bs ≤ at → front_bit (drop at bs) ≡ false
past_end bs at h = ap front_bit (drop_of_length-le bs h)

-- the bit as a number
pub bit-one : (ds : List Bool) → eqb (peek 1 ds) 1 ≡ front_bit ds
unfolding peek
bit-one [] = refl
bit-one (true ∷ ds) = refl
bit-one (false ∷ ds) = refl

-- and so it lies in the data
pub one_inside : (bs : List Bool) (at : ℕ) → front_bit (drop at bs) ≡ true → at < length bs
one_inside bs at e = cases (leb (length bs) at) refl
  where
    cases : (b : Bool) → leb (length bs) at ≡ b → at < length bs
    cases true q = absurd (let f = past_end bs at (leb-true (length bs) at q) in let y : ◌≡◌ {A = ℕ} 0 1 = cc in omega arith)
    cases false q = leb-false (length bs) at q

-- ---- EOLs take a bit each

pub eols-few : (most : ℕ) (bs : List Bool) (at : ℕ) → at + (read_eols most bs at).count ≤ (read_eols most bs at).at
unfolding read_eols
eols-few zero bs at = omega arith
eols-few (suc most) bs at = cases (λ a. eols-few most bs a) (zero_run (drop at bs))
  where
    step : Option ℕ → Rule.Eols
    step o = elim o as (λ _. Rule.Eols) [ none ↦ eols_to 0 at | some a ↦ let later = read_eols most bs a in eols_to (suc later.count) later.at ]

    closed : ((a : ℕ) → a + (read_eols most bs a).count ≤ (read_eols most bs a).at) → (z : ℕ) (b : Bool) → at + (step (cond b none (some (at + suc z)))).count ≤ (step (cond b none (some (at + suc z)))).at
    closed ih z true = omega arith
    closed ih z false = omega (arith, ih (at + suc z))

    cases : ((a : ℕ) → a + (read_eols most bs a).count ≤ (read_eols most bs a).at) → (o : Option ℕ) → at + (step (eol_after at o)).count ≤ (step (eol_after at o)).at
    cases ih none = omega arith
    cases ih (some z) = closed ih z (ltb z 11)

-- all that were read from a bit of the data on
pub all_read : {bytes : List ℕ} {at : ℕ} → Loading bytes at → (e : Eols) → eols_of e ≡ all_eols (bits_of bytes) at → EolsRead bytes e × (at + e.count ≤ e.at)
all_read {bytes} {at} h e q =
    let n : e.count ≡ (all_eols (bits_of bytes) at).count = ap (λ (e : Rule.Eols). e.count) q in
    let a : e.at ≡ (all_eols (bits_of bytes) at).at = ap (λ (e : Rule.Eols). e.at) q in
    let f = eols-few (length (bits_of bytes)) (bits_of bytes) at in
    let i = (eols-ahead (length (bits_of bytes)) (bits_of bytes) at).inside (omega (arith, h.inside, length-bits_of bytes)) in
    (record { loading = record { size = h.size; inside = omega (arith, length-bits_of bytes) }; few = omega arith }, omega arith)

-- ---- A tag bit between them

module _ (bs : List Bool) (e : Rule.Eols) where
  -- no tag bit
  between_none : (n : ℕ) → front_bit (drop e.at bs) ≡ false → between_tags n bs e ≡ e
  unfolding between_tags
  between_none zero q = refl
  between_none (suc n) q = rw (q, between_tags)

  module _ (n : ℕ) (q : front_bit (drop e.at bs) ≡ true) where
    -- one that no EOL follows
    between-last : (all_eols bs (suc e.at)).count ≡ 0 → between_tags (suc n) bs e ≡ cond (leb 6 e.count) (eols_to e.count (suc e.at)) e
    unfolding between_tags
    between-last z = rw (q, eq-eqb _ 0 z, between_tags)

    -- and one that EOLs follow
    between_more : ((all_eols bs (suc e.at)).count ≡ 0 → ⊥)
        → between_tags (suc n) bs e ≡ between_tags n bs (eols_to (e.count + (all_eols bs (suc e.at)).count) (all_eols bs (suc e.at)).at)
    unfolding between_tags
    between_more z = rw (q, ne_eqb _ 0 z, between_tags)

-- any count of steps that can reach the end of the bits gives the same
fuel : (bs : List Bool) (n m : ℕ) (e : Rule.Eols) → length bs ≤ e.at + n → length bs ≤ e.at + m → between_tags n bs e ≡ between_tags m bs e
fuel bs zero m e p q = let z = past_end bs e.at (omega arith) in between_none bs e zero z ∙ sym (between_none bs e m z)
fuel bs (suc n) zero e p q = let z = past_end bs e.at (omega arith) in between_none bs e (suc n) z ∙ sym (between_none bs e zero z)
fuel bs (suc n) (suc m) e p q = cases (fuel bs n m joined (omega (arith, ahead)) (omega (arith, ahead))) (front_bit (drop e.at bs)) refl (eqb later.count 0) refl
  where
    later : Rule.Eols
    later = all_eols bs (suc e.at)

    ahead : suc e.at ≤ later.at
    ahead = (eols-ahead (length bs) bs (suc e.at)).forward

    joined : Rule.Eols
    joined = eols_to (e.count + later.count) later.at

    cases : between_tags n bs joined ≡ between_tags m bs joined → (b : Bool) → front_bit (drop e.at bs) ≡ b → (c : Bool) → eqb later.count 0 ≡ c → between_tags (suc n) bs e ≡ between_tags (suc m) bs e
    cases ih false f c g = between_none bs e (suc n) f ∙ sym (between_none bs e (suc m) f)
    cases ih true f true g = let z = eqb-true later.count 0 g in between-last bs e n f z ∙ sym (between-last bs e m f z)
    cases ih true f false g = let z = eqb-false later.count 0 g in between_more bs e n f z ∙ ih ∙ sym (between_more bs e m f z)

-- ---- The loop over tag bits

-- the EOLs read so far: what is left of them is the whole
pub record Joined (bytes : List ℕ) (count₀ at₀ count at : ℕ) : Type 0 where
  pub loading : Loading bytes at
  pub few : count ≤ at
  pub same : between_tags (length (bits_of bytes)) (bits_of bytes) (eols_to count₀ at₀) ≡ between_tags (length (bits_of bytes)) (bits_of bytes) (eols_to count at)

pub joined-first : {bytes : List ℕ} {first : Eols} → EolsRead bytes first → Joined bytes first.count first.at first.count first.at
joined-first h = record { loading = h.loading; few = h.few; same = refl }

module _ {bytes : List ℕ} {count₀ at₀ count at : ℕ} (j : Joined bytes count₀ at₀ count at) where
  abbrev bs : List Bool
  bs = bits_of bytes

  pub joined-done : front_bit (drop at bs) ≡ false → eols_to count at ≡ between_tags (length bs) bs (eols_to count₀ at₀)
  joined-done q = sym (j.same ∙ between_none bs (eols_to count at) (length bs) q)

  -- with a tag bit
  module _ (q : front_bit (drop at bs) ≡ true) where
    pub tag-inside : at + 1 ≤ 8 * length bytes
    tag-inside = omega (arith, one_inside bs at q, length-bits_of bytes)

    pub tag-loading : Loading bytes (at + 1)
    tag-loading = record { size = j.loading.size; inside = tag-inside }

    -- and what follows it
    module _ (later : Eols) (r : eols_of later ≡ all_eols bs (at + 1)) where
      bits : length bs ≡ suc (length bs - 1)
      bits = omega (arith, one_inside bs at q)

      is : eols_of later ≡ all_eols bs (suc at)
      is = r ∙ ap (all_eols bs) (add-one at)

      count-is : later.count ≡ (all_eols bs (suc at)).count
      count-is = ap (λ (e : Rule.Eols). e.count) is

      last : later.count ≡ 0 → between_tags (length bs) bs (eols_to count₀ at₀) ≡ cond (leb 6 count) (eols_to count (suc at)) (eols_to count at)
      last z = j.same ∙ ap (λ (n : ℕ). between_tags n bs (eols_to count at)) bits ∙ between-last bs (eols_to count at) (length bs - 1) q (sym count-is ∙ z)

      pub joined-rtc : later.count ≡ 0 → 6 ≤ count → eols_to count (at + 1) ≡ between_tags (length bs) bs (eols_to count₀ at₀)
      joined-rtc z h = sym (last z ∙ rw (le-leb 6 count h) (ap (eols_to count) (sym (add-one at))))

      pub joined_line : later.count ≡ 0 → count < 6 → eols_to count at ≡ between_tags (length bs) bs (eols_to count₀ at₀)
      joined_line z h = sym (last z ∙ rw (lt-leb 6 count h))

      reads : EolsRead bytes later × (at + 1 + later.count ≤ later.at)
      reads = all_read tag-loading later r

      pub later-ahead : at + 1 + later.count ≤ later.at
      later-ahead = reads.1

      pub joined-more : (later.count ≡ 0 → ⊥) → Joined bytes count₀ at₀ (count + later.count) later.at
      joined-more z = record {
        loading = reads.0.loading;
        few = omega (arith, j.few, reads.1);
        same =
            j.same
            ∙ ap (λ (n : ℕ). between_tags n bs (eols_to count at)) bits
            ∙ between_more bs (eols_to count at) (length bs - 1) q (λ n. z (count-is ∙ n))
            ∙ ap (between_tags (length bs - 1) bs) (λ i. eols_to (count + sym count-is i) (ap (λ (e : Rule.Eols). e.at) (sym is) i))
            ∙ fuel bs (length bs - 1) (length bs) (eols_to (count + later.count) later.at) (omega (arith, reads.1)) (omega arith);
      }

-- ---- By the tagging

module _ (bs : List Bool) (at : ℕ) (t : Tagging) (e : Rule.Eols) (q : e ≡ all_eols bs at) where
  pub eols-untagged : is_tagged t ≡ false → e ≡ eols3 bs t at
  eols-untagged = cases t
    where
      cases : (t : Tagging) → is_tagged t ≡ false → e ≡ eols3 bs t at
      cases untagged b = q
      cases tagged b = absurd (let z : ◌≡◌ {A = ℕ} 0 1 = cc in omega arith)

  module _ (b : is_tagged t ≡ true) where
    with-tags : eols3 bs t at ≡ cond (eqb e.count 0) e (between_tags (length bs) bs e)
    with-tags = cases t b
      where
        cases : (t : Tagging) → is_tagged t ≡ true → eols3 bs t at ≡ cond (eqb e.count 0) e (between_tags (length bs) bs e)
        cases tagged b = ap (with_tags bs tagged) (sym q)
        cases untagged b = absurd (let z : ◌≡◌ {A = ℕ} 0 1 = cc in omega arith)

    pub eols-none : e.count ≡ 0 → e ≡ eols3 bs t at
    eols-none z = sym (with-tags ∙ rw (eq-eqb e.count 0 z))

    pub eols-tagged : (e.count ≡ 0 → ⊥) → (r : Rule.Eols) → r ≡ between_tags (length bs) bs e → r ≡ eols3 bs t at
    eols-tagged z r p = p ∙ sym (with-tags ∙ rw (ne_eqb e.count 0 z))
