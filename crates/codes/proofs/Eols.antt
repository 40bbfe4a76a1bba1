-- EOLs: zeros up to a one, the EOLs from a bit on, and the search for the next, by eleven bits. Assumes nothing.
use mathlib.Core.Path.{◌≡◌, refl, sym, ap, ◌∙◌}
use mathlib.Core.Bool.{Bool, true, false}
use mathlib.Core.List.{List}
use mathlib.Core.Option.{Option, none, some}
use Prim.Native.Nat.{ℕ, zero, suc, ◌+◌, ◌-◌, ◌*◌, ◌/◌, ◌%◌, ◌^◌, ◌≤◌, ◌<◌}
use native.Mathlib.Omega.{arith}
use native.Mathlib.Numerals.{one-add}
use native.Mathlib.Nat.{zero-add, add-zero, add_assoc}
use lib.Count as Count
use lib.Dec.{ltb}
use lib.ListN.{length, drop, length-drop}
use lib.Pow.{shr-shr}
use lib.Seq.{drop-drop}
use borrow.Author.Tests.{lt-ltb, le-ltb, ltb-true, ltb-false}
use Rattle.rules.specs.Bits.{bits_of, peek, leading_zeros}
use Rattle.rules.specs.Eols.{zero_run, eol_after, Eols, eols_to, read_eols, skip, skip_to_eol, EolAt}
use Rattle.rules.proofs.Bits.{length-bits_of, pow-two, peek-lt, peek-high, peek-low, peek-one}
use Rattle.rules.proofs.Eols.{skip-here, zeros-inside}
use Rattle.bit_reader.specs.Loaded.{Loaded, LoadedAt}
use Rattle.bit_reader.specs.Zeros.{one_or_end}
use Rattle.bit_reader.specs.declared.buffer.Buffer.{Buffer}
use Rattle.bit_reader.proofs.Window.{top-first}
use Rattle.bit_reader.proofs.Clear.{behind, only-zeros, zeros-few, some_one, zeros-of-number, past_end}

-- ---- Zeros up to a one

-- from `at` stand `zeros` zeros and then a one, before `after`
pub record Closed (bytes : List ℕ) (at zeros after : ℕ) : Type 0 where
  pub far : after ≡ at + suc zeros
  pub inside : after ≤ 8 * length bytes
  pub found : zero_run (drop at (bits_of bytes)) ≡ some zeros

module _ (bytes : List ℕ) (at : ℕ) where
  abbrev bs : List Bool
  bs = bits_of bytes

  -- the one that closes zeros is inside the data
  pub closing : {zeros : ℕ} → zero_run (drop at bs) ≡ some zeros → Closed bytes at zeros (at + suc zeros)
  closing {zeros} e = record {
    far = refl;
    inside = omega (arith, zeros-inside (drop at bs) zeros e, length-drop at bs, length-bits_of bytes);
    found = e;
  }

  -- by the first one
  module _ {r : ℕ} (first : r ≡ one_or_end (8 * length bytes) at (zero_run (drop at bs))) where
    pub unclosed : 8 * length bytes ≤ r → zero_run (drop at bs) ≡ none
    unclosed h = cases (zero_run (drop at bs)) refl first
      where
        cases : (o : Option ℕ) → zero_run (drop at bs) ≡ o → r ≡ one_or_end (8 * length bytes) at o → zero_run (drop at bs) ≡ none
        cases none e q = e
        cases (some z) e q = absurd (omega (arith, q, (closing e).inside))

    pub closed : r < 8 * length bytes → Closed bytes at (r - at) (r + 1)
    closed h = cases (zero_run (drop at bs)) refl first
      where
        cases : (o : Option ℕ) → zero_run (drop at bs) ≡ o → r ≡ one_or_end (8 * length bytes) at o → Closed bytes at (r - at) (r + 1)
        cases none e q = absurd (omega (arith, q))
        cases (some z) e q =
            let n : z ≡ r - at = omega (arith, q) in
            record { far = omega (arith, q); inside = omega arith; found = e ∙ ap some n }

  -- n zeros, of the data or past it, are some of those that a one closes
  pub many : (n : ℕ) {zeros after : ℕ} → peek n (drop at bs) ≡ 0 → Closed bytes at zeros after → n ≤ zeros
  many n {zeros} e k = cases (zero_run (drop n (drop at bs))) (sym (only-zeros n (drop at bs) e) ∙ k.found)
    where
      cases : (o : Option ℕ) → behind n o ≡ some zeros → n ≤ zeros
      cases none q = absurd (let y : ◌≡◌ {A = ℕ} 0 1 = cc in omega arith)
      cases (some y) q = let z : n + y ≡ zeros = cc in omega arith

  -- by the next twelve bits, out of 32
  module _ {w : ℕ} (window : w ≡ peek 32 (drop at bs)) where
    twelve : w / 2 ^ 20 ≡ peek 12 (drop at bs)
    twelve = rw window (peek-high 12 20 (drop at bs))

    -- a one among the first eleven
    pub early : 1 < w / 2 ^ 20 → (z : ℕ) × Closed bytes at z (at + suc z) × (z < 11)
    early h =
        let p : 0 < peek 11 (drop at bs) = omega (arith, twelve, peek-one 11 (drop at bs), peek-lt 1 (drop 11 (drop at bs))) in
        (leading_zeros 11 (drop at bs), closing (some_one 11 (drop at bs) p), zeros-few 11 (drop at bs) p)

    -- the twelfth is the first one
    pub plain-eol : w / 2 ^ 20 ≡ 1 → Closed bytes at 11 (at + 12)
    unfolding Count.count_leading_zeros
    plain-eol e =
        let q : peek 12 (drop at bs) ≡ 1 = sym twelve ∙ e in
        closing
        (some_one 12 (drop at bs) (omega (arith, q))
        ∙ ap some (zeros-of-number 12 (drop at bs) ∙ ap (Count.count_leading_zeros 12) q))

    pub twelve-zeros : w / 2 ^ 20 ≡ 0 → peek 12 (drop at bs) ≡ 0
    twelve-zeros e = sym twelve ∙ e

-- ---- The EOLs from a bit on

-- so many before them
abbrev plus : ℕ → Eols → Eols
plus n e = eols_to (n + e.count) e.at

-- no EOL, or one and those behind it
module _ (most : ℕ) (bs : List Bool) (at : ℕ) where
  read_none : eol_after at (zero_run (drop at bs)) ≡ none → read_eols (suc most) bs at ≡ eols_to 0 at
  unfolding read_eols
  read_none e = rw (e, read_eols)

  read_one : (a : ℕ) → eol_after at (zero_run (drop at bs)) ≡ some a → read_eols (suc most) bs at ≡ plus 1 (read_eols most bs a)
  unfolding read_eols
  read_one a e = rw (e, read_eols) (ap (λ (n : ℕ). eols_to n (read_eols most bs a).at) (sym (one-add _)))

-- `count` of at most `max` EOLs stand from `from` to `at`
pub record Counted (bytes : List ℕ) (max from count at : ℕ) : Type 0 where
  pub inside : at ≤ 8 * length bytes
  pub few : count ≤ max
  pub same : read_eols max (bits_of bytes) from ≡ plus count (read_eols (max - count) (bits_of bytes) at)

-- before any is read
pub none_yet : {bytes : List ℕ} (max : ℕ) {from : ℕ} → from ≤ 8 * length bytes → Counted bytes max from 0 from
none_yet {bytes} max {from} h = record {
  inside = h;
  few = omega arith;
  same =
      let e : max - 0 ≡ max = omega arith in
      ap (λ (n : ℕ). eols_to n (read_eols max (bits_of bytes) from).at) (sym (zero-add _))
      ∙ ap (λ (n : ℕ). plus 0 (read_eols n (bits_of bytes) from)) (sym e);
}

module _ {bytes : List ℕ} {max from count at : ℕ} (c : Counted bytes max from count at) where
  -- as many as are wanted
  pub enough : max ≤ count → eols_to count at ≡ read_eols max (bits_of bytes) from
  unfolding read_eols
  enough h = let e : max - count ≡ 0 = omega arith in sym (c.same ∙ rw (e, add-zero count))

  module _ (h : count < max) where
    -- what is left has one step at least
    turn : {e : Eols} → read_eols (suc (max - (count + 1))) (bits_of bytes) at ≡ e → read_eols max (bits_of bytes) from ≡ plus count e
    turn q =
        let m : max - count ≡ suc (max - (count + 1)) = omega arith in
        c.same ∙ ap (λ (n : ℕ). plus count (read_eols n (bits_of bytes) at)) m ∙ ap (plus count) q

    -- where no EOL stands, these are all
    stop : eol_after at (zero_run (drop at (bits_of bytes))) ≡ none → eols_to count at ≡ read_eols max (bits_of bytes) from
    stop e = sym (turn (read_none _ _ _ e) ∙ ap (λ (n : ℕ). eols_to n at) (add-zero count))

    pub no_one : zero_run (drop at (bits_of bytes)) ≡ none → eols_to count at ≡ read_eols max (bits_of bytes) from
    no_one e = stop (ap (eol_after at) e)

    module _ {zeros after : ℕ} (k : Closed bytes at zeros after) where
      pub without_eol : zeros < 11 → eols_to count at ≡ read_eols max (bits_of bytes) from
      without_eol l = stop (ap (eol_after at) k.found ∙ rw (lt-ltb zeros 11 l))

      pub eol : 11 ≤ zeros → Counted bytes max from (count + 1) after
      eol l = record {
        inside = k.inside;
        few = omega arith;
        same =
            turn (read_one _ _ _ after (ap (eol_after at) k.found ∙ rw (le-ltb zeros 11 l) (ap some (sym k.far))))
            ∙ ap (λ (n : ℕ). eols_to n (read_eols (max - (count + 1)) (bits_of bytes) after).at) (sym (add_assoc count 1 _));
      }

-- ---- The search

-- a step of the search, by the zeros that it meets (`skip-here` for those of an EOL)
skip-none : (n : ℕ) (bs : List Bool) (at : ℕ) → zero_run (drop at bs) ≡ none → skip n bs at ≡ none
unfolding skip
skip-none zero bs at e = refl
skip-none (suc n) bs at e = rw (e, skip)

skip-on : (n : ℕ) (bs : List Bool) (at z : ℕ) → zero_run (drop at bs) ≡ some z → z < 11 → skip (suc n) bs at ≡ skip n bs (at + suc z)
unfolding skip
skip-on n bs at z e l = rw (e, lt-ltb z 11 l, skip)

-- any count of steps that can reach the end of the bits gives the same
fuel : (bs : List Bool) (n m at : ℕ) → length bs ≤ at + n → length bs ≤ at + m → skip n bs at ≡ skip m bs at
fuel bs zero m at p q = let e = past_end at bs (omega arith) in skip-none zero bs at e ∙ sym (skip-none m bs at e)
fuel bs (suc n) zero at p q = let e = past_end at bs (omega arith) in skip-none (suc n) bs at e ∙ sym (skip-none zero bs at e)
fuel bs (suc n) (suc m) at p q = found (λ z. fuel bs n m (at + suc z) (omega arith) (omega arith)) (zero_run (drop at bs)) refl
  where
    found : ((z : ℕ) → skip n bs (at + suc z) ≡ skip m bs (at + suc z)) → (o : Option ℕ) → zero_run (drop at bs) ≡ o → skip (suc n) bs at ≡ skip (suc m) bs at
    found ih none e = skip-none (suc n) bs at e ∙ sym (skip-none (suc m) bs at e)
    found ih (some z) e = few (ltb z 11) refl
      where
        few : (t : Bool) → ltb z 11 ≡ t → skip (suc n) bs at ≡ skip (suc m) bs at
        few true t = let l = ltb-true z 11 t in skip-on n bs at z e l ∙ ih z ∙ sym (skip-on m bs at z e l)
        few false t =
            let there : EolAt bs at = record { zeros = z; run = e; many = ltb-false z 11 t } in
            skip-here n bs at there ∙ sym (skip-here m bs at there)

-- the search from `from` goes on at `at`
pub record Searching (bytes : List ℕ) (from at : ℕ) : Type 0 where
  pub inside : at ≤ 8 * length bytes
  pub same : skip_to_eol (bits_of bytes) from ≡ skip (length (bits_of bytes)) (bits_of bytes) at

-- where it begins
pub search-from : {bytes : List ℕ} {from : ℕ} → from ≤ 8 * length bytes → Searching bytes from from
search-from h = record { inside = h; same = refl }

module _ {bytes : List ℕ} {from at : ℕ} (s : Searching bytes from at) where
  -- zeros that no one closes end it
  pub nowhere : zero_run (drop at (bits_of bytes)) ≡ none → none ≡ skip_to_eol (bits_of bytes) from
  nowhere e = sym (s.same ∙ skip-none _ (bits_of bytes) at e)

  module _ {zeros after : ℕ} (k : Closed bytes at zeros after) where
    -- there is a bit, so there is a step
    bits : length (bits_of bytes) ≡ suc (8 * length bytes - 1)
    bits = omega (arith, length-bits_of bytes, k.inside, k.far)

    -- eleven zeros end it
    pub here : 11 ≤ zeros → some at ≡ skip_to_eol (bits_of bytes) from
    here l =
        sym
        (s.same
        ∙ ap (λ (n : ℕ). skip n (bits_of bytes) at) bits
        ∙ skip-here _ (bits_of bytes) at (record { zeros = zeros; run = k.found; many = l }))

    -- after fewer it goes on behind the one
    pub on : zeros < 11 → Searching bytes from after
    on l = record {
      inside = k.inside;
      same =
          s.same
          ∙ ap (λ (n : ℕ). skip n (bits_of bytes) at) bits
          ∙ skip-on _ (bits_of bytes) at zeros k.found l
          ∙ fuel (bits_of bytes) (8 * length bytes - 1) (length (bits_of bytes)) (at + suc zeros) (omega (arith, length-bits_of bytes)) (omega arith)
          ∙ ap (skip (length (bits_of bytes)) (bits_of bytes)) (sym k.far);
    }

-- ---- The search, by eleven bits

-- the lowest digit of a number that is set
record Lowest (m v t : ℕ) : Type 0 where
  below : t < m
  odd : v / 2 ^ t % 2 ≡ 1

lowest : (w m v : ℕ) → m ≤ w → 0 < v → v < 2 ^ m → Lowest m v (Count.count_trailing_zeros w v)
unfolding Count.count_trailing_zeros
lowest w zero v h p l = absurd (omega arith)
lowest zero (suc m) v h p l = absurd (omega arith)
lowest (suc w) (suc m) v h p l = cases (λ q. lowest w m (v / 2) (omega arith) q (omega (arith, pow-two m))) (v % 2) refl
  where
    cases : (0 < v / 2 → Lowest m (v / 2) (Count.count_trailing_zeros w (v / 2))) → (d : ℕ) → v % 2 ≡ d → Lowest (suc m) v (Count.under d (Count.count_trailing_zeros w (v / 2)))
    cases ih zero e =
        let k = ih (omega arith) in
        let t = Count.count_trailing_zeros w (v / 2) in
        let n : 1 + t ≡ suc t = omega arith in
        record { below = omega (arith, k.below); odd = ap (λ (i : ℕ). v / 2 ^ i % 2) (sym n) ∙ ap (λ (x : ℕ). x % 2) (sym (shr-shr v 1 t)) ∙ k.odd }
    cases ih (suc d) e = record { below = omega arith; odd = omega arith }

-- the last one among n bits
last_one : (n v : ℕ) (ds : List Bool) → v ≡ peek n ds → n ≤ 64 → 0 < v → let t = Count.count_trailing_zeros 64 v in (t < n) × (peek 1 (drop (n - suc t) ds) ≡ 1)
last_one n v ds e h p =
    let t = Count.count_trailing_zeros 64 v in
    let k = lowest 64 n v h p (rw e (peek-lt n ds)) in
    let m : (n - suc t + 1) + t ≡ n = omega (arith, k.below) in (
      k.below,
      sym (peek-low (n - suc t) 1 ds)
          ∙ ap (λ (x : ℕ). x % 2) (sym (peek-high (n - suc t + 1) t ds) ∙ ap (λ (x : ℕ). peek x ds / 2 ^ t) m ∙ ap (λ (x : ℕ). x / 2 ^ t) (sym e))
          ∙ k.odd,
    )

-- past a one that stands among the next eleven bits: those before it close no EOL either
past : (n k : ℕ) {bytes : List ℕ} {from at : ℕ} → Searching bytes from at → k < n → n ≤ 11 → peek 1 (drop (at + k) (bits_of bytes)) ≡ 1 → Searching bytes from (at + suc k)
past zero k s l h e = absurd (omega arith)
past (suc n) k {bytes} {from} {at} s l h e = step (λ k' at' s' l'. past n k' s' l' (omega arith)) z (k - z) (omega (arith, few)) (on s (closing bytes at (some_one (suc k) ds p)) (omega (arith, few)))
  where
    ds : List Bool
    ds = drop at (bits_of bytes)

    p : 0 < peek (suc k) ds
    p = omega (arith, peek-one k ds, ap (peek 1) (drop-drop k at (bits_of bytes)), e)

    z : ℕ
    z = leading_zeros (suc k) ds

    few : z < suc k
    few = zeros-few (suc k) ds p

    -- the first one is it, or stands before it
    step : ((k' at' : ℕ) → Searching bytes from at' → k' < n → peek 1 (drop (at' + k') (bits_of bytes)) ≡ 1 → Searching bytes from (at' + suc k'))
        → (z d : ℕ) → z + d ≡ k → Searching bytes from (at + suc z) → Searching bytes from (at + suc k)
    step ih z zero q s' = let m : z ≡ k = omega arith in rw (← m) s'
    step ih z (suc d) q s' =
        let m : at + suc z + d ≡ at + k = omega arith in
        let t : at + suc z + suc d ≡ at + suc k = omega arith in
        rw (← t) (ih d (at + suc z) s' (omega arith) (ap (λ (x : ℕ). peek 1 (drop x (bits_of bytes))) m ∙ e))

-- the parts of a buffer, as the search holds them
abbrev pub held : ℕ → ℕ → ℕ → Buffer
held limit at bits = record { at = at; limit = limit; bits = bits }

pub loaded : {bytes : List ℕ} {at : ℕ} {b : Buffer} → LoadedAt bytes at b → Loaded bytes (held b.limit at b.bits)
loaded l = rw l.place at l.loaded

module _ {bytes : List ℕ} {b : Buffer} (l : Loaded bytes b) where
  eleven : b.bits / 2 ^ 53 ≡ peek 11 (drop b.at (bits_of bytes))
  eleven = rw l.holds (top-first 11 l.live (drop b.at (bits_of bytes)) (omega (arith, l.enough, l.reached)) l.most)

  -- no one among eleven
  pub eleven-zeros : b.bits / 2 ^ 53 ≡ 0 → peek 11 (drop b.at (bits_of bytes)) ≡ 0
  eleven-zeros e = sym eleven ∙ e

  -- the search goes on behind the last one of them
  module _ (p : 0 < b.bits / 2 ^ 53) where
    abbrev t : ℕ
    t = Count.count_trailing_zeros 64 (b.bits / 2 ^ 53)

    last : (t < 11) × (peek 1 (drop (11 - suc t) (drop b.at (bits_of bytes))) ≡ 1)
    last = last_one 11 (b.bits / 2 ^ 53) (drop b.at (bits_of bytes)) eleven (omega arith) p

    pub few : t < 11
    few = last.0

    pub behind-last : {from : ℕ} → Searching bytes from b.at → Searching bytes from (b.at + (11 - t))
    behind-last s =
        let n : b.at + suc (11 - suc t) ≡ b.at + (11 - t) = omega (arith, few) in
        rw (← n) (past 11 (11 - suc t) s (omega arith) (omega arith) (ap (peek 1) (sym (drop-drop (11 - suc t) b.at (bits_of bytes))) ∙ last.1))
