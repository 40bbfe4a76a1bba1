-- The changes of 64 pixels, one after the other, and of a row, word by word. Assumes nothing.
use mathlib.Core.Path.{◌≡◌, refl, sym, ap, ◌∙◌}
use mathlib.Core.Bool.{Bool, true, false, cond, not, ◌&&◌, true≢false}
use mathlib.Core.List.{List, [], ◌∷◌, ◌++◌, append-nil}
use Prim.Native.Nat.{ℕ, zero, suc, ◌+◌, ◌-◌, ◌*◌, ◌/◌, ◌%◌, ◌≤◌, ◌<◌}
use native.Mathlib.Omega.{arith}
use lib.Count as Count
use lib.Dec.{leb}
use lib.ListN.{length, get_or, length-append}
use borrow.Author.Tests.{leb-true, leb-false, le-leb, lt-leb}
use Rattle.rules.specs.Bits.{bit}
use Rattle.rules.specs.Pixels.{Pixels}
use Rattle.rules.proofs.Bits.{pow-two}
use lib.Pow.{pow_pos}
use Rattle.bitmap.specs.Packed.{colour_for, packed, pixels_at, turns_from}
use Rattle.bitmap.specs.Steps.{is_black, ones_from}
use Rattle.bitmap.specs.Turning.{bit_in, colour_before, recorded, up_to, Roomy, Turns}
use Rattle.bitmap.specs.declared.tracing.Turn.{Turn}
use Rattle.bitmap.proofs.Packing.{packed_lt, packed-same, packed-not}
use Rattle.bitmap.proofs.Turnings.{Leads, leads, leads-some, none-set, packed-flip, turns-few, turns-to, Still, still, turns-one, before-suc, recorded-none, recorded_more, recorded-length}

-- a bit as it is, or turned
abbrev turned_if : Bool → Bool → Bool
turned_if keep b = cond keep b (not b)

-- ---- The word that is scanned

-- all bits of a word as they are, or all turned
kept_word : (keep : Bool) (f : ℕ → Bool) (i : ℕ) {v r : ℕ} → v ≡ packed f 64 i → r ≡ cond keep v (18446744073709551615 - v)
    → r ≡ packed (λ j. turned_if keep (f j)) 64 i
kept_word true f i e h = h ∙ e
kept_word false f i e h = omega (arith, e, h, packed-not f 64 i)

packed-shift : (f : ℕ → Bool) (n c i : ℕ) → packed f n (c + i) ≡ packed (λ j. f (c + j)) n i
unfolding packed
packed-shift f zero c i = refl
packed-shift f (suc n) c i =
    let e : suc (c + i) ≡ c + suc i = omega arith in
    rw (e, packed-shift f n c (suc i))

-- the pixel that a bit stands for
bit-pixel : (one : Bool) (bytes : List ℕ) (at j : ℕ) → turned_if one (bit_in bytes (8 * at + j)) ≡ is_black (pixels_at one bytes at j)
unfolding pixels_at
bit-pixel one bytes at j =
    let m : (8 * at + j) % 8 ≡ j % 8 = omega arith in
    let d : (8 * at + j) / 8 ≡ at + j / 8 = omega arith in
    rw (m, d) (by one (bit (7 - j % 8) (get_or bytes (at + j / 8) 0)))
  where
    by : (o b : Bool) → turned_if o b ≡ is_black (colour_for o b)
    by true true = refl
    by true false = refl
    by false true = refl
    by false false = refl

-- from p on, the pixels that are not of the colour before them
abbrev away : Pixels → Bool → ℕ → ℕ → Bool
away line black p i = leb p i && turned_if (not black) (is_black (line i))

away-on : (line : Pixels) (black : Bool) (p i : ℕ) → p ≤ i → away line black p i ≡ turned_if (not black) (is_black (line i))
away-on line black p i h = rw (le-leb p i h) refl

away-off : (line : Pixels) (black : Bool) (p i : ℕ) → i < p → away line black p i ≡ false
away-off line black p i h = rw (lt-leb p i h) refl

-- the word that is made of the bytes
scanned : (one black : Bool) (bytes : List ℕ) (at from : ℕ) {raw v r : ℕ} → raw ≡ packed (bit_in bytes) 64 (8 * at + from)
    → v ≡ cond one raw (18446744073709551615 - raw) → r ≡ cond (not black) v (18446744073709551615 - v)
    → r ≡ packed (away (pixels_at one bytes at) black from) 64 from
scanned one black bytes at from e f g =
    let line = pixels_at one bytes at in
    let first = kept_word one (λ j. bit_in bytes (8 * at + j)) from (e ∙ packed-shift (bit_in bytes) 64 (8 * at) from) f in
    kept_word (not black) (λ j. turned_if one (bit_in bytes (8 * at + j))) from first g
    ∙ packed-same (λ j. turned_if (not black) (turned_if one (bit_in bytes (8 * at + j)))) (away line black from) 64 from
    (λ j a b. ap (turned_if (not black)) (bit-pixel one bytes at j) ∙ sym (away-on line black from j a))

-- ---- One change after the other

-- what is found up to position p
pub record Scan (line : Pixels) (width from first : ℕ) (write : Bool) (before : List ℕ) (rest next : ℕ) (black : Bool) (changes : List ℕ) : Type 0 where
  pub p : ℕ
  pub low : from ≤ p
  pub high : p ≤ from + 64
  pub inside : p ≤ width
  pub count : next ≡ first + length (turns_from line (p - from) from)
  pub shade : black ≡ is_black (colour_before line p)
  pub bits : rest ≡ packed (away line black p) 64 from
  pub entries : changes ≡ recorded write first (turns_from line (p - from) from) before

pub scan-start : (one black : Bool) (bytes : List ℕ) (at width from first : ℕ) (write : Bool) (before : List ℕ) → from < width
    → black ≡ is_black (colour_before (pixels_at one bytes at) from) → {raw v r : ℕ} → raw ≡ packed (bit_in bytes) 64 (8 * at + from)
    → v ≡ cond one raw (18446744073709551615 - raw) → r ≡ cond (not black) v (18446744073709551615 - v)
    → Scan (pixels_at one bytes at) width from first write before r first black before
unfolding turns_from
scan-start one black bytes at width from first write before h s e f g =
    let z : from - from ≡ 0 = omega arith in
    record {
      p = from;
      low = omega arith;
      high = omega arith;
      inside = omega arith;
      count = rw z (omega arith);
      shade = s;
      bits = scanned one black bytes at from e f g;
      entries = rw z (recorded-none write first before);
    }

up_to-least : (width end p : ℕ) → p ≤ end → p ≤ width → p ≤ up_to width end
up_to-least width end p h k = by (leb end width)
  where
    by : (t : Bool) → p ≤ cond t end width
    by true = h
    by false = k

module _ {line : Pixels} {width from first : ℕ} {write : Bool} {before : List ℕ} {rest next : ℕ} {black : Bool} {changes : List ℕ}
    (s : Scan line width from first write before rest next black changes) where
  abbrev seen : ℕ → Bool
  seen = away line black s.p

  -- at most 64 changes more
  pub scan-few : next ≤ first + 64
  scan-few = omega (arith, s.count, turns-few line (s.p - from) from, s.high)

  pub scan-length : Roomy write first (turns_from line (up_to width (from + 64) - from) from) before → length changes ≡ length before
  scan-length room =
      let q = up_to-least width (from + 64) s.p s.high s.inside in
      let t = turns-to line from s.p (up_to width (from + 64)) s.low q in
      let n = length-append (turns_from line (s.p - from) from) (turns_from line (up_to width (from + 64) - s.p) s.p) in
      ap length s.entries ∙ recorded-length write first (turns_from line (s.p - from) from) before (λ v. omega (arith, room v, ap length t, n))

  -- a pixel that is not away has the colour before it
  stays : (j : ℕ) → s.p ≤ j → seen j ≡ false → is_black (line j) ≡ black
  stays j h e = by black (is_black (line j)) (sym (away-on line black s.p j h) ∙ e)
    where
      by : (b c : Bool) → turned_if (not b) c ≡ false → c ≡ b
      by true true e = refl
      by false false e = refl
      by true false e = absurd (true≢false e)
      by false true e = absurd (true≢false e)

  -- up to a position before which no pixel is away
  rests : (q : ℕ) → s.p ≤ q → ((j : ℕ) → from ≤ j → j < q → seen j ≡ false) → Still line s.p (q - s.p) black
  rests q h clear = still line (q - s.p) s.p black s.shade (λ j a b. stays j a (clear j (omega (arith, s.low)) (omega arith)))

  -- nothing more is found
  ends : (r : Turn) → r.next ≡ next → r.black ≡ black → (q : ℕ) → up_to width (from + 64) ≡ q → s.p ≤ q
      → (from + 64 ≤ width → q ≡ from + 64) → ((j : ℕ) → from ≤ j → j < q → seen j ≡ false)
      → Turns line width from first write before r changes
  ends r e f q u h w clear =
      let t = rests q h clear in
      let same : turns_from line (up_to width (from + 64) - from) from ≡ turns_from line (s.p - from) from =
      ap (λ (n : ℕ). turns_from line (n - from) from) u
      ∙ turns-to line from s.p q s.low h
      ∙ ap (λ (l : List ℕ). turns_from line (s.p - from) from ++ l) t.none
      ∙ append-nil _ in
      let n : s.p + (q - s.p) ≡ q = omega arith in
      record {
        count = e ∙ s.count ∙ ap (λ (l : List ℕ). first + length l) (sym same);
        shade = λ k. f ∙ t.shade ∙ ap (λ (m : ℕ). is_black (colour_before line m)) (n ∙ w k);
        entries = s.entries ∙ ap (λ (l : List ℕ). recorded write first l before) (sym same);
      }

  -- the word is 0
  pub ends-clear : (r : Turn) → r.next ≡ next → r.black ≡ black → rest ≡ 0 → Turns line width from first write before r changes
  ends-clear r e f z = by (leb (from + 64) width) refl
    where
      clear : (j : ℕ) → from ≤ j → j < from + 64 → seen j ≡ false
      clear = none-set seen 64 from (sym s.bits ∙ z)

      by : (t : Bool) → leb (from + 64) width ≡ t → Turns line width from first write before r changes
      by true q = ends r e f (from + 64) (rw q refl) s.high (λ k. refl) clear
      by false q =
          let l = leb-false (from + 64) width q in
          ends r e f width (rw q refl) s.inside (λ k. absurd (omega arith)) (λ j a b. clear j a (omega arith))

  module _ (z : ℕ) (leading : z ≡ Count.count_leading_zeros 64 rest) (some : rest ≡ 0 → ⊥) where
    ones : Leads seen 64 from z
    ones = rw leading (leads seen 64 from s.bits)

    pub zeros-few : z < 64
    zeros-few = leads-some seen 64 from z s.bits some ones

    -- what is left of the word is less
    pub word-less : ones_from z - rest < rest
    word-less =
        let small = packed_lt seen 64 from in
        let t = Count.leading_top 64 rest (omega (arith, some)) (omega (arith, s.bits, small)) in
        let n : 64 - z ≡ suc t.0 = omega (arith, t.1, leading) in
        rw n (omega (arith, pow-two t.0, t.2, pow_pos t.0))

    here : seen (from + z) ≡ true
    here = ones.first zeros-few

    -- its first one lies in what is left
    reached : s.p ≤ from + z
    reached = by (leb s.p (from + z)) refl
      where
        by : (t : Bool) → leb s.p (from + z) ≡ t → s.p ≤ from + z
        by true q = leb-true s.p (from + z) q
        by false q = absurd (true≢false (sym here ∙ away-off line black s.p (from + z) (leb-false s.p (from + z) q)))

    -- the first one lies behind the width
    pub ends-width : (r : Turn) → r.next ≡ next → r.black ≡ black → width ≤ from + z → Turns line width from first write before r changes
    ends-width r e f h =
        let l : width < from + 64 = omega (arith, zeros-few) in
        ends r e f width (rw (lt-leb (from + 64) width l) refl) s.inside (λ k. absurd (omega arith)) (λ j a b. ones.clear j a (omega arith))

    -- it is a change
    module _ (l : from + z < width) where
      abbrev x : ℕ
      x = from + z

      before-x : Still line s.p (from + z - s.p) black
      before-x = rests (from + z) reached (λ j a b. ones.clear j a b)

      turned-here : is_black (line (from + z)) ≡ not black
      turned-here = by black (is_black (line (from + z))) (sym (away-on line black s.p (from + z) reached) ∙ here)
        where
          by : (b c : Bool) → turned_if (not b) c ≡ true → c ≡ not b
          by true false e = refl
          by false true e = refl
          by true true e = absurd (true≢false (sym e))
          by false false e = absurd (true≢false (sym e))

      shade-x : black ≡ is_black (colour_before line (from + z))
      shade-x = let n : s.p + (from + z - s.p) ≡ from + z = omega (arith, reached) in before-x.shade ∙ ap (λ (m : ℕ). is_black (colour_before line m)) n

      -- the changes with it
      with-x : turns_from line (suc (from + z) - from) from ≡ turns_from line (s.p - from) from ++ (from + z) ∷ []
      with-x =
          let n : suc (from + z) - (from + z) ≡ 1 = omega arith in
          turns-to line from (from + z) (suc (from + z)) (omega arith) (omega arith)
          ∙ ap (λ (m : ℕ). turns_from line (from + z - from) from ++ turns_from line m (from + z)) n
          ∙ ap (λ (m : List ℕ). turns_from line (from + z - from) from ++ m) (turns-one line (from + z) black shade-x turned-here)
          ∙ ap (λ (m : List ℕ). m ++ (from + z) ∷ [])
          (turns-to line from s.p (from + z) s.low reached
          ∙ ap (λ (m : List ℕ). turns_from line (s.p - from) from ++ m) before-x.none
          ∙ append-nil (turns_from line (s.p - from) from))

      -- there is room for it
      fewer : next + 1 ≤ first + length (turns_from line (up_to width (from + 64) - from) from)
      fewer =
          let q = up_to-least width (from + 64) (suc (from + z)) (omega (arith, zeros-few)) (omega arith) in
          let t = turns-to line from (suc (from + z)) (up_to width (from + 64)) (omega arith) q in
          omega (
            arith,
            s.count,
            ap length t,
            ap length with-x,
            length-append (turns_from line (suc (from + z) - from) from) (turns_from line (up_to width (from + 64) - suc (from + z)) (suc (from + z))),
            length-append (turns_from line (s.p - from) from) ((from + z) ∷ []),
          )

      pub scan-room : Roomy write first (turns_from line (up_to width (from + 64) - from) from) before → write ≡ true → next < length changes
      scan-room room w =
          let long : length changes ≡ length before =
          ap length s.entries ∙ recorded-length write first (turns_from line (s.p - from) from) before (λ v. omega (arith, room v, fewer, s.count)) in
          omega (arith, room w, fewer)

      -- how the word is turned
      turned-word : rest + packed (away line (not black) (suc (from + z))) 64 from ≡ ones_from z
      turned-word =
          let g = away line (not black) (suc (from + z)) in
          let n : from + 64 - (from + z) ≡ 64 - z = omega arith in
          let t = packed-flip seen g 64 from (from + z) (omega arith) (omega (arith, zeros-few)) (λ j a b. ones.clear j a b)
          (λ j a b. away-off line (not black) (suc (from + z)) j (omega arith)) flips in
          rw (← n) (omega (arith, t, s.bits))
        where
          flips : (j : ℕ) → from + z ≤ j → away line (not black) (suc (from + z)) j ≡ not (seen j)
          flips j h = by (leb (suc (from + z)) j) refl
            where
              two : (b c : Bool) → turned_if (not (not b)) c ≡ not (turned_if (not b) c)
              two true true = refl
              two true false = refl
              two false true = refl
              two false false = refl

              by : (t : Bool) → leb (suc (from + z)) j ≡ t → (t && turned_if (not (not black)) (is_black (line j))) ≡ not (seen j)
              by true q =
                  two black (is_black (line j)) ∙ ap not (sym (away-on line black s.p j (omega (arith, reached))))
              by false q =
                  let e : j ≡ from + z = omega (arith, leb-false (suc (from + z)) j q) in
                  sym (ap (λ (k : ℕ). not (seen k)) e ∙ ap not here)

      pub word-falls : rest ≤ ones_from z
      word-falls = omega (arith, turned-word)

      -- one change more
      pub scan-next : Roomy write first (turns_from line (up_to width (from + 64) - from) from) before → {changes' : List ℕ}
          → changes' ≡ recorded write next ((from + z) ∷ []) changes → {r : ℕ} → r ≡ ones_from z - rest
          → Scan line width from first write before r (next + 1) (not black) changes'
      scan-next room e f = record {
        p = suc (from + z);
        low = omega arith;
        high = omega (arith, zeros-few);
        inside = omega arith;
        count = omega (arith, s.count, ap length with-x, length-append (turns_from line (s.p - from) from) ((from + z) ∷ []));
        shade = sym (before-suc line (from + z) ∙ turned-here);
        bits = omega (arith, f, turned-word);
        entries =
            e
            ∙ ap (λ (l : List ℕ). recorded write next ((from + z) ∷ []) l) s.entries
            ∙ ap (λ (n : ℕ). recorded write n ((from + z) ∷ []) (recorded write first (turns_from line (s.p - from) from) before)) s.count
            ∙ recorded_more write first (turns_from line (s.p - from) from) ((from + z) ∷ []) before (λ v. omega (arith, room v, fewer, s.count))
            ∙ ap (λ (l : List ℕ). recorded write first l before) (sym with-x);
      }
