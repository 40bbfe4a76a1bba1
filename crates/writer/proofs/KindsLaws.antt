-- What is found in the data of a Group 3 page: K, and as long as it is not known, how many lines came; tag bits; and the layout of 1D lines. Assumes nothing.
use mathlib.Core.Path.{◌≡◌, refl, sym, ap, ◌∙◌, subst}
use mathlib.Core.Bool.{Bool, true, false, ◌||◌, true≢false}
use mathlib.Core.List.{List, [], ◌∷◌}
use mathlib.Core.Option.{Option, none, some}
use Prim.Native.Nat.{ℕ, suc, ◌+◌, ◌-◌, ◌*◌, ◌≤◌, ◌<◌, min}
use native.Mathlib.Omega.{arith}
use native.Mathlib.Nat.{min-eq_left, min-eq_right, le-min}
use lib.Dec.{eqb}
use lib.ListN.{length, drop, drop_of_length-le}
use borrow.Author.Tests.{eq-eqb, ne_eqb, eqb-true, eqb-false, lt-ltb, le-ltb}
use Rattle.rules.specs.Bits.{bits_of, peek, front_bit}
use Rattle.rules.specs.Eols.{zero_run}
use Rattle.rules.proofs.Bits.{length-bits_of}
use Rattle.rules.proofs.Eols.{zeros-inside}
use Rattle.bit_reader.specs.Zeros.{one_or_end}
use Rattle.rules.specs.WriteGroup3.{Layout, bare, filled, mixed, left_next}
use Rattle.rules.specs.Proper.{most_fill, most_k, layout_by, layout_in, zeros_first, k_by}
use Rattle.writer.specs.declared.kinds.Turned.{Turned}
use Rattle.writer.specs.Meeting3.{open_turn, known_turn, turn_of}
use Rattle.writer.proofs.Row3Laws.{left_less, left-anew}

-- ---- A page of 1D and 2D lines

-- `m` 2D lines may come before the next 1D line, by what is known where these tag bits are left
pub data Knows (K : ℕ) (tags : List Bool) (every left m : ℕ) : Type 0 where
  -- before the first line
  first : every ≡ 0 → left ≡ 0 → m ≡ 0 → K ≡ k_by tags → Knows K tags every left m
  -- behind `left` lines, all but the first 2D
  unsettled : every ≡ 0 → 1 ≤ left → left ≤ most_k → K ≡ min (left + zeros_first tags) most_k → m ≡ K - left → Knows K tags every left m
  -- behind the second 1D line
  known : every ≡ K → 1 ≤ K → left ≡ m → Knows K tags every left m

-- what a line that is so turned comes to
pub record Turns (K : ℕ) (tags : List Bool) (t : Turned) (m : ℕ) : Type 0 where
  pub single : t.single ≡ eqb m 0
  pub next : Knows K tags t.every t.left (left_next K m)

-- without a tag bit of 1, the number of lines tells
pub tag-alone : (tag b : Bool) → tag ≡ false → b ≡ (tag || b)
tag-alone tag b e = ap (λ (t : Bool). t || b) (sym e)

-- by the tests, one after the other
module _ (tag : Bool) (lines : ℕ) where
  pub open-first : lines ≡ 0 → record { single = true; every = 0; left = 1 } ≡ open_turn tag lines
  open-first e = rw (eq-eqb lines 0 e)

  pub open-settles : (lines ≡ 0 → ⊥) → (tag || eqb lines most_k) ≡ true → record { single = true; every = lines; left = lines - 1 } ≡ open_turn tag lines
  open-settles h f = rw (ne_eqb lines 0 h, f)

  pub open-goes : (lines ≡ 0 → ⊥) → (tag || eqb lines most_k) ≡ false → record { single = false; every = 0; left = lines + 1 } ≡ open_turn tag lines
  open-goes h f = rw (ne_eqb lines 0 h, f)

module _ (every left : ℕ) where
  pub known-anew : left ≡ 0 → record { single = true; every = every; left = every - 1 } ≡ known_turn every left
  known-anew e = rw (eq-eqb left 0 e)

  pub known-less : (left ≡ 0 → ⊥) → record { single = false; every = every; left = left - 1 } ≡ known_turn every left
  known-less h = rw (ne_eqb left 0 h)

module _ (tag : Bool) (every left : ℕ) where
  pub turn-open : every ≡ 0 → open_turn tag left ≡ turn_of tag every left
  turn-open e = rw (eq-eqb every 0 e)

  pub turn-known : (every ≡ 0 → ⊥) → known_turn every left ≡ turn_of tag every left
  turn-known h = rw (ne_eqb every 0 h)

module _ (K : ℕ) (tag : Bool) (tags : List Bool) (every left m : ℕ) where
  by : {t : Turned} → t ≡ turn_of tag every left → Turns K tags t m → Turns K tags (turn_of tag every left) m
  by e = subst (λ (t : Turned). Turns K tags t m) e

  -- where the next 1D line is found, K is the number of lines before it,
  k-is : 1 ≤ left → left ≤ most_k → K ≡ min (left + zeros_first (tag ∷ tags)) most_k → (tag || eqb left most_k) ≡ true → K ≡ left
  unfolding zeros_first
  k-is h k e = cases tag e
    where
      cases : (b : Bool) → K ≡ min (left + zeros_first (b ∷ tags)) most_k → (b || eqb left most_k) ≡ true → K ≡ left
      cases true e f = e ∙ min-eq_left (let q : left + 0 ≤ most_k = omega arith in q) ∙ (let q : left + 0 ≡ left = omega arith in q)
      cases false e f = let z = eqb-true left most_k f in e ∙ min-eq_right (let q : most_k ≤ left + suc (zeros_first tags) = omega (arith, z) in q) ∙ sym z

  -- and where it is not, it is larger
  k-later : left ≤ most_k → K ≡ min (left + zeros_first (tag ∷ tags)) most_k → (tag || eqb left most_k) ≡ false → (K ≡ min (left + 1 + zeros_first tags) most_k) × (left + 1 ≤ K) × (left + 1 ≤ most_k)
  unfolding zeros_first
  k-later k e = cases tag e
    where
      cases : (b : Bool) → K ≡ min (left + zeros_first (b ∷ tags)) most_k → (b || eqb left most_k) ≡ false → (K ≡ min (left + 1 + zeros_first tags) most_k) × (left + 1 ≤ K) × (left + 1 ≤ most_k)
      cases true e f = absurd (true≢false f)
      cases false e f =
          let g = e ∙ ap (λ (n : ℕ). min n most_k) (let q : left + suc (zeros_first tags) ≡ left + 1 + zeros_first tags = omega arith in q) in
          let h : left + 1 ≤ most_k = omega (arith, eqb-false left most_k f) in
          (g, subst (λ (n : ℕ). left + 1 ≤ n) (sym g) (le-min (omega arith) h), h)

  pub turn-knows : Knows K (tag ∷ tags) every left m → Turns K tags (turn_of tag every left) m
  turn-knows (first e f g h) =
      by (open-first tag left f ∙ turn-open tag every left e) (record {
        single = sym (eq-eqb m 0 g);
        next = unsettled refl (omega arith) (omega arith) (h ∙ ap (λ (n : ℕ). min n most_k) (let q : suc (zeros_first tags) ≡ 1 + zeros_first tags = omega arith in q)) (sym (left-anew K m (K - 1) g refl));
      })
  turn-knows (unsettled e f g h i) = cases (tag || eqb left most_k) refl
    where
      cases : (b : Bool) → (tag || eqb left most_k) ≡ b → Turns K tags (turn_of tag every left) m
      cases true q =
          let z = k-is f g h q in
          let y : m ≡ 0 = omega (arith, i, z) in
          by (open-settles tag left (λ z. omega arith) q ∙ turn-open tag every left e) (record { single = sym (eq-eqb m 0 y); next = known (sym z) (omega (arith, z)) (sym (sym (left-anew K m (K - 1) y refl) ∙ ap (λ (n : ℕ). n - 1) z)) })
      cases false q =
          let z = k-later g h q in
          let y : 1 ≤ m = omega (arith, i, z.1) in
          by (open-goes tag left (λ z. omega arith) q ∙ turn-open tag every left e) (record {
            single = sym (ne_eqb m 0 (λ n. omega arith));
            next = unsettled refl (omega arith) z.2 z.0 (sym (left_less K m (λ n. omega arith)) ∙ (let w : m - 1 ≡ K - (left + 1) = omega (arith, i) in w));
          })
  turn-knows (known e f g) = cases (eqb left 0) refl
    where
      cases : (b : Bool) → eqb left 0 ≡ b → Turns K tags (turn_of tag every left) m
      cases true q =
          let z = eqb-true left 0 q in
          let y : m ≡ 0 = sym g ∙ z in
          by (known-anew every left z ∙ turn-known tag every left (λ n. omega (arith, e))) (record { single = sym (eq-eqb m 0 y); next = known e f (sym (sym (left-anew K m (K - 1) y refl) ∙ ap (λ (n : ℕ). n - 1) (sym e))) })
      cases false q =
          let z : 1 ≤ left = omega (arith, eqb-false left 0 q) in
          let y : 1 ≤ m = omega (arith, g) in
          by (known-less every left (λ n. omega arith) ∙ turn-known tag every left (λ n. omega (arith, e))) (record { single = sym (ne_eqb m 0 (λ n. omega arith)); next = known e f (sym (sym (left_less K m (λ n. omega arith)) ∙ ap (λ (n : ℕ). n - 1) (sym g))) })

-- ---- A page of any layout

-- where all lines are 1D, K is 1 from the first line on
abbrev pub Kinds : Layout → ℕ → List Bool → ℕ → ℕ → ℕ → Type 0
Kinds bare K tags every left m = (every ≡ 1) × (left ≡ 0) × (m ≡ 0)
Kinds (filled fill) K tags every left m = (every ≡ 1) × (left ≡ 0) × (m ≡ 0)
Kinds (mixed k) K tags every left m = Knows K tags every left m

-- before K is known, no more lines came than it can be
pub lines-few : (layout : Layout) (K : ℕ) (tags : List Bool) (every left m : ℕ) → Kinds layout K tags every left m → every ≡ 0 → left ≤ 65535
lines-few bare K tags every left m (e, f, g) h = omega arith
lines-few (filled fill) K tags every left m (e, f, g) h = omega arith
lines-few (mixed k) K tags every left m (first e f g i) h = omega arith
lines-few (mixed k) K tags every left m (unsettled e f g i j) h = g
lines-few (mixed k) K tags every left m (known e f g) h = absurd (omega arith)

abbrev pub k_under : Layout → ℕ → ℕ
k_under bare K = 1
k_under (filled fill) K = 1
k_under (mixed k) K = K

-- a line that is so turned, and what holds behind it
pub record TurnsTo (layout : Layout) (K : ℕ) (tags : List Bool) (t : Turned) (m : ℕ) : Type 0 where
  pub single : t.single ≡ eqb m 0
  pub next : Kinds layout K tags t.every t.left (left_next (k_under layout K) m)

all-single : (every left m : ℕ) → (every ≡ 1) × (left ≡ 0) × (m ≡ 0) → (tag : Bool)
    → ((turn_of tag every left).single ≡ eqb m 0) × (((turn_of tag every left).every ≡ 1) × ((turn_of tag every left).left ≡ 0) × (left_next 1 m ≡ 0))
all-single every left m (e, f, g) tag =
    let t = sym (known-anew every left f ∙ turn-known tag every left (λ n. omega arith)) in (
      ap (λ (t : Turned). t.single) t ∙ sym (eq-eqb m 0 g),
      (ap (λ (t : Turned). t.every) t ∙ e, ap (λ (t : Turned). t.left) t ∙ ap (λ (n : ℕ). n - 1) e, sym (left-anew 1 m (1 - 1) g refl)),
    )

pub turns-to : (layout : Layout) (K : ℕ) (tag : Bool) (tags : List Bool) (every left m : ℕ) → Kinds layout K (tag ∷ tags) every left m
    → TurnsTo layout K tags (turn_of tag every left) m
turns-to bare K tag tags every left m k = let s = all-single every left m k tag in record { single = s.0; next = s.1 }
turns-to (filled fill) K tag tags every left m k = let s = all-single every left m k tag in record { single = s.0; next = s.1 }
turns-to (mixed n) K tag tags every left m k = let s = turn-knows K tag tags every left m k in record { single = s.single; next = s.next }

-- other layouts ask for no tag bits
pub kinds-as : (layout : Layout) (K : ℕ) {tags tags' : List Bool} (every left m : ℕ) → ((k : ℕ) → layout ≡ mixed k → tags ≡ tags') → Kinds layout K tags every left m → Kinds layout K tags' every left m
kinds-as bare K every left m e k = k
kinds-as (filled fill) K every left m e k = k
kinds-as (mixed n) K every left m e k = subst (λ (l : List Bool). Knows K l every left m) (e n refl) k

-- ---- A tag bit

-- past the data it is 0, and in it the bit that is read
pub tag-past : (bs : List Bool) (at : ℕ) → length bs ≤ at → false ≡ front_bit (drop at bs)
tag-past bs at h = sym (ap front_bit (drop_of_length-le bs h))

pub tag_read : (bs : List Bool) → eqb (peek 1 bs) 1 ≡ front_bit bs
unfolding peek
tag_read [] = refl
tag_read (true ∷ bs) = refl
tag_read (false ∷ bs) = refl

-- ---- The layout of 1D lines, by the zeros before the first one

module _ (bytes : List ℕ) (zeros : ℕ) (e : zeros ≡ one_or_end (8 * length bytes) 0 (zero_run (drop 0 (bits_of bytes)))) where
  abbrev Found : Layout → Type 0
  Found layout = layout ≡ layout_in (bits_of bytes)

  abbrev Zeros : Option ℕ → Type 0
  Zeros o = (zero_run (bits_of bytes) ≡ o) × (zeros ≡ one_or_end (8 * length bytes) 0 o)

  -- no one at all
  pub zeros-alone : zeros ≡ 8 * length bytes → Found bare
  unfolding layout_in
  zeros-alone h = cases (zero_run (bits_of bytes)) (refl, e)
    where
      cases : (o : Option ℕ) → Zeros o → bare ≡ layout_by o
      cases none (q, z) = refl
      cases (some n) (q, z) = absurd (omega (arith, zeros-inside (bits_of bytes) n q, length-bits_of bytes))

  module _ (some_one : zeros ≡ 8 * length bytes → ⊥) where
    -- too few for an EOL
    pub zeros-few : zeros < 11 → Found bare
    unfolding layout_in
    zeros-few h = cases (zero_run (bits_of bytes)) (refl, e)
      where
        cases : (o : Option ℕ) → Zeros o → bare ≡ layout_by o
        cases none (q, z) = refl
        cases (some n) (q, z) = rw (lt-ltb n 11 (omega arith))

    -- so much fill
    pub zeros-fill : 11 ≤ zeros → (fill : ℕ) → fill ≡ min (zeros - 11) most_fill → Found (filled fill)
    unfolding layout_in
    zeros-fill h fill f = cases (zero_run (bits_of bytes)) (refl, e)
      where
        cases : (o : Option ℕ) → Zeros o → filled fill ≡ layout_by o
        cases none (q, z) = absurd (some_one z)
        cases (some n) (q, z) =
            let y : zeros ≡ n = omega arith in
            rw (le-ltb n 11 (omega arith)) (ap (λ (k : ℕ). filled k) (f ∙ ap (λ (k : ℕ). min (k - 11) most_fill) y))

pub fill-most : (n : ℕ) → 64 < n → 64 ≡ min n most_fill
fill-most n h = sym (min-eq_right (let q : most_fill ≤ n = omega arith in q))

pub fill-less : (n : ℕ) → n ≤ 64 → n ≡ min n most_fill
fill-less n h = sym (min-eq_left h)
