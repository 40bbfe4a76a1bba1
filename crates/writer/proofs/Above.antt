-- b1's place as it goes from code to code where a line is put, and the changes that both rows have, each of which is a V0. Assumes nothing.
use mathlib.Core.Path.{◌≡◌, refl, ap, ◌∙◌, subst}
use mathlib.Core.Bool.{Bool, true, false}
use mathlib.Core.List.{List, [], ◌∷◌, ◌++◌}
use Prim.Native.Nat.{ℕ, zero, suc, ◌+◌, ◌-◌, ◌%◌, ◌≤◌, ◌<◌}
use native.Mathlib.Omega.{arith}
use lib.Dec.{ltb}
use lib.ListN.{length, get_or, drop, replicate}
use borrow.Author.Tests.{le-leb, ltb-true, ltb-false}
use Rattle.rules.specs.Modes.{mode_bits}
use Rattle.rules.specs.Lines.{right_of_a0, head_or}
use Rattle.rules.specs.Write.{vertical_to}
use Rattle.rules.specs.Rising.{Rising}
use Rattle.rules.proofs.Ascending.{rises-length}
use Rattle.rules.proofs.Ahead.{left_over}
use Rattle.tables.specs.Tables.{colour_of}
use Rattle.context.specs.declared.reference.FoundChanges.{FoundChanges}
use Rattle.context.specs.Reference.{Finds}
use Rattle.context.specs.Places.{Left, Seen, Onward, Reached, Turning}
use Rattle.context.proofs.Search.{right-more, passed_none, head_at, head-past}
use Rattle.context.proofs.Placing.{seen-b1, seen-b2, before_at, change-fits, change-next, seen_next}
use Rattle.writer.specs.Coding.{Alike, apart}
use Rattle.writer.proofs.Turns.{Turn}
use Rattle.writer.proofs.AlongLine.{Along, to_come, a1-low, verticals, left-then, onward}

-- ---- Right of a0

right-low : (p : ℕ) → right_of_a0 p ≤ p + 1
unfolding right_of_a0
right-low zero = omega arith
right-low (suc p) = omega arith

-- behind the line's first pixel
seen-behind : {reference : List ℕ} {p r : ℕ} → 0 < p → Seen reference (p + 1) r → Seen reference (right_of_a0 p) r
seen-behind {reference} {p} {r} h = subst (λ (least : ℕ). Seen reference least r) (right-more p (λ e. absurd (omega arith)))

-- at it, where the first change was b1's, or there was none
seen_first : {reference : List ℕ} → Seen reference (right_of_a0 0) 1
unfolding right_of_a0
seen_first = record { left = λ j k l. absurd (omega arith); right = λ k. omega arith }

-- of changes that rise only the first may lie at 0
second-positive : {width : ℕ} {xs : List ℕ} → 0 < width → Rising width 0 xs → (i : ℕ) → 0 < head_or width (drop (i + 1) xs)
second-positive {width} {xs} h r i = cases (ltb (i + 1) (length xs)) refl
  where
    cases : (b : Bool) → ltb (i + 1) (length xs) ≡ b → 0 < head_or width (drop (i + 1) xs)
    cases true e = let m = ltb-true (i + 1) (length xs) e in omega (arith, before_at r i (i + 1) 1 (omega arith) (omega arith) (omega arith))
    cases false e = omega (arith, head-past width xs (i + 1) (ltb-false (i + 1) (length xs) e))

first_alone : {width : ℕ} {xs : List ℕ} → 0 < width → Rising width 0 xs → (i : ℕ) → head_or width (drop i xs) ≡ 0 → i ≡ 0
first_alone h r zero e = refl
first_alone {width} {xs} h r (suc i) e =
    absurd (omega (arith, second-positive h r i, ap (λ (j : ℕ). head_or width (drop j xs)) (let q : i + 1 ≡ suc i = omega arith in q)))

-- ---- b1's place

-- b1's place for a position; its parity is the line's colour
pub record Above (reference : List ℕ) (position place above : ℕ) : Type 0 where
  pub seen : Seen reference (right_of_a0 position) above
  pub near : above ≤ suc (length reference) + place
  pub begun : position ≡ 0 → above ≡ place

-- before the first code
pub above-start : (reference : List ℕ) → Above reference 0 0 0
unfolding right_of_a0
above-start reference = record {
  seen = record { left = λ j k l. absurd (omega arith); right = λ k. omega arith };
  near = omega arith;
  begun = λ e. refl;
}

-- b1 and b2 as a search finds them
abbrev pub found_at : ℕ → ℕ → FoundChanges
found_at b1 b2 = record { seen = 0; b1 = b1; b2 = b2 }

module _ {reference : List ℕ} {position place above : ℕ} (a : Above reference position place above) where
  pub above-finds : {width b1 b2 : ℕ} → b1 ≡ head_or width (drop above reference) → b2 ≡ head_or width (drop (above + 1) reference)
      → Finds reference width position (colour_of (above % 2)) (found_at b1 b2)
  above-finds {width} e f = record {
    b1-is = e ∙ seen-b1 width position a.seen;
    b2-is = f ∙ seen-b2 width position a.seen;
    passed = passed_none _ reference;
  }

  -- it is a small number
  pub above-few : {width colour seen fuel : ℕ} {row : List ℕ} → Along width reference row position colour place seen fuel → width < 4294967295
      → Rising width 0 reference → Rising width 0 row → (above + 2 < 9223372036854775808) × (place + 2 < 9223372036854775808)
  above-few al h r s =
      let l = rises-length (omega arith) r in
      let m = rises-length (omega arith) s in
      (omega (arith, al.slow, al.enough, a.near), omega (arith, al.slow, al.enough))

  module _ {later : ℕ} (on : position ≤ later) where
    behind-left : Left reference (later + 1) above
    behind-left = λ j k m. omega (arith, a.seen.left j k m, right-low position)

    -- what a search behind a code relies on
    pub above-onward : {width : ℕ} → Rising width 0 reference → Onward reference above later
    above-onward {width} r = record { width = width; rising = r; left = behind-left }

    pub above-turning : {width b1 d : ℕ} → Rising width 0 reference → b1 ≡ head_or width (drop above reference) → d ≡ apart b1 later → d ≤ 3
        → above < 9223372036854775808 → Turning reference above d later
    above-turning {width} r e f h k = record {
      width = width;
      rising = r;
      left = behind-left;
      close = omega arith;
      few = h;
      low = k;
    }

  -- ---- Behind a code

  module _ {width : ℕ} (wide : 0 < width) (r : Rising width 0 reference) where
    -- behind a pass, two places on
    pub above-pass : {b2 : ℕ} → b2 ≡ head_or width (drop (above + 1) reference) → b2 < width → Above reference b2 place (above + 2)
    above-pass {b2} e h = cases (ltb (above + 1) (length reference)) refl
      where
        cases : (b : Bool) → ltb (above + 1) (length reference) ≡ b → Above reference b2 place (above + 2)
        cases true f =
            let m = ltb-true (above + 1) (length reference) f in
            let two : above + 1 + 1 ≡ above + 2 = omega arith in
            let low = second-positive wide r above in
            record {
              seen = seen-behind (omega arith) (rw (← two, e) (seen_next r (above + 1)));
              near = omega arith;
              begun = λ z. absurd (omega arith);
            }
        cases false f = absurd (omega (arith, head-past width reference (above + 1) (ltb-false (above + 1) (length reference) f)))

    module _ {row : List ℕ} (s : Rising width 0 row) where
      -- behind two runs, where a search comes to it
      pub above-across : {a2 above' : ℕ} → a2 ≡ head_or width (drop (place + 1) row) → Reached reference (a2 + 1) above above'
          → Above reference a2 (place + 2) above'
      above-across e reached =
          let low = second-positive wide s place in
          record {
            seen = seen-behind (omega arith) reached.seen;
            near = omega (arith, reached.near, a.near);
            begun = λ z. absurd (omega arith);
          }

      -- behind a vertical code likewise; at the line's first pixel it can only be the first code of all
      pub above-vertical : {a1 above' : ℕ} → a1 ≡ head_or width (drop place row) → position ≤ a1 → Reached reference (a1 + 1) (above + 1) above'
          → Above reference a1 (place + 1) above'
      above-vertical {a1} {above'} e on reached = cases a1 refl
        where
          bound : above' ≤ suc (length reference) + (place + 1)
          bound = omega (arith, reached.near, a.near)

          none : place ≡ 0 → above ≡ 0 → a1 ≡ 0 → above' ≡ 1
          none h k z = tests (ltb 1 above') refl
            where
              tests : (b : Bool) → ltb 1 above' ≡ b → above' ≡ 1
              tests true f =
                  let m = ltb-true 1 above' f in
                  let n : 3 ≤ above' = omega (arith, reached.parity) in
                  let o : 1 < length reference = omega (arith, reached.near) in
                  absurd (omega (arith, reached.seen.left 1 (omega arith) o, head_at width reference 1 o, before_at r 0 1 1 (omega arith) (omega arith) (omega arith)))
              tests false f = omega (arith, reached.parity, ltb-false 1 above' f)

          cases : (n : ℕ) → a1 ≡ n → Above reference a1 (place + 1) above'
          cases zero z =
              let p = first_alone wide s place (let q : head_or width (drop place row) ≡ 0 = omega arith in q) in
              let b : above ≡ 0 = omega (arith, a.begun (omega arith)) in
              let one = none p b z in
              record {
                seen = rw (z, one) seen_first;
                near = bound;
                begun = λ _. omega arith;
              }
          cases (suc n) z = record {
            seen = seen-behind (omega arith) reached.seen;
            near = bound;
            begun = λ y. absurd (omega arith);
          }

-- ---- Changes that both rows have

-- k codes on: the ones that stand for them, and what comes behind them
pub record Straight (width : ℕ) (reference row : List ℕ) (left : List Bool) (most k position place above : ℕ) : Type 0 where
  pub fuel : ℕ
  pub along : Along width reference row position (above % 2) place 0 fuel
  pub stands : Above reference position place above
  pub bits : left ≡ replicate k true ++ to_come width reference row position (above % 2) place fuel
  pub less : left_over width position (drop place row) + k ≤ most
  pub below : position < width

-- a vertical code to b1 itself is a one
one-there : (b1 : ℕ) → mode_bits (vertical_to b1 b1) ≡ true ∷ []
unfolding mode_bits
one-there b1 =
    let g : b1 - b1 ≡ 0 = omega arith in
    rw (le-leb b1 b1 (omega arith), g) refl

module _ {width : ℕ} {reference row : List ℕ} (wide : 0 < width) (r : Rising width 0 reference) (s : Rising width 0 row) where
  -- one code of them
  module _ {position place above fuel : ℕ} (al : Along width reference row position (above % 2) place 0 fuel) (a : Above reference position place above)
      (h : position < width) (inside : above < length reference) (inside' : place < length row) (e : get_or row place 0 ≡ get_or reference above 0) where
    abbrev next : ℕ
    next = get_or row place 0

    is-a1 : next ≡ head_or width (drop place row)
    is-a1 = head_at width row place inside'

    is-b1 : next ≡ head_or width (drop above reference)
    is-b1 = e ∙ head_at width reference above inside

    finds : Finds reference width position (colour_of (above % 2)) (found_at next (head_or width (drop (above + 1) reference)))
    finds = above-finds a is-b1 refl

    turn : Turn width reference (colour_of (above % 2)) position (drop place row) (mode_bits (vertical_to next next)) (colour_of (1 - above % 2)) next
        (drop (place + 1) row)
    turn = verticals al r h finds is-a1 (omega (arith, is-b1, change-next r above)) (omega arith)

    turned : colour_of (1 - above % 2) ≡ colour_of ((above + 1) % 2)
    turned = ap colour_of (let z : 1 - above % 2 ≡ (above + 1) % 2 = omega arith in z)

    one_on : Along width reference row next ((above + 1) % 2) (place + 1) 0 (fuel - 1)
    one_on = onward al (place + 1) turn ((above + 1) % 2) turned (omega arith) (omega arith) (passed_none _ reference)

    one-above : Above reference next (place + 1) (above + 1)
    one-above =
        above-vertical a wide r s is-a1 (a1-low al r h finds is-a1) (record { seen = rw is-b1 (seen_next r above); parity = refl; near = omega arith })

    one_below : next < width
    one_below = omega (arith, before_at s place (length row) 1 inside' (omega arith) (omega arith), change-fits s (length row))

    one-bits : to_come width reference row position (above % 2) place fuel ≡ true ∷ to_come width reference row next ((above + 1) % 2) (place + 1) (fuel - 1)
    one-bits =
        left-then al (place + 1) turn ((above + 1) % 2) turned (omega arith) (omega arith)
        ∙ ap (λ (l : List Bool). l ++ to_come width reference row next ((above + 1) % 2) (place + 1) (fuel - 1)) (one-there next)

    one_less : left_over width next (drop (place + 1) row) < left_over width position (drop place row)
    one_less = turn.less

  -- so many of them
  abbrev Same : ℕ → ℕ → ℕ → Type 0
  Same place above k =
      (j : ℕ) → j < k → (above + j < length reference) × (place + j < length row) × (get_or row (place + j) 0 ≡ get_or reference (above + j) 0)

  same_next : (place above k : ℕ) → Same place above (suc k) → Same (place + 1) (above + 1) k
  same_next place above k same j l =
      let w = same (suc j) (omega arith) in (
        omega (arith, w.0),
        omega (arith, w.1),
        ap (λ (i : ℕ). get_or row i 0) (let z : place + 1 + j ≡ place + suc j = omega arith in z)
            ∙ w.2
            ∙ ap (λ (i : ℕ). get_or reference i 0) (let z : above + suc j ≡ above + 1 + j = omega arith in z),
      )

  same_first : (place above k : ℕ) → Same place above (suc k) → (above < length reference) × (place < length row) × (get_or row place 0 ≡ get_or reference above 0)
  same_first place above k same =
      let w = same 0 (omega arith) in (
        omega (arith, w.0),
        omega (arith, w.1),
        ap (λ (i : ℕ). get_or row i 0) (let z : place ≡ place + 0 = omega arith in z)
            ∙ w.2
            ∙ ap (λ (i : ℕ). get_or reference i 0) (let z : above + 0 ≡ above = omega arith in z),
      )

  straight : (k : ℕ) {position place above fuel : ℕ} → Along width reference row position (above % 2) place 0 fuel → Above reference position place above
      → position < width → Same place above k → {position' place' above' : ℕ} → place' ≡ place + k → above' ≡ above + k
      → (k ≡ 0 → position' ≡ position) → (0 < k → position' ≡ get_or row (place' - 1) 0)
      → Straight width reference row (to_come width reference row position (above % 2) place fuel) (left_over width position (drop place row)) k
      position' place' above'
  straight zero {position} {place} {above} {fuel} al a h same {position'} {place'} {above'} e f p q =
      let e' : place' ≡ place = omega arith in
      let f' : above' ≡ above = omega arith in
      rw (e', f', p refl) (record { fuel = fuel; along = al; stands = a; bits = refl; less = omega arith; below = h })
  straight (suc k) {position} {place} {above} {fuel} al a h same {position'} {place'} {above'} e f p q =
      let (i, m, v) = same_first place above k same in
      let rest = straight k (one_on al a h i m v) (one-above al a h i m v) (one_below al a h i m v) (same_next place above k same) {position' = position'} {place' = place'} {above' = above'}
      (omega arith) (omega arith) (λ z. q (omega arith) ∙ ap (λ (i : ℕ). get_or row i 0) (let y : place' - 1 ≡ place = omega arith in y)) (λ z. q (omega arith)) in
      record {
        fuel = rest.fuel;
        along = rest.along;
        stands = rest.stands;
        bits = one-bits al a h i m v ∙ ap (λ (l : List Bool). true ∷ l) rest.bits;
        less = omega (arith, one_less al a h i m v, rest.less);
        below = rest.below;
      }

  -- as many as both rows were seen to have
  pub alike-straight : {position place above fuel k : ℕ} → Along width reference row position (above % 2) place 0 fuel → Above reference position place above
      → position < width → Alike reference above row place k → {position' : ℕ} → (k ≡ 0 → position' ≡ position)
      → (0 < k → position' ≡ get_or row (place + k - 1) 0)
      → Straight width reference row (to_come width reference row position (above % 2) place fuel) (left_over width position (drop place row)) k
      position' (place + k) (above + k)
  alike-straight {k = k} al a h same = straight k al a h same.each refl refl
