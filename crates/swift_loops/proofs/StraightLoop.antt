-- V0 codes one behind the other, as long as the bits are ones: what holds at the loop's head, and what a turn makes of it. Assumes nothing.
use mathlib.Core.Path.{◌≡◌, refl, sym, ap, ◌∙◌, subst}
use mathlib.Core.Bool.{true, false}
use mathlib.Core.List.{List, []}
use Prim.Native.Nat.{ℕ, zero, suc, ◌+◌, ◌-◌, ◌*◌, ◌/◌, ◌%◌, ◌^◌, ◌≤◌, ◌<◌}
use native.Mathlib.Omega.{arith}
use lib.ListN.{length, get_or, take, drop, set, length-take, length-drop, length-set}
use lib.Seq.{get_or-take, get_or-drop}
use borrow.Author.Tests.{ne_eqb}
use Rattle.rules.proofs.Bits.{length-bits_of}
use Rattle.rules.specs.Lines.{head_or, recorded}
use Rattle.tables.specs.Tables.{colour_of}
use Rattle.bit_reader.specs.Cursor.{most_bits}
use Rattle.bit_reader.specs.Loaded.{Ahead}
use Rattle.bit_reader.proofs.Window.{ahead-shift}
use Rattle.codes.proofs.Modes.{one-live, top-straight}
use Rattle.context.specs.declared.reference.Reference.{Reference}
use Rattle.context.specs.declared.reference.Reference.TheVariants.{Kept}
use Rattle.context.specs.Coding.{reference_in, Placed}
use Rattle.swift_loops.specs.declared.fast_2d.BetweenCodes.{BetweenCodes}
use Rattle.context.specs.State.{turns}
use Rattle.context.specs.Places.{Seen}
use Rattle.swift_loops.specs.Swift.{standing, Stands, Roomy, room_in, Noted, WalkedIn, Ready, Turned, WentStraight}
use Rattle.context.proofs.State.{parity}
use Rattle.context.proofs.Search.{head_at, right-more}
use Rattle.context.proofs.RowPart.{placed-base, placed-as, reference-same}
use Rattle.context.proofs.Placing.{seen_next, change-fits}
use Rattle.context.proofs.Goes.{last-recorded}
use Rattle.swift_loops.proofs.Swiftly.{OneCodeIn, NotedIn, StoredIn, stored-part, noted-turned, ready-note, after-length, straight-code}
use Rattle.swift_loops.proofs.Swiftly.{room-full, room-same, walked_none, walked_further}

-- ---- Parities

same-parity : (m n : ℕ) → m < 2 → n < 2 → colour_of m ≡ colour_of n → m ≡ n
same-parity zero zero h k e = refl
same-parity zero (suc n) h k e = absurd (let z : ◌≡◌ {A = ℕ} 0 1 = cc in omega arith)
same-parity (suc m) zero h k e = absurd (let z : ◌≡◌ {A = ℕ} 0 1 = cc in omega arith)
same-parity (suc m) (suc n) h k e = omega arith

-- the changes that are noted have the parity of the last pixel's colour
pub noted-parity : {row : List ℕ} {s : BetweenCodes} {r : ℕ} {ys : List ℕ} → Noted row s r ys → r % 2 ≡ s.place % 2
noted-parity {row} {s} {r} n =
    same-parity (r % 2) (s.place % 2) (omega arith) (omega arith)
    (ap (λ (k : ℕ). colour_of (k % 2)) n.counted ∙ sym (parity (recorded (standing row false s))) ∙ last-recorded (standing row false s))

-- so the next pixels begin with a change
turning : (count place : ℕ) → count % 2 ≡ (place + 1) % 2 → turns count (place % 2) ≡ true
turning count place e = rw (ne_eqb (count % 2) (place % 2) (λ z. omega arith))

-- ---- The loop

-- some of the data's bits up to an end, and perhaps none, lie on top of a word
pub record Shows (bytes : List ℕ) (end at rest : ℕ) : Type 0 where
  pub live : ℕ
  pub next : Ahead bytes at live rest
  pub ends : at + live ≡ end

-- The line has come from s to t by V0 codes, out of `bits`, of which `rest` is left.
pub record Along (place : Reference) (lent xs : List ℕ) (base width : ℕ) (s : BetweenCodes) (bits : ℕ) (zs : List ℕ) (t : BetweenCodes)
    (rest : ℕ) : Type 0 where
  pub size : length zs ≡ length xs
  pub front : take base zs ≡ take base xs
  pub stands : Stands (reference_in place base lent xs) (room_in base xs) width t
  pub roomy : Roomy (room_in base xs) width t
  pub begun : 0 < t.position
  pub turns : t.count % 2 ≡ (t.place + 1) % 2
  pub level : t.at + s.place ≡ s.at + t.place
  pub forth : s.at ≤ t.at
  pub walked : (bytes : List ℕ) (live : ℕ) → Ahead bytes s.at live bits
      → WalkedIn bytes place lent xs base width s zs t × Shows bytes (s.at + live) t.at rest

module _ {place : Reference} {lent xs : List ℕ} {base width : ℕ} {s : BetweenCodes} (g : Turned place lent xs base width s) where
  full : room_in base xs + base ≡ length xs
  full = room-full base xs (placed-base place base xs g.placed)

  -- none yet
  pub along-new : (bits : ℕ) → Along place lent xs base width s bits xs s bits
  along-new bits = record {
    size = refl;
    front = refl;
    stands = g.stands;
    roomy = g.roomy;
    begun = g.begun;
    turns = g.turns;
    level = refl;
    forth = omega arith;
    walked = λ bytes live h. (
      walked_none full g.stands (omega (arith, h.there, length-bits_of bytes)),
      record { live = live; next = h; ends = refl },
    );
  }

  module _ {bits : ℕ} {zs : List ℕ} {t : BetweenCodes} {rest : ℕ} (a : Along place lent xs base width s bits zs t rest) where
    placed : Placed place base zs
    placed = placed-as place base xs zs a.size g.placed

    kept : reference_in place base lent zs ≡ reference_in place base lent xs
    kept = reference-same place base lent xs zs g.placed placed a.front

    room-is : room_in base zs ≡ room_in base xs
    room-is = room-same base xs zs a.size

    -- what the loop is left with
    pub along-went : WentStraight place lent xs base width s bits t zs
    along-went = record {
      turned = record {
        placed = placed;
        narrow = g.narrow;
        rising = rw kept g.rising;
        stands = rw (kept, room-is) a.stands;
        roomy = rw room-is a.roomy;
        begun = a.begun;
        turns = a.turns;
        long = rw kept g.long;
      };
      forth = a.forth;
      walked = λ bytes live h. let w = a.walked bytes live h in (w.0, omega (arith, w.1.ends));
    }

    module _ (inside : t.place < length (reference_in place base lent xs)) where
      -- no sum leaves the type
      pub along-low : s.at ≤ most_bits + 71 → t.at < 4611686018427387904
      along-low low = omega (arith, a.level, g.long)

      b1-was : get_or (reference_in place base lent xs) t.place 0 ≡ head_or width (drop t.place (reference_in place base lent xs))
      b1-was = head_at width (reference_in place base lent xs) t.place inside

      b1-is : get_or (reference_in place base lent xs) t.place 0 ≡ head_or width (drop t.place (reference_in place base lent zs))
      b1-is = b1-was ∙ ap (λ (l : List ℕ). head_or width (drop t.place l)) (sym kept)

      b1-right : t.position < get_or (reference_in place base lent xs) t.place 0
      b1-right = omega (arith, a.stands.seen.right inside, right-more t.position (λ z. omega (arith, a.begun)))

      b1-fits : get_or (reference_in place base lent xs) t.place 0 ≤ width
      b1-fits = omega (arith, b1-was, change-fits g.rising t.place)

      ready : Ready place lent zs base width t (get_or (reference_in place base lent xs) t.place 0)
      ready = record {
        placed = placed;
        narrow = g.narrow;
        rising = rw kept g.rising;
        stands = rw (kept, room-is) a.stands;
        roomy = rw room-is a.roomy;
        b1-is = b1-is;
        ahead = b1-right;
      }

      -- the change is stored in the room
      pub along-room : t.count < length (drop base zs)
      along-room = ready-note ready

      module _ {us : List ℕ} (put : StoredIn base zs t.count t.position us) where
        noted : NotedIn base zs t (t.count + 1) us
        noted = record {
          noted =
              subst (λ (l : List ℕ). Noted (drop base zs) t (t.count + 1) l) (sym put.stored)
              (noted-turned (drop base zs) t along-room (turning t.count t.place a.turns));
          front = put.front;
        }

        -- it is one code, to b1
        pub along-code : {x : ℕ} → x ≡ get_or (reference_in place base lent xs) t.place 0 → (bytes : List ℕ) {live : ℕ} → Ahead bytes t.at live rest
            → rest / 2 ^ 63 ≡ 1
            → OneCodeIn bytes place lent zs base width t us (record { at = t.at + 1; position = x; count = t.count + 1; place = t.place + 1 })
        along-code x-is bytes h one = rw x-is (straight-code ready noted bytes (top-straight h one))

        -- and takes the line on
        pub along-on : {x : ℕ} → x ≡ get_or (reference_in place base lent xs) t.place 0 → rest / 2 ^ 63 ≡ 1
            → Along place lent xs base width s bits us
            (record { at = t.at + 1; position = x; count = t.count + 1; place = t.place + 1 }) (rest * 2 ^ 1 % 2 ^ 64)
        along-on x-is one = rw x-is (record {
          size = after-length ready noted ∙ a.size;
          front = put.front ∙ a.front;
          stands = record {
            fits = b1-fits;
            held = omega (arith, a.roomy, b1-right, b1-fits);
            seen =
                subst (λ (m : ℕ). Seen (reference_in place base lent xs) m (t.place + 1))
                (right-more (get_or (reference_in place base lent xs) t.place 0) (λ z. omega (arith, b1-right)))
                (subst (λ (x : ℕ). Seen (reference_in place base lent xs) (x + 1) (t.place + 1)) (sym b1-was) (seen_next g.rising t.place));
            near = omega (arith, inside);
          };
          roomy = omega (arith, a.roomy, b1-right);
          begun = omega (arith, b1-right);
          turns = omega (arith, a.turns);
          level = omega (arith, a.level);
          forth = omega (arith, a.forth);
          walked = λ bytes live h.
              let w = a.walked bytes live h in
              let shown = w.1.next in (
                walked_further place lent g.placed w.0 (straight-code ready noted bytes (top-straight shown one)).walked,
                record {
                  live = w.1.live - 1;
                  next = ahead-shift shown 1 (one-live shown one);
                  ends = omega (arith, w.1.ends, one-live shown one);
                },
              );
        })

-- ---- The loop under a reference that is kept: it lies before the row, where the store leaves it

module _ {xs : List ℕ} {start base width : ℕ} {s : BetweenCodes} (g : Turned (Kept start) [] xs base width s) {bits : ℕ} {zs : List ℕ}
    {t : BetweenCodes} {rest : ℕ}
    (a : Along (Kept start) [] xs base width s bits zs t rest) (there : t.place < base - start) where
  pub kept-inside : t.place < length (reference_in (Kept start) base [] xs)
  kept-inside = omega (arith, length-take (base - start) (drop start xs), length-drop start xs, g.placed)

  pub kept-index : base + t.count < length zs
  kept-index = omega (arith, along-room g a kept-inside, length-drop base zs)

  pub kept_next : (v : ℕ) → start + t.place < length (set zs (base + t.count) v)
  kept_next v = omega (arith, a.size, g.placed, length-set zs (base + t.count) v)

  put : StoredIn base zs t.count t.position (set zs (base + t.count) t.position)
  put = stored-part

  b1-left : get_or (set zs (base + t.count) t.position) (start + t.place) 0 ≡ get_or (take (base - start) (drop start xs)) t.place 0
  b1-left =
      sym (get_or-take base (set zs (base + t.count) t.position) (start + t.place) 0 (omega arith))
      ∙ ap (λ (l : List ℕ). get_or l (start + t.place) 0) (put.front ∙ a.front)
      ∙ get_or-take base xs (start + t.place) 0 (omega arith)
      ∙ sym (get_or-take (base - start) (drop start xs) t.place 0 there ∙ get_or-drop start xs t.place 0)

  pub kept-code : (bytes : List ℕ) {live : ℕ} → Ahead bytes t.at live rest → rest / 2 ^ 63 ≡ 1
      → OneCodeIn bytes (Kept start) [] zs base width t (set zs (base + t.count) t.position)
      (record { at = t.at + 1; position = get_or (set zs (base + t.count) t.position) (start + t.place) 0; count = t.count + 1; place = t.place + 1 })
  kept-code bytes h one = along-code g a kept-inside put b1-left bytes h one

  pub kept_on : rest / 2 ^ 63 ≡ 1
      → Along (Kept start) [] xs base width s bits (set zs (base + t.count) t.position)
      (record { at = t.at + 1; position = get_or (set zs (base + t.count) t.position) (start + t.place) 0; count = t.count + 1; place = t.place + 1 })
      (rest * 2 ^ 1 % 2 ^ 64)
  kept_on one = along-on g a kept-inside put b1-left one
