-- V0, VR1 and VL1 codes one behind the other: a line that such a code has turned, and the loop over them. Assumes nothing.
use Rattle.std.specs.Prelude.{Option, Some, None}
use mathlib.Core.Path.{◌≡◌, refl, sym, ap, ◌∙◌, subst}
use mathlib.Core.List.{List}
use Prim.Native.Nat.{ℕ, ◌+◌, ◌-◌, ◌*◌, ◌/◌, ◌%◌, ◌^◌, ◌≤◌, ◌<◌}
use native.Mathlib.Omega.{arith}
use lib.Count as Count
use lib.ListN.{length, drop}
use Rattle.rules.specs.Bits.{bits_of}
use Rattle.rules.proofs.Bits.{length-bits_of}
use Rattle.rules.specs.Lines.{head_or}
use Rattle.rules.specs.Runs.{ok}
use Rattle.rules.specs.Modes.{Mode, moded, mode_for, read_mode}
use Rattle.bit_reader.specs.Cursor.{most_bits}
use Rattle.bit_reader.specs.Loaded.{Ahead}
use Rattle.bit_reader.proofs.Window.{ahead-shift}
use Rattle.codes.proofs.Modes.{top-sided}
use Rattle.context.specs.declared.reference.Reference.{Reference}
use Rattle.context.specs.Coding.{reference_in}
use Rattle.context.specs.Places.{Seen, Reached}
use Rattle.context.proofs.RowPart.{placed-base}
use Rattle.context.proofs.Search.{right-more}
use Rattle.context.proofs.Placing.{seen_next}
use Rattle.swift_loops.specs.declared.fast_2d.BetweenCodes.{BetweenCodes}
use Rattle.swift_loops.specs.Swift.{WalkedIn, TookIn, side_mode, TookAhead, Ready, Asks, Sided, Turned, TurnedOn, GoesAlong}
use Rattle.swift_loops.specs.Swift.{WentStraight, Turns, WalkedTo}
use Rattle.swift_loops.proofs.Swiftly.{NotedIn, fits-b1, noted-few, after-length, after-placed, after-reference, room-full}
use Rattle.swift_loops.proofs.Swiftly.{room-same, walked_none, walked_further, sides-bit, side-bit}
use Rattle.swift_loops.proofs.StraightLoop.{noted-parity, Shows}

-- ---- A line that a code has turned

-- the stand behind a code to a1, with one change noted
module _ {place : Reference} {lent xs : List ℕ} {base width : ℕ} {s : BetweenCodes} {b : ℕ} (q : Asks place lent xs base width s b) {r : ℕ}
    {zs : List ℕ}
    (n : NotedIn base xs s r zs) where
  abbrev g : Ready place lent xs base width s b
  g = q.ready

  turned-to : (end a1 p : ℕ) → s.position < a1 → a1 ≤ width → Seen (reference_in place base lent xs) (a1 + 1) p → p % 2 ≡ (s.place + 1) % 2
      → p ≤ length (reference_in place base lent xs) + 1 + end
      → Turned place lent zs base width (record { at = end; position = a1; count = r; place = p })
  turned-to end a1 p right fits seen parity near = record {
    placed = after-placed g n;
    narrow = g.narrow;
    rising = rw (after-reference g n) g.rising;
    stands = rw (after-reference g n, room-same base xs zs (after-length g n)) (record {
      fits = fits;
      held = omega (arith, g.roomy, noted-few g n, g.ahead, fits-b1 g);
      seen = subst (λ (m : ℕ). Seen (reference_in place base lent xs) m p) (right-more a1 (λ z. omega arith)) seen;
      near = omega arith;
    });
    roomy = rw (room-same base xs zs (after-length g n)) (omega (arith, g.roomy, noted-few g n));
    begun = omega arith;
    turns = omega (arith, noted-parity n.noted);
    long = rw (after-reference g n) q.long;
  }

  -- V0
  pub first-turned : Turned place lent zs base width
      (record { at = s.at + 1; position = b; count = r; place = s.place + 1 })
  first-turned =
      turned-to (s.at + 1) b (s.place + 1) g.ahead (fits-b1 g)
      (subst (λ (x : ℕ). Seen (reference_in place base lent xs) (x + 1) (s.place + 1)) (sym g.b1-is) (seen_next g.rising s.place))
      refl (omega (arith, g.stands.near))

-- any other
module _ {place : Reference} {lent xs : List ℕ} {base width : ℕ} {s : BetweenCodes} {b d twice size : ℕ}
    (q : Sided place lent xs base width s b d twice size)
    (far : s.position + d < b + twice) (within : b + twice ≤ width + d) {r : ℕ} {zs : List ℕ} (n : NotedIn base xs s r zs) where
  pub side-turned : (p : ℕ) → Reached (reference_in place base lent zs) (b + twice - d + 1) (s.place + 1) p
      → TurnedOn place lent zs base width s (Some (record { at = s.at + size; position = b + twice - d; count = r; place = p }))
  side-turned p reached =
      let there : Reached (reference_in place base lent xs) (b + twice - d + 1) (s.place + 1) p =
      subst (λ (l : List ℕ). Reached l (b + twice - d + 1) (s.place + 1) p) (after-reference q.asks.ready n) reached in (
        turned-to q.asks n (s.at + size) (b + twice - d) p (omega (arith, far)) (omega (arith, within)) there.seen there.parity
            (omega (arith, there.near, q.asks.ready.stands.near, q.some_bits)),
        omega (arith, q.some_bits),
        omega (arith, q.short),
      )

-- left of b1 it may be turned again
pub turned-asks : {place : Reference} {lent xs : List ℕ} {base width : ℕ} {s : BetweenCodes} {b : ℕ} → Turned place lent xs base width s
    → s.at ≤ most_bits + 64
    → b ≡ head_or width (drop s.place (reference_in place base lent xs)) → s.position < b → Asks place lent xs base width s b
turned-asks g low e k = record {
  ready = record {
    placed = g.placed;
    narrow = g.narrow;
    rising = g.rising;
    stands = g.stands;
    roomy = g.roomy;
    b1-is = e;
    ahead = k;
  };
  low = low;
  long = g.long;
}

-- ---- A pixel beside b1

-- one zero before the first one
pub one-zero : (x : ℕ) → x / 2 ^ 62 ≡ 1 → Count.count_leading_zeros 64 x ≡ 1
one-zero x e = sym (Count.leading_unique 64 x 1 63 refl (omega arith) (omega arith))

-- the side is the bit behind the first one
module _ (side bits : ℕ) (bit : side ≡ bits / 2 ^ 61 % 2) where
  pub one-sided : {place : Reference} {lent xs : List ℕ} {base width : ℕ} {s : BetweenCodes} {b : ℕ} → Asks place lent xs base width s b
      → Sided place lent xs base width s b 1 (2 * side) 3
  one-sided q = record {
    asks = q;
    some_pixels = omega arith;
    few = omega arith;
    small = omega arith;
    sides = sides-bit side 1 (2 * side) (omega arith) (λ e. omega arith) (λ e. omega arith);
    some_bits = omega arith;
    short = omega arith;
  }

  pub one-read : {bytes : List ℕ} {at live : ℕ} → Ahead bytes at live bits → 7 ≤ live → Count.count_leading_zeros 64 bits ≡ 1
      → read_mode (bits_of bytes) at ≡ ok (moded (at + 3) (side_mode 1 (2 * side)))
  unfolding mode_for
  one-read {at = at} h k e =
      top-sided h k e (omega arith) 1 3 (λ side. refl) (omega arith)
      ∙ ap (λ (m : Mode). ok (moded (at + 3) m))
      (side-bit (bits / 2 ^ 61 % 2) 1 (2 * side) (omega arith) (omega arith) (λ e. omega arith) (λ e. omega arith))

-- ---- The loop

-- the bits behind so many
shows-on : {bytes : List ℕ} {end at rest : ℕ} → Shows bytes end at rest → (next : ℕ) → at ≤ next → next ≤ end
    → Shows bytes end next (rest * 2 ^ (next - at) % 2 ^ 64)
shows-on {bytes} {end} {at} {rest} v next h k =
    let e : at + (next - at) ≡ next = omega arith in
    record {
      live = v.live - (next - at);
      next =
          subst (λ (n : ℕ). Ahead bytes n (v.live - (next - at)) (rest * 2 ^ (next - at) % 2 ^ 64)) e
          (ahead-shift v.next (next - at) (omega (arith, v.ends)));
      ends = omega (arith, v.ends);
    }

-- The line has come from one stand to another, out of `bits`, of which `rest` is left.
pub record Nearing (place : Reference) (lent xs : List ℕ) (base width : ℕ) (s : BetweenCodes) (bits stop : ℕ) (zs : List ℕ)
    (t : BetweenCodes) (rest : ℕ) : Type 0 where
  pub turned : Turned place lent zs base width t
  pub low : t.at ≤ most_bits + 71
  pub forth : s.at ≤ t.at
  pub size : length zs ≡ length xs
  pub walked : (bytes : List ℕ) (live : ℕ) → Ahead bytes s.at live bits → stop + 7 ≤ s.at + live
      → WalkedIn bytes place lent xs base width s zs t × Shows bytes (s.at + live) t.at rest

module _ {place : Reference} {lent xs : List ℕ} {base width : ℕ} {s : BetweenCodes} {stop : ℕ}
    (g : GoesAlong place lent xs base width s stop) where
  -- none yet
  pub nearing-new : (bits : ℕ) → Nearing place lent xs base width s bits stop xs s bits
  nearing-new bits = record {
    turned = g.turned;
    low = g.low;
    forth = omega arith;
    size = refl;
    walked = λ bytes live h k. (
      walked_none (room-full base xs (placed-base place base xs g.turned.placed)) g.turned.stands
          (omega (arith, h.there, length-bits_of bytes)),
      record { live = live; next = h; ends = refl },
    );
  }

  -- V0 codes behind them
  module _ {bits : ℕ} {zs : List ℕ} {t : BetweenCodes} {rest : ℕ} (a : Nearing place lent xs base width s bits stop zs t rest)
      {u : BetweenCodes} {ys : List ℕ}
      (w : WentStraight place lent zs base width t rest u ys) where
    pub nearing-done : WalkedTo place lent xs base width s bits stop u ys
    nearing-done = λ bytes live h k.
        let v = a.walked bytes live h k in walked_further place lent g.turned.placed v.0
        (w.walked bytes v.1.live v.1.next).0

    module _ (left : u.at < stop) where
      -- no shift is of all bits, and no sum leaves the type
      pub nearing-few : u.at - t.at < 64
      nearing-few = omega (arith, g.near, a.forth)

      pub nearing-low : u.at ≤ most_bits + 64
      nearing-low = omega (arith, g.stops)

      abbrev behind : ℕ
      behind = rest * 2 ^ (u.at - t.at) % 2 ^ 64

      shown : (bytes : List ℕ) (live : ℕ) → Ahead bytes s.at live bits → stop + 7 ≤ s.at + live
          → Shows bytes (s.at + live) u.at behind
      shown bytes live h k = let v = a.walked bytes live h k in shows-on v.1 u.at w.forth (omega arith)

      -- and one beside b1, if there is one
      module _ {r : Option BetweenCodes} {us : List ℕ} (n : Turns place lent ys base width u behind r us) where
        took : (bytes : List ℕ) (live : ℕ) → Ahead bytes s.at live bits → stop + 7 ≤ s.at + live
            → TookIn bytes place lent ys base width u r us
        took bytes live h k = let v = shown bytes live h k in n.took bytes v.live v.next (omega (arith, v.ends))

        pub nearing-other : r ≡ None → WalkedTo place lent xs base width s bits stop u us
        nearing-other e = λ bytes live h k.
            let same = subst (λ (q : Option BetweenCodes). TookIn bytes place lent ys base width u q us) e (took bytes live h k) in
            rw same (nearing-done bytes live h k)

        module _ {next : BetweenCodes} (e : r ≡ Some next) where
          turns-on : TurnedOn place lent us base width u (Some next)
          turns-on = subst (TurnedOn place lent us base width u) e n.turned

          -- a code has seven bits at most
          pub nearing-short : (u.at < next.at) × (next.at ≤ u.at + 7)
          nearing-short = (turns-on.1, turns-on.2)

          pub nearing-on : length ys ≡ length zs → length us ≡ length ys
              → Nearing place lent xs base width s bits stop us next (behind * 2 ^ (next.at - u.at) % 2 ^ 64)
          nearing-on l m = record {
            turned = turns-on.0;
            low = omega (arith, nearing-short, g.stops);
            forth = omega (arith, nearing-short, w.forth, a.forth);
            size = m ∙ l ∙ a.size;
            walked = λ bytes live h k.
                let one = subst (λ (q : Option BetweenCodes). TookIn bytes place lent ys base width u q us) e (took bytes live h k) in (
                  walked_further place lent g.turned.placed (nearing-done bytes live h k) one.0,
                  shows-on (shown bytes live h k) next.at (omega (arith, nearing-short)) (omega (arith, nearing-short)),
                );
          }

          -- so the loop ends
          pub nearing-less : stop - next.at < stop - t.at
          nearing-less = omega (arith, nearing-short, w.forth)

-- ---- The first code, and those behind it

module _ {place : Reference} {lent xs : List ℕ} {base width : ℕ} {s : BetweenCodes} {b : ℕ} (q : Asks place lent xs base width s b)
    (low : s.at ≤ most_bits) {bits : ℕ} {r : Option BetweenCodes}
    {ys : List ℕ} (n : Turns place lent xs base width s bits r ys) where
  pub first-other : r ≡ None → TookAhead place lent xs base width s bits None ys
  first-other e = λ bytes live h k.
      subst (λ (o : Option BetweenCodes). TookIn bytes place lent xs base width s o ys) e (n.took bytes live h (omega arith))

  module _ {t : BetweenCodes} (e : r ≡ Some t) where
    turned : TurnedOn place lent ys base width s (Some t)
    turned = subst (TurnedOn place lent ys base width s) e n.turned

    pub first_short : (s.at < t.at) × (t.at ≤ s.at + 7)
    first_short = (turned.1, turned.2)

    pub first_goes : GoesAlong place lent ys base width t (s.at + 50)
    first_goes = record {
      turned = turned.0;
      low = omega (arith, first_short);
      near = omega (arith, first_short);
      stops = omega arith;
    }

    pub first_then : {u : BetweenCodes} {us : List ℕ}
        → WalkedTo place lent ys base width t (bits * 2 ^ (t.at - s.at) % 2 ^ 64) (s.at + 50) u us
        → TookAhead place lent xs base width s bits (Some u) us
    first_then f = λ bytes live h k.
        let v =
        shows-on (record { live = live; next = h; ends = refl }) t.at (omega (arith, first_short)) (omega (arith, first_short)) in
        let one = subst (λ (o : Option BetweenCodes). TookIn bytes place lent xs base width s o ys) e (n.took bytes live h (omega arith)) in
        let rest = f bytes v.live v.next (omega (arith, v.ends)) in
        (walked_further place lent q.ready.placed one.0 rest, omega (arith, first_short, rest.forth))
