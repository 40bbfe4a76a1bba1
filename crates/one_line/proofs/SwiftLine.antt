-- The loop over swift codes and the codes between them: what holds at its head, and what each way through a turn makes of it. Assumes nothing.
use mathlib.Core.Path.{◌≡◌, refl, sym, ap, ◌∙◌, subst}
use mathlib.Core.Bool.{Bool}
use mathlib.Core.List.{List}
use Prim.Native.Nat.{ℕ, suc, ◌+◌, ◌-◌, ◌*◌, ◌%◌, ◌≤◌, ◌<◌, min}
use native.Mathlib.Omega.{arith}
use lib.ListN.{length, take, drop, length-append, length-take, length-drop}
use lib.Seq.{length-take-le}
use borrow.Rule.Slice.PartMut.{mid_of, put_mid}
use Rattle.std.specs.Prelude.{Ok, Err}
use Rattle.rules.specs.Bits.{bits_of}
use Rattle.rules.specs.Lines.{right_of_a0, head_or, line_end}
use Rattle.rules.specs.Pages.{overlaid}
use Rattle.rules.proofs.Bits.{length-bits_of}
use Rattle.rules.specs.Rising.{Rising}
use Rattle.tables.specs.Tables.{colour_of}
use Rattle.context.specs.declared.line.Line.{Line}
use Rattle.context.specs.declared.reference.FoundChanges.{FoundChanges}
use Rattle.context.specs.declared.step.Rules as Code
use Rattle.context.specs.declared.step.Stop.{Stop}
use Rattle.context.specs.declared.reference.Reference.{Reference}
use Rattle.context.specs.declared.reference.Reference.TheVariants.{Lent}
use Rattle.swift_loops.specs.declared.fast_2d.BetweenCodes.{BetweenCodes}
use Rattle.context.specs.State.{flag_of}
use Rattle.context.specs.Reference.{Passed, Finds}
use Rattle.context.specs.Outcome.{Step}
use Rattle.context.specs.Coding.{Coding, Coded, StepsAt, reference_in, Placed}
use Rattle.context.specs.Places.{Seen}
use Rattle.swift_loops.specs.Swift.{standing, line_of, room_in, Walked, Walks}
use Rattle.one_line.specs.Kept.{Restands, Restood}
use Rattle.context.proofs.State.{number-colour, number-flag}
use Rattle.context.proofs.Carried.{Carries, carries-line, overlaid-over}
use Rattle.context.proofs.RowPart.{placed-as, row-lent, row_back, back-front, back-row}
use Rattle.context.proofs.Search.{passed_none}
use Rattle.context.proofs.Placing.{seen-b1, seen-b2}
use Rattle.one_line.proofs.LineLoop.{Task, Asked, code, whole, Reading, reading-new, reading-length, reading-reference}
use Rattle.one_line.proofs.LineLoop.{reading-position, reading-width, reading-holds, reading-done, reading-codes, reading-stop}
use Rattle.one_line.proofs.LineLoop.{reading-less, reading-on, reading-room, reading-back}

-- what the loop is given
abbrev pub task : List ℕ → Reference → List ℕ → List ℕ → ℕ → ℕ → ℕ → Code.Rules → Task
task bytes place lent xs base width start rules =
    record { bytes = bytes; reference = lent; xs = xs; base = base; place = place; width = width; at = start; rules = rules }

-- the changes before that of b1's place, but for the one right before it, are passed
passed-seen : {reference : List ℕ} {least place : ℕ} → Seen reference least place
    → Passed least (min (length reference) (place - 1)) reference
passed-seen s = record { inside = omega arith; each = λ i h. s.left i (omega arith) (omega arith) }

-- Under a lent reference the codes ask for the row alone, lent whole;
pub walks-part : {bytes lent zs : List ℕ} {base width : ℕ} {s : BetweenCodes} → Walks bytes Lent lent zs base width s
    → Walks bytes Lent lent (mid_of base (length zs - base) zs) 0 width s
walks-part {zs = zs} {base = base} h = record {
  loading = h.loading;
  placed = omega arith;
  narrow = h.narrow;
  rising = h.rising;
  stands = rw (row-lent zs base) h.stands;
}

-- and those that were taken in it were taken in the array.
pub walked-part : {reference : List ℕ} {bs : List Bool} {base width : ℕ} {zs : List ℕ} {s : BetweenCodes} {ys : List ℕ} {t : BetweenCodes}
    → base ≤ length zs
    → Walked reference bs 0 (length (mid_of base (length zs - base) zs)) width (mid_of base (length zs - base) zs) s ys t
    → Walked reference bs base (room_in base zs) width zs s (put_mid base (length zs - base) zs ys) t
walked-part {reference} {bs} {base} {width} {zs} {s} {ys} {t} h v = rw (row_back zs base h ys) (record {
  stands = w.stands;
  roomy = w.roomy;
  forth = w.forth;
  inside = w.inside;
  longer = w.longer;
  size = omega (arith, length-append (take base zs) ys, length-take base zs, length-drop base zs, w.size);
  front = back-front zs base h ys;
  store = rw (back-row zs base h ys) w.store;
  same = λ strict exact cut. rw (back-row zs base h ys) (w.same strict exact cut);
})
  where
    w : Walked reference bs 0 (length (drop base zs)) width (drop base zs) s ys t
    w = subst (λ (l : List ℕ). Walked reference bs 0 (length l) width l s ys t) (row-lent zs base) v

module _ (bytes : List ℕ) (place : Reference) (lent xs : List ℕ) (base width start : ℕ) (rules : Code.Rules) where
  abbrev T : Task
  T = task bytes place lent xs base width start rules

  -- the line that stands there is read, and its place is b1's
  pub record Standing (s : BetweenCodes) (cut : ℕ) (zs : List ℕ) : Type 0 where
    pub reading : Reading T (line_of width s cut) s.at 0 zs
    pub seen : Seen (reference_in place base lent xs) (right_of_a0 s.position) s.place
    pub near : s.place ≤ suc (length (reference_in place base lent xs)) + s.at

  pub standing-new : Asked T → Standing (record { at = start; position = 0; count = 0; place = 0 }) 0 xs
  unfolding right_of_a0
  standing-new h = record {
    reading = reading-new h;
    seen = record { left = λ j k m. absurd (omega arith); right = λ m. omega arith };
    near = omega arith;
  }

  module _ {s : BetweenCodes} {cut : ℕ} {zs : List ℕ} (g : Standing s cut zs) where
    abbrev l : Line
    l = line_of width s cut

    pub standing-length : length zs ≡ length xs
    standing-length = reading-length g.reading

    pub standing-room : base ≤ length zs
    standing-room = reading-room g.reading

    pub standing-placed : Placed place base zs
    standing-placed = placed-as place base xs zs standing-length g.reading.asked.placed

    pub kept_same : reference_in place base lent zs ≡ reference_in place base lent xs
    kept_same = reading-reference g.reading

    pub standing-inside : s.at ≤ 8 * length bytes
    standing-inside = omega (arith, g.reading.place_is, g.reading.inside, length-bits_of bytes)

    -- a row that is as long as it was lent comes back so
    pub standing-back : (ys : List ℕ) → length ys ≡ length (mid_of base (length zs - base) zs)
        → length (put_mid base (length zs - base) zs ys) ≡ length xs
    standing-back ys e = reading-back g.reading ys e

    pub standing-place : length (reference_in place base lent xs) < 2305843009213693952 → s.place < 4611686018427387904
    standing-place h = omega (arith, g.near, standing-inside, g.reading.asked.starts.loading.size)

    pub standing-walks : Walks bytes place lent zs base width s
    standing-walks = record {
      loading = record { size = g.reading.asked.starts.loading.size; inside = standing-inside };
      placed = standing-placed;
      narrow = g.reading.asked.starts.narrow;
      rising = rw kept_same g.reading.asked.rising;
      stands = rw kept_same (record {
        fits = (reading-holds g.reading).fits;
        held = (reading-holds g.reading).held;
        seen = g.seen;
        near = g.near;
      });
    }

    -- the rules' line is the one that stands there
    rule-line : g.reading.s ≡ standing (drop base zs) (flag_of cut) s
    rule-line =
        sym (carries-line g.reading.carries g.reading.s.at)
        ∙ ap
        (λ (at : ℕ). standing (drop base zs) (flag_of cut) (record { at = at; position = s.position; count = s.count; place = s.place }))
        (sym g.reading.place_is)

    -- and codes that took it on take the reading with it
    module _ {t : BetweenCodes} {ys : List ℕ}
        (v : Walked (reference_in place base lent zs) (bits_of bytes) base (room_in base zs) width zs s ys t) where
      room-is : room_in base zs ≡ room_in base xs
      room-is = omega (arith, standing-length, length-drop base xs, length-drop base zs)

      walked : Walked (reference_in place base lent xs) (bits_of bytes) base (room_in base xs) width zs s ys t
      walked =
          subst (λ (n : ℕ). Walked (reference_in place base lent xs) (bits_of bytes) base n width zs s ys t) room-is
          (subst (λ (r : List ℕ). Walked r (bits_of bytes) base (room_in base zs) width zs s ys t) kept_same v)

      held : t.count ≤ length (drop base ys)
      held = omega (arith, walked.stands.held, walked.size, standing-length, length-drop base xs, length-drop base ys)

      pub standing-walked : Standing t cut ys
      standing-walked = record {
        reading = record {
          asked = g.reading.asked;
          s = standing (drop base ys) (flag_of cut) t;
          carries = record {
            line-is = λ i. record {
              width = width;
              position = t.position;
              changes = sym (length-take-le t.count (drop base ys) held) i;
              colour = sym (number-colour (t.place % 2) (omega arith)) i;
              cut = sym (number-flag cut (reading-holds g.reading).flagged) i;
            };
            store =
                walked.store
                ∙ ap (overlaid (take t.count (drop base ys))) g.reading.carries.store
                ∙ overlaid-over (take t.count (drop base ys)) g.reading.s.changes (drop base xs)
                (omega (arith, length-take-le t.count (drop base ys) held, walked.longer, ap (λ (m : Line). m.changes) g.reading.carries.line-is));
            fits = walked.stands.fits;
            roomy = omega (arith, length-take-le t.count (drop base ys) held, walked.stands.held);
            narrow = g.reading.asked.starts.narrow;
          };
          front = walked.front ∙ g.reading.front;
          place_is = refl;
          inside = walked.inside;
          passed = passed_none _ (reference_in place base lent xs);
          same =
              g.reading.same
              ∙ ap (line_end width (code T) (bits_of bytes)) rule-line
              ∙ walked.same rules.strict rules.exact (flag_of cut);
        };
        seen = walked.stands.seen;
        near = walked.stands.near;
      }

    pub standing-done : s.position ≡ width → StepsAt base width xs (whole T) (Ok (line_of width s cut, s.at)) zs
    standing-done e = reading-done g.reading e

    -- a code by the full rules, at the changes of b1's place and the next
    module _ (short : s.position ≡ width → ⊥) {first' second : ℕ}
        (b1-is : first' ≡ head_or width (drop s.place (reference_in place base lent zs)))
        (b2-is : second ≡ head_or width (drop (s.place + 1) (reference_in place base lent zs))) where
      abbrev found : FoundChanges
      found = record { seen = min (length (reference_in place base lent xs)) (s.place - 1); b1 = first'; b2 = second }

      finds : Finds (reference_in place base lent zs) width s.position (colour_of (s.place % 2)) found
      finds = rw kept_same (record {
        b1-is = rw kept_same at b1-is ∙ seen-b1 width s.position g.seen;
        b2-is = rw kept_same at b2-is ∙ seen-b2 width s.position g.seen;
        passed = passed-seen g.seen;
      })

      pub standing-codes : Coding bytes (mid_of base (length zs - base) zs) (line_of width s cut) s.at second
      standing-codes = reading-codes g.reading short finds

      module _ (r : Step) (ys : List ℕ)
          (c : Coded bytes (mid_of base (length zs - base) zs) (line_of width s cut) s.at first' second rules r ys) where
        abbrev after : List ℕ
        after = put_mid base (length zs - base) zs ys

        pub standing-stop : {f : Stop} → r ≡ Err f
            → StepsAt base width xs (whole T) (Err f) (put_mid base (length zs - base) zs ys)
        standing-stop e = reading-stop g.reading short finds r ys c e

        module _ {m : Line} {at : ℕ} (e : r ≡ Ok (m, at)) where
          pub standing-less : (s.at < at) × (at ≤ 8 * length bytes)
          standing-less = reading-less g.reading short finds r ys c e

          next : Reading T m at (min (length (reference_in place base lent xs)) (s.place - 1)) after
          next = reading-on g.reading short finds r ys c e

          kept-after : reference_in place base lent (put_mid base (length zs - base) zs ys) ≡ reference_in place base lent xs
          kept-after = reading-reference next

          pub standing-searches : Restands (reference_in place base lent (put_mid base (length zs - base) zs ys)) s.place m
          standing-searches = rw kept-after (record {
            rising = subst (λ (n : ℕ). Rising n 0 (reference_in place base lent xs)) (sym (reading-width next)) g.reading.asked.rising;
            passed =
                subst
                (λ (n : ℕ). Passed (right_of_a0 n) (min (length (reference_in place base lent xs)) (s.place - 1)) (reference_in place base lent xs))
                (sym (reading-position next)) next.passed;
            narrow = omega (arith, (reading-holds next).fits, (reading-holds next).narrow);
            two_colours = (reading-holds next).coloured;
          })

          pub standing_on : (u : BetweenCodes) → Restood (reference_in place base lent (put_mid base (length zs - base) zs ys)) m at u
              → Standing u m.cut (put_mid base (length zs - base) zs ys)
          standing_on u q =
              let there : Restood (reference_in place base lent xs) m at u = subst (λ (k : List ℕ). Restood k m at u) kept-after q in
              record {
                reading = record {
                  asked = g.reading.asked;
                  s = next.s;
                  carries =
                      subst (λ (k : Line). Carries width (drop base xs) next.s k (drop base after)) (line_same there) next.carries;
                  front = next.front;
                  place_is = there.at-is ∙ next.place_is;
                  inside = next.inside;
                  passed = passed_none _ (reference_in place base lent xs);
                  same = next.same;
                };
                seen =
                    subst (λ (n : ℕ). Seen (reference_in place base lent xs) (right_of_a0 n) u.place) (sym there.position-is)
                    there.b1-at.seen;
                near = omega (arith, there.b1-at.near);
              }
            where
              line_same : Restood (reference_in place base lent xs) m at u → m ≡ line_of width u m.cut
              line_same there = λ i. record {
                width = reading-width next i;
                position = sym there.position-is i;
                changes = sym there.count-is i;
                colour = sym there.b1-at.parity i;
                cut = m.cut;
              }
