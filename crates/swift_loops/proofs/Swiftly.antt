-- The stands of a line that is read swiftly: the array behind a change that was noted, what each code makes of a stand, and codes one behind the other. Assumes nothing.
use Rattle.std.specs.Prelude.{Option, Some, None}
use mathlib.Core.Path.{◌≡◌, refl, sym, ap, ◌∙◌, subst}
use mathlib.Core.Logic.{◌⊎◌, inl, inr}
use mathlib.Core.Bool.{Bool, true, false, cond}
use mathlib.Core.List.{List, [], ◌∷◌, ◌++◌}
use Prim.Native.Nat.{ℕ, zero, suc, ◌+◌, ◌-◌, ◌*◌, ◌%◌, ◌≤◌, ◌<◌}
use native.Mathlib.Omega.{arith}
use lib.Dec.{eqb}
use lib.ListN.{length, take, drop, set, length-append, length-take, length-drop, length-set}
use lib.Seq.{length-take-le, take-set-le, drop-set-add}
use borrow.Author.Tests.{eq-eqb, ne_eqb}
use borrow.Rule.Slice.PartMut.{mid_of, put_mid}
use Rattle.context.specs.declared.reference.Reference.{Reference}
use Rattle.context.specs.declared.reference.Reference.TheVariants.{Kept}
use Rattle.rules.specs.Bits.{bits_of}
use Rattle.rules.specs.Codes.{Colour, opposite, differ}
use Rattle.rules.specs.Runs.{ok, sum, read_run}
use Rattle.rules.specs.Modes.{Mode, pass, horizontal, VR, VL, moded, read_mode}
use Rattle.rules.specs.Lines as Rule
use Rattle.rules.specs.Lines.{went, last_colour, recorded, right_of_a0, head_or, b1, b2, code_2d, two, line_end}
use Rattle.rules.specs.Pages.{overlaid}
use Rattle.rules.proofs.Bits.{length-bits_of}
use Rattle.rules.proofs.Lines.{moves, line-more}
use Rattle.tables.specs.Tables.{colour_of}
use Rattle.bit_reader.specs.Cursor.{most_bits}
use Rattle.swift_loops.specs.declared.fast_2d.BetweenCodes.{BetweenCodes}
use Rattle.context.specs.State.{ruling, turns}
use Rattle.context.specs.Coding.{reference_in, Placed}
use Rattle.context.specs.Offset.{move_by}
use Rattle.context.specs.Places.{Left, Seen, Reached, Onward, Turning}
use Rattle.swift_loops.specs.Swift.{standing, Stands, Roomy, room_in, Noted, Walked, WalkedIn, TookIn, side_mode, Ready, Asks, Sided}
use Rattle.swift_loops.specs.Swift.{Walks}
use Rattle.context.proofs.State.{turns-is, overlaid-same, overlaid-set}
use Rattle.context.proofs.Carried.{front_of, overlaid-over, overlaid-length}
use Rattle.context.proofs.Search.{right-more}
use Rattle.context.proofs.Moves.{Upright}
use Rattle.context.proofs.RowPart.{placed-base, placed-as, reference-same, row-lent, row_back, back-front, back-row}
use Rattle.context.proofs.Placing.{seen-b1, seen-b2, change-fits, change-next, seen_next}
use Rattle.context.proofs.Goes.{recorded-by, recorded-few, moves-right, moves-left, vertical-goes, pass-goes, horizontal-goes}

-- ---- A change noted

module _ (row : List ℕ) (s : BetweenCodes) (h : s.count < length row) where
  abbrev t : Rule.Line
  t = standing row false s

  len : length (take s.count row) ≡ s.count
  len = length-take-le s.count row (omega arith)

  turning : differ (last_colour (take s.count row)) (colour_of (s.place % 2)) ≡ turns s.count (s.place % 2)
  turning = turns-is (take s.count row) (s.place % 2) (omega arith) ∙ ap (λ (n : ℕ). turns n (s.place % 2)) len

  pub noted-turned : turns s.count (s.place % 2) ≡ true → Noted row s (s.count + 1) (set row s.count s.position)
  noted-turned e =
      let q : recorded t ≡ take s.count row ++ s.position ∷ [] = recorded-by t true (turning ∙ e) in
      record {
        counted = omega (arith, ap length q, length-append (take s.count row) (s.position ∷ []), len);
        stored = overlaid-set s.count row s.position h ∙ ap (λ (l : List ℕ). overlaid l row) (sym q);
      }

  pub noted-same : turns s.count (s.place % 2) ≡ false → Noted row s s.count row
  noted-same e =
      let q : recorded t ≡ take s.count row = recorded-by t false (turning ∙ e) in
      record {
        counted = omega (arith, ap length q, len);
        stored = overlaid-same s.count row (omega arith) ∙ ap (λ (l : List ℕ). overlaid l row) (sym q);
      }

-- ---- One code

-- One code of the rules took the line from a stand to another, and the array with it.
pub record OneCode (reference : List ℕ) (bs : List Bool) (base room width : ℕ) (xs : List ℕ) (s : BetweenCodes) (ys : List ℕ)
    (t : BetweenCodes) : Type 0 where
  pub short : s.position < width
  pub walked : Walked reference bs base room width xs s ys t
  pub goes : (strict exact cut : Bool)
      → code_2d (ruling width room strict exact) reference bs (standing (drop base xs) cut s) ≡ went (standing (drop base ys) cut t)

abbrev pub OneCodeIn : List ℕ → Reference → List ℕ → List ℕ → ℕ → ℕ → BetweenCodes → List ℕ → BetweenCodes → Type 0
OneCodeIn bytes place lent xs base width s ys t =
    OneCode (reference_in place base lent xs) (bits_of bytes) base (room_in base xs) width xs s ys t

module _ {reference : List ℕ} {bs : List Bool} {base room width : ℕ} {xs : List ℕ} {s : BetweenCodes} where
  -- A code that takes the line of the rules from one stand to another takes the array with it.
  walk : (u : BetweenCodes) (qs ys : List ℕ) → room + base ≡ length xs → Stands reference room width u → Roomy room width u
      → s.position < width → s.count ≤ u.count → u.count ≡ length qs
      → length ys ≡ length xs → take base ys ≡ take base xs → drop base ys ≡ overlaid qs (drop base xs)
      →
      ((strict exact cut : Bool) → code_2d (ruling width room strict exact) reference bs (standing (drop base xs) cut s) ≡ went (Rule.line u.at u.position (colour_of (u.place % 2)) qs cut))
      → OneCode reference bs base room width xs s ys u
  walk u qs ys full stands roomy short longer count size front store goes = record {
    short = short;
    walked = record {
      stands = stands;
      roomy = λ _. roomy;
      forth = omega (arith, bits.0);
      inside = bits.1;
      longer = longer;
      size = size;
      front = front;
      store = store ∙ ap (λ (l : List ℕ). overlaid l (drop base xs)) (sym changes);
      same = λ strict exact cut.
          line-more width (code_2d (ruling width room strict exact) reference bs) bs
          (moves (ruling width room strict exact) (two reference) bs)
          (standing (drop base xs) cut s) (standing (drop base ys) cut u) (λ z. omega arith)
          (there strict exact cut);
    };
    goes = there;
  }
    where
      changes : take u.count (drop base ys) ≡ qs
      changes = front_of u.count qs (drop base xs) (drop base ys) count store

      there : (strict exact cut : Bool)
          → code_2d (ruling width room strict exact) reference bs (standing (drop base xs) cut s) ≡ went (standing (drop base ys) cut u)
      there strict exact cut =
          goes strict exact cut ∙ ap (λ (l : List ℕ). went (Rule.line u.at u.position (colour_of (u.place % 2)) l cut)) (sym changes)

      bits : (s.at < u.at) × (u.at ≤ length bs)
      bits =
          moves (ruling width room false false) (two reference) bs (standing (drop base xs) false s)
          (Rule.line u.at u.position (colour_of (u.place % 2)) qs false) (goes false false false)

-- ---- Codes one behind the other

module _ {reference : List ℕ} {bs : List Bool} {base room width : ℕ} {xs : List ℕ} {s : BetweenCodes} (full : room + base ≡ length xs) where
  -- none of them
  pub walked_none : Stands reference room width s → s.at ≤ length bs → Walked reference bs base room width xs s xs s
  walked_none h k = record {
    stands = h;
    roomy = λ k. k;
    forth = omega arith;
    inside = k;
    longer = omega arith;
    size = refl;
    front = refl;
    store = overlaid-same s.count (drop base xs) (omega (arith, h.held, length-drop base xs));
    same = λ strict exact cut. refl;
  }

  pub walked_then : {ys zs : List ℕ} {t u : BetweenCodes} → Walked reference bs base room width xs s ys t
      → Walked reference bs base room width ys t zs u → Walked reference bs base room width xs s zs u
  walked_then {ys} {zs} {t} {u} a b = record {
    stands = b.stands;
    roomy = λ h. b.roomy (a.roomy h);
    forth = omega (arith, a.forth, b.forth);
    inside = b.inside;
    longer = omega (arith, a.longer, b.longer);
    size = b.size ∙ a.size;
    front = b.front ∙ a.front;
    store =
        b.store
        ∙ ap (overlaid (take u.count (drop base zs))) a.store
        ∙ overlaid-over (take u.count (drop base zs)) (take t.count (drop base ys)) (drop base xs) fewer;
    same = λ strict exact cut. a.same strict exact cut ∙ b.same strict exact cut;
  }
    where
      fewer : length (take t.count (drop base ys)) ≤ length (take u.count (drop base zs))
      fewer =
          omega (
            arith,
            length-take t.count (drop base ys),
            length-take u.count (drop base zs),
            length-drop base zs,
            b.stands.held,
            b.longer,
            b.size,
            a.size,
          )

-- the room of the row
pub room-full : (base : ℕ) (xs : List ℕ) → base ≤ length xs → room_in base xs + base ≡ length xs
room-full base xs h = omega (arith, length-drop base xs)

pub room-same : (base : ℕ) (xs zs : List ℕ) → length zs ≡ length xs → room_in base zs ≡ room_in base xs
room-same base xs zs e = omega (arith, length-drop base xs, length-drop base zs)

-- the same where the second part is told of its own array: what lies before the row is as it was, and so is the reference
module _ (place : Reference) (lent : List ℕ) {bs : List Bool} {base width : ℕ} {xs zs us : List ℕ} {s t u : BetweenCodes} where
  pub walked_further : Placed place base xs
      → Walked (reference_in place base lent xs) bs base (room_in base xs) width xs s zs t
      → Walked (reference_in place base lent zs) bs base (room_in base zs) width zs t us u
      → Walked (reference_in place base lent xs) bs base (room_in base xs) width xs s us u
  walked_further placed v a =
      let room-is : room_in base zs ≡ room_in base xs = room-same base xs zs v.size in
      let kept-is = reference-same place base lent xs zs placed (placed-as place base xs zs v.size placed) v.front in
      walked_then (room-full base xs (placed-base place base xs placed)) v
      (subst (λ (n : ℕ). Walked (reference_in place base lent xs) bs base n width zs t us u) room-is
      (subst (λ (l : List ℕ). Walked l bs base (room_in base zs) width zs t us u) kept-is a))

-- ---- The array behind a change that was noted

right_near : (p : ℕ) → right_of_a0 p ≤ p + 1
unfolding right_of_a0
right_near zero = omega arith
right_near (suc p) = omega arith

parity-turns : (p q : ℕ) → q % 2 ≡ (p + 1) % 2 → opposite (colour_of (p % 2)) ≡ colour_of (q % 2)
parity-turns p q e = cases (p % 2) (q % 2) (omega arith) (omega arith)
  where
    cases : (m n : ℕ) → m < 2 → m + n ≡ 1 → opposite (colour_of m) ≡ colour_of n
    cases zero zero h k = absurd (omega arith)
    cases zero (suc n) h k = refl
    cases (suc zero) zero h k = refl
    cases (suc zero) (suc n) h k = absurd (omega arith)
    cases (suc (suc m)) n h k = absurd (omega arith)

-- A change is noted in the row of an array, or one is stored there; what lies before the row is as it was.
pub record NotedIn (base : ℕ) (xs : List ℕ) (s : BetweenCodes) (r : ℕ) (zs : List ℕ) : Type 0 where
  pub noted : Noted (drop base xs) s r (drop base zs)
  pub front : take base zs ≡ take base xs

pub record StoredIn (base : ℕ) (xs : List ℕ) (i v : ℕ) (zs : List ℕ) : Type 0 where
  pub stored : drop base zs ≡ set (drop base xs) i v
  pub front : take base zs ≡ take base xs

-- in a part of it that was lent,
pub noted-part : {base : ℕ} {xs : List ℕ} → base ≤ length xs → {s : BetweenCodes} {r : ℕ} {ys : List ℕ}
    → Noted (mid_of base (length xs - base) xs) s r ys
    → NotedIn base xs s r (put_mid base (length xs - base) xs ys)
noted-part {base} {xs} h {s} {r} {ys} n =
    let is : put_mid base (length xs - base) xs ys ≡ take base xs ++ ys = row_back xs base h ys in
    record {
      noted =
          subst (λ (l : List ℕ). Noted (drop base xs) s r l) (sym (ap (drop base) is ∙ back-row xs base h ys))
          (subst (λ (l : List ℕ). Noted l s r ys) (row-lent xs base) n);
      front = ap (take base) is ∙ back-front xs base h ys;
    }

pub stored-part : {base : ℕ} {xs : List ℕ} {i v : ℕ} → StoredIn base xs i v (set xs (base + i) v)
stored-part {base} {xs} {i} {v} = record { stored = drop-set-add base xs i v; front = take-set-le base xs (base + i) v (omega arith) }

-- or where it is the row
pub noted-whole : {xs : List ℕ} {s : BetweenCodes} {r : ℕ} {zs : List ℕ} → Noted xs s r zs → NotedIn 0 xs s r zs
noted-whole n = record { noted = n; front = refl }

pub stored-whole : {xs : List ℕ} {i v : ℕ} → StoredIn 0 xs i v (set xs i v)
stored-whole = record { stored = refl; front = refl }

-- an array whose front and whose row are as long as they were
same_size : (base : ℕ) (xs zs : List ℕ) → base ≤ length xs → take base zs ≡ take base xs → length (drop base zs) ≡ length (drop base xs)
    → length zs ≡ length xs
same_size base xs zs h e k = omega (arith, ap length e, length-take base xs, length-take base zs, length-drop base xs, length-drop base zs)

module _ {place : Reference} {lent xs : List ℕ} {base width : ℕ} {s : BetweenCodes} {b : ℕ} (g : Ready place lent xs base width s b) where
  abbrev ref : List ℕ
  ref = reference_in place base lent xs

  abbrev row : List ℕ
  row = drop base xs

  abbrev line : Rule.Line
  line = standing (drop base xs) false s

  based : base ≤ length xs
  based = placed-base place base xs g.placed

  full : room_in base xs + base ≡ length xs
  full = room-full base xs based

  b1-rule : b ≡ b1 width (reference_in place base lent xs) s.position (colour_of (s.place % 2))
  b1-rule = g.b1-is ∙ seen-b1 width s.position g.stands.seen

  pub fits-b1 : b ≤ width
  fits-b1 = omega (arith, g.b1-is, change-fits g.rising s.place)

  pub ready-short : s.position < width
  ready-short = omega (arith, g.ahead, fits-b1)

  -- a change can be noted
  pub ready-note : s.count < length (drop base xs)
  ready-note = omega (arith, ready-short, g.roomy)

  pub ready-part : s.count < length (mid_of base (length xs - base) xs)
  ready-part = omega (arith, ready-note, ap length (row-lent xs base))

  -- what lies left of the line lies left of where it goes
  left_of : {p : ℕ} → s.position < p → Left ref (p + 1) s.place
  left_of {p} h = λ j k m. omega (arith, g.stands.seen.left j k m, right_near s.position)

  -- the line that is recorded has room, whatever its flag
  noted-room : (cut : Bool) → length (recorded (standing row cut s)) ≤ room_in base xs
  noted-room cut = omega (arith, recorded-few (standing row cut s), length-take-le s.count row (omega (arith, ready-note)), ready-note)

  flagless : (cut : Bool) → recorded (standing row cut s) ≡ recorded line
  unfolding recorded
  flagless cut = refl

  module _ {r : ℕ} {zs : List ℕ} (n : NotedIn base xs s r zs) where
    pub noted-few : (s.count ≤ r) × (r ≤ suc s.count)
    noted-few = omega (arith, n.noted.counted, recorded-few line, length-take-le s.count row (omega (arith, ready-note)))

    after-room : length (drop base zs) ≡ length (drop base xs)
    after-room = ap length n.noted.stored ∙ overlaid-length (recorded line) row (noted-room false)

    pub after-length : length zs ≡ length xs
    after-length = same_size base xs zs based n.front after-room

    pub after-placed : Placed place base zs
    after-placed = placed-as place base xs zs after-length g.placed

    pub after-reference : reference_in place base lent zs ≡ reference_in place base lent xs
    after-reference = reference-same place base lent xs zs g.placed after-placed n.front

    -- the stand that a code has come to, with one change noted
    module _ (bs : List Bool) (u : BetweenCodes) (count-is : u.count ≡ r) (right : s.position < u.position) (fits : u.position ≤ width)
        (seen : Seen ref (u.position + 1) u.place) (near : u.place ≤ suc (length ref) + u.at)
        (goes : (strict exact cut : Bool) → code_2d (ruling width (room_in base xs) strict exact) ref bs (standing row cut s) ≡ went (Rule.line u.at u.position (colour_of (u.place % 2)) (recorded (standing row cut s)) cut))
      where
        noted-code : OneCode ref bs base (room_in base xs) width xs s zs u
        noted-code =
            walk u (recorded line) zs full
            (record {
              fits = fits;
              held = omega (arith, noted-few, ready-note, count-is);
              seen = subst (λ (m : ℕ). Seen ref m u.place) (right-more u.position (λ z. omega arith)) seen;
              near = near;
            })
            (omega (arith, g.roomy, noted-few, count-is)) ready-short (omega (arith, noted-few, count-is)) (count-is ∙ n.noted.counted)
            after-length n.front n.noted.stored
            (λ strict exact cut. goes strict exact cut ∙ ap (λ (l : List ℕ). went (Rule.line u.at u.position (colour_of (u.place % 2)) l cut)) (flagless cut))

    -- ---- Vertical modes

    module _ (bytes : List ℕ) (m : Mode) (upright : Upright m) (end a1 p : ℕ) (read : read_mode (bits_of bytes) s.at ≡ ok (moded end m))
        (move : move_by b m s.position ≡ Some (a1 - s.position))
        (right : s.position < a1) (fits : a1 ≤ width) (seen : Seen ref (a1 + 1) p) (parity : p % 2 ≡ (s.place + 1) % 2)
        (near : p ≤ suc (length ref) + end) where
      vertical-code : OneCodeIn bytes place lent xs base width s zs (record { at = end; position = a1; count = r; place = p })
      vertical-code =
          noted-code (bits_of bytes) (record { at = end; position = a1; count = r; place = p }) refl right fits seen near
          (λ strict exact cut.
          vertical-goes (ruling width (room_in base xs) strict exact) ref (bits_of bytes) (standing row cut s) end m upright read a1
          (ap (λ (x : ℕ). move_by x m s.position) (sym b1-rule) ∙ move)
          right fits (noted-room cut)
          ∙ ap (λ (c : Colour). went (Rule.line end a1 c (recorded (standing row cut s)) cut)) (parity-turns s.place p parity))

    pub straight-code : (bytes : List ℕ) → read_mode (bits_of bytes) s.at ≡ ok (moded (s.at + 1) (VR 0))
        → OneCodeIn bytes place lent xs base width s zs (record { at = s.at + 1; position = b; count = r; place = s.place + 1 })
    straight-code bytes read =
        let same : b + 0 ≡ b = omega arith in
        vertical-code bytes (VR 0) tt (s.at + 1) b (s.place + 1) read
        (moves-right b b 0 s.position (omega (arith, fits-b1, g.narrow)) (omega (arith, g.ahead)) same)
        g.ahead fits-b1
        (subst (λ (x : ℕ). Seen ref (x + 1) (s.place + 1)) (sym g.b1-is) (seen_next g.rising s.place))
        refl (omega (arith, g.stands.near))

    -- ---- Pass mode

    pub pass-code : (bytes : List ℕ) (c : ℕ) → c ≡ head_or width (drop (s.place + 1) (reference_in place base lent zs))
        → read_mode (bits_of bytes) s.at ≡ ok (moded (s.at + 4) pass)
        → OneCodeIn bytes place lent xs base width s zs (record { at = s.at + 4; position = c; count = r; place = s.place + 2 })
    pass-code bytes c e read =
        let c-is : c ≡ head_or width (drop (s.place + 1) ref) =
        e ∙ ap (λ (l : List ℕ). head_or width (drop (s.place + 1) l)) after-reference in
        let rule : c ≡ b2 width ref s.position (colour_of (s.place % 2)) = c-is ∙ seen-b2 width s.position g.stands.seen in
        let right : s.position < c = omega (arith, c-is, g.b1-is, g.ahead, change-next g.rising s.place) in
        let fits : c ≤ width = omega (arith, c-is, change-fits g.rising (s.place + 1)) in
        let two-on : s.place + 1 + 1 ≡ s.place + 2 = omega arith in
        let stays : s.place % 2 ≡ (s.place + 2) % 2 = omega arith in
        noted-code (bits_of bytes) (record { at = s.at + 4; position = c; count = r; place = s.place + 2 }) refl right fits
        (subst (λ (x : ℕ). Seen ref (c + 1) x) two-on (subst (λ (x : ℕ). Seen ref (x + 1) (s.place + 1 + 1)) (sym c-is) (seen_next g.rising (s.place + 1))))
        (omega (arith, g.stands.near))
        (λ strict exact cut.
        pass-goes (ruling width (room_in base xs) strict exact) ref (bits_of bytes) (standing row cut s) (s.at + 4) read
        (omega (arith, right, rule)) (omega (arith, fits, rule)) (noted-room cut)
        ∙ (λ i. went (Rule.line (s.at + 4) (sym rule i) (colour_of (stays i)) (recorded (standing row cut s)) cut)))

    -- ---- Two runs

    -- room for two changes, as two pixels are left at least
    module _ (p1 p2 : ℕ) (some1 : 0 < p1) (some2 : 0 < p2) (within : p1 + p2 ≤ width - s.position) where
      two-roomy : suc r ≤ room_in base xs
      two-roomy = omega (arith, noted-few, g.roomy)

      pub two-index : base + r < length zs
      two-index = omega (arith, two-roomy, after-length, full)

      module _ (a1 : ℕ) (a1-is : a1 ≡ s.position + p1) {both : List ℕ} (m : StoredIn base zs r a1 both) where
        pub both-length : length both ≡ length xs
        both-length =
            same_size base zs both (omega (arith, after-length, based)) m.front (ap length m.stored ∙ length-set (drop base zs) r a1)
            ∙ after-length

        both-front : take base both ≡ take base xs
        both-front = m.front ∙ n.front

        both-row : drop base both ≡ overlaid (recorded line ++ a1 ∷ []) row
        both-row =
            let k : r < length (overlaid (recorded line) row) =
            omega (arith, two-roomy, overlaid-length (recorded line) row (noted-room false)) in
            m.stored
            ∙ ap (λ (l : List ℕ). set l r a1) n.noted.stored
            ∙ overlaid-set r (overlaid (recorded line) row) a1 k
            ∙ ap (λ (l : List ℕ). overlaid (l ++ a1 ∷ []) (overlaid (recorded line) row))
            (front_of r (recorded line) row (overlaid (recorded line) row) n.noted.counted refl)
            ∙ overlaid-over (recorded line ++ a1 ∷ []) (recorded line) row (omega (arith, length-append (recorded line) (a1 ∷ [])))

        pub both-reference : reference_in place base lent both ≡ reference_in place base lent xs
        both-reference =
            reference-same place base lent xs both g.placed (placed-as place base xs both both-length g.placed) both-front

        pub two-onward : (q : ℕ) → s.position < q → Onward (reference_in place base lent both) s.place q
        two-onward q h = rw both-reference (record { width = width; rising = g.rising; left = left_of h })

        module _ (bytes : List ℕ) (n1 n2 q p : ℕ) (q-is : q ≡ a1 + p2)
            (read : read_mode (bits_of bytes) s.at ≡ ok (moded (s.at + 3) horizontal))
            (one : read_run (colour_of (s.place % 2)) (bits_of bytes) (s.at + 3) ≡ ok (sum n1 p1))
            (other : read_run (opposite (colour_of (s.place % 2))) (bits_of bytes) n1 ≡ ok (sum n2 p2))
            (bits : s.at ≤ n2) (reached : Reached (reference_in place base lent both) (q + 1) s.place p) where
          there : Reached ref (q + 1) s.place p
          there = subst (λ (l : List ℕ). Reached l (q + 1) s.place p) both-reference reached

          pub two-code : OneCodeIn bytes place lent xs base width s both (record { at = n2; position = q; count = r + 1; place = p })
          two-code =
              let sums : s.position + p1 + p2 ≡ q = omega arith in
              walk (record { at = n2; position = q; count = r + 1; place = p }) (recorded line ++ a1 ∷ []) both full
              (record {
                fits = omega arith;
                held = omega (arith, two-roomy);
                seen = subst (λ (m : ℕ). Seen ref m p) (right-more q (λ z. omega arith)) there.seen;
                near = omega (arith, there.near, g.stands.near);
              })
              (omega (arith, g.roomy, noted-few)) ready-short (omega (arith, noted-few))
              (omega (arith, n.noted.counted, length-append (recorded line) (a1 ∷ []))) both-length both-front both-row
              (λ strict exact cut.
              horizontal-goes (ruling width (room_in base xs) strict exact) ref (bits_of bytes) (standing row cut s) (s.at + 3) read n1 p1
              n2 p2 one other some1 some2 (omega (arith, ready-short))
              (omega (arith, two-roomy, n.noted.counted, ap length (flagless cut)))
              ∙ (λ i. went (Rule.line n2 (sums i) (colour_of (sym there.parity i)) (flagless cut i ++ sym a1-is i ∷ []) cut)))

-- ---- The loop over codes

module _ {bytes : List ℕ} {place : Reference} {lent xs : List ℕ} {base width : ℕ} {s : BetweenCodes}
    (h : Walks bytes place lent xs base width s) {zs : List ℕ} {t : BetweenCodes}
    (v : WalkedIn bytes place lent xs base width s zs t) where
  walked-placed : Placed place base zs
  walked-placed = placed-as place base xs zs v.size h.placed

  pub walked-base : base ≤ length zs
  walked-base = placed-base place base zs walked-placed

  walked-reference : reference_in place base lent zs ≡ reference_in place base lent xs
  walked-reference = reference-same place base lent xs zs h.placed walked-placed v.front

  walked-room : room_in base zs ≡ room_in base xs
  walked-room = room-same base xs zs v.size

  pub walked_low : t.at ≤ most_bits
  walked_low = omega (arith, v.inside, length-bits_of bytes, h.loading.size)

  -- left of b1 the next code may be a swift one
  pub walked-asks : {c : ℕ} → Roomy (room_in base xs) width s → c ≡ head_or width (drop t.place (reference_in place base lent zs))
      → t.position < c → length (reference_in place base lent xs) < 2305843009213693952
      → Asks place lent zs base width t c
  walked-asks r e k long = record {
    ready = record {
      placed = walked-placed;
      narrow = h.narrow;
      rising = rw walked-reference h.rising;
      stands = rw (walked-reference, walked-room) v.stands;
      roomy = rw walked-room (v.roomy r);
      b1-is = e;
      ahead = k;
    };
    low = omega (arith, walked_low);
    long = rw walked-reference long;
  }

  -- as the code is seen to be, with what it makes of the loop's measure
  module _ (r : Option BetweenCodes) (ys : List ℕ) (took : TookIn bytes place lent zs base width t r ys) where
    pub took-other : r ≡ None → WalkedIn bytes place lent xs base width s ys t
    took-other e = rw (subst (λ (q : Option BetweenCodes). TookIn bytes place lent zs base width t q ys) e took) v

    module _ {u : BetweenCodes} (e : r ≡ Some u) where
      on : WalkedIn bytes place lent zs base width t ys u × (t.at < u.at)
      on = subst (λ (q : Option BetweenCodes). TookIn bytes place lent zs base width t q ys) e took

      pub took-on : WalkedIn bytes place lent xs base width s ys u
      took-on = walked_further place lent h.placed v on.0

      pub took-less : 8 * length bytes - u.at < 8 * length bytes - t.at
      took-less = omega (arith, on.1, on.0.inside, length-bits_of bytes)

-- a reference that is kept is no longer than the array
pub kept-long : (start base : ℕ) (xs : List ℕ) → length xs < 2305843009213693952
    → length (reference_in (Kept start) base [] xs) < 2305843009213693952
kept-long start base xs h = omega (arith, length-take (base - start) (drop start xs), length-drop start xs)

pub walks-none : {bytes : List ℕ} {place : Reference} {lent xs : List ℕ} {base width : ℕ} {s : BetweenCodes}
    → Walks bytes place lent xs base width s
    → WalkedIn bytes place lent xs base width s xs s
walks-none {bytes} {place} {lent} {xs} {base} h =
    walked_none (room-full base xs (placed-base place base xs h.placed)) h.stands
    (omega (arith, h.loading.inside, length-bits_of bytes))

-- ---- A vertical mode of so many pixels to a side

pub asks-place : {place : Reference} {lent xs : List ℕ} {base width : ℕ} {s : BetweenCodes} {b : ℕ} → Asks place lent xs base width s b
    → s.place < 4611686018427387904
asks-place q = omega (arith, q.ready.stands.near, q.low, q.long)

side-upright : (d twice : ℕ) → Upright (side_mode d twice)
side-upright d twice = cases (eqb twice 0)
  where
    cases : (b : Bool) → Upright (cond b (VL d) (VR d))
    cases true = tt
    cases false = tt

module _ {place : Reference} {lent xs : List ℕ} {base width : ℕ} {s : BetweenCodes} {b d twice size : ℕ}
    (q : Sided place lent xs base width s b d twice size)
    (far : s.position + d < b + twice) (within : b + twice ≤ width + d) where
  -- it moves to a1
  side-moves : move_by b (side_mode d twice) s.position ≡ Some (b + twice - d - s.position)
  side-moves = cases q.sides
    where
      cases : (twice ≡ 0) ⊎ (twice ≡ 2 * d) → move_by b (side_mode d twice) s.position ≡ Some (b + twice - d - s.position)
      cases (inl e) =
          rw (eq-eqb twice 0 e)
          (moves-left b (b + twice - d) d s.position (omega (arith, within, q.asks.ready.narrow)) (omega (arith, far)) (omega (arith, far)))
      cases (inr e) =
          rw (ne_eqb twice 0 (λ z. omega (arith, q.some_pixels)))
          (moves-right b (b + twice - d) d s.position (omega (arith, within, q.asks.ready.narrow)) (omega (arith, far)) (omega arith))

  module _ {r : ℕ} {zs : List ℕ} (n : NotedIn base xs s r zs) where
    pub side-turning : Turning (reference_in place base lent zs) s.place d (b + twice - d)
    side-turning = rw (after-reference q.asks.ready n) (record {
      width = width;
      rising = q.asks.ready.rising;
      left = left_of q.asks.ready (omega (arith, far));
      close = omega (arith, q.asks.ready.b1-is, far);
      few = q.few;
      low = omega (arith, asks-place q.asks);
    })

    pub side-code : (p : ℕ) → Reached (reference_in place base lent zs) (b + twice - d + 1) (s.place + 1) p → (bytes : List ℕ)
        → read_mode (bits_of bytes) s.at ≡ ok (moded (s.at + size) (side_mode d twice))
        → OneCodeIn bytes place lent xs base width s zs (record { at = s.at + size; position = b + twice - d; count = r; place = p })
    side-code p reached bytes read =
        let there : Reached (reference_in place base lent xs) (b + twice - d + 1) (s.place + 1) p =
        subst (λ (l : List ℕ). Reached l (b + twice - d + 1) (s.place + 1) p) (after-reference q.asks.ready n) reached in
        vertical-code q.asks.ready n bytes (side_mode d twice) (side-upright d twice) (s.at + size) (b + twice - d) p read side-moves
        (omega (arith, far)) (omega (arith, within)) there.seen there.parity
        (omega (arith, there.near, q.asks.ready.stands.near, q.some_bits))

-- the side by the bit that tells it: twice d where that is a one, nothing where it is a zero
pub sides-bit : (x d t : ℕ) → x < 2 → (x ≡ 0 → t ≡ 0) → (x ≡ 1 → t ≡ 2 * d) → (t ≡ 0) ⊎ (t ≡ 2 * d)
sides-bit zero d t h z o = inl (z refl)
sides-bit (suc zero) d t h z o = inr (o refl)
sides-bit (suc (suc x)) d t h z o = absurd (omega arith)

pub side-bit : (x d t : ℕ) → x < 2 → 1 ≤ d → (x ≡ 0 → t ≡ 0) → (x ≡ 1 → t ≡ 2 * d) → cond (eqb x 1) (VR d) (VL d) ≡ side_mode d t
side-bit zero d t h p z o = rw (eq-eqb t 0 (z refl))
side-bit (suc zero) d t h p z o = rw (ne_eqb t 0 (λ e. omega (arith, o refl)))
side-bit (suc (suc x)) d t h p z o = absurd (omega arith)
