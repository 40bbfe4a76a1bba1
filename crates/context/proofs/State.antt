-- Laws of the line's state: the line of the code and that of the rules are one, and what a push does to the slice. Assumes nothing.
use mathlib.Core.Path.{◌≡◌, refl, sym, ap, ◌∙◌}
use mathlib.Core.Bool.{Bool, true, false, cond, not}
use mathlib.Core.List.{List, [], ◌∷◌, ◌++◌, append_assoc}
use Prim.Native.Nat.{ℕ, zero, suc, ◌+◌, ◌-◌, ◌%◌, ◌≤◌, ◌<◌}
use native.Mathlib.Omega.{arith}
use lib.Dec.{eqb}
use lib.ListN.{length, take, drop, set, length-append, take-append-drop}
use lib.Seq.{length-take-le, set_split, take_at}
use borrow.Author.Tests.{eq-eqb, ne_eqb, le-leb, lt-leb}
use Rattle.std.specs.Prelude.{Ok, Err}
use Rattle.rules.specs.Codes.{Colour, white, black, opposite, differ}
use Rattle.rules.specs.Lines as Rule
use Rattle.rules.specs.Lines.{last_colour, recorded, add, push}
use Rattle.rules.specs.Rows.{read_mark}
use Rattle.rules.specs.Pages.{overlaid}
use Rattle.tables.specs.Tables.{colour_of}
use Rattle.context.specs.declared.line.Line.{Line}
use Rattle.context.specs.State.{flag_of, colour_number, flag_number, line_at, line_for, moved_for, cut_for, push_rules, Holds, turns, Push, push_fault, Comes, Added, Pushes}

-- ---- The two lines are one

pub colour-number : (c : Colour) → colour_of (colour_number c) ≡ c
colour-number white = refl
colour-number black = refl

pub number-colour : (n : ℕ) → n ≤ 1 → colour_number (colour_of n) ≡ n
number-colour zero h = refl
number-colour (suc zero) h = refl
number-colour (suc (suc n)) h = absurd (omega arith)

pub flag-number : (b : Bool) → flag_of (flag_number b) ≡ b
flag-number true = refl
flag-number false = refl

pub number-flag : (n : ℕ) → n ≤ 1 → flag_number (flag_of n) ≡ n
number-flag zero h = refl
number-flag (suc zero) h = refl
number-flag (suc (suc n)) h = absurd (omega arith)

-- the flag of a line that was read is its mark (A5)
pub mark-is : (width : ℕ) (s : Rule.Line) (l : Line) → l ≡ line_for width s → l.cut ≡ read_mark s
mark-is width s l e = ap (λ (m : Line). m.cut) e ∙ cases s.cut
  where
    cases : (b : Bool) → flag_number b ≡ cond b 1 0
    cases true = refl
    cases false = refl

-- the code's line stands for one of the rules, and is the code's line for that
pub line-for : (xs : List ℕ) (l : Line) → Holds xs l → (at : ℕ) → line_for l.width (line_at at xs l) ≡ l
line-for xs l h at = λ i. record {
  width = l.width;
  position = l.position;
  changes = length-take-le l.changes xs h.held i;
  colour = number-colour l.colour h.coloured i;
  cut = number-flag l.cut h.flagged i;
}

-- a line of the rules, with its changes in front of the slice, is what the code's line for it stands for
pub at_line : (width : ℕ) (xs : List ℕ) (s : Rule.Line) → line_at s.at (overlaid s.changes xs) (line_for width s) ≡ s
unfolding overlaid
at_line width xs s = λ i. Rule.line s.at s.position (colour-number s.colour i) (take_at s.changes (drop (length s.changes) xs) (length s.changes) refl i) (flag-number s.cut i)

-- a slice whose front is its own is as it was
pub overlaid-same : (n : ℕ) (xs : List ℕ) → n ≤ length xs → xs ≡ overlaid (take n xs) xs
unfolding overlaid
overlaid-same n xs h = sym (ap (λ (k : ℕ). take n xs ++ drop k xs) (length-take-le n xs h) ∙ take-append-drop n xs)

-- one change more
pub overlaid-set : (n : ℕ) (xs : List ℕ) (p : ℕ) → n < length xs → set xs n p ≡ overlaid (take n xs ++ p ∷ []) xs
unfolding overlaid
overlaid-set n xs p h =
    set_split xs n p h
    ∙ sym (ap (λ (k : ℕ). (take n xs ++ p ∷ []) ++ drop k xs) (length-append (take n xs) (p ∷ []) ∙ ap (λ (k : ℕ). k + 1) (length-take-le n xs (omega arith)) ∙ (let e : n + 1 ≡ suc n = omega arith in e)) ∙ append-one)
  where
    append-one : (take n xs ++ p ∷ []) ++ drop (suc n) xs ≡ take n xs ++ p ∷ drop (suc n) xs
    append-one = simp append_assoc

-- ---- The last pixel's colour is the parity of the changes

pub parity : (zs : List ℕ) → last_colour zs ≡ colour_of (length zs % 2)
unfolding last_colour
parity [] = refl
parity (z ∷ zs) = ap opposite (parity zs) ∙ turn (length zs % 2) (length zs) refl
  where
    turn : (r n : ℕ) → n % 2 ≡ r → opposite (colour_of r) ≡ colour_of (suc n % 2)
    turn zero n e = ap colour_of (let q : 1 ≡ suc n % 2 = omega arith in q)
    turn (suc zero) n e = ap colour_of (let q : 0 ≡ suc n % 2 = omega arith in q)
    turn (suc (suc r)) n e = absurd (omega arith)

-- so the test of the code is the rules'
pub turns-is : (zs : List ℕ) (colour : ℕ) → colour ≤ 1 → differ (last_colour zs) (colour_of colour) ≡ turns (length zs) colour
turns-is zs colour h = ap (λ (c : Colour). differ c (colour_of colour)) (parity zs) ∙ cases (length zs % 2) colour (omega arith) h
  where
    cases : (r colour : ℕ) → r ≤ 1 → colour ≤ 1 → differ (colour_of r) (colour_of colour) ≡ not (eqb r colour)
    cases zero zero p q = refl
    cases zero (suc zero) p q = refl
    cases (suc zero) zero p q = refl
    cases (suc zero) (suc zero) p q = refl
    cases (suc (suc r)) c p q = absurd (omega arith)
    cases zero (suc (suc c)) p q = absurd (omega arith)
    cases (suc zero) (suc (suc c)) p q = absurd (omega arith)

-- ---- A count that fits

module _ (xs : List ℕ) (l : Line) (h : Holds xs l) (count : ℕ) (strict : Bool) (at : ℕ) where
  R : Rule.Rules
  R = push_rules l.width strict xs

  s : Rule.Line
  s = line_at at xs l

  len : length (take l.changes xs) ≡ l.changes
  len = length-take-le l.changes xs h.held

  turning : differ (last_colour (take l.changes xs)) (colour_of l.colour) ≡ turns l.changes l.colour
  turning = turns-is (take l.changes xs) l.colour h.coloured ∙ ap (λ (n : ℕ). turns n l.colour) len

  pub add_nothing : count ≡ 0 → Comes l.width xs (add (push_rules l.width strict xs) count (line_at at xs l)) (Ok l) xs
  unfolding add
  add_nothing e = rw (eq-eqb count 0 e) (record { answer = ap Ok (sym (line-for xs l h at)); store = overlaid-same l.changes xs h.held })

  module _ (some : count ≡ 0 → ⊥) where
    pub add_turned : turns l.changes l.colour ≡ true → l.changes < length xs
        → Comes l.width xs (add (push_rules l.width strict xs) count (line_at at xs l)) (Ok (moved_for l count (l.changes + 1))) (set xs l.changes l.position)
    unfolding add recorded
    add_turned t k =
        rw (ne_eqb count 0 some, turning ∙ t, le-leb (length (take l.changes xs ++ l.position ∷ [])) (length xs) fits)
        (record {
          answer = ap Ok (λ i. record { width = l.width; position = l.position + count; changes = sym size i; colour = sym (number-colour l.colour h.coloured) i; cut = sym (number-flag l.cut h.flagged) i });
          store = overlaid-set l.changes xs l.position k;
        })
      where
        size : length (take l.changes xs ++ l.position ∷ []) ≡ l.changes + 1
        size = length-append (take l.changes xs) (l.position ∷ []) ∙ ap (λ (n : ℕ). n + 1) len

        fits : length (take l.changes xs ++ l.position ∷ []) ≤ length xs
        fits = omega (arith, size)

    pub add-full : turns l.changes l.colour ≡ true → length xs ≤ l.changes
        → Comes l.width xs (add (push_rules l.width strict xs) count (line_at at xs l)) (Err (push_fault 4 l)) xs
    unfolding add recorded
    add-full t k =
        rw (ne_eqb count 0 some, turning ∙ t, lt-leb (length (take l.changes xs ++ l.position ∷ [])) (length xs) over)
        (record { answer = ap (λ (k : Line). Err (push_fault 4 k)) (sym (line-for xs l h at)); store = overlaid-same l.changes xs h.held })
      where
        over : length xs < length (take l.changes xs ++ l.position ∷ [])
        over = omega (arith, length-append (take l.changes xs) (l.position ∷ []), len)

    pub add_same : turns l.changes l.colour ≡ false
        → Comes l.width xs (add (push_rules l.width strict xs) count (line_at at xs l)) (Ok (moved_for l count l.changes)) xs
    unfolding add recorded
    add_same t =
        rw (ne_eqb count 0 some, turning ∙ t, le-leb (length (take l.changes xs)) (length xs) (omega (arith, len, h.held)))
        (record {
          answer = ap Ok (λ i. record { width = l.width; position = l.position + count; changes = sym len i; colour = sym (number-colour l.colour h.coloured) i; cut = sym (number-flag l.cut h.flagged) i });
          store = overlaid-same l.changes xs h.held;
        })

-- ---- Any count

module _ (xs : List ℕ) (l : Line) (h : Holds xs l) (count : ℕ) (strict : Bool) where
  pub push-whole : count ≤ l.width - l.position → (r : Push) (ys : List ℕ) → Added xs l count r ys → Pushes xs l count strict r ys
  unfolding push
  push-whole f r ys a at place = rw (le-leb count (l.width - l.position) f) (a strict at)

  module _ (over : l.width - l.position < count) where
    pub push-refused : strict ≡ true → Pushes xs l count strict (Err (push_fault 1 l)) xs
    unfolding push
    push-refused e at place =
        rw (lt-leb count (l.width - l.position) over, e)
        (record { answer = ap (λ (k : Line). Err (push_fault 1 k)) (sym (line-for xs l h at)); store = overlaid-same l.changes xs h.held })

    pub push-cut : strict ≡ false → (r : Push) (ys : List ℕ) → Added xs (cut_for l) (l.width - l.position) r ys → Pushes xs l count strict r ys
    unfolding push
    push-cut e r ys a at place = rw (lt-leb count (l.width - l.position) over, e) (a false at)
