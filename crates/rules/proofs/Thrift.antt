-- The entries of a page are at most the bits of its data and one. Ones and zeros are counted apart: a line has no more changes than the ones that it takes, and a 2D line has
-- no more than its reference and the zeros that it takes. So even where a damaged line is read a second time, the first reading is paid for by the
-- zeros and the second by the ones. Assumes nothing.
use mathlib.Core.Path.{◌≡◌, refl, sym, ap, ◌∙◌, subst}
use mathlib.Core.Logic.{◌⊎◌, inl, inr}
use mathlib.Core.Bool.{Bool, true, false, cond, ◌&&◌}
use mathlib.Core.List.{List, [], ◌∷◌, ◌++◌}
use Prim.Native.Nat.{ℕ, zero, suc, ◌+◌, ◌-◌, ◌*◌, ◌≤◌, ◌<◌}
use native.Mathlib.Omega.{arith}
use native.Mathlib.Nat.{zero-add, suc-add}
use lib.Dec.{eqb, leb, ltb, T}
use borrow.Author.Tests.{leb-true, leb-false, le-leb, lt-leb, ltb-true, eqb-true}
use lib.ListN.{length, drop, length-append, length-drop}
use Rattle.rules.specs.Machine.{more, done, ends}
use Rattle.rules.specs.Codes.{Colour, white, black, opposite, differ, Code, code_bits}
use Rattle.rules.specs.Runs.{Res, ok, fault, Sum, sum, read_run, Made}
use Rattle.rules.specs.Runs as Run
use Rattle.rules.specs.Write.{codes_bits}
use Rattle.rules.specs.Modes.{Mode, pass, horizontal, VR, VL, mode_bits, Moded, read_mode}
use Rattle.rules.specs.Lines.{Rules, Line, line, new_line, turned, moved_to, with_cut, Went, went, failed, next, last_colour, recorded, add, push, push_turn, after_run, push_run, right_of_a0, from_b1, head_or, b1, b2, vertical, apply, after_mode, code_2d, Kind, one, two, code_of, line_step, line_end, read_line}
use Rattle.rules.specs.Bits.{front_bit}
use Rattle.rules.specs.Rows.{Settings, rules_of}
use Rattle.rules.specs.Group3.{Tagging, untagged, tagged, tagged_line, line_of_tag, line3}
use Rattle.rules.specs.Rising as Asc
use Rattle.rules.specs.Rising.{Rising}
use Rattle.rules.proofs.Machine.{ends-ind, ends-stops}
use Rattle.rules.proofs.Unless.{unless_not}
use Rattle.rules.proofs.MoreRoom.{Full, full, line-room}
use Rattle.rules.proofs.Lines.{unless-idle, read_whole, read-broken, data-bound, Each, moves, line-cases, line-falls}
use Rattle.rules.proofs.Codes.{holds_one, shape}
use Rattle.rules.proofs.Runs.{Within, read-within, run-two-bits}
use Rattle.rules.proofs.Modes.{Coded, c-pass, c-horizontal, c-right, c-left, ModeAt, mode_is_at}
use Rattle.rules.proofs.WriteRuns.{stands-codes}

-- ---- Ones and zeros

abbrev counts : Bool → Bool → ℕ
counts true true = 1
counts false false = 1
counts true false = 0
counts false true = 0

-- how many of the first n bits are ones, or zeros
unfoldable pub count_to : Bool → ℕ → List Bool → ℕ
count_to b zero bs = 0
count_to b (suc n) [] = 0
count_to b (suc n) (x ∷ bs) = counts b x + count_to b n bs

pub count-both : (n : ℕ) (bs : List Bool) → n ≤ length bs → count_to true n bs + count_to false n bs ≡ n
unfolding count_to
count-both zero bs h = refl
count-both (suc n) [] h = absurd (omega arith)
count-both (suc n) (true ∷ bs) h = let e = count-both n bs (omega arith) in omega arith
count-both (suc n) (false ∷ bs) h = let e = count-both n bs (omega arith) in omega arith

pub count-mono : (b : Bool) (n m : ℕ) (bs : List Bool) → n ≤ m → count_to b n bs ≤ count_to b m bs
unfolding count_to
count-mono b zero m bs h = omega arith
count-mono b (suc n) zero bs h = absurd (omega arith)
count-mono b (suc n) (suc m) [] h = omega arith
count-mono b (suc n) (suc m) (x ∷ bs) h = let e = count-mono b n m bs (omega arith) in omega arith

count-nil : (b : Bool) (n : ℕ) → count_to b n [] ≡ 0
unfolding count_to
count-nil b zero = refl
count-nil b (suc n) = refl

-- n bits and then m
count_add : (b : Bool) (n m : ℕ) (bs : List Bool) → count_to b (n + m) bs ≡ count_to b n bs + count_to b m (drop n bs)
unfolding count_to
count_add b zero m bs = rw zero-add (let q : count_to b m bs ≡ 0 + count_to b m bs = omega arith in q)
count_add b (suc n) m [] = count-nil b (suc n + m) ∙ (let q : 0 ≡ 0 + count_to b m [] = omega (arith, count-nil b m) in q)
count_add b (suc n) m (x ∷ bs) = rw suc-add (let e = count_add b n m bs in let q : counts b x + count_to b (n + m) bs ≡ counts b x + count_to b n bs + count_to b m (drop n bs) = omega arith in q)

-- the first bits are some bits
count-front : (b : Bool) (xs rest : List Bool) → count_to b (length xs) (xs ++ rest) ≡ count_to b (length xs) xs
unfolding count_to
count-front b [] rest = refl
count-front b (x ∷ xs) rest = ap (λ (n : ℕ). counts b x + n) (count-front b xs rest)

-- bits that stand at a place are counted behind those before it
count-there : (b : Bool) (bs xs rest : List Bool) (at : ℕ) → drop at bs ≡ xs ++ rest → count_to b (at + length xs) bs ≡ count_to b at bs + count_to b (length xs) xs
count-there b bs xs rest at e = count_add b at (length xs) bs ∙ ap (λ (n : ℕ). count_to b at bs + n) (ap (count_to b (length xs)) e ∙ count-front b xs rest)

-- ---- What codes take

-- a word with a one
one-counted : (xs : List Bool) → T (holds_one xs) → 1 ≤ count_to true (length xs) xs
unfolding holds_one count_to
one-counted [] h = absurd h
one-counted (true ∷ xs) h = omega arith
one-counted (false ∷ xs) h = let e = one-counted xs h in omega arith

-- a word and then others
count-append : (b : Bool) (xs ys : List Bool) → count_to b (length xs) xs ≤ count_to b (length (xs ++ ys)) (xs ++ ys)
count-append b xs ys =
    let e = count-front b xs ys in
    omega (arith, count-mono b (length xs) (length (xs ++ ys)) (xs ++ ys) (omega (arith, length-append xs ys)))

made_one : (colour : Colour) (n : ℕ) (cs : List Code) → Made colour n cs → 1 ≤ count_to true (length (codes_bits cs)) (codes_bits cs)
unfolding codes_bits
made_one colour n cs (Run.last {c} f h) = let e = one-counted (code_bits c) (shape colour c f.member).has_one in omega (arith, count-append true (code_bits c) [])
made_one colour n cs (Run.next {c} {cs = ds} f h m) = let e = one-counted (code_bits c) (shape colour c f.member).has_one in omega (arith, count-append true (code_bits c) (codes_bits ds))

module _ (bs : List Bool) where
  -- the ones, and the zeros, before a bit
  abbrev pub O : ℕ → ℕ
  O n = count_to true n bs

  abbrev pub Z : ℕ → ℕ
  Z n = count_to false n bs

  -- a run takes a one
  run-one : (colour : Colour) (at : ℕ) (r : Sum) → read_run colour bs at ≡ ok r → O at + 1 ≤ O r.at
  run-one colour at r e =
      let s = stands-codes colour bs at r e in
      let w = subst (Within bs (sum at 0)) e (read-within colour bs at) in
      let l : r.at ≡ at + length (codes_bits s.0) = omega (arith, ap length s.2, length-append (codes_bits s.0) (drop r.at bs), length-drop at bs, length-drop r.at bs) in
      omega (arith, ap O l, count-there true bs (codes_bits s.0) (drop r.at bs) at s.2, made_one colour r.total s.0 s.1)

  -- the zeros of a mode's code, at least
  abbrev zeros_of : Mode → ℕ
  zeros_of pass = 2
  zeros_of horizontal = 2
  zeros_of (VR zero) = 0
  zeros_of (VR (suc k)) = 1
  zeros_of (VL k) = 2

  mode-bits : (m : Mode) → Coded m → (1 ≤ count_to true (length (mode_bits m)) (mode_bits m)) × (zeros_of m ≤ count_to false (length (mode_bits m)) (mode_bits m))
  unfolding mode_bits count_to
  mode-bits m c-pass = (omega arith, omega arith)
  mode-bits m c-horizontal = (omega arith, omega arith)
  mode-bits m (c-right {k = zero} h) = (omega arith, omega arith)
  mode-bits m (c-right {k = suc zero} h) = (omega arith, omega arith)
  mode-bits m (c-right {k = suc (suc zero)} h) = (omega arith, omega arith)
  mode-bits m (c-right {k = suc (suc (suc zero))} h) = (omega arith, omega arith)
  mode-bits m (c-right {k = suc (suc (suc (suc k)))} h) = absurd (omega arith)
  mode-bits m (c-left {k = zero} h) = (omega arith, omega arith)
  mode-bits m (c-left {k = suc zero} h) = (omega arith, omega arith)
  mode-bits m (c-left {k = suc (suc zero)} h) = (omega arith, omega arith)
  mode-bits m (c-left {k = suc (suc (suc k))} h) = absurd (omega arith)

  -- a mode takes a one, and its zeros
  mode-takes : (at : ℕ) (r : Moded) → read_mode bs at ≡ ok r → (O at + 1 ≤ O r.at) × (Z at + zeros_of r.mode ≤ Z r.at)
  mode-takes at r e =
      let m = subst (ModeAt bs at) e (mode_is_at bs at) in
      let h = mode-bits r.mode m.coded in (
        omega (arith, ap O m.next, count-there true bs (mode_bits r.mode) (drop r.at bs) at m.there, h.0),
        omega (arith, ap Z m.next, count-there false bs (mode_bits r.mode) (drop r.at bs) at m.there, h.1),
      )

-- ---- The reference's changes that are still ahead

unfoldable count_from : ℕ → List ℕ → ℕ
count_from least [] = 0
count_from least (x ∷ xs) = cond (leb least x) 1 0 + count_from least xs

-- a change is counted from a bound, and then from any before it
one_from : (least least' x : ℕ) → least ≤ least' → cond (leb least' x) 1 0 ≤ cond (leb least x) 1 0
one_from least least' x h = tests (leb least' x) (leb-true _ _)
  where
    tests : (b : Bool) → (b ≡ true → least' ≤ x) → cond b 1 0 ≤ cond (leb least x) 1 0
    tests true k = rw (le-leb least x (let l = k refl in omega arith)) (omega arith)
    tests false k = omega arith

from-mono : (least least' : ℕ) (xs : List ℕ) → least ≤ least' → count_from least' xs ≤ count_from least xs
unfolding count_from
from-mono least least' [] h = omega arith
from-mono least least' (x ∷ xs) h = omega (arith, one_from least least' x h, from-mono least least' xs h)

from-length : (least : ℕ) (xs : List ℕ) → count_from least xs ≤ length xs
unfolding count_from
from-length least [] = omega arith
from-length least (x ∷ xs) = let h = from-length least xs in tests (leb least x) h
  where
    tests : (b : Bool) → count_from least xs ≤ length xs → cond b 1 0 + count_from least xs ≤ suc (length xs)
    tests true h = omega arith
    tests false h = omega arith

-- of changes that rise only the first can be 0
from_some : {width low : ℕ} {xs : List ℕ} → 0 < low → Rising width low xs → count_from 0 xs ≤ count_from 1 xs
unfolding count_from
from_some h Asc.none = omega arith
from_some h (Asc.some {x} {xs} a b r) = let k : count_from 0 xs ≤ count_from 1 xs = from_some (omega arith) r in rw (le-leb 0 x (omega arith), le-leb 1 x (omega arith)) (omega arith)

from_one : {width low : ℕ} {xs : List ℕ} → Rising width low xs → count_from 0 xs ≤ count_from 1 xs + 1
unfolding count_from
from_one Asc.none = omega arith
from_one (Asc.some {x} {xs} a b r) = let k : count_from 0 xs ≤ count_from 1 xs = from_some (omega arith) r in rw (le-leb 0 x (omega arith)) (omega arith)

-- b1 is one of them, and is passed where the line comes to it
from-taken : (colour turns : Colour) (least low least' : ℕ) (xs ys : List ℕ) (y : ℕ) → from_b1 colour least turns xs ≡ y ∷ ys → low ≤ y → y < least' → low ≤ least'
    → suc (count_from least' xs) ≤ count_from low xs
unfolding count_from from_b1
from-taken colour turns least low least' [] ys y e h k l = absurd (let z : ◌≡◌ {A = ℕ} 0 1 = cc in omega arith)
from-taken colour turns least low least' (x ∷ xs) ys y e h k l = tests (leb least x && differ turns colour) (λ q. from-taken colour (opposite turns) least low least' xs ys y q h k l) e
  where
    tests : (b : Bool) → (from_b1 colour least (opposite turns) xs ≡ y ∷ ys → suc (count_from least' xs) ≤ count_from low xs)
        → elim b as (λ _. List ℕ) [ true ↦ x ∷ xs | false ↦ from_b1 colour least (opposite turns) xs ] ≡ y ∷ ys
        → suc (cond (leb least' x) 1 0 + count_from least' xs) ≤ cond (leb low x) 1 0 + count_from low xs
    tests true ih q = let z : x ≡ y = cc in rw (lt-leb least' x (omega arith), le-leb low x (omega arith)) (omega (arith, from-mono low least' xs l))
    tests false ih q = omega (arith, ih q, one_from low least' x l)

-- b1 lies at the bound or behind it, and where changes rise, with them
from-least : (colour turns : Colour) (least : ℕ) (xs ys : List ℕ) (y : ℕ) → from_b1 colour least turns xs ≡ y ∷ ys → least ≤ y
unfolding from_b1
from-least colour turns least [] ys y e = absurd (let z : ◌≡◌ {A = ℕ} 0 1 = cc in omega arith)
from-least colour turns least (x ∷ xs) ys y e = tests (leb least x) (leb-true least x) (differ turns colour) (from-least colour (opposite turns) least xs ys y) e
  where
    tests : (a : Bool) → (a ≡ true → least ≤ x) → (b : Bool) → (from_b1 colour least (opposite turns) xs ≡ y ∷ ys → least ≤ y)
        → elim (a && b) as (λ _. List ℕ) [ true ↦ x ∷ xs | false ↦ from_b1 colour least (opposite turns) xs ] ≡ y ∷ ys → least ≤ y
    tests true h true ih q = let z : x ≡ y = cc in omega (arith, h refl)
    tests true h false ih q = ih q
    tests false h b ih q = ih q

from-rises : {width low : ℕ} {xs : List ℕ} (colour turns : Colour) (least : ℕ) (ys : List ℕ) (y : ℕ) → Rising width low xs → from_b1 colour least turns xs ≡ y ∷ ys → (low ≤ y) × (y < width)
unfolding from_b1
from-rises colour turns least ys y Asc.none e = absurd (let z : ◌≡◌ {A = ℕ} 0 1 = cc in omega arith)
from-rises {width} {low} colour turns least ys y (Asc.some {x} {xs} a b r) e = tests (leb least x && differ turns colour) (from-rises colour (opposite turns) least ys y r) e
  where
    tests : (b : Bool) → (from_b1 colour least (opposite turns) xs ≡ y ∷ ys → (suc x ≤ y) × (y < width))
        → elim b as (λ _. List ℕ) [ true ↦ x ∷ xs | false ↦ from_b1 colour least (opposite turns) xs ] ≡ y ∷ ys → (low ≤ y) × (y < width)
    tests true ih q = let z : x ≡ y = cc in omega arith
    tests false ih q = let h = ih q in omega arith

-- where the changes ahead begin: at 0 only on a white line at its start
abbrev edge : ℕ → Colour → ℕ
edge zero white = 0
edge zero black = 1
edge (suc p) colour = suc (suc p)

-- further on, of any colour: at most one more is ahead; and of the same colour, none more
edge-near : {width : ℕ} (xs : List ℕ) → Rising width 0 xs → (p q : ℕ) (c d : Colour) → p ≤ q → count_from (edge q d) xs ≤ count_from (edge p c) xs + 1
edge-near xs r zero zero white d h = let k = from-mono 0 (edge 0 d) xs (omega arith) in omega arith
edge-near xs r zero zero black white h = from_one r
edge-near xs r zero zero black black h = omega arith
edge-near xs r (suc p) zero c d h = absurd (omega arith)
edge-near xs r zero (suc q) white d h = let k = from-mono 0 (suc (suc q)) xs (omega arith) in omega arith
edge-near xs r zero (suc q) black d h = let k = from-mono 1 (suc (suc q)) xs (omega arith) in omega arith
edge-near xs r (suc p) (suc q) c d h = let k = from-mono (suc (suc p)) (suc (suc q)) xs (omega arith) in omega arith

edge_same : (xs : List ℕ) (p q : ℕ) (c : Colour) → p ≤ q → count_from (edge q c) xs ≤ count_from (edge p c) xs
edge_same xs zero zero white h = omega arith
edge_same xs zero zero black h = omega arith
edge_same xs (suc p) zero c h = absurd (omega arith)
edge_same xs zero (suc q) white h = from-mono 0 (suc (suc q)) xs (omega arith)
edge_same xs zero (suc q) black h = from-mono 1 (suc (suc q)) xs (omega arith)
edge_same xs (suc p) (suc q) c h = from-mono (suc (suc p)) (suc (suc q)) xs (omega arith)

-- under black, b1 is not the first change
black-b1 : {width y : ℕ} {xs ys : List ℕ} → Rising width 0 xs → from_b1 black 0 black xs ≡ y ∷ ys → 1 ≤ y
unfolding from_b1
black-b1 Asc.none e = absurd (let z : ◌≡◌ {A = ℕ} 0 1 = cc in omega arith)
black-b1 {width} {y} {ys = ys} (Asc.some {x} {xs} a b r) e = tests (leb 0 x) e
  where
    tests : (b : Bool) → elim (b && false) as (λ _. List ℕ) [ true ↦ x ∷ xs | false ↦ from_b1 black 0 white xs ] ≡ y ∷ ys → 1 ≤ y
    tests true q = let h = from-rises black white 0 ys y r q in omega arith
    tests false q = let h = from-rises black white 0 ys y r q in omega arith

-- b1 is ahead,
edge-b1 : {width : ℕ} (xs ys : List ℕ) (y : ℕ) → Rising width 0 xs → (p : ℕ) (c : Colour) → from_b1 c (right_of_a0 p) black xs ≡ y ∷ ys → edge p c ≤ y
unfolding right_of_a0
edge-b1 xs ys y r zero white e = omega arith
edge-b1 xs ys y r zero black e = black-b1 r e
edge-b1 xs ys y r (suc p) c e = from-least c black (suc (suc p)) xs ys y e

-- and behind a line that came to it and turned
edge-past : (y p q : ℕ) (c : Colour) → edge p c ≤ y → p ≤ q → y ≤ q → y < edge q (opposite c)
edge-past y p (suc q) c e h k = omega arith
edge-past y zero zero white e h k = omega arith
edge-past y zero zero black e h k = omega arith
edge-past y (suc p) zero c e h k = absurd (omega arith)

-- ---- Pixels

-- the change that a positive count would record
abbrev pub owed : Line → ℕ
owed s = cond (differ (last_colour s.changes) s.colour) 1 0

pub owed-one : (s : Line) → owed s ≤ 1
owed-one s = tests (differ (last_colour s.changes) s.colour)
  where
    tests : (b : Bool) → cond b 1 0 ≤ 1
    tests true = omega arith
    tests false = omega arith

recorded-few : (s : Line) → length (recorded s) ≤ length s.changes + owed s
unfolding recorded
recorded-few s = tests (differ (last_colour s.changes) s.colour)
  where
    tests : (b : Bool) → length (cond b (s.changes ++ s.position ∷ []) s.changes) ≤ length s.changes + cond b 1 0
    tests true = omega (arith, length-append s.changes (s.position ∷ []))
    tests false = omega arith

-- a count leaves the bit and the colour, goes no further than the width, and records what is owed at most
pub record Pushed (R : Rules) (count : ℕ) (s t : Line) : Type 0 where
  pub stays : t.at ≡ s.at
  pub coloured : t.colour ≡ s.colour
  pub forward : s.position ≤ t.position
  pub fits : t.position ≤ R.width
  pub landed : (t.position ≡ s.position + count) ⊎ (t.position ≡ R.width)
  pub few : length t.changes ≤ length s.changes + owed s

abbrev pub Unpushed : Line → ℕ → Line → Type 0
Unpushed s n t = (t.at ≡ s.at) × (t.changes ≡ s.changes)

add-pushed : (R : Rules) (count : ℕ) (s : Line) → s.position ≤ R.width → count ≤ R.width - s.position → Each (Pushed R count s) (Unpushed s) (add R count s)
unfolding add
add-pushed R count s p h = tests (eqb count 0) (eqb-true count 0) (leb (length (recorded s)) R.room)
  where
    tests : (a : Bool) → (a ≡ true → count ≡ 0) → (b : Bool) → Each (Pushed R count s) (Unpushed s) (cond a (went s) (cond b (went (line s.at (s.position + count) s.colour (recorded s) s.cut)) (failed 4 0 s)))
    tests true z b =
        record { stays = refl; coloured = refl; forward = omega arith; fits = p; landed = inl (let q = z refl in omega arith); few = omega arith }
    tests false z true =
        record { stays = refl; coloured = refl; forward = omega arith; fits = omega arith; landed = inl refl; few = recorded-few s }
    tests false z false = (refl, refl)

pub push-pushed : (R : Rules) (place count : ℕ) (s : Line) → s.position ≤ R.width → Each (Pushed R count s) (Unpushed s) (push R place count s)
unfolding push
push-pushed R place count s p = tests (leb count (R.width - s.position)) (leb-true count (R.width - s.position)) R.strict
  where
    cut-each : (w : Went) → Each (Pushed R (R.width - s.position) (with_cut s)) (Unpushed (with_cut s)) w → Each (Pushed R count s) (Unpushed s) w
    cut-each (went t) f =
        record { stays = f.stays; coloured = f.coloured; forward = f.forward; fits = f.fits; landed = inr (at_width f.landed); few = f.few }
      where
        at_width : (t.position ≡ s.position + (R.width - s.position)) ⊎ (t.position ≡ R.width) → t.position ≡ R.width
        at_width (inl e) = omega arith
        at_width (inr e) = e
    cut-each (failed n q t) f = f

    tests : (a : Bool) → (a ≡ true → count ≤ R.width - s.position) → (b : Bool)
        → Each (Pushed R count s) (Unpushed s) (cond a (add R count s) (cond b (failed 1 place s) (add R (R.width - s.position) (with_cut s))))
    tests true h b = add-pushed R count s p (h refl)
    tests false h true = (refl, refl)
    tests false h false = cut-each (add R (R.width - s.position) (with_cut s)) (add-pushed R (R.width - s.position) (with_cut s) p (omega arith))

-- and with its turn
record PushedOn (R : Rules) (count : ℕ) (s t : Line) : Type 0 where
  pub stays : t.at ≡ s.at
  pub coloured : t.colour ≡ opposite s.colour
  pub forward : s.position ≤ t.position
  pub fits : t.position ≤ R.width
  pub landed : (t.position ≡ s.position + count) ⊎ (t.position ≡ R.width)
  pub few : length t.changes ≤ length s.changes + owed s

turn-pushed : (R : Rules) (place count : ℕ) (s : Line) → s.position ≤ R.width → Each (PushedOn R count s) (Unpushed s) (push_turn R place count s)
turn-pushed R place count s p = cases (push R place count s) (push-pushed R place count s p)
  where
    cases : (w : Went) → Each (Pushed R count s) (Unpushed s) w → Each (PushedOn R count s) (Unpushed s) (next w λ t. went (turned t))
    cases (went t) f = record { stays = f.stays; coloured = ap opposite f.coloured; forward = f.forward; fits = f.fits; landed = f.landed; few = f.few }
    cases (failed n q t) f = f

-- ---- A line

-- what holds of each line that a code makes of one of which it holds, holds at the end
module _ (R : Rules) (k : Kind) (bs : List Bool) (Inv Fin : Line → Type 0)
    (whole : (s : Line) → Inv s → s.position ≡ R.width → Fin s)
    (code : (s : Line) → Inv s → (s.position ≡ R.width → ⊥) → Each Inv (λ n. Fin) (code_of R k bs s)) where
  abbrev Last : Went → Type 0
  Last w = Each Fin (λ n. Fin) w

  line-inv : (s : Line) (r : Went) → ends (line_step R.width (code_of R k bs)) (λ t. length bs - t.at) s ≡ done r → Inv s → Last r
  line-inv s r e = ends-ind (line_step R.width (code_of R k bs)) (λ s r. Inv s → Last r) base goes (λ t. length bs - t.at) s r e
    where
      base : (s : Line) (r : Went) → line_step R.width (code_of R k bs) s ≡ done r → Inv s → Last r
      base s r =
          line-cases R.width (code_of R k bs) s (λ o. o ≡ done r → Inv s → Last r)
          (λ h e i. subst Last (let q : went s ≡ r = cc in q) (whole s i h))
          (λ h t q e i. absurd (let z : ◌≡◌ {A = ℕ} 0 1 = cc in omega arith))
          (λ h n p t q e i. subst Last (let g : failed n p t ≡ r = cc in g) (subst (Each Inv (λ n. Fin)) q (code s i h)))

      goes : (s t : Line) (r : Went) → line_step R.width (code_of R k bs) s ≡ more t → (Inv t → Last r) → Inv s → Last r
      goes s t r =
          line-cases R.width (code_of R k bs) s (λ o. o ≡ more t → (Inv t → Last r) → Inv s → Last r)
          (λ h e f i. absurd (let z : ◌≡◌ {A = ℕ} 0 1 = cc in omega arith))
          (λ h u q e f i. let g : u ≡ t = cc in f (subst Inv g (subst (Each Inv (λ n. Fin)) q (code s i h))))
          (λ h n p u q e f i. absurd (let z : ◌≡◌ {A = ℕ} 0 1 = cc in omega arith))

  read-inv : (start : ℕ) → Inv (new_line start) → Last (read_line R k bs start)
  unfolding read_line line_end
  read-inv start i =
      let p = ends-stops (line_step R.width (code_of R k bs)) (λ u. length bs - u.at) (line-falls R.width (code_of R k bs) bs (moves R k bs)) (new_line start) in
      rw p.1 (line-inv (new_line start) p.0 p.1 i)

-- ---- A 2D line

module _ (R : Rules) (bs : List Bool) (reference : List ℕ) (rising : Rising R.width 0 reference) (start : ℕ) where
  abbrev pub c : ℕ
  c = length reference

  -- the reference's changes ahead of the line
  abbrev ahead : Line → ℕ
  ahead s = count_from (edge s.position s.colour) reference

  -- the changes are paid for by the ones; and by the reference and the zeros
  pub record Paid (s : Line) : Type 0 where
    pub ones : O bs start + length s.changes ≤ O bs s.at
    pub zeros : length s.changes + Z bs start ≤ c + Z bs s.at

  record Thrifty (s : Line) : Type 0 where
    pub fits : s.position ≤ R.width
    pub paid : Paid s
    -- with the change that is owed, and those of the reference that are ahead
    pub saved : (s.position ≡ R.width → ⊥) → length s.changes + owed s + ahead s + Z bs start ≤ c + Z bs s.at

  module _ (s : Line) (h : Thrifty s) (inside : s.position ≡ R.width → ⊥) (m : Moded) (e : read_mode bs s.at ≡ ok m) where
    abbrev s' : Line
    s' = moved_to m.at s

    one_more : O bs s.at + 1 ≤ O bs m.at
    one_more = (mode-takes bs s.at m e).0

    unpushed : (n : ℕ) (t : Line) → Unpushed s' n t → Paid t
    unpushed n t (a, b) = record {
      ones = omega (arith, ap length b, ap (O bs) a, one_more, h.paid.ones);
      zeros = omega (arith, ap length b, ap (Z bs) a, (mode-takes bs s.at m e).1, h.paid.zeros);
    }

    -- a mode with two zeros pays for any one count
    two-zeros : (Z bs s.at + 2 ≤ Z bs m.at) → (t : Line) → t.at ≡ m.at → s.position ≤ t.position → t.position ≤ R.width → length t.changes ≤ length s.changes + owed s → Thrifty t
    two-zeros z t a f g few = record {
      fits = g;
      paid = record { ones = omega (arith, few, owed-one s, ap (O bs) a, one_more, h.paid.ones); zeros = omega (arith, few, ap (Z bs) a, z, h.saved inside) };
      saved = λ n. omega (arith, few, owed-one t, ap (Z bs) a, z, h.saved inside, edge-near reference rising s.position t.position s.colour t.colour f);
    }

    pass-thrifty : (Z bs s.at + 2 ≤ Z bs m.at) → (place count : ℕ) → Each Thrifty (λ n. Paid) (push R place count s')
    pass-thrifty z place count = cases (push R place count s') (push-pushed R place count s' h.fits)
      where
        cases : (w : Went) → Each (Pushed R count s') (Unpushed s') w → Each Thrifty (λ n. Paid) w
        cases (went t) f = two-zeros z t f.stays f.forward f.fits f.few
        cases (failed n p t) f = unpushed n t f

    too_far : (place : ℕ) → Paid s'
    too_far place = unpushed 3 s' (refl, refl)

    -- a move to the left has two zeros
    left-thrifty : (Z bs s.at + 2 ≤ Z bs m.at) → (place a1 : ℕ) → Each Thrifty (λ n. Paid) (vertical R reference place a1 s')
    unfolding vertical
    left-thrifty z place a1 = tests (leb a1 4294967295 && leb s.position a1)
      where
        cases : (w : Went) → Each (PushedOn R (a1 - s.position) s') (Unpushed s') w → Each Thrifty (λ n. Paid) w
        cases (went t) f = two-zeros z t f.stays f.forward f.fits f.few
        cases (failed n p t) f = unpushed n t f

        tests : (b : Bool) → Each Thrifty (λ n. Paid) (cond b (push_turn R place (a1 - s.position) s') (failed 3 place s'))
        tests true = cases (push_turn R place (a1 - s.position) s') (turn-pushed R place (a1 - s.position) s' h.fits)
        tests false = too_far place

    -- one to b1 or to its right passes b1, or comes to the width
    right-thrifty : (place k : ℕ) → Each Thrifty (λ n. Paid) (vertical R reference place (b1 R.width reference s.position s.colour + k) s')
    unfolding vertical
    right-thrifty place k = tests (leb a1 4294967295 && leb s.position a1)
      where
        ahead_of : List ℕ
        ahead_of = from_b1 s.colour (right_of_a0 s.position) black reference

        a1 : ℕ
        a1 = b1 R.width reference s.position s.colour + k

        zs : Z bs s.at ≤ Z bs m.at
        zs = omega (arith, (mode-takes bs s.at m e).1)

        goes : (t : Line) → PushedOn R (a1 - s.position) s' t → (l : List ℕ) → ahead_of ≡ l → Thrifty t
        goes t f l q = record {
          fits = f.fits;
          paid = record { ones = omega (arith, f.few, owed-one s, ap (O bs) f.stays, one_more, h.paid.ones); zeros = omega (arith, f.few, ap (Z bs) f.stays, zs, h.saved inside) };
          saved = λ n. omega (arith, f.few, owed-one t, ap (Z bs) f.stays, zs, h.saved inside, passes l q n);
        }
          where
            passes : (l : List ℕ) → ahead_of ≡ l → (t.position ≡ R.width → ⊥) → suc (ahead t) ≤ ahead s
            passes [] q n = absurd (n (at-end f.landed))
              where
                b : a1 ≡ R.width + k
                b = ap (λ (l : List ℕ). head_or R.width l + k) q

                at-end : (t.position ≡ s.position + (a1 - s.position)) ⊎ (t.position ≡ R.width) → t.position ≡ R.width
                at-end (inl g) = omega (arith, b, f.fits, h.fits)
                at-end (inr g) = g
            passes (y ∷ ys) q n =
                let low = edge-b1 reference ys y rising s.position s.colour q in
                let past = edge-past y s.position t.position s.colour low f.forward (there f.landed) in
                subst (λ (d : Colour). suc (count_from (edge t.position d) reference) ≤ ahead s) (sym f.coloured)
                (from-taken s.colour black (right_of_a0 s.position) (edge s.position s.colour) (edge t.position (opposite s.colour)) reference ys y q low past (omega arith))
              where
                b : a1 ≡ y + k
                b = ap (λ (l : List ℕ). head_or R.width l + k) q

                there : (t.position ≡ s.position + (a1 - s.position)) ⊎ (t.position ≡ R.width) → y ≤ t.position
                there (inl g) = omega (arith, b)
                there (inr g) = omega (arith, (from-rises s.colour black (right_of_a0 s.position) ys y rising q).1)

        cases : (w : Went) → Each (PushedOn R (a1 - s.position) s') (Unpushed s') w → Each Thrifty (λ n. Paid) w
        cases (went t) f = goes t f ahead_of refl
        cases (failed n p t) f = unpushed n t f

        tests : (b : Bool) → Each Thrifty (λ n. Paid) (cond b (push_turn R place (a1 - s.position) s') (failed 3 place s'))
        tests true = cases (push_turn R place (a1 - s.position) s') (turn-pushed R place (a1 - s.position) s' h.fits)
        tests false = too_far place

    -- two runs: each takes a one, and the mode has two zeros; the colour comes back
    horizontal-thrifty : (Z bs s.at + 2 ≤ Z bs m.at) → Each Thrifty (λ n. Paid) (next (push_run R bs s') (push_run R bs))
    unfolding push_run
    horizontal-thrifty z = first_run (read_run s.colour bs m.at) refl
      where
        second : (u : Line) (r : Sum) → read_run s.colour bs m.at ≡ ok r → PushedOn R r.total (moved_to r.at s) u → (x : Res Sum) → read_run u.colour bs u.at ≡ x → Each Thrifty (λ n. Paid) (after_run R u x)
        second u r q f (fault n p) d = record {
          ones = omega (arith, f.few, owed-one s, ap (O bs) f.stays, one_more, run-one bs s.colour m.at r q, h.paid.ones);
          zeros = omega (arith, f.few, ap (Z bs) f.stays, z, zs, h.saved inside);
        }
          where
            zs : Z bs m.at ≤ Z bs r.at
            zs = count-mono false m.at r.at bs (let g = subst (Within bs (sum m.at 0)) q (read-within s.colour bs m.at) in omega arith)
        second u r q f (ok x) d = cases (push_turn R u.at x.total (moved_to x.at u)) (turn-pushed R u.at x.total (moved_to x.at u) f.fits)
          where
            o1 : O bs m.at + 1 ≤ O bs r.at
            o1 = run-one bs s.colour m.at r q

            o2 : O bs u.at + 1 ≤ O bs x.at
            o2 = run-one bs u.colour u.at x d

            z1 : Z bs m.at ≤ Z bs r.at
            z1 = count-mono false m.at r.at bs (let g = subst (Within bs (sum m.at 0)) q (read-within s.colour bs m.at) in omega arith)

            z2 : Z bs u.at ≤ Z bs x.at
            z2 = count-mono false u.at x.at bs (let g = subst (Within bs (sum u.at 0)) d (read-within u.colour bs u.at) in omega arith)

            back : (c : Colour) → opposite (opposite c) ≡ c
            back white = refl
            back black = refl

            cases : (w : Went) → Each (PushedOn R x.total (moved_to x.at u)) (Unpushed (moved_to x.at u)) w → Each Thrifty (λ n. Paid) w
            cases (failed n p t) (a, b) = record {
              ones = omega (arith, ap length b, ap (O bs) a, f.few, owed-one s, ap (O bs) f.stays, one_more, o1, o2, h.paid.ones);
              zeros = omega (arith, ap length b, ap (Z bs) a, f.few, ap (Z bs) f.stays, z, z1, z2, h.saved inside);
            }
            cases (went t) g = record {
              fits = g.fits;
              paid = record {
                ones = omega (arith, g.few, owed-one u, ap (O bs) g.stays, f.few, owed-one s, ap (O bs) f.stays, one_more, o1, o2, h.paid.ones);
                zeros = omega (arith, g.few, owed-one u, ap (Z bs) g.stays, f.few, ap (Z bs) f.stays, z, z1, z2, h.saved inside);
              };
              saved = λ n. omega (arith, g.few, owed-one u, owed-one t, ap (Z bs) g.stays, f.few, ap (Z bs) f.stays, z, z1, z2, h.saved inside, no_more);
            }
              where
                no_more : ahead t ≤ ahead s
                no_more =
                    subst (λ (d : Colour). count_from (edge t.position d) reference ≤ ahead s) (sym (g.coloured ∙ ap opposite f.coloured ∙ back s.colour))
                    (edge_same reference s.position t.position s.colour (omega (arith, f.forward, g.forward)))

        turned-run : (r : Sum) → read_run s.colour bs m.at ≡ ok r → (w : Went) → Each (PushedOn R r.total (moved_to r.at s)) (Unpushed (moved_to r.at s)) w → Each Thrifty (λ n. Paid) (next w (push_run R bs))
        turned-run r q (went u) f = second u r q f (read_run u.colour bs u.at) refl
        turned-run r q (failed n p t) (a, b) = record {
          ones = omega (arith, ap length b, ap (O bs) a, one_more, run-one bs s.colour m.at r q, h.paid.ones);
          zeros = omega (arith, ap length b, ap (Z bs) a, z, zs, h.paid.zeros);
        }
          where
            zs : Z bs m.at ≤ Z bs r.at
            zs = count-mono false m.at r.at bs (let g = subst (Within bs (sum m.at 0)) q (read-within s.colour bs m.at) in omega arith)

        first_run : (x : Res Sum) → read_run s.colour bs m.at ≡ x → Each Thrifty (λ n. Paid) (next (after_run R s' x) (push_run R bs))
        first_run (fault n p) q = unpushed n s' (refl, refl)
        first_run (ok r) q = turned-run r q (push_turn R m.at r.total (moved_to r.at s)) (turn-pushed R m.at r.total (moved_to r.at s) h.fits)

    apply-thrifty : (place : ℕ) (mode : Mode) → (Z bs s.at + zeros_of bs mode ≤ Z bs m.at) → Each Thrifty (λ n. Paid) (apply R reference bs place mode s')
    unfolding apply
    apply-thrifty place pass z = pass-thrifty z place (b2 R.width reference s.position s.colour - s.position)
    apply-thrifty place horizontal z = horizontal-thrifty z
    apply-thrifty place (VR k) z = right-thrifty place k
    apply-thrifty place (VL k) z = tests (leb k (b1 R.width reference s.position s.colour))
      where
        tests : (b : Bool) → Each Thrifty (λ n. Paid) (cond b (vertical R reference place (b1 R.width reference s.position s.colour - k) s') (failed 3 place s'))
        tests true = left-thrifty z place (b1 R.width reference s.position s.colour - k)
        tests false = too_far place

  code-thrifty : (s : Line) → Thrifty s → (s.position ≡ R.width → ⊥) → Each Thrifty (λ n. Paid) (code_2d R reference bs s)
  unfolding code_2d
  code-thrifty s h inside = cases (read_mode bs s.at) refl
    where
      cases : (r : Res Moded) → read_mode bs s.at ≡ r → Each Thrifty (λ n. Paid) (after_mode R reference bs s r)
      cases (ok m) e =
          unless-idle R m.mode s (Each Thrifty (λ n. Paid)) h.paid (apply R reference bs s.at m.mode (moved_to m.at s))
          (apply-thrifty s h inside m e s.at m.mode (mode-takes bs s.at m e).1)
      cases (fault n p) e = h.paid

  -- A 2D line, whole or damaged, is paid for.
  pub line2-paid : Each Paid (λ n. Paid) (read_line R (two reference) bs start)
  unfolding last_colour
  line2-paid =
      read-inv R (two reference) bs Thrifty Paid (λ s h e. h.paid) code-thrifty start
      (record {
        fits = omega arith;
        paid = record { ones = omega arith; zeros = omega arith };
        saved = λ n. let k = from-length 0 reference in omega arith;
      })

-- ---- A 1D line

module _ (R : Rules) (bs : List Bool) (start : ℕ) where
  -- by the ones; and by two bits for each
  record Paid1 (s : Line) : Type 0 where
    pub ones : O bs start + length s.changes ≤ O bs s.at
    pub twice : start + 2 * length s.changes ≤ s.at

  code-paid1 : (s : Line) → (s.position ≤ R.width) × Paid1 s → Each (λ t. (t.position ≤ R.width) × Paid1 t) (λ n. Paid1) (push_run R bs s)
  unfolding push_run
  code-paid1 s (i, h) = cases (read_run s.colour bs s.at) refl
    where
      pushed : (r : Sum) → read_run s.colour bs s.at ≡ ok r → (w : Went) → Each (PushedOn R r.total (moved_to r.at s)) (Unpushed (moved_to r.at s)) w → Each (λ t. (t.position ≤ R.width) × Paid1 t) (λ n. Paid1) w
      pushed r q (went t) f = (
        f.fits,
        record {
          ones = omega (arith, f.few, owed-one s, ap (O bs) f.stays, run-one bs s.colour s.at r q, h.ones);
          twice = omega (arith, f.few, owed-one s, f.stays, run-two-bits s.colour bs s.at r q, h.twice);
        },
      )
      pushed r q (failed n p t) (a, b) = record {
        ones = omega (arith, ap length b, ap (O bs) a, run-one bs s.colour s.at r q, h.ones);
        twice = omega (arith, ap length b, a, run-two-bits s.colour bs s.at r q, h.twice);
      }

      cases : (x : Res Sum) → read_run s.colour bs s.at ≡ x → Each (λ t. (t.position ≤ R.width) × Paid1 t) (λ n. Paid1) (after_run R s x)
      cases (ok r) q = pushed r q (push_turn R s.at r.total (moved_to r.at s)) (turn-pushed R s.at r.total (moved_to r.at s) i)
      cases (fault n p) q = h

  line1-paid : Each Paid1 (λ n. Paid1) (read_line R one bs start)
  line1-paid = read-inv R one bs (λ t. (t.position ≤ R.width) × Paid1 t) Paid1 (λ s h e. h.1) (λ s h n. code-paid1 s h) start (omega arith, record { ones = omega arith; twice = omega arith })

-- ---- A line of a Group 3 page

module _ (S : Settings) (t : Tagging) (bs : List Bool) where
  -- whatever its reference and its room, the line at a bit is not read, and takes two bits for each change
  pub record Unread (at : ℕ) : Type 0 where
    pub never : (room : ℕ) (reference : List ℕ) (l : Line) → line3 S t bs (rules_of S room) reference at t ≡ went l → ⊥
    pub twice : (room : ℕ) (reference : List ℕ) (n place : ℕ) (l : Line) → line3 S t bs (rules_of S room) reference at t ≡ failed n place l → at + 2 * length l.changes ≤ l.at

  -- what a line has cost: a one for each change; and two bits, or one bit and a change of the reference
  pub record Spent (at : ℕ) (reference : List ℕ) (l : Line) : Type 0 where
    pub ones : O bs at + length l.changes ≤ O bs l.at
    pub twice : at + 2 * length l.changes ≤ length reference + l.at

  -- a damaged line: its changes are those of the reference and zeros; or it will not be read a second time either
  pub record Lost (at : ℕ) (reference : List ℕ) (n : ℕ) (l : Line) : Type 0 where
    pub spent : Spent at reference l
    pub again : n ≤ 3 → (length l.changes + Z bs at ≤ length reference + Z bs l.at) ⊎ Unread at

  -- a 1D line that failed with 1 to 3 is not read with another room either
  not_full : {v : Went} {n p : ℕ} {l : Line} → v ≡ failed n p l → n ≤ 3 → Full v → ⊥
  not_full {n = n} e h full = let z : 4 ≡ n = cc in omega arith

  went-full : {v : Went} {l : Line} → v ≡ went l → Full v → ⊥
  went-full e full = let z : ◌≡◌ {A = ℕ} 0 1 = cc in omega arith

  not-both : {v w : Went} {n p : ℕ} {l l' : Line} → v ≡ failed n p l → w ≡ went l' → w ≡ v → ⊥
  not-both e f g = let z : ◌≡◌ {A = ℕ} 0 1 = cc in omega arith

  unread : (room room' start n p : ℕ) (l l' : Line) → read_line (rules_of S room) one bs start ≡ failed n p l → n ≤ 3 → read_line (rules_of S room') one bs start ≡ went l' → ⊥
  unread room room' start n p l l' e h f = tests (leb room room') refl
    where
      tests : (b : Bool) → leb room room' ≡ b → ⊥
      tests true q = not-both e f (unless_not (line-room S.columns S.strict S.exact room room' (leb-true room room' q) one bs start) (not_full e h))
      tests false q = not-both e f (sym (unless_not (line-room S.columns S.strict S.exact room' room (let z : room' < room = leb-false room room' q in omega arith) one bs start) (went-full f)))

  module _ (room : ℕ) (wide : 0 < S.columns) (reference : List ℕ) (rising : Rising S.columns 0 reference) where
    abbrev R : Rules
    R = rules_of S room

    -- a 1D line, from its first bit or behind its tag bit
    one-spent : (at start : ℕ) → at ≤ start → ((room' : ℕ) (r : List ℕ) → line3 S t bs (rules_of S room') r at t ≡ read_line (rules_of S room') one bs start)
        → (w : Went) → read_line R one bs start ≡ w → Each (Spent at reference) (Lost at reference) w
    one-spent at start h same (went l) e =
        let p = subst (Each (Paid1 R bs start) (λ n. Paid1 R bs start)) e (line1-paid R bs start) in
        record { ones = omega (arith, p.ones, count-mono true at start bs h); twice = omega (arith, p.twice) }
    one-spent at start h same (failed n place l) e =
        let p = subst (Each (Paid1 R bs start) (λ n. Paid1 R bs start)) e (line1-paid R bs start) in
        record {
          spent = record { ones = omega (arith, p.ones, count-mono true at start bs h); twice = omega (arith, p.twice) };
          again = λ few. inr (record {
            never = λ room' r l' f. unread room room' start n place l l' e few (sym (same room' r) ∙ f);
            twice = λ room' r m q l' f.
                let p' = subst (Each (Paid1 (rules_of S room') bs start) (λ n. Paid1 (rules_of S room') bs start)) (sym (same room' r) ∙ f) (line1-paid (rules_of S room') bs start) in
                omega (arith, p'.twice);
          });
        }

    -- a 2D line behind its tag bit
    both-spent : (at : ℕ) → at < length bs → (l : Line) → l.at ≤ length bs → Paid R bs reference rising (suc at) l → Spent at reference l
    both-spent at h l i p = record {
      ones = omega (arith, p.ones, count-mono true at (suc at) bs (omega arith));
      twice = omega (arith, p.ones, p.zeros, count-both (suc at) bs (omega arith), count-both l.at bs i);
    }

    two-spent : (at : ℕ) → at < length bs → (w : Went) → read_line R (two reference) bs (suc at) ≡ w → Each (Spent at reference) (Lost at reference) w
    two-spent at h (went l) e =
        both-spent at h l (read_whole R wide (two reference) bs (suc at) l e).inside (subst (Each (Paid R bs reference rising (suc at)) (λ n. Paid R bs reference rising (suc at))) e (line2-paid R bs reference rising (suc at)))
    two-spent at h (failed n place l) e =
        let p = subst (Each (Paid R bs reference rising (suc at)) (λ n. Paid R bs reference rising (suc at))) e (line2-paid R bs reference rising (suc at)) in
        let b = read-broken R wide (two reference) bs (suc at) (length bs) (data-bound bs) (omega arith) n place l e in
        record { spent = both-spent at h l b.line.inside p; again = λ few. inl (omega (arith, p.zeros, count-mono false at (suc at) bs (omega arith))) }

    pub line-spent : (at : ℕ) → Each (Spent at reference) (Lost at reference) (line3 S t bs R reference at t)
    line-spent at = kinds t refl
      where
        tags : t ≡ tagged → (b : Bool) → front_bit (drop at bs) ≡ b → (i : ltb at (length bs) ≡ true) → Each (Spent at reference) (Lost at reference) (tagged_line S t bs R reference at b)
        tags e true q i = one-spent at (suc at) (omega arith) (λ room' r. rw (e, i, q)) (read_line R one bs (suc at)) refl
        tags e false q i = two-spent at (ltb-true at (length bs) i) (read_line R (two reference) bs (suc at)) refl

        there : t ≡ tagged → (b : Bool) → ltb at (length bs) ≡ b → Each (Spent at reference) (Lost at reference) (line_of_tag S t bs R reference at b)
        there e true i = tags e (front_bit (drop at bs)) refl i
        there e false i = record { spent = record { ones = omega arith; twice = omega arith }; again = λ few. inl (omega arith) }

        kinds : (u : Tagging) → t ≡ u → Each (Spent at reference) (Lost at reference) (line3 S t bs R reference at u)
        kinds untagged e = one-spent at at (omega arith) (λ room' r. rw e) (read_line R one bs at) refl
        kinds tagged e = there e (ltb at (length bs)) refl
