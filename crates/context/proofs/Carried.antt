-- A line of the code and its slice, as they stand while a line of the rules is read; and what a push or a step makes of them.
-- Assumes nothing.
use mathlib.Core.Path.{◌≡◌, refl, sym, ap, ◌∙◌, subst}
use mathlib.Core.Bool.{Bool, true, false, cond}
use mathlib.Core.List.{List, [], ◌++◌}
use Prim.Native.Nat.{ℕ, ◌+◌, ◌-◌, ◌≤◌, ◌<◌}
use native.Mathlib.Omega.{arith}
use lib.Dec.{eqb, leb}
use lib.ListN.{length, take, drop, length-append, length-drop}
use lib.Seq.{drop-append-add, drop-drop, take_at}
use Rattle.std.specs.Prelude.{Ok, Err}
use Rattle.rules.specs.Codes.{Colour, white, black}
use Rattle.rules.specs.Lines as Rule
use Rattle.rules.specs.Lines.{Rules, Went, went, failed, moved_to, turned, with_cut, recorded, add, push}
use Rattle.rules.specs.Pages.{overlaid}
use Rattle.rules.proofs.Grows.{Grows, GrowsTo, push-grows, behind}
use Rattle.context.specs.declared.line.Line.{Line}
use Rattle.context.specs.declared.line.PushFault.{PushFault}
use Rattle.context.specs.declared.step.Rules as Code
use Rattle.context.specs.declared.step.Stop.{Stop}
use Rattle.context.specs.State.{line_at, line_for, turned_for, rules_for, push_rules, Holds, changes_of, Push, push_for, Comes, Pushes, colour_number, flag_number}
use Rattle.context.specs.Outcome.{place_for, Step, step_for, Steps}
use Rattle.context.proofs.State.{line-for, at_line, overlaid-same}

-- ---- Slices whose front is written

-- a longer front takes the place of a shorter one
pub overlaid-over : (zs ys xs : List ℕ) → length ys ≤ length zs → overlaid zs (overlaid ys xs) ≡ overlaid zs xs
unfolding overlaid
overlaid-over zs ys xs h =
    ap (λ (n : ℕ). zs ++ drop n (ys ++ drop (length ys) xs)) split
    ∙ ap (λ (t : List ℕ). zs ++ t) (drop-append-add ys (drop (length ys) xs) (length zs - length ys) ∙ drop-drop (length zs - length ys) (length ys) xs)
    ∙ ap (λ (n : ℕ). zs ++ drop n xs) (sym split)
  where
    split : length zs ≡ length ys + (length zs - length ys)
    split = omega arith

pub overlaid-length : (ys xs : List ℕ) → length ys ≤ length xs → length (overlaid ys xs) ≡ length xs
unfolding overlaid
overlaid-length ys xs h = omega (arith, length-append ys (drop (length ys) xs), length-drop (length ys) xs)

-- the front itself
pub front_of : (n : ℕ) (qs xs ys : List ℕ) → n ≡ length qs → ys ≡ overlaid qs xs → take n ys ≡ qs
unfolding overlaid
front_of n qs xs ys e s = ap (take n) s ∙ take_at qs (drop (length qs) xs) n (sym e)

-- no front at all
pub overlaid-none : (xs : List ℕ) → xs ≡ overlaid [] xs
unfolding overlaid
overlaid-none xs = refl

-- ---- A push's bit

-- a push leaves the line's bit, and fails at the bit that it is told, or at none
Placed : ℕ → ℕ → Went → Type 0
Placed at place (went t) = t.at ≡ at
Placed at place (failed n p t) = p ≡ place_for n place

push-placed : (R : Rules) (place count : ℕ) (s : Rule.Line) → Placed s.at place (push R place count s)
unfolding push add Placed
push-placed R place count s = tests (leb count (R.width - s.position)) R.strict
  where
    added : (count : ℕ) (c : Bool) → Placed s.at place (add R count (Rule.line s.at s.position s.colour s.changes c))
    added count d = by (eqb count 0) (leb (length (recorded u)) R.room)
      where
        u : Rule.Line
        u = Rule.line s.at s.position s.colour s.changes d

        by : (b c : Bool) → Placed s.at place (cond b (went u) (cond c (went (Rule.line s.at (s.position + count) s.colour (recorded u) d)) (failed 4 0 u)))
        by true c = refl
        by false true = refl
        by false false = refl

    tests : (b c : Bool) → Placed s.at place (cond b (add R count s) (cond c (failed 1 place s) (add R (R.width - s.position) (with_cut s))))
    tests true c = added count s.cut
    tests false true = refl
    tests false false = added (R.width - s.position) true

pub push_at : (R : Rules) (place count : ℕ) (s t : Rule.Line) → push R place count s ≡ went t → t.at ≡ s.at
unfolding Placed
push_at R place count s t e = subst (Placed s.at place) e (push-placed R place count s)

pub push-place : (R : Rules) (place count : ℕ) (s t : Rule.Line) (n p : ℕ) → push R place count s ≡ failed n p t → p ≡ place_for n place
unfolding Placed
push-place R place count s t n p e = subst (Placed s.at place) e (push-placed R place count s)

-- what is idle has no part in it
pub push-same : (width : ℕ) (rules : Code.Rules) (xs : List ℕ) (place count : ℕ) (s : Rule.Line) → push (push_rules width rules.strict xs) place count s ≡ push (rules_for width rules xs) place count s
unfolding push add
push-same width rules xs place count s = refl

-- ---- What is carried

pub record Carries (width : ℕ) (xs : List ℕ) (s : Rule.Line) (l : Line) (ys : List ℕ) : Type 0 where
  pub line-is : l ≡ line_for width s
  pub store : ys ≡ overlaid s.changes xs
  pub fits : s.position ≤ width
  pub roomy : length s.changes ≤ length xs
  pub narrow : width < 4294967295

-- a line that a function is given
pub carries-new : (xs : List ℕ) (l : Line) (at : ℕ) → Holds xs l → Carries l.width xs (line_at at xs l) l xs
carries-new xs l at h = record {
  line-is = sym (line-for xs l h at);
  store = overlaid-same l.changes xs h.held;
  fits = h.fits;
  roomy = omega (arith, ap (λ (m : Line). m.changes) (line-for xs l h at), h.held);
  narrow = h.narrow;
}

pub colour-small : (c : Colour) → colour_number c ≤ 1
colour-small white = omega arith
colour-small black = omega arith

flag_small : (b : Bool) → flag_number b ≤ 1
flag_small true = omega arith
flag_small false = omega arith

pub turned-is : (width : ℕ) (s : Rule.Line) → turned_for (line_for width s) ≡ line_for width (turned s)
turned-is width s = λ i. record { width = width; position = s.position; changes = length s.changes; colour = opposite-is s.colour i; cut = flag_number s.cut }
  where
    opposite-is : (c : Colour) → 1 - colour_number c ≡ colour_number (turned (Rule.line 0 0 c [] false)).colour
    opposite-is white = refl
    opposite-is black = refl

module _ {width : ℕ} {xs : List ℕ} {s : Rule.Line} {l : Line} {ys : List ℕ} (k : Carries width xs s l ys) where
  pub carries-length : length ys ≡ length xs
  carries-length = ap length k.store ∙ overlaid-length s.changes xs k.roomy

  pub carries-holds : Holds ys l
  carries-holds =
      subst (Holds ys) (sym k.line-is)
      record {
        narrow = k.narrow;
        fits = k.fits;
        held = omega (arith, carries-length, k.roomy);
        coloured = colour-small s.colour;
        flagged = flag_small s.cut;
      }

  -- the code's line stands for the rules', at any bit
  pub carries-line : (at : ℕ) → line_at at ys l ≡ moved_to at s
  carries-line at =
      ap (λ (m : Line). line_at at ys m) k.line-is
      ∙ ap (λ (zs : List ℕ). line_at at zs (line_for width s)) k.store
      ∙ ap (moved_to at) (at_line width xs s)

  carries-width : l.width ≡ width
  carries-width = ap (λ (m : Line). m.width) k.line-is

  rules-same : (rules : Code.Rules) → rules_for l.width rules ys ≡ rules_for width rules xs
  rules-same rules = λ i. record { width = carries-width i; strict = rules.strict; exact = rules.exact; room = carries-length i }

  -- an outcome for the slice as it stands is one for the slice as it was
  module _ (rules : Code.Rules) where
    abbrev R : Rules
    R = rules_for width rules xs

    store-on : (w : Went) (zs : List ℕ) → GrowsTo R s w → zs ≡ overlaid (changes_of w) ys → zs ≡ overlaid (changes_of w) xs
    store-on w zs g e = e ∙ ap (overlaid (changes_of w)) k.store ∙ overlaid-over (changes_of w) s.changes xs g.longer

    pub carries-push : (count : ℕ) (r : Push) (zs : List ℕ) → Pushes ys l count rules.strict r zs → (at place : ℕ) → Comes width xs (push R place count (moved_to at s)) r zs
    carries-push count r zs p at place =
        let u = p at place in
        let w = push R place count (moved_to at s) in
        let e : push (push_rules l.width rules.strict ys) place count (line_at at ys l) ≡ w = push-same l.width rules ys place count (line_at at ys l) ∙ (λ i. push (rules-same rules i) place count (carries-line at i)) in
        record {
          answer = u.answer ∙ (λ i. push_for (carries-width i) (e i));
          store = store-on w zs (behind R s at w (push-grows R place count (moved_to at s))) (u.store ∙ ap (λ (w : Went). overlaid (changes_of w) ys) e);
        }

    -- the same of a step, whatever it does
    pub carries-step : (does : Rules → Rule.Line → Went) → GrowsTo R s (does R s)
        → (r : Step) (zs : List ℕ) → Steps l.width ys (does (rules_for l.width rules ys) (line_at s.at ys l)) r zs → Steps width xs (does R s) r zs
    carries-step does g r zs u =
        let w = does R s in
        let e : does (rules_for l.width rules ys) (line_at s.at ys l) ≡ w = λ i. does (rules-same rules i) (carries-line s.at i) in
        record {
          answer = u.answer ∙ (λ i. step_for (carries-width i) (e i));
          store = store-on w zs g (u.store ∙ ap (λ (w : Went). overlaid (changes_of w) ys) e);
        }

    -- a line that goes on is carried on
    pub carries-on : (t : Rule.Line) (m : Line) (zs : List ℕ) → m ≡ line_for width t → Grows R s t → zs ≡ overlaid t.changes xs → Carries width xs t m zs
    carries-on t m zs e g q = record { line-is = e; store = q; fits = g.fits k.fits; roomy = g.roomy k.roomy; narrow = k.narrow }

-- ---- Which outcome an answer stands for

pub push-on : (width : ℕ) (w : Went) (m : Line) → Ok m ≡ push_for width w → (t : Rule.Line) × (w ≡ went t) × (m ≡ line_for width t)
push-on width (went t) m e = (t, refl, cc)
push-on width (failed n p t) m e = absurd (let z : ◌≡◌ {A = ℕ} 0 1 = cc in omega arith)

pub push-stop : (width : ℕ) (w : Went) (f : PushFault) → Err f ≡ push_for width w → (p : ℕ) × (t : Rule.Line) × (w ≡ failed f.number p t) × (f.line ≡ line_for width t)
push-stop width (failed n p t) f e = (p, t, (let q : n ≡ f.number = cc in ap (λ (n : ℕ). failed n p t) q), cc)
push-stop width (went t) f e = absurd (let z : ◌≡◌ {A = ℕ} 0 1 = cc in omega arith)

pub step-on : (width : ℕ) (w : Went) (m : Line) (at : ℕ) → Ok (m, at) ≡ step_for width w → (t : Rule.Line) × (w ≡ went t) × (m ≡ line_for width t) × (at ≡ t.at)
step-on width (went t) m at e =
    let q : ◌≡◌ {A = Line × ℕ} (m, at) (line_for width t, t.at) = cc in
    (t, refl, ap (λ (p : Line × ℕ). p.0) q, ap (λ (p : Line × ℕ). p.1) q)
step-on width (failed n p t) m at e = absurd (let z : ◌≡◌ {A = ℕ} 0 1 = cc in omega arith)

pub step-stop : (width : ℕ) (w : Went) (f : Stop) → Err f ≡ step_for width w → (t : Rule.Line) × (w ≡ failed f.number f.place t) × (f.line ≡ line_for width t)
step-stop width (failed n p t) f e = (t, (let q : n ≡ f.number = cc in let r : p ≡ f.place = cc in λ i. failed (q i) (r i) t), cc)
step-stop width (went t) f e = absurd (let z : ◌≡◌ {A = ℕ} 0 1 = cc in omega arith)
