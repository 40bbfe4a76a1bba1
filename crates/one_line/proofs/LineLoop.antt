-- The loop over the codes of a 2D line: what holds at its head, and what each way through a turn makes of it. Assumes nothing.
use mathlib.Core.Path.{◌≡◌, refl, sym, ap, ◌∙◌, subst}
use mathlib.Core.Bool.{Bool}
use mathlib.Core.List.{List, ◌++◌}
use Prim.Native.Nat.{ℕ, ◌+◌, ◌-◌, ◌*◌, ◌≤◌, ◌<◌}
use native.Mathlib.Omega.{arith}
use lib.ListN.{length, take, drop, length-append, take-append-drop}
use borrow.Rule.Slice.PartMut.{mid_of, put_mid, same_len_mid}
use Rattle.std.specs.Prelude.{Result, Ok, Err, IsErrAnd}
use Rattle.rules.specs.Bits.{bits_of}
use Rattle.rules.specs.Lines as Rule
use Rattle.rules.specs.Lines.{Rules, Went, failed, new_line, right_of_a0, code_2d, two, code_of, line_end, read_line}
use Rattle.rules.specs.Pages.{overlaid}
use Rattle.rules.proofs.Ahead.{b2-ahead}
use Rattle.rules.proofs.Bits.{length-bits_of}
use Rattle.rules.proofs.Grows.{Grows, GrowsTo, code_2d-grows}
use Rattle.rules.proofs.Lines.{moves, line-more, line-failed, line-done}
use Rattle.rules.specs.Rising.{Rising}
use Rattle.tables.specs.Tables.{colour_of}
use Rattle.context.specs.declared.line.Line.{Line}
use Rattle.context.specs.declared.reference.FoundChanges.{FoundChanges}
use Rattle.context.specs.declared.step.Rules as Code
use Rattle.context.specs.declared.step.Stop.{Stop}
use Rattle.context.specs.declared.reference.Reference.{Reference}
use Rattle.context.specs.State.{new_for, rules_for, changes_of, Holds}
use Rattle.context.specs.Outcome.{Step, stop_at, Steps}
use Rattle.context.specs.Reference.{Passed, Finds}
use Rattle.context.specs.Coding.{Coding, Coded, reference_in, Placed, Seeks, Lines, StepsAt}
use Rattle.context.proofs.Search.{right-grows, passed_none, passed_on}
use Rattle.context.proofs.RowPart.{placed-base, placed-as, reference-same, row-lent, row_back, back-front, back-row}
use Rattle.context.proofs.Carried.{Carries, carries-length, carries-holds, carries-step, carries-on, overlaid-none, step-on, step-stop}

-- what `?` passes up is the fault that it met
pub passed-up : {T E : Type 0} (r : Result T E) (e : E) → IsErrAnd r (λ y. y ≡ e) → r ≡ Err e
passed-up (Ok x) e p = absurd p
passed-up (Err y) e p = ap Err p

-- what the loop is given
pub record Task : Type 0 where
  pub bytes : List ℕ
  pub reference : List ℕ
  pub xs : List ℕ
  pub base : ℕ
  pub place : Reference
  pub width : ℕ
  pub at : ℕ
  pub rules : Code.Rules

abbrev pub Asked : Task → Type 0
Asked T = Lines T.bytes T.reference T.xs T.base T.place T.width T.at

abbrev bs : Task → List Bool
bs T = bits_of T.bytes

-- the row as it was, its rules, and its reference
abbrev row : Task → List ℕ
row T = drop T.base T.xs

abbrev R : Task → Rules
R T = rules_for T.width T.rules (row T)

abbrev ref : Task → List ℕ
ref T = reference_in T.place T.base T.reference T.xs

abbrev pub code : Task → Rule.Line → Went
code T = code_of (R T) (two (ref T)) (bs T)

abbrev pub whole : Task → Went
whole T = read_line (R T) (two (ref T)) (bs T) T.at

-- The line of the rules that the code's line, bit and array carry, and the changes that the searches have passed; what is left of it is the
-- whole, and what lies before the row is as it was.
pub record Reading (T : Task) (l : Line) (at seen : ℕ) (zs : List ℕ) : Type 0 where
  pub asked : Asked T
  pub s : Rule.Line
  pub carries : Carries T.width (row T) s l (drop T.base zs)
  pub front : take T.base zs ≡ take T.base T.xs
  pub place_is : at ≡ s.at
  pub inside : s.at ≤ length (bs T)
  pub passed : Passed (right_of_a0 s.position) seen (ref T)
  pub same : whole T ≡ line_end T.width (code T) (bs T) s

pub reading-new : {T : Task} → Asked T → Reading T (new_for T.width) T.at 0 T.xs
unfolding read_line
reading-new {T} h = record {
  asked = h;
  s = new_line T.at;
  carries = record { line-is = refl; store = overlaid-none (row T); fits = omega arith; roomy = omega arith; narrow = h.starts.narrow };
  front = refl;
  place_is = refl;
  inside = omega (arith, h.starts.loading.inside, length-bits_of T.bytes);
  passed = passed_none _ (ref T);
  same = refl;
}

module _ {T : Task} {l : Line} {at seen : ℕ} {zs : List ℕ} (g : Reading T l at seen zs) where
  abbrev h : Asked T
  h = g.asked

  abbrev s : Rule.Line
  s = g.s

  abbrev k : Carries T.width (row T) s l (drop T.base zs)
  k = g.carries

  inside-base : T.base ≤ length T.xs
  inside-base = placed-base T.place T.base T.xs h.placed

  pub reading-length : length zs ≡ length T.xs
  reading-length =
      let t = ap length g.front in
      let d = carries-length k in
      omega (arith, sizes zs, sizes T.xs)
    where
      sizes : (l : List ℕ) → length (take T.base l) + length (drop T.base l) ≡ length l
      sizes l = sym (length-append (take T.base l) (drop T.base l)) ∙ ap length (take-append-drop T.base l)

  -- a row that is as long as it was lent comes back so
  pub reading-back : (ys : List ℕ) → length ys ≡ length (mid_of T.base (length zs - T.base) zs) → length (put_mid T.base (length zs - T.base) zs ys) ≡ length T.xs
  reading-back ys e = same_len_mid T.base (length zs - T.base) zs ys e ∙ reading-length

  pub reading-room : T.base ≤ length zs
  reading-room = omega (arith, reading-length, inside-base)

  placed : Placed T.place T.base zs
  placed = placed-as T.place T.base T.xs zs reading-length h.placed

  pub reading-reference : reference_in T.place T.base T.reference zs ≡ ref T
  reading-reference = reference-same T.place T.base T.reference T.xs zs h.placed placed g.front

  array-is : zs ≡ take T.base T.xs ++ overlaid s.changes (row T)
  array-is = sym (take-append-drop T.base zs) ∙ (λ i. g.front i ++ k.store i)

  pub reading-position : l.position ≡ s.position
  reading-position = ap (λ (m : Line). m.position) k.line-is

  pub reading-width : l.width ≡ T.width
  reading-width = ap (λ (m : Line). m.width) k.line-is

  pub reading-holds : Holds (drop T.base zs) l
  reading-holds = carries-holds k

  pub reading-done : l.position ≡ l.width → StepsAt T.base T.width T.xs (whole T) (Ok (l, at)) zs
  reading-done e =
      rw (g.same ∙ line-done T.width (code T) (bs T) (moves (R T) (two (ref T)) (bs T)) s (sym reading-position ∙ e ∙ reading-width))
      (record { answer = λ i. Ok (k.line-is i, g.place_is i); store = array-is })

  module _ (t : l.position ≡ l.width → ⊥) where
    short : s.position ≡ T.width → ⊥
    short e = t (reading-position ∙ e ∙ sym reading-width)

    pub reading-seeks : Seeks T.place T.base T.reference zs seen l
    reading-seeks = record {
      placed = placed;
      searches = rw reading-reference (record {
        rising = subst (λ (n : ℕ). Rising n 0 (ref T)) (sym reading-width) h.rising;
        passed = subst (λ (n : ℕ). Passed (right_of_a0 n) seen (ref T)) (sym reading-position) g.passed;
        narrow = omega (arith, reading-position, k.fits, k.narrow);
        two_colours = reading-holds.coloured;
      });
    }

    module _ {f : FoundChanges} (q : Finds (reference_in T.place T.base T.reference zs) l.width l.position (colour_of l.colour) f) where
      finds : Finds (ref T) l.width l.position (colour_of l.colour) f
      finds = subst (λ (r : List ℕ). Finds r l.width l.position (colour_of l.colour) f) reading-reference q

      pub reading-codes : Coding T.bytes (mid_of T.base (length zs - T.base) zs) l at f.b2
      reading-codes = rw (row-lent zs T.base) (record {
        reads = record { loading = record { size = h.starts.loading.size; inside = omega (arith, g.place_is, g.inside, length-bits_of T.bytes) }; holds = reading-holds };
        short = let n = short in omega (arith, reading-position, reading-width, k.fits);
        ahead = rw finds.b2-is (b2-ahead l.width (ref T) l.position (colour_of l.colour) (subst (λ (n : ℕ). Rising n 0 (ref T)) (sym reading-width) h.rising) reading-holds.fits);
      })

      module _ (r : Step) (ys : List ℕ) (c : Coded T.bytes (mid_of T.base (length zs - T.base) zs) l at f.b1 f.b2 T.rules r ys) where
        steps : Steps T.width (row T) (code_2d (R T) (ref T) (bs T) s) r ys
        steps =
            carries-step k T.rules (λ R s. code_2d R (ref T) (bs T) s) (code_2d-grows (R T) (ref T) (bs T) s) r ys
            (rw (row-lent zs T.base, g.place_is) at (c (ref T) finds.b1-is finds.b2-is))

        -- where the code comes to an outcome, so does the array
        array-after : (o : Went) → code_2d (R T) (ref T) (bs T) s ≡ o → put_mid T.base (length zs - T.base) zs ys ≡ take T.base T.xs ++ overlaid (changes_of o) (row T)
        array-after o e = row_back zs T.base reading-room ys ∙ (λ i. g.front i ++ (steps.store ∙ ap (λ (o : Went). overlaid (changes_of o) (row T)) e) i)

        pub reading-stop : {f : Stop} → r ≡ Err f → StepsAt T.base T.width T.xs (whole T) (Err f) (put_mid T.base (length zs - T.base) zs ys)
        reading-stop {f} e =
            let (u, o, same) = step-stop T.width (code_2d (R T) (ref T) (bs T) s) f (sym e ∙ steps.answer) in
            rw (g.same ∙ line-failed T.width (code T) (bs T) (moves (R T) (two (ref T)) (bs T)) s u f.number f.place short o)
            (record { answer = ap (λ (l : Line). Err (stop_at f.number l f.place)) same; store = array-after (failed f.number f.place u) o })

        pub reading-less : {m : Line} {after : ℕ} → r ≡ Ok (m, after) → (at < after) × (after ≤ 8 * length T.bytes)
        reading-less {m} {after} e =
            let (u, o, same, there) = step-on T.width (code_2d (R T) (ref T) (bs T) s) m after (sym e ∙ steps.answer) in
            omega (arith, g.place_is, there, moves (R T) (two (ref T)) (bs T) s u o, length-bits_of T.bytes)

        pub reading-on : {m : Line} {after : ℕ} → r ≡ Ok (m, after) → Reading T m after f.seen (put_mid T.base (length zs - T.base) zs ys)
        reading-on {m} {after} e =
            let (u, o, same, there) = step-on T.width (code_2d (R T) (ref T) (bs T) s) m after (sym e ∙ steps.answer) in
            let grows : Grows (R T) s u = subst (GrowsTo (R T) s) o (code_2d-grows (R T) (ref T) (bs T) s) in
            rw (row_back zs T.base reading-room ys) (record {
              asked = h;
              s = u;
              carries =
                  rw (back-row zs T.base reading-room ys)
                  (carries-on k T.rules u m ys same grows (steps.store ∙ ap (λ (o : Went). overlaid (changes_of o) (row T)) o));
              front = back-front zs T.base reading-room ys ∙ g.front;
              place_is = there;
              inside = (moves (R T) (two (ref T)) (bs T) s u o).1;
              passed = passed_on finds.passed (right-grows l.position u.position (omega (arith, reading-position, grows.further)));
              same = g.same ∙ line-more T.width (code T) (bs T) (moves (R T) (two (ref T)) (bs T)) s u short o;
            })
