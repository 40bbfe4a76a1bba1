-- The loop over runs: what holds at its head, and what each way through a turn makes of it. Assumes nothing.
use mathlib.Core.Path.{◌≡◌, refl, sym, ap, ◌∙◌, subst}
use mathlib.Core.Bool.{Bool, true, false}
use mathlib.Core.List.{List}
use Prim.Native.Nat.{ℕ, zero, suc, ◌+◌, ◌-◌, ◌*◌, ◌≤◌, ◌<◌}
use native.Mathlib.Omega.{arith}
use lib.Dec.{eqb}
use lib.ListN.{length}
use borrow.Author.Tests.{eqb-true, eqb-false, ltb-true, ltb-false, not-true, not-false}
use Rattle.std.specs.Prelude.{Ok, Err}
use Rattle.rules.specs.Bits.{bits_of}
use Rattle.rules.specs.Runs.{Res, ok, fault, Sum, sum, read_run}
use Rattle.rules.specs.Lines as Rule
use Rattle.rules.specs.Lines.{Rules, Went, went, failed, next, turned, moved_to, push, after_run, push_run, one, code_of, line_end}
use Rattle.rules.specs.Pages.{overlaid}
use Rattle.rules.proofs.Bits.{length-bits_of}
use Rattle.rules.proofs.Grows.{Grows, GrowsTo, push_run-grows}
use Rattle.rules.proofs.Lines.{moves, line-more, line-failed, line-done}
use Rattle.rules.proofs.Runs.{Within, read-within}
use Rattle.tables.specs.Tables.{colour_of}
use Rattle.bit_reader.specs.Loaded.{Loaded, LoadedAt}
use Rattle.bit_reader.specs.declared.buffer.Buffer.{Buffer}
use Rattle.answer.specs.Answer.{number_of}
use Rattle.codes.specs.declared.fault.Fault.{Fault}
use Rattle.codes.specs.Runs.{RunRead}
use Rattle.context.specs.declared.line.Line.{Line}
use Rattle.context.specs.declared.line.PushFault.{PushFault}
use Rattle.context.specs.declared.step.Rules as Code
use Rattle.context.specs.State.{line_at, line_for, turned_for, rules_for, changes_of, Holds, Push, Comes, Pushes}
use Rattle.context.specs.Outcome.{place_for, stop_at, Steps, runs_from, does_go_on}
use Rattle.context.proofs.State.{colour-number}
use Rattle.context.proofs.Carried.{Carries, carries-new, carries-length, carries-holds, carries-push, carries-on, turned-is, colour-small, push-on, push-stop, push_at, push-place}

-- ---- What is left to read, after so many runs

module _ (R : Rules) (bs : List Bool) where
  pub times : ℕ → Rule.Line → Went
  times zero s = went s
  times (suc n) s = next (push_run R bs s) (times n)

  pub rest : Bool → ℕ → Rule.Line → Went
  rest true count s = times (2 - count) s
  rest false count s = line_end R.width (code_of R one bs) bs s

  -- at the start it is all of them
  rest-whole : (two : Bool) (s : Rule.Line) → rest two 0 s ≡ runs_from R two bs s
  unfolding rest times
  rest-whole false s = refl
  rest-whole true s = cases (push_run R bs s) (λ t. last (push_run R bs t))
    where
      last : (w : Went) → next w went ≡ w
      last (went t) = refl
      last (failed n p t) = refl

      cases : (w : Went) → ((t : Rule.Line) → next (push_run R bs t) went ≡ push_run R bs t) → next w (λ t. next (push_run R bs t) went) ≡ next w (push_run R bs)
      cases (went t) h = h t
      cases (failed n p t) h = refl

  -- another run, and then the rest
  rest_more : (two : Bool) (count : ℕ) (s : Rule.Line) → does_go_on two count (line_for R.width s) ≡ true → rest two count s ≡ next (push_run R bs s) (rest two (count + 1))
  unfolding rest times
  rest_more true count s g =
      let h = ltb-true count 2 g in
      let e : 2 - count ≡ suc (2 - (count + 1)) = omega arith in
      rw e
  rest_more false count s g = cases (push_run R bs s) refl
    where
      short : s.position ≡ R.width → ⊥
      short e = eqb-false s.position R.width (not-true (eqb s.position R.width) g) e

      cases : (w : Went) → push_run R bs s ≡ w → line_end R.width (push_run R bs) bs s ≡ next w (λ t. line_end R.width (push_run R bs) bs t)
      cases (went t) e = line-more R.width (push_run R bs) bs (moves R one bs) s t short e
      cases (failed n p t) e = line-failed R.width (push_run R bs) bs (moves R one bs) s t n p short e

  -- no other run
  rest-done : (two : Bool) (count : ℕ) (s : Rule.Line) → does_go_on two count (line_for R.width s) ≡ false → rest two count s ≡ went s
  unfolding rest times
  rest-done true count s g =
      let h = ltb-false count 2 g in
      let e : 2 - count ≡ 0 = omega arith in
      rw e
  rest-done false count s g = line-done R.width (push_run R bs) bs (moves R one bs) s (eqb-true s.position R.width (not-false (eqb s.position R.width) g))

-- ---- The head of the loop

-- what the loop is given
pub record Task : Type 0 where
  pub bytes : List ℕ
  pub xs : List ℕ
  pub two : Bool
  pub rules : Code.Rules
  pub line : Line
  pub at : ℕ

abbrev width_of : Task → ℕ
width_of T = T.line.width

abbrev R : Task → Rules
R T = rules_for T.line.width T.rules T.xs

abbrev bs : Task → List Bool
bs T = bits_of T.bytes

abbrev whole : Task → Went
whole T = runs_from (R T) T.two (bs T) (line_at T.at T.xs T.line)

-- the line of the rules that the code's line, buffer and slice carry; what is left of it is the whole
pub record Going (T : Task) (count : ℕ) (l : Line) (b : Buffer) (ys : List ℕ) : Type 0 where
  pub s : Rule.Line
  pub carries : Carries (width_of T) T.xs s l ys
  pub place : b.at ≡ s.at
  pub loaded : Loaded T.bytes b
  pub few : count ≤ b.at
  pub same : whole T ≡ rest (R T) (bs T) T.two count s

pub going-new : {T : Task} {b : Buffer} → Holds T.xs T.line → LoadedAt T.bytes T.at b → Going T 0 T.line b T.xs
going-new {T} h d = record {
  s = line_at T.at T.xs T.line;
  carries = carries-new T.xs T.line T.at h;
  place = d.place;
  loaded = d.loaded;
  few = omega arith;
  same = sym (rest-whole (R T) (bs T) T.two (line_at T.at T.xs T.line));
}

module _ {T : Task} {count : ℕ} {l : Line} {b : Buffer} {ys : List ℕ} (g : Going T count l b ys) where
  abbrev s : Rule.Line
  s = g.s

  abbrev k : Carries (width_of T) T.xs s l ys
  k = g.carries

  pub going-length : length ys ≡ length T.xs
  going-length = carries-length k

  pub going-holds : Holds ys l
  going-holds = carries-holds k

  test : (t : Bool) → does_go_on T.two count l ≡ t → does_go_on T.two count (line_for (width_of T) s) ≡ t
  test t e = ap (does_go_on T.two count) (sym k.line-is) ∙ e

  pub going_done : does_go_on T.two count l ≡ false → Steps (width_of T) T.xs (whole T) (Ok (l, b.at)) ys
  going_done t =
      rw (g.same ∙ rest-done (R T) (bs T) T.two count s (test false t))
      (record { answer = λ i. Ok (k.line-is i, g.place i); store = k.store })

  module _ (t : does_go_on T.two count l ≡ true) where
    turn : whole T ≡ next (push_run (R T) (bs T) s) (rest (R T) (bs T) T.two (count + 1))
    turn = g.same ∙ rest_more (R T) (bs T) T.two count s (test true t)

    -- the run that the code reads is the line's next
    read_same : read_run (colour_of l.colour) (bs T) b.at ≡ read_run s.colour (bs T) s.at
    read_same = λ i. read_run ((ap (λ (m : Line). colour_of m.colour) k.line-is ∙ colour-number s.colour) i) (bs T) (g.place i)

    pub going-bad : {f : Fault} → RunRead (colour_of l.colour) T.bytes b.at (Err f) → Steps (width_of T) T.xs (whole T) (Err (stop_at (number_of f.error) l f.at)) ys
    unfolding push_run
    going-bad {f} q =
        let r : read_run s.colour (bs T) s.at ≡ fault (number_of f.error) f.at = sym (q.same ∙ read_same) in
        rw (turn ∙ ap (λ (x : Res Sum). next (after_run (R T) s x) (rest (R T) (bs T) T.two (count + 1))) r)
        (record { answer = λ i. Err (stop_at (number_of f.error) (k.line-is i) f.at); store = k.store })

    module _ {n : ℕ} {b' : Buffer} (q : RunRead (colour_of l.colour) T.bytes b.at (Ok (n, b'))) where
      read : read_run s.colour (bs T) s.at ≡ ok (sum b'.at n)
      read = sym (q.same ∙ read_same)

      -- a run takes bits, in the data
      pub going_less : (b.at < b'.at) × (b'.at ≤ 8 * length T.bytes)
      going_less = let w = subst (Within (bs T) (sum s.at 0)) read (read-within s.colour (bs T) s.at) in omega (arith, g.place, length-bits_of T.bytes)

      abbrev pushed : Went
      pushed = push (R T) s.at n (moved_to b'.at s)

      ran : (w : Went) → pushed ≡ w → push_run (R T) (bs T) s ≡ next w λ u. went (turned u)
      unfolding push_run
      ran w e = ap (after_run (R T) s) read ∙ ap (λ (w : Went). next w λ u. went (turned u)) e

      module _ (r : Push) (zs : List ℕ) (p : Pushes ys l n T.rules.strict r zs) where
        comes : Comes (width_of T) T.xs pushed r zs
        comes = carries-push k T.rules n r zs p b'.at s.at

        pub going-stop : {f : PushFault} → r ≡ Err f → Steps (width_of T) T.xs (whole T) (Err (stop_at f.number f.line (place_for f.number b.at))) zs
        going-stop {f} e =
            let (a, u, w, same) = push-stop (width_of T) pushed f (sym e ∙ comes.answer) in
            let at-fault : place_for f.number b.at ≡ a = ap (place_for f.number) g.place ∙ sym (push-place (R T) s.at n (moved_to b'.at s) u f.number a w) in
            rw (turn ∙ ap (λ (w : Went). next w (rest (R T) (bs T) T.two (count + 1))) (ran (failed f.number a u) w))
            (record { answer = λ i. Err (stop_at f.number (same i) (at-fault i)); store = comes.store ∙ ap (λ (w : Went). overlaid (changes_of w) T.xs) w })

        pub going-coloured : {m : Line} → r ≡ Ok m → m.colour ≤ 1
        going-coloured {m} e =
            let (u, w, same) = push-on (width_of T) pushed m (sym e ∙ comes.answer) in
            subst (λ (m : Line). m.colour ≤ 1) (sym same) (colour-small u.colour)

        pub going_on : {m : Line} → r ≡ Ok m → Going T (count + 1) (turned_for m) b' zs
        going_on {m} e =
            let (u, w, same) = push-on (width_of T) pushed m (sym e ∙ comes.answer) in
            let grows : Grows (R T) s (turned u) = subst (GrowsTo (R T) s) (ran (went u) w) (push_run-grows (R T) (bs T) s) in
            record {
              s = turned u;
              carries =
                  carries-on k T.rules (turned u) (turned_for m) zs
                  (ap turned_for same ∙ turned-is (width_of T) u)
                  grows
                  (comes.store ∙ ap (λ (w : Went). overlaid (changes_of w) T.xs) w);
              place = sym (push_at (R T) s.at n (moved_to b'.at s) u w);
              loaded = q.loaded;
              few = omega (arith, g.few, going_less);
              same = turn ∙ ap (λ (w : Went). next w (rest (R T) (bs T) T.two (count + 1))) (ran (went u) w);
            }
