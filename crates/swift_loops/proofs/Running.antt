-- A 1D line by pairs: what runs make of a line and its row, one run and one pair; and the line behind its pairs. Assumes nothing.
use Rattle.std.specs.Prelude.{Option, Some, Ok}
use mathlib.Core.Path.{◌≡◌, refl, sym, ap, ◌∙◌, subst}
use mathlib.Core.Bool.{Bool, true, false}
use mathlib.Core.List.{List, [], ◌∷◌, ◌++◌}
use Prim.Native.Nat.{ℕ, zero, suc, ◌+◌, ◌-◌, ◌*◌, ◌%◌, ◌^◌, ◌≤◌, ◌<◌}
use native.Mathlib.Omega.{arith}
use lib.ListN.{length, take, set, length-append, length-take, length-set}
use lib.Seq.{length-take-le}
use Rattle.rules.specs.Bits.{bits_of}
use Rattle.rules.specs.Codes.{white, black}
use Rattle.rules.specs.Runs.{ok, sum, read_run}
use Rattle.rules.specs.Machine.{Out, more, done}
use Rattle.rules.specs.Lines as Rule
use Rattle.rules.specs.Lines.{Rules, Went, went, failed, last_colour, recorded, push_run, one, code_of, line_step, line_end, read_line, line_in}
use Rattle.rules.specs.Pages.{overlaid}
use Rattle.rules.proofs.Bits.{length-bits_of}
use Rattle.rules.proofs.Grows.{Grows, GrowsTo, grows-here, code-grows}
use Rattle.rules.proofs.Lines.{moves, line-cases, line-falls, line-more, line-done}
use Rattle.rules.proofs.Machine.{ends-ind, ends-stops}
use Rattle.tables.specs.Tables.{colour_of}
use Rattle.bit_reader.specs.Loaded.{Ahead}
use Rattle.bit_reader.proofs.Window.{ahead-shift}
use Rattle.context.specs.declared.line.Line.{Line}
use Rattle.context.specs.declared.step.Rules as Code
use Rattle.swift_loops.specs.declared.fast_1d.BetweenRuns.{BetweenRuns}
use Rattle.swift_loops.specs.declared.fast_1d.BeforePair.{BeforePair}
use Rattle.swift_loops.specs.declared.fast_1d.Pair.{Pair}
use Rattle.context.specs.State.{rules_for, ruling, turns, Holds}
use Rattle.context.specs.Outcome.{Step, Steps, Runs}
use Rattle.swift_loops.specs.Pairs.{PairRun, KnownIn, halting, halt_line, start_at, pace_of, Halts, Ran, Paces, BegunTo, Begins, Filled}
use Rattle.context.proofs.State.{line-for, turns-is, overlaid-same, overlaid-set}
use Rattle.context.proofs.Carried.{Carries, carries-step, front_of, overlaid-over}
use Rattle.context.proofs.Goes.{recorded-by, run-goes, run_none}
use Rattle.swift_loops.proofs.Fronting.{turned-number}

-- ---- One run

module _ {bs : List Bool} {room width : ℕ} {xs : List ℕ} {s : BetweenRuns} where
  -- a run that takes the line of the rules on takes the row with it
  ran-one : (t : BetweenRuns) (qs ys : List ℕ) → Halts room width t → s.position < width → s.count ≤ t.count → t.count ≡ length qs → length ys ≡ length xs → ys ≡ overlaid qs xs
      → ((strict exact : Bool) → push_run (ruling width room strict exact) bs (halting xs s) ≡ went (Rule.line t.at t.position (colour_of t.colour) qs false))
      → Ran bs room width xs s ys t
  ran-one t qs ys halts short longer count size store goes = record {
    halts = halts;
    inside = (moves (ruling width room false false) one bs (halting xs s) (Rule.line t.at t.position (colour_of t.colour) qs false) (goes false false)).1;
    longer = longer;
    size = size;
    store = store ∙ ap (λ (l : List ℕ). overlaid l xs) (sym changes);
    same = λ strict exact.
        line-more width (push_run (ruling width room strict exact) bs) bs (moves (ruling width room strict exact) one bs)
        (halting xs s) (Rule.line t.at t.position (colour_of t.colour) qs false) (λ z. omega arith) (goes strict exact)
        ∙ ap (λ (l : List ℕ). line_end width (push_run (ruling width room strict exact) bs) bs (Rule.line t.at t.position (colour_of t.colour) l false)) (sym changes);
  }
    where
      changes : take t.count ys ≡ qs
      changes = front_of t.count qs xs ys count store

  -- none
  pub ran-none : Halts room width s → s.count ≤ length xs → s.at ≤ length bs → Ran bs room width xs s xs s
  ran-none h held k = record {
    halts = h;
    inside = k;
    longer = omega arith;
    size = refl;
    store = overlaid-same s.count xs held;
    same = λ strict exact. refl;
  }

  -- some, and then more
  ran_then : length xs ≡ room → {ys zs : List ℕ} {t u : BetweenRuns} → Ran bs room width xs s ys t → Ran bs room width ys t zs u → Ran bs room width xs s zs u
  ran_then full {ys} {zs} {t} {u} a b = record {
    halts = b.halts;
    inside = b.inside;
    longer = omega (arith, a.longer, b.longer);
    size = b.size ∙ a.size;
    store =
        b.store
        ∙ ap (overlaid (take u.count zs)) a.store
        ∙ overlaid-over (take u.count zs) (take t.count ys) xs fewer;
    same = λ strict exact. a.same strict exact ∙ b.same strict exact;
  }
    where
      fewer : length (take t.count ys) ≤ length (take u.count zs)
      fewer = omega (arith, length-take t.count ys, length-take u.count zs, b.halts.held, b.longer, b.size, a.size)

-- the room is the row's own
pub ran_on : {bs : List Bool} {width : ℕ} {xs ys zs : List ℕ} {s t u : BetweenRuns} → Ran bs (length xs) width xs s ys t → Ran bs (length ys) width ys t zs u → Ran bs (length xs) width xs s zs u
ran_on {bs} {width} {xs} {ys} {zs} {s} {t} {u} a b = ran_then refl a (subst (λ (n : ℕ). Ran bs n width ys t zs u) a.size b)

-- a run that has pixels, of a line that has room for them, and begins with a change
module _ (bs : List Bool) (width : ℕ) (xs : List ℕ) (s : BetweenRuns) (h : Halts (length xs) width s) (roomy : s.count < length xs) (turning : turns s.count s.colour ≡ true)
    (n p : ℕ) (read : read_run (colour_of s.colour) bs s.at ≡ ok (sum n p)) (some : 0 < p) (fits : s.position + p ≤ width) where
  abbrev longer : List ℕ
  longer = take s.count xs ++ s.position ∷ []

  len : length (take s.count xs) ≡ s.count
  len = length-take-le s.count xs h.held

  size : length (take s.count xs ++ s.position ∷ []) ≡ s.count + 1
  size = length-append (take s.count xs) (s.position ∷ []) ∙ ap (λ (n : ℕ). n + 1) len

  records : recorded (halting xs s) ≡ take s.count xs ++ s.position ∷ []
  records = recorded-by (halting xs s) true (turns-is (take s.count xs) s.colour h.coloured ∙ ap (λ (n : ℕ). turns n s.colour) len ∙ turning)

  ran-turned : Ran bs (length xs) width xs s (set xs s.count s.position) (record { at = n; position = s.position + p; count = s.count + 1; colour = 1 - s.colour })
  ran-turned =
      ran-one (record { at = n; position = s.position + p; count = s.count + 1; colour = 1 - s.colour }) longer (set xs s.count s.position)
      (record { fits = fits; held = omega arith; coloured = omega arith }) (omega arith) (omega arith) (sym size) (length-set xs s.count s.position)
      (overlaid-set s.count xs s.position roomy)
      (λ strict exact.
      run-goes (ruling width (length xs) strict exact) bs (halting xs s) n p read some fits (omega (arith, ap length records, size))
      ∙ (λ i. went (Rule.line n (s.position + p) (turned-number s.colour h.coloured i) (records i) false)))

-- ---- One pair

even-black : (n : ℕ) → n % 2 ≡ 0 → turns n 1 ≡ true
even-black n e = rw e

odd-white : (n : ℕ) → n % 2 ≡ 0 → turns (n + 1) 0 ≡ true
odd-white n e = let o : (n + 1) % 2 ≡ 1 = omega arith in rw o

module _ (bytes xs : List ℕ) (width : ℕ) (s : BeforePair) (h : Halts (length xs) width (pace_of s)) (roomy : width + s.count ≤ length xs + s.position) (even : s.count % 2 ≡ 0)
    (pair : Pair) (r : PairRun bytes s.at pair) (b : 0 < pair.black) (w : 0 < pair.white) (fits : pair.black + pair.white ≤ width - s.position) where
  abbrev middle : BetweenRuns
  middle = record { at = r.middle; position = s.position + pair.black; count = s.count + 1; colour = 0 }

  abbrev one_set : List ℕ
  one_set = set xs s.count s.position

  abbrev two-set : List ℕ
  two-set = set (set xs s.count s.position) (s.count + 1) (s.position + pair.black)

  first : Ran (bits_of bytes) (length xs) width xs (pace_of s) one_set middle
  first = ran-turned (bits_of bytes) width xs (pace_of s) h (omega (arith, h.fits)) (even-black s.count even) r.middle pair.black r.first b (omega (arith, h.fits))

  same_size : length one_set ≡ length xs
  same_size = length-set xs s.count s.position

  second : Ran (bits_of bytes) (length one_set) width one_set middle two-set (record { at = s.at + pair.size; position = s.position + pair.black + pair.white; count = s.count + 1 + 1; colour = 1 })
  second =
      ran-turned (bits_of bytes) width one_set middle (subst (λ (k : ℕ). Halts k width middle) (sym same_size) first.halts) (omega (arith, same_size, h.fits)) (odd-white s.count even)
      (s.at + pair.size) pair.white r.second w (omega (arith, h.fits))

  pub pair-ran : Ran (bits_of bytes) (length xs) width xs (pace_of s) (set (set xs s.count s.position) (s.count + 1) (s.position + pair.black))
      (record { at = s.at + pair.size; position = s.position + pair.black + pair.white; count = s.count + 2; colour = 1 })
  pair-ran =
      let two : s.count + 1 + 1 ≡ s.count + 2 = omega arith in
      subst (λ (k : ℕ). Ran (bits_of bytes) (length xs) width xs (pace_of s) two-set (record { at = s.at + pair.size; position = s.position + pair.black + pair.white; count = k; colour = 1 })) two
      (ran_on first second)

  -- behind it the line is before a pair again
  pub pair-paces : {bits : ℕ} → KnownIn bytes (s.at + pair.size) bits
      → Paces bytes (set (set xs s.count s.position) (s.count + 1) (s.position + pair.black)) width (record { at = s.at + pair.size; position = s.position + pair.black + pair.white; count = s.count + 2; bits = bits })
  pair-paces {bits} known = record {
    halts = subst (λ (k : ℕ). Halts k width (record { at = s.at + pair.size; position = s.position + pair.black + pair.white; count = s.count + 2; colour = 1 })) (sym pair-ran.size) pair-ran.halts;
    roomy = omega (arith, pair-ran.size, roomy, b, w);
    even = omega (arith, even);
    inside = omega (arith, pair-ran.inside, length-bits_of bytes);
    known = known;
  }

-- ---- The line before its first pair

module _ (bytes xs : List ℕ) (width at : ℕ) (wide : 0 < width) (roomy : width ≤ length xs) {live bits : ℕ} (next : Ahead bytes at live bits) (enough : 57 ≤ live)
    (size : ℕ) (few : size ≤ 26) (p : ℕ) (read : read_run white (bits_of bytes) at ≡ ok (sum (at + size) p)) (fits : p ≤ width) where
  goes : (p : ℕ) → read_run white (bits_of bytes) at ≡ ok (sum (at + size) p) → p ≤ width
      → (strict exact : Bool) → push_run (ruling width (length xs) strict exact) (bits_of bytes) (halting xs (start_at at)) ≡ went (Rule.line (at + size) p black [] false)
  unfolding last_colour
  goes zero read fits strict exact = run_none (ruling width (length xs) strict exact) (bits_of bytes) (halting xs (start_at at)) (at + size) read
  goes (suc p) read fits strict exact =
      let q : recorded (halting xs (start_at at)) ≡ [] = recorded-by (halting xs (start_at at)) false refl in
      let total : 0 + suc p ≡ suc p = omega arith in
      run-goes (ruling width (length xs) strict exact) (bits_of bytes) (halting xs (start_at at)) (at + size) (suc p) read (omega arith) (omega arith) (omega (arith, ap length q))
      ∙ (λ i. went (Rule.line (at + size) (total i) black (q i) false))

  pub begun-ran : Ran (bits_of bytes) (length xs) width xs (start_at at) xs (record { at = at + size; position = p; count = 0; colour = 1 })
  begun-ran =
      ran-one (record { at = at + size; position = p; count = 0; colour = 1 }) [] xs (record { fits = fits; held = omega arith; coloured = omega arith }) wide (omega arith) refl refl
      (overlaid-same 0 xs (omega arith)) (goes p read fits)

  pub begun-paces : Paces bytes xs width (record { at = at + size; position = p; count = 0; bits = bits * 2 ^ size % 2 ^ 64 })
  begun-paces = record {
    halts = begun-ran.halts;
    roomy = omega (arith, roomy);
    even = refl;
    inside = omega (arith, begun-ran.inside, length-bits_of bytes);
    known = λ far. record { live = live - size; enough = omega arith; next = ahead-shift next size (omega arith) };
  }

-- ---- The line behind its pairs

-- the rest of a line grows as each of its codes does
module _ (R : Rules) (bs : List Bool) where
  abbrev step : Rule.Line → Out Rule.Line Went
  step = line_step R.width (code_of R one bs)

  grown : (s : Rule.Line) (w : Went) → code_of R one bs s ≡ w → GrowsTo R s w
  grown s w e = subst (GrowsTo R s) e (code-grows R one bs s)

  further : (s t u : Rule.Line) → Grows R s t → Grows R t u → Grows R s u
  further s t u g h = record {
    longer = omega (arith, g.longer, h.longer);
    further = omega (arith, g.further, h.further);
    fits = λ p. h.fits (g.fits p);
    still = λ e. h.still (omega (arith, g.further, h.further)) ∙ g.still (omega (arith, g.further, h.further));
    roomy = λ p. h.roomy (g.roomy p);
    rises = λ p. h.rises (g.rises p);
  }

  base : (s : Rule.Line) (w : Went) → step s ≡ done w → GrowsTo R s w
  base s w =
      line-cases R.width (code_of R one bs) s (λ o. o ≡ done w → GrowsTo R s w)
      (λ h e. subst (GrowsTo R s) (let q : went s ≡ w = cc in q) (grows-here R s s.at))
      (λ h t q e. absurd (let z : ◌≡◌ {A = ℕ} 0 1 = cc in omega arith))
      (λ h n p t q e. subst (GrowsTo R s) (let g : failed n p t ≡ w = cc in g) (grown s (failed n p t) q))

  onward : (s t : Rule.Line) (w : Went) → step s ≡ more t → GrowsTo R t w → GrowsTo R s w
  onward s t w =
      line-cases R.width (code_of R one bs) s (λ o. o ≡ more t → GrowsTo R t w → GrowsTo R s w)
      (λ h e. absurd (let z : ◌≡◌ {A = ℕ} 0 1 = cc in omega arith))
      (λ h u q e. let g : u ≡ t = cc in further s t (line_in w) (grown s (went t) (q ∙ ap (λ (x : Rule.Line). went x) g)))
      (λ h n p u q e. absurd (let z : ◌≡◌ {A = ℕ} 0 1 = cc in omega arith))

  rest-grows : (s : Rule.Line) → GrowsTo R s (line_end R.width (code_of R one bs) bs s)
  unfolding line_end
  rest-grows s =
      let p = ends-stops step (λ u. length bs - u.at) (line-falls R.width (code_of R one bs) bs (moves R one bs)) s in
      rw p.1 (ends-ind step (GrowsTo R) base onward (λ u. length bs - u.at) s p.0 p.1)

module _ (bytes xs : List ℕ) (width at : ℕ) (rules : Code.Rules) (narrow : width < 4294967295) {t : BetweenRuns} {ys : List ℕ} (v : Ran (bits_of bytes) (length xs) width xs (start_at at) ys t) where
  abbrev R-of : Rules
  R-of = rules_for width rules xs

  pub ran-holds : Holds ys (halt_line width t)
  ran-holds = record { narrow = narrow; fits = v.halts.fits; held = omega (arith, v.halts.held, v.size); coloured = v.halts.coloured; flagged = omega arith }

  -- what is left is the whole
  whole : read_line (rules_for width rules xs) one (bits_of bytes) at ≡ line_end width (push_run (rules_for width rules xs) (bits_of bytes)) (bits_of bytes) (halting ys t)
  unfolding read_line
  whole = v.same rules.strict rules.exact

  carried : Carries width xs (halting ys t) (halt_line width t) ys
  carried = record {
    line-is = sym (line-for ys (halt_line width t) ran-holds t.at);
    store = v.store;
    fits = v.halts.fits;
    roomy = omega (arith, length-take-le t.count ys ran-holds.held, v.halts.held);
    narrow = narrow;
  }

  -- which may be nothing,
  pub ran-done : t.position ≡ width → Steps width xs (read_line (rules_for width rules xs) one (bits_of bytes) at) (Ok (halt_line width t, t.at)) ys
  ran-done e =
      rw (whole ∙ line-done width (push_run R-of (bits_of bytes)) (bits_of bytes) (moves R-of one (bits_of bytes)) (halting ys t) e)
      (record { answer = ap (λ (l : Line). Ok (l, t.at)) carried.line-is; store = v.store })

  -- or runs to the width
  pub ran-rest : {r : Step} {zs : List ℕ} → Runs bytes ys false (halt_line width t) t.at rules r zs → Steps width xs (read_line (rules_for width rules xs) one (bits_of bytes) at) r zs
  ran-rest {r} {zs} u =
      rw whole
      (carries-step carried rules (λ R s. line_end R.width (code_of R one (bits_of bytes)) (bits_of bytes) s) (rest-grows R-of (bits_of bytes) (halting ys t)) r zs u)

-- a line that begins so, and whose first run comes to the width, is filled by it
pub begun-fills : {bytes : List ℕ} {width at room live bits : ℕ} {r : Option BeforePair} → Begins width at bits r → Ahead bytes at live bits → 57 ≤ live → width ≤ room
    → (t : BeforePair) → r ≡ Some t → t.position ≡ width → Filled bytes room width at (Some t)
begun-fills {bytes} {width} {at} {live = live} b h enough fits t e z =
    (z, λ xs l. (subst (λ (r : Option BeforePair). BegunTo bytes xs width at r) e (b bytes xs live h enough (omega arith))).0)
