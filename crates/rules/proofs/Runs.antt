-- Laws of runs: what one code does, by cases; the bits that a run takes; that a run which is read depends on these alone; and what eight zeros do.
-- Assumes nothing.
use mathlib.Core.Path.{◌≡◌, refl, sym, ap, ◌∙◌, subst}
use mathlib.Core.Bool.{Bool, true, false, cond}
use mathlib.Core.List.{List, ◌++◌, Memᴰ}
use Prim.Native.Nat.{ℕ, ◌+◌, ◌≤◌, ◌<◌}
use native.Mathlib.Omega.{arith}
use lib.Dec.{leb, ltb}
use lib.ListN.{length, drop}
use borrow.Author.Tests.{leb-true, le-leb, ltb-true, ltb-false, lt-ltb, le-ltb}
use Rattle.rules.specs.Machine.{Out, more, done, ends}
use Rattle.rules.specs.Bits.{window}
use Rattle.rules.specs.Codes.{Colour, Code, code_bits, codes_of}
use Rattle.rules.specs.Lookup.{Entry, valid, invalid, lookup}
use Rattle.rules.specs.Runs.{Res, ok, fault, Sum, sum, run_take, run_step, bits_after, answer, read_run}
use Rattle.rules.proofs.Machine.{Falls, ends_more, ends-done, ends-ind, ends-stops}
use Rattle.rules.proofs.Codes.{shape, length-code_bits}
use Rattle.rules.proofs.Lookup.{lookup-code, Entered, lookup-valid, entered-bits}
use Rattle.rules.proofs.Agree.{Agree, agree_less, agree-word}

-- ---- One code

-- a code of the colour stands at the bit, and its run can be added
pub record Takes (colour : Colour) (bs : List Bool) (s : Sum) (c : Code) : Type 0 where
  pub member : Memᴰ c (codes_of colour)
  pub there : drop s.at bs ≡ code_bits c ++ drop (s.at + c.size) bs
  pub fits : s.at + c.size ≤ length bs
  pub small : s.total + c.run ≤ 4294967295

abbrev pub after : Sum → Code → Sum
after s c = sum (s.at + c.size) (s.total + c.run)

module _ (colour : Colour) (bs : List Bool) (s : Sum) where
  -- what one step does, by cases: a last code, a make-up code, or a fault
  pub run-cases : (C : Out Sum (Res Sum) → Type 0)
      → ((c : Code) → Takes colour bs s c → c.run < 64 → C (done (ok (after s c))))
      → ((c : Code) → Takes colour bs s c → 64 ≤ c.run → C (more (after s c)))
      → ((n : ℕ) → 1 ≤ n → n ≤ 3 → C (done (fault n s.at)))
      → C (run_step colour bs s)
  unfolding run_step run_take
  run-cases C last goes fails = entry (lookup colour (window 13 (drop s.at bs))) refl
    where
      entry : (o : Entry) → lookup colour (window 13 (drop s.at bs)) ≡ o → C (run_take (length bs) s o)
      entry (invalid len) q = tests (leb (s.at + len) (length bs))
        where
          tests : (b : Bool) → C (done (fault (cond b 1 2) s.at))
          tests true = fails 1 (omega arith) (omega arith)
          tests false = fails 2 (omega arith) (omega arith)
      entry (valid run size) q =
          tests (leb (s.at + size) (length bs)) (leb (s.total + run) 4294967295) (ltb run 64) (leb-true _ _) (leb-true _ _) (ltb-true _ _) (ltb-false _ _)
        where
          e : Entered colour (window 13 (drop s.at bs)) run size
          e = lookup-valid colour (window 13 (drop s.at bs)) run size q

          same : after s e.code ≡ sum (s.at + size) (s.total + run)
          same = λ i. sum (s.at + e.size_is i) (s.total + e.run_is i)

          takes : s.at + size ≤ length bs → s.total + run ≤ 4294967295 → Takes colour bs s e.code
          takes h k = record {
            member = e.member;
            there = entered-bits bs s.at e h ∙ ap (λ (n : ℕ). code_bits e.code ++ drop (s.at + n) bs) (sym e.size_is);
            fits = omega (arith, e.size_is);
            small = omega (arith, e.run_is);
          }

          tests : (b c d : Bool) → (b ≡ true → s.at + size ≤ length bs) → (c ≡ true → s.total + run ≤ 4294967295) → (d ≡ true → run < 64) → (d ≡ false → 64 ≤ run)
              → C (cond b (cond c (cond d (done (ok (sum (s.at + size) (s.total + run)))) (more (sum (s.at + size) (s.total + run)))) (done (fault 3 s.at))) (done (fault 2 s.at)))
          tests true true true h k m n = subst (λ (x : Sum). C (done (ok x))) same (last e.code (takes (h refl) (k refl)) (omega (arith, m refl, e.run_is)))
          tests true true false h k m n = subst (λ (x : Sum). C (more x)) same (goes e.code (takes (h refl) (k refl)) (omega (arith, n refl, e.run_is)))
          tests true false d h k m n = fails 3 (omega arith) (omega arith)
          tests false c d h k m n = fails 2 (omega arith) (omega arith)

  -- at a code's bits, a step adds its run
  pub step-code : (c : Code) → Takes colour bs s c → run_step colour bs s ≡ cond (ltb c.run 64) (done (ok (after s c))) (more (after s c))
  unfolding run_step run_take
  step-code c t =
      ap (λ (l : List Bool). run_take (length bs) s (lookup colour (window 13 l))) t.there
      ∙ rw (lookup-code colour c t.member (drop (s.at + c.size) bs), le-leb _ _ t.fits, le-leb _ _ t.small)

  takes-bits : (c : Code) → Takes colour bs s c → 1 ≤ c.size
  takes-bits c t = (shape colour c t.member).some_bits

-- each code takes a bit, so the bits left fall
pub run-falls : (colour : Colour) (bs : List Bool) → Falls (run_step colour bs) (bits_after bs)
run-falls colour bs s t =
    run-cases colour bs s (λ o. o ≡ more t → bits_after bs t < bits_after bs s)
    (λ c k l e. absurd (let z : ◌≡◌ {A = ℕ} 0 1 = cc in omega arith))
    (λ c k l e. let q : after s c ≡ t = cc in omega (arith, ap (λ (x : Sum). x.at) q, takes-bits colour bs s c k, k.fits))
    (λ n p q e. absurd (let z : ◌≡◌ {A = ℕ} 0 1 = cc in omega arith))

-- ---- A run

-- a run that is read lies in the data, takes at least a bit, and is below the limit; a fault has a number of 1 to 3 and lies no earlier
abbrev pub Within : List Bool → Sum → Res Sum → Type 0
Within bs s (ok r) = (s.at < r.at) × (r.at ≤ length bs) × (r.total ≤ 4294967295)
Within bs s (fault n p) = (s.at ≤ p) × (1 ≤ n) × (n ≤ 3)

module _ (colour : Colour) (bs : List Bool) where
  run-within : (s : Sum) (r : Res Sum) → ends (run_step colour bs) (bits_after bs) s ≡ done r → Within bs s r
  run-within s r e = ends-ind (run_step colour bs) (Within bs) base next' (bits_after bs) s r e
    where
      base : (s : Sum) (r : Res Sum) → run_step colour bs s ≡ done r → Within bs s r
      base s r =
          run-cases colour bs s (λ o. o ≡ done r → Within bs s r)
          (λ c k l e. subst (Within bs s) (let q : ok (after s c) ≡ r = cc in q) (omega (arith, takes-bits colour bs s c k, k.fits, k.small)))
          (λ c k l e. absurd (let z : ◌≡◌ {A = ℕ} 0 1 = cc in omega arith))
          (λ n p q e. subst (Within bs s) (let q : fault n s.at ≡ r = cc in q) (omega arith))

      later : (s t : Sum) → s.at < t.at → (r : Res Sum) → Within bs t r → Within bs s r
      later s t h (ok x) w = omega arith
      later s t h (fault n p) w = omega arith

      next' : (s t : Sum) (r : Res Sum) → run_step colour bs s ≡ more t → Within bs t r → Within bs s r
      next' s t r =
          run-cases colour bs s (λ o. o ≡ more t → Within bs t r → Within bs s r)
          (λ c k l e. absurd (let z : ◌≡◌ {A = ℕ} 0 1 = cc in omega arith))
          (λ c k l e. let q : after s c ≡ t = cc in later s t (omega (arith, ap (λ (x : Sum). x.at) q, takes-bits colour bs s c k)) r)
          (λ n p q e. absurd (let z : ◌≡◌ {A = ℕ} 0 1 = cc in omega arith))

  pub read-within : (at : ℕ) → Within bs (sum at 0) (read_run colour bs at)
  unfolding read_run
  read-within at =
      let p = ends-stops (run_step colour bs) (bits_after bs) (run-falls colour bs) (sum at 0) in
      rw p.1 (run-within (sum at 0) p.0 p.1)

-- a run takes two bits at least
pub run-two-bits : (colour : Colour) (bs : List Bool) (at : ℕ) (r : Sum) → read_run colour bs at ≡ ok r → at + 2 ≤ r.at
unfolding read_run
run-two-bits colour bs at r e =
    let p = ends-stops (run_step colour bs) (bits_after bs) (run-falls colour bs) (sum at 0) in
    subst (Two (sum at 0)) (sym (ap answer p.1) ∙ e) (ends-ind (run_step colour bs) Two base next' (bits_after bs) (sum at 0) p.0 p.1)
  where
    Two : Sum → Res Sum → Type 0
    Two s (ok r) = s.at + 2 ≤ r.at
    Two s (fault n place) = Unit {0}

    base : (s : Sum) (r : Res Sum) → run_step colour bs s ≡ done r → Two s r
    base s r =
        run-cases colour bs s (λ o. o ≡ done r → Two s r)
        (λ c k l e. subst (Two s) (let q : ok (after s c) ≡ r = cc in q) (omega (arith, (shape colour c k.member).two-bits)))
        (λ c k l e. absurd (let z : ◌≡◌ {A = ℕ} 0 1 = cc in omega arith))
        (λ n i j e. subst (Two s) (let q : fault n s.at ≡ r = cc in q) tt)

    later : (s t : Sum) → s.at ≤ t.at → (r : Res Sum) → Two t r → Two s r
    later s t h (ok r) k = omega arith
    later s t h (fault n place) k = tt

    next' : (s t : Sum) (r : Res Sum) → run_step colour bs s ≡ more t → Two t r → Two s r
    next' s t r =
        run-cases colour bs s (λ o. o ≡ more t → Two t r → Two s r)
        (λ c k l e. absurd (let z : ◌≡◌ {A = ℕ} 0 1 = cc in omega arith))
        (λ c k l e. let q : after s c ≡ t = cc in later s t (omega (arith, ap (λ (x : Sum). x.at) q)) r)
        (λ n i j e. absurd (let z : ◌≡◌ {A = ℕ} 0 1 = cc in omega arith))

-- ---- A run that is read depends only on the bits it takes

module _ (colour : Colour) (bs cs : List Bool) where
  takes-too : (s : Sum) (c : Code) → Takes colour bs s c → Agree (s.at + c.size) bs cs → Takes colour cs s c
  takes-too s c t a =
      let l = length-code_bits c in
      record {
        member = t.member;
        there =
            agree-word a s.at (code_bits c) (drop (s.at + c.size) bs) (omega arith) t.there
            ∙ ap (λ (n : ℕ). code_bits c ++ drop (s.at + n) cs) l;
        fits = a.long';
        small = t.small;
      }

  -- the same steps lead to the same end
  Same : Sum → Res Sum → Type 0
  Same s (ok r) = (s.at < r.at) × (Agree r.at bs cs → ends (run_step colour cs) (bits_after cs) s ≡ done (ok r))
  Same s (fault n p) = Unit {0}

  run-same : (s : Sum) (r : Res Sum) → ends (run_step colour bs) (bits_after bs) s ≡ done r → Same s r
  unfolding Same
  run-same s r e = ends-ind (run_step colour bs) Same base next' (bits_after bs) s r e
    where
      base : (s : Sum) (r : Res Sum) → run_step colour bs s ≡ done r → Same s r
      base s r =
          run-cases colour bs s (λ o. o ≡ done r → Same s r)
          (λ c k l e. subst (Same s) (let q : ok (after s c) ≡ r = cc in q) (
            omega (arith, takes-bits colour bs s c k),
            λ a. ends-done (run_step colour cs) (bits_after cs) (run-falls colour cs) s _ (rw (lt-ltb c.run 64 l) at (step-code colour cs s c (takes-too s c k a))),
          ))
          (λ c k l e. absurd (let z : ◌≡◌ {A = ℕ} 0 1 = cc in omega arith))
          (λ n p q e. subst (Same s) (let q : fault n s.at ≡ r = cc in q) tt)

      along : (s t : Sum) (r : Res Sum) → s.at < t.at → ((n : ℕ) → t.at ≤ n → Agree n bs cs → run_step colour cs s ≡ more t) → Same t r → Same s r
      along s t (ok r) h step (k, f) =
          (omega arith, λ a. ends_more (run_step colour cs) (bits_after cs) (run-falls colour cs) s t (step r.at (omega arith) a) ∙ f a)
      along s t (fault n p) h step u = tt

      next' : (s t : Sum) (r : Res Sum) → run_step colour bs s ≡ more t → Same t r → Same s r
      next' s t r =
          run-cases colour bs s (λ o. o ≡ more t → Same t r → Same s r)
          (λ c k l e. absurd (let z : ◌≡◌ {A = ℕ} 0 1 = cc in omega arith))
          (λ c k l e.
          let q : after s c ≡ t = cc in
          let at-is : s.at + c.size ≡ t.at = ap (λ (x : Sum). x.at) q in
          along s t r (omega (arith, takes-bits colour bs s c k, at-is))
          (λ n h a. rw (le-ltb c.run 64 l) at (step-code colour cs s c (takes-too s c k (agree_less (s.at + c.size) (omega (arith, at-is)) a))) ∙ ap (λ (x : Sum). more x) q))
          (λ n p q e. absurd (let z : ◌≡◌ {A = ℕ} 0 1 = cc in omega arith))

  pub read_same : (at : ℕ) (r : Sum) → read_run colour bs at ≡ ok r → Agree r.at bs cs → read_run colour cs at ≡ ok r
  unfolding read_run Same
  read_same at r e a =
      let p = ends-stops (run_step colour bs) (bits_after bs) (run-falls colour bs) (sum at 0) in
      let q : p.0 ≡ ok r = sym (ap answer p.1) ∙ e in
      ap answer ((subst (Same (sum at 0)) q (run-same (sum at 0) p.0 p.1)).1 a)

-- ---- A run that is read begins with a code

module _ (bs : List Bool) (colour : Colour) where
  abbrev pub First : Sum → Res Sum → Type 0
  First s (ok r) = (c : Code) × Takes colour bs s c
  First s (fault n place) = Unit {0}

  pub run-first : (s : Sum) (r : Res Sum) → ends (run_step colour bs) (bits_after bs) s ≡ done r → First s r
  run-first s r e = ends-ind (run_step colour bs) First base goes (bits_after bs) s r e
    where
      taken : (s : Sum) (c : Code) → Takes colour bs s c → (r : Res Sum) → First s r
      taken s c k (ok r) = (c, k)
      taken s c k (fault n place) = tt

      base : (s : Sum) (r : Res Sum) → run_step colour bs s ≡ done r → First s r
      base s r =
          run-cases colour bs s (λ o. o ≡ done r → First s r)
          (λ c k l e. taken s c k r)
          (λ c k l e. taken s c k r)
          (λ n i j e. subst (First s) (let q : fault n s.at ≡ r = cc in q) tt)

      goes : (s t : Sum) (r : Res Sum) → run_step colour bs s ≡ more t → First t r → First s r
      goes s t r =
          run-cases colour bs s (λ o. o ≡ more t → First t r → First s r)
          (λ c k l e. absurd (let z : ◌≡◌ {A = ℕ} 0 1 = cc in omega arith))
          (λ c k l e f. taken s c k r)
          (λ n i j e. absurd (let z : ◌≡◌ {A = ℕ} 0 1 = cc in omega arith))
