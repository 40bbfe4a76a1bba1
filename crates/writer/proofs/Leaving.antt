-- Data that is held against bits, code by code: what is left to be met comes to what there was. Runs, lines and pages are met by these laws alone.
-- Assumes nothing.
use mathlib.Core.Path.{◌≡◌, refl, sym, ap, ◌∙◌, subst}
use mathlib.Core.Bool.{Bool, true, false, true≢false}
use mathlib.Core.List.{List, [], ◌∷◌, ◌++◌}
use Rattle.std.specs.Prelude.{Result, Err}
use Rattle.std.specs.Result.{IsErrAnd}
use Rattle.std.proofs.lemmas.Result.{err_from_is_err_and}
use Rattle.writer.specs.declared.met.Unmet.{Unmet}
use Prim.Native.Nat.{ℕ, suc, ◌+◌, ◌≤◌, ◌<◌}
use native.Mathlib.Omega.{arith}
use lib.Dec.{eqb}
use lib.ListN.{length, drop, length-drop}
use lib.Seq.{drop-drop}
use borrow.Author.Tests.{eq-eqb, ne_eqb}
use Rattle.rules.specs.Bits.{bits_for, bits_of}
use Rattle.rules.specs.Lookup.{begins, shared}
use Rattle.rules.proofs.Bits.{length-bits_of}
use Rattle.tables.specs.declared.Code.{Code}
use Rattle.bit_reader.specs.Loaded.{Loading}
use Rattle.writer.specs.Putting.{Spells}
use Rattle.writer.specs.Meeting.{Met, met_of, Meets}

-- ---- What bits share

pub shared-fits : (xs bs : List Bool) → shared xs bs ≤ length bs
unfolding shared
shared-fits [] bs = omega arith
shared-fits (x ∷ xs) [] = omega arith
shared-fits (true ∷ xs) (true ∷ bs) = omega (arith, shared-fits xs bs)
shared-fits (true ∷ xs) (false ∷ bs) = omega arith
shared-fits (false ∷ xs) (true ∷ bs) = omega arith
shared-fits (false ∷ xs) (false ∷ bs) = omega (arith, shared-fits xs bs)

-- bits that are all there are shared to their end,
pub shared-all : (xs bs : List Bool) → begins xs bs ≡ true → shared xs bs ≡ length xs
unfolding shared begins
shared-all [] bs e = refl
shared-all (x ∷ xs) [] e = absurd (true≢false (sym e))
shared-all (true ∷ xs) (true ∷ bs) e = ap suc (shared-all xs bs e)
shared-all (true ∷ xs) (false ∷ bs) e = absurd (true≢false (sym e))
shared-all (false ∷ xs) (true ∷ bs) e = absurd (true≢false (sym e))
shared-all (false ∷ xs) (false ∷ bs) e = ap suc (shared-all xs bs e)

-- and others are not
pub shared-less : (xs bs : List Bool) → begins xs bs ≡ false → shared xs bs < length xs
unfolding shared begins
shared-less [] bs e = absurd (true≢false e)
shared-less (x ∷ xs) [] e = omega arith
shared-less (true ∷ xs) (true ∷ bs) e = omega (arith, shared-less xs bs e)
shared-less (true ∷ xs) (false ∷ bs) e = omega arith
shared-less (false ∷ xs) (true ∷ bs) e = omega arith
shared-less (false ∷ xs) (false ∷ bs) e = omega (arith, shared-less xs bs e)

-- so whether they are there is told by how many are shared
pub begins-shared : (xs bs : List Bool) → begins xs bs ≡ eqb (shared xs bs) (length xs)
begins-shared xs bs = tests (begins xs bs) refl
  where
    tests : (b : Bool) → begins xs bs ≡ b → b ≡ eqb (shared xs bs) (length xs)
    tests true e = sym (eq-eqb (shared xs bs) (length xs) (shared-all xs bs e))
    tests false e = sym (ne_eqb (shared xs bs) (length xs) (λ q. omega (arith, shared-less xs bs e)))

-- behind bits that are there the others decide
pub begins-on : (xs ys bs : List Bool) → begins xs bs ≡ true → begins (xs ++ ys) bs ≡ begins ys (drop (length xs) bs)
unfolding begins
begins-on [] ys bs e = refl
begins-on (x ∷ xs) ys [] e = absurd (true≢false (sym e))
begins-on (true ∷ xs) ys (true ∷ bs) e = begins-on xs ys bs e
begins-on (true ∷ xs) ys (false ∷ bs) e = absurd (true≢false (sym e))
begins-on (false ∷ xs) ys (true ∷ bs) e = absurd (true≢false (sym e))
begins-on (false ∷ xs) ys (false ∷ bs) e = begins-on xs ys bs e

pub shared-on : (xs ys bs : List Bool) → begins xs bs ≡ true → shared (xs ++ ys) bs ≡ length xs + shared ys (drop (length xs) bs)
unfolding begins shared
shared-on [] ys bs e = let q : shared ys bs ≡ 0 + shared ys bs = omega arith in q
shared-on (x ∷ xs) ys [] e = absurd (true≢false (sym e))
shared-on (true ∷ xs) ys (true ∷ bs) e = omega (arith, shared-on xs ys bs e)
shared-on (true ∷ xs) ys (false ∷ bs) e = absurd (true≢false (sym e))
shared-on (false ∷ xs) ys (true ∷ bs) e = absurd (true≢false (sym e))
shared-on (false ∷ xs) ys (false ∷ bs) e = omega (arith, shared-on xs ys bs e)

-- and behind bits that are not there nothing does
pub begins-off : (xs ys bs : List Bool) → begins xs bs ≡ false → begins (xs ++ ys) bs ≡ false
unfolding begins
begins-off [] ys bs e = absurd (true≢false e)
begins-off (x ∷ xs) ys [] e = refl
begins-off (true ∷ xs) ys (true ∷ bs) e = begins-off xs ys bs e
begins-off (true ∷ xs) ys (false ∷ bs) e = refl
begins-off (false ∷ xs) ys (true ∷ bs) e = refl
begins-off (false ∷ xs) ys (false ∷ bs) e = begins-off xs ys bs e

pub shared-off : (xs ys bs : List Bool) → begins xs bs ≡ false → shared (xs ++ ys) bs ≡ shared xs bs
unfolding begins shared
shared-off [] ys bs e = absurd (true≢false e)
shared-off (x ∷ xs) ys [] e = refl
shared-off (true ∷ xs) ys (true ∷ bs) e = ap suc (shared-off xs ys bs e)
shared-off (true ∷ xs) ys (false ∷ bs) e = refl
shared-off (false ∷ xs) ys (true ∷ bs) e = refl
shared-off (false ∷ xs) ys (false ∷ bs) e = ap suc (shared-off xs ys bs e)

-- ---- What is left

-- all bits from `from` on are met as far as xs are from `next` on
pub record Left (bytes : List ℕ) (next : ℕ) (xs : List Bool) (from : ℕ) (all : List Bool) : Type 0 where
  pub loading : Loading bytes next
  pub place : from + shared all (drop from (bits_of bytes)) ≡ next + shared xs (drop next (bits_of bytes))
  pub whole : begins all (drop from (bits_of bytes)) ≡ begins xs (drop next (bits_of bytes))

-- at first all is
pub left-all : {bytes : List ℕ} {at : ℕ} (xs : List Bool) → Loading bytes at → Left bytes at xs at xs
left-all xs l = record { loading = l; place = refl; whole = refl }

-- bits by another name
pub left_as : {bytes : List ℕ} {next : ℕ} {xs ys : List Bool} {from : ℕ} {all : List Bool} → xs ≡ ys → Left bytes next xs from all → Left bytes next ys from all
left_as {bytes} {next} {from = from} {all} e = subst (λ (l : List Bool). Left bytes next l from all) e

pub meets-as : {bytes : List ℕ} {at : ℕ} {xs ys : List Bool} {r : Met} → xs ≡ ys → Meets bytes at xs r → Meets bytes at ys r
meets-as {bytes} {at} {r = r} e = subst (λ (l : List Bool). Meets bytes at l r) e

-- a refusal that `?` passes on is the one that came
pub passed_on : {bytes : List ℕ} {at : ℕ} {xs : List Bool} (r : Result ℕ Unmet) {u : Unmet} → IsErrAnd r (λ v. v ≡ u) → Meets bytes at xs (met_of (Err u)) → Meets bytes at xs (met_of r)
passed_on r q m = let p = err_from_is_err_and r q in rw (p.1, p.2) m

-- what was met ends in the data
pub met-inside : {bytes : List ℕ} {at : ℕ} {xs : List Bool} {r : Met} → Loading bytes at → Meets bytes at xs r → Loading bytes r.at
met-inside {bytes} {at} {xs} l m = record {
  size = l.size;
  inside = omega (arith, l.inside, m.place, shared-fits xs (drop at (bits_of bytes)), length-drop at (bits_of bytes), length-bits_of bytes);
}

module _ {bytes : List ℕ} {next : ℕ} {left : List Bool} {from : ℕ} {all : List Bool} (w : Left bytes next left from all) where
  -- where nothing is left, all is met
  pub left-none : left ≡ [] → {r : Met} → r.at ≡ next → r.same ≡ true → Meets bytes from all r
  unfolding shared begins
  left-none e p q = record {
    place = p ∙ sym (w.place ∙ ap (λ (l : List Bool). next + shared l (drop next (bits_of bytes))) e ∙ (let z : next + 0 ≡ next = omega arith in z));
    whole = q ∙ sym (w.whole ∙ ap (λ (l : List Bool). begins l (drop next (bits_of bytes))) e);
  }

  -- the last bits that are left
  pub left-last : (xs : List Bool) → left ≡ xs → {r : Met} → Meets bytes next xs r → Meets bytes from all r
  left-last xs e m = record {
    place = m.place ∙ sym (w.place ∙ ap (λ (l : List Bool). next + shared l (drop next (bits_of bytes))) e);
    whole = m.whole ∙ sym (w.whole ∙ ap (λ (l : List Bool). begins l (drop next (bits_of bytes))) e);
  }

  module _ (xs ys : List Bool) (e : left ≡ xs ++ ys) {r : Met} (m : Meets bytes next xs r) where
    -- what comes first is not met: all parts there,
    pub left-parts : r.same ≡ false → Meets bytes from all r
    left-parts d =
        let f = sym m.whole ∙ d in
        left-last (xs ++ ys) e (record {
          place = m.place ∙ ap (λ (n : ℕ). next + n) (sym (shared-off xs ys (drop next (bits_of bytes)) f));
          whole = d ∙ sym (begins-off xs ys (drop next (bits_of bytes)) f);
        })

    -- or it is met, and the others are left
    pub left-on : r.same ≡ true → Left bytes r.at ys from all
    left-on d = record {
      loading = met-inside w.loading m;
      place =
          w.place
          ∙ ap (λ (l : List Bool). next + shared l bs) e
          ∙ ap (λ (n : ℕ). next + n) (shared-on xs ys bs f)
          ∙ (let z : next + (length xs + shared ys (drop (length xs) bs)) ≡ next + length xs + shared ys (drop (length xs) bs) = omega arith in z)
          ∙ ap (λ (l : List Bool). next + length xs + shared ys l) (drop-drop (length xs) next (bits_of bytes))
          ∙ ap (λ (n : ℕ). n + shared ys (drop n (bits_of bytes))) there;
      whole =
          w.whole
          ∙ ap (λ (l : List Bool). begins l bs) e
          ∙ begins-on xs ys bs f
          ∙ ap (begins ys) (drop-drop (length xs) next (bits_of bytes))
          ∙ ap (λ (n : ℕ). begins ys (drop n (bits_of bytes))) there;
    }
      where
        bs : List Bool
        bs = drop next (bits_of bytes)

        f : begins xs bs ≡ true
        f = sym m.whole ∙ d

        there : next + length xs ≡ r.at
        there = sym (m.place ∙ ap (λ (n : ℕ). next + n) (shared-all xs bs f))

-- ---- A code of what is left

module _ {bytes : List ℕ} {next : ℕ} {left : List Bool} {from : ℕ} {all : List Bool} (w : Left bytes next left from all)
    {code : Code} {xs : List Bool} (s : Spells code xs) {r : Met} (m : Meets bytes next (bits_for code.size code.word) r) where
  -- the code that comes first is not met, or it is, and the others are left
  pub code-parts : (ys : List Bool) → left ≡ xs ++ ys → r.same ≡ false → Meets bytes from all r
  code-parts ys e = left-parts w xs ys e (meets-as s.bits m)

  pub code-on : (ys : List Bool) → left ≡ xs ++ ys → r.same ≡ true → Left bytes r.at ys from all
  code-on ys e = left-on w xs ys e (meets-as s.bits m)

  -- the last one
  pub code-last : left ≡ xs → Meets bytes from all r
  code-last e = left-last w xs e (meets-as s.bits m)
