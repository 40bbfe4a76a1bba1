-- What an answer becomes in a smaller room: the rule `within`, and what it keeps of the answer, by cases. Assumes nothing.
use mathlib.Core.Path.{◌≡◌, refl, sym, ap, ◌∙◌}
use mathlib.Core.Logic.{◌⊎◌, inl, inr}
use mathlib.Core.Bool.{Bool, true, false}
use mathlib.Core.List.{List, [], ◌∷◌, ◌++◌, append_assoc, append-nil}
use Prim.Native.Nat.{ℕ, zero, suc, ◌+◌, ◌-◌, ◌≤◌, ◌<◌}
use native.Mathlib.Omega.{arith}
use lib.Dec.{leb, ltb}
use lib.ListN.{length, take, drop, get_or, length-append, length-take, take-append-drop, get_or-eq_default}
use lib.Seq.{take_all, take_at}
use borrow.Author.Tests.{leb-true, leb-false, ltb-true, ltb-false, le-leb, lt-leb, lt-ltb, le-ltb}
use Rattle.rules.specs.Rows.{Settings}
use Rattle.rules.specs.Pages.{Answer, entries, unless_short, joined, ends_from}
use Rattle.rules.specs.Within.{cut_behind, four, five, within_from, within}
use Rattle.rules.proofs.PageBack.{entries-snoc}
use Rattle.rules.proofs.Store.{entries-append}
use Rattle.rules.proofs.Answers.{short-cases, never-short}

-- ---- The rule

-- the rule, a line for each of its cases
module _ (store places : ℕ) (a : Answer) (kept : List (List ℕ)) where
  pub within_all : length a.loose ≤ store - entries kept → within_from store places a kept [] ≡ a
  unfolding within_from
  within_all h = rw (le-leb (length a.loose) (store - entries kept) h, within_from)

  pub within-loose : store - entries kept < length a.loose → within_from store places a kept [] ≡ four a kept (take (store - entries kept) a.loose)
  unfolding within_from
  within-loose h = rw (lt-leb (length a.loose) (store - entries kept) h, within_from)

  module _ (r : List ℕ) (rows : List (List ℕ)) where
    pub within-four : store - entries kept < length r → within_from store places a kept (r ∷ rows) ≡ four a kept (take (store - entries kept) r)
    unfolding within_from
    within-four h = rw (lt-leb (length r) (store - entries kept) h, within_from)

    pub within-five : length r ≤ store - entries kept → places ≤ length kept → within_from store places a kept (r ∷ rows) ≡ five a kept r
    unfolding within_from
    within-five h l = rw (le-leb (length r) (store - entries kept) h, le-ltb (length kept) places l, within_from)

    pub within-kept : length r ≤ store - entries kept → length kept < places → within_from store places a kept (r ∷ rows) ≡ within_from store places a (kept ++ r ∷ []) rows
    unfolding within_from
    within-kept h l = rw (le-leb (length r) (store - entries kept) h, lt-ltb (length kept) places l, within_from)

-- ---- By cases

-- what comes behind the rows kept: the next row, or the loose entries
abbrev next : Answer → List (List ℕ) → List ℕ
next a rest = get_or rest 0 a.loose

-- the whole answer; or no entry is left for a change of what comes next; or no row end is left for a row that fits
pub data Cuts (store places : ℕ) (a : Answer) : Answer → Type 0 where
  all_fit : entries a.rows + length a.loose ≤ store → length a.rows ≤ places → Cuts store places a a
  no-entry : (kept rest : List (List ℕ)) → a.rows ≡ kept ++ rest → entries kept ≤ store → length kept ≤ places → store - entries kept < length (next a rest)
      → Cuts store places a (four a kept (take (store - entries kept) (next a rest)))
  no_end : (kept rest : List (List ℕ)) (r : List ℕ) → a.rows ≡ kept ++ r ∷ rest → entries kept + length r ≤ store → length kept ≡ places
      → Cuts store places a (five a kept r)

module _ (store places : ℕ) (a : Answer) where
  cuts-from : (kept rest : List (List ℕ)) → a.rows ≡ kept ++ rest → entries kept ≤ store → length kept ≤ places → Cuts store places a (within_from store places a kept rest)
  cuts-from kept [] e h k = tests (leb (length a.loose) (store - entries kept)) (leb-true _ _) (leb-false _ _)
    where
      tests : (b : Bool) → (b ≡ true → length a.loose ≤ store - entries kept) → (b ≡ false → store - entries kept < length a.loose) → Cuts store places a (within_from store places a kept [])
      tests true p q =
          let i : a.rows ≡ kept = e ∙ append-nil kept in
          rw (within_all store places a kept (p refl)) (all_fit (omega (arith, p refl, ap entries i)) (omega (arith, ap length i)))
      tests false p q = rw (within-loose store places a kept (q refl)) (no-entry kept [] e h k (q refl))
  cuts-from kept (r ∷ rest) e h k =
      tests (leb (length r) (store - entries kept)) (leb-true _ _) (leb-false _ _) (ltb (length kept) places) (ltb-true _ _) (ltb-false _ _)
      (cuts-from (kept ++ r ∷ []) rest (e ∙ sym (append_assoc kept (r ∷ []) rest)))
    where
      tests : (b : Bool) → (b ≡ true → length r ≤ store - entries kept) → (b ≡ false → store - entries kept < length r)
          → (c : Bool) → (c ≡ true → length kept < places) → (c ≡ false → places ≤ length kept)
          → (entries (kept ++ r ∷ []) ≤ store → length (kept ++ r ∷ []) ≤ places → Cuts store places a (within_from store places a (kept ++ r ∷ []) rest))
          → Cuts store places a (within_from store places a kept (r ∷ rest))
      tests false p q c u v ih = rw (within-four store places a kept r rest (q refl)) (no-entry kept (r ∷ rest) e h k (q refl))
      tests true p q false u v ih = rw (within-five store places a kept r rest (p refl) (v refl)) (no_end kept rest r e (omega (arith, p refl)) (omega (arith, v refl)))
      tests true p q true u v ih =
          rw (within-kept store places a kept r rest (p refl) (u refl)) (ih (omega (arith, p refl, entries-snoc kept r)) (omega (arith, u refl, length-append kept (r ∷ []))))

  pub cuts : Cuts store places a (within store places a)
  unfolding entries
  cuts = cuts-from [] a.rows refl (omega arith) (omega arith)

-- ---- What is kept

next-few : (a : Answer) (rest : List (List ℕ)) → length (next a rest) ≤ entries rest + length a.loose
unfolding entries
next-few a [] = omega arith
next-few a (r ∷ rest) = omega arith

-- the rows kept are the first of the answer's, with their marks, and the loose entries the front of what comes behind them: the next row, or the answer's own loose entries
pub record Front (a b : Answer) : Type 0 where
  pub fewer : length b.rows ≤ length a.rows
  pub rows : b.rows ≡ take (length b.rows) a.rows
  pub marks : b.marks ≡ take (length b.rows) a.marks
  pub loose : b.loose ≡ take (length b.loose) (get_or a.rows (length b.rows) a.loose)

get_d-behind : (kept rest : List (List ℕ)) (xs : List ℕ) → get_or (kept ++ rest) (length kept) xs ≡ get_or rest 0 xs
get_d-behind [] rest xs = refl
get_d-behind (r ∷ kept) rest xs = get_d-behind kept rest xs

-- where the rows kept are the first of the answer's
front_of : {a : Answer} (n : ℕ) (kept rest : List (List ℕ)) (loose : List ℕ) → a.rows ≡ kept ++ rest → loose ≡ take (length loose) (next a rest)
    → Front a (cut_behind a n kept loose)
front_of {a} n kept rest loose e f = record {
  fewer = omega (arith, ap length e, length-append kept rest);
  rows = sym (ap (take (length kept)) e ∙ take_at kept rest (length kept) refl);
  marks = refl;
  loose = f ∙ ap (take (length loose)) (sym (ap (λ (l : List (List ℕ)). get_or l (length kept) a.loose) e ∙ get_d-behind kept rest a.loose));
}

-- a front, by its own length
take-length : (n : ℕ) (xs : List ℕ) → n < length xs → take n xs ≡ take (length (take n xs)) xs
take-length n xs h = ap (λ (k : ℕ). take k xs) (let q : n ≡ length (take n xs) = omega (arith, length-take n xs) in q)

module _ {store places : ℕ} {a : Answer} where
  pub cuts-front : {b : Answer} → length a.marks ≡ length a.rows → Cuts store places a b → Front a b
  cuts-front marked (all_fit h k) = record {
    fewer = omega arith;
    rows = sym (take_all (length a.rows) a.rows (omega arith));
    marks = sym (take_all (length a.rows) a.marks (omega arith));
    loose = sym (ap (take (length a.loose)) (get_or-eq_default a.rows a.loose (omega arith)) ∙ take_all (length a.loose) a.loose (omega arith));
  }
  cuts-front marked (no-entry kept rest e h k l) = front_of 4 kept rest (take (store - entries kept) (next a rest)) e (take-length (store - entries kept) (next a rest) l)
  cuts-front marked (no_end kept rest r e h k) = front_of 5 kept (r ∷ rest) r e (sym (take_all (length r) r (omega arith)))

  -- a 4 is the answer's own, or the answer has more entries than there are
  pub cuts-four : {b : Answer} → Cuts store places a b → b.number ≡ 4 → (b ≡ a) ⊎ (store < entries a.rows + length a.loose)
  cuts-four (all_fit h k) q = inl refl
  cuts-four (no-entry kept rest e h k l) q = inr (omega (arith, ap entries e, entries-append kept rest, next-few a rest))
  cuts-four (no_end kept rest r e h k) q = absurd (omega arith)

  -- a 5 is the answer's own, or the answer has more rows than there are ends
  pub cuts-five : {b : Answer} → Cuts store places a b → b.number ≡ 5 → (b ≡ a) ⊎ (places < length a.rows)
  cuts-five (all_fit h k) q = inl refl
  cuts-five (no-entry kept rest e h k l) q = absurd (omega arith)
  cuts-five (no_end kept rest r e h k) q = inr (omega (arith, ap length e, length-append kept (r ∷ rest)))

-- ---- In the store

joined-append : (xs ys : List (List ℕ)) → joined (xs ++ ys) ≡ joined xs ++ joined ys
unfolding joined
joined-append [] ys = refl
joined-append (x ∷ xs) ys = ap (λ (l : List ℕ). x ++ l) (joined-append xs ys) ∙ sym (append_assoc x (joined xs) (joined ys))

-- behind the first n rows lies the next one, or the loose entries
next-begins : (rows : List (List ℕ)) (loose : List ℕ) (n : ℕ) → (later : List ℕ) × (joined (drop n rows) ++ loose ≡ get_or rows n loose ++ later)
unfolding joined
next-begins [] loose zero = ([], sym (append-nil loose))
next-begins [] loose (suc n) = ([], sym (append-nil loose))
next-begins (r ∷ rows) loose zero = (joined rows ++ loose, append_assoc r (joined rows) loose)
next-begins (r ∷ rows) loose (suc n) = next-begins rows loose n

-- what is kept lies in front,
pub front-joined : {a b : Answer} → Front a b → (later : List ℕ) × (joined a.rows ++ a.loose ≡ (joined b.rows ++ b.loose) ++ later)
front-joined {a} {b} f = (drop m xs ++ rest.0, whole)
  where
    n : ℕ
    n = length b.rows

    m : ℕ
    m = length b.loose

    xs : List ℕ
    xs = get_or a.rows n a.loose

    rest : (later : List ℕ) × (joined (drop n a.rows) ++ a.loose ≡ xs ++ later)
    rest = next-begins a.rows a.loose n

    rows-part : joined a.rows ≡ joined b.rows ++ joined (drop n a.rows)
    rows-part =
        ap joined (sym (take-append-drop n a.rows)) ∙ joined-append (take n a.rows) (drop n a.rows)
        ∙ ap (λ (l : List (List ℕ)). joined l ++ joined (drop n a.rows)) (sym f.rows)

    loose-part : xs ≡ b.loose ++ drop m xs
    loose-part = sym (take-append-drop m xs) ∙ ap (λ (l : List ℕ). l ++ drop m xs) (sym f.loose)

    whole : joined a.rows ++ a.loose ≡ (joined b.rows ++ b.loose) ++ (drop m xs ++ rest.0)
    whole =
        ap (λ (l : List ℕ). l ++ a.loose) rows-part ∙ append_assoc (joined b.rows) (joined (drop n a.rows)) a.loose
        ∙ ap (λ (l : List ℕ). joined b.rows ++ l) (rest.1 ∙ ap (λ (l : List ℕ). l ++ rest.0) loose-part ∙ append_assoc b.loose (drop m xs) rest.0)
        ∙ sym (append_assoc (joined b.rows) b.loose (drop m xs ++ rest.0))

-- and so do its ends
take_ends : (n base : ℕ) (rows : List (List ℕ)) → take n (ends_from base rows) ≡ ends_from base (take n rows)
unfolding ends_from
take_ends zero base [] = refl
take_ends zero base (r ∷ rows) = refl
take_ends (suc n) base [] = refl
take_ends (suc n) base (r ∷ rows) = ap (λ (l : List ℕ). (base + length r) ∷ l) (take_ends n (base + length r) rows)

pub front_ends : {a b : Answer} → Front a b → take (length b.rows) (ends_from 0 a.rows) ≡ ends_from 0 b.rows
front_ends {a} {b} f = take_ends (length b.rows) 0 a.rows ∙ ap (ends_from 0) (sym f.rows)

-- ---- A page that is short of rows (A12)

module _ (S : Settings) (store places : ℕ) (a : Answer) where
  -- the same rows and loose entries under another number
  abbrev renamed : ℕ → ℕ → ℕ → Answer
  renamed n place bytes = record { number = n; place = place; bytes = bytes; rows = a.rows; marks = a.marks; loose = a.loose }

  short-from : (n place bytes : ℕ) → unless_short S a ≡ renamed n place bytes → (kept rest : List (List ℕ))
      → unless_short S (within_from store places a kept rest) ≡ within_from store places (renamed n place bytes) kept rest
  unfolding within_from
  short-from n place bytes h kept [] = tests (leb (length a.loose) (store - entries kept)) refl
    where
      tests : (b : Bool) → leb (length a.loose) (store - entries kept) ≡ b → unless_short S (within_from store places a kept []) ≡ within_from store places (renamed n place bytes) kept []
      tests true q = rw (q, within_from) h
      tests false q = rw (q, within_from) (never-short S (four a kept (take (store - entries kept) a.loose)) (λ z. omega arith))
  short-from n place bytes h kept (r ∷ rest) = tests (leb (length r) (store - entries kept)) refl (ltb (length kept) places) refl (short-from n place bytes h (kept ++ r ∷ []) rest)
    where
      tests : (b : Bool) → leb (length r) (store - entries kept) ≡ b → (c : Bool) → ltb (length kept) places ≡ c
          → unless_short S (within_from store places a (kept ++ r ∷ []) rest) ≡ within_from store places (renamed n place bytes) (kept ++ r ∷ []) rest
          → unless_short S (within_from store places a kept (r ∷ rest)) ≡ within_from store places (renamed n place bytes) kept (r ∷ rest)
      tests false q c p ih = rw (q, within_from) (never-short S (four a kept (take (store - entries kept) r)) (λ z. omega arith))
      tests true q false p ih = rw (q, p, within_from) (never-short S (five a kept r) (λ z. omega arith))
      tests true q true p ih = rw (q, p, within_from) ih

  -- 4 and 5 come before 14, which stays where everything fits
  pub short-within : unless_short S (within store places a) ≡ within store places (unless_short S a)
  short-within =
      short-cases S a (λ x. unless_short S a ≡ x → unless_short S (within store places a) ≡ within store places x)
      (λ l h. short-from 14 0 0 h [] a.rows) (λ n h. short-from a.number a.place a.bytes h [] a.rows) refl
