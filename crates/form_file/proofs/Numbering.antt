-- Laws of the numbers behind a line's first word, told word by word. Assumes nothing.
use mathlib.Core.Path.{◌≡◌, refl, sym, ap, ap₂, ◌∙◌, subst}
use mathlib.Core.Bool.{Bool, true, false, ◌&&◌}
use mathlib.Core.List.{List, [], ◌∷◌}
use Prim.Native.Nat.{ℕ, zero, suc, ◌+◌, ◌-◌, ◌≤◌, ◌<◌}
use native.Mathlib.Omega.{arith}
use native.Mathlib.Numerals.{add-one}
use lib.Dec.{ltb}
use lib.ListN.{length, get_or, take, drop, set, replicate, length-drop, length-set, get_or-eq_default}
use lib.Seq.{drop-cons, get_or-set_same, get_or-set_other}
use borrow.Author.Tests.{ltb-true, ltb-false, lt-ltb, le-ltb}
use Rattle.heads.specs.Form.{all}
use Rattle.form_file.specs.Words.{is_blank, none, value_of, values_of}
use Rattle.form_file.specs.Steps.{ahead, is_letter, is_held, words_in, Valued}
use Rattle.form_file.proofs.Ahead.{past-in, past-stops}
use Rattle.form_file.proofs.Wording.{words-skip, words-done, words-next, word_some}

-- ---- Lists

both : (a b : Bool) → (a && b) ≡ true → (a ≡ true) × (b ≡ true)
both true b h = (refl, h)
both false b h = absurd (let z : ◌≡◌ {A = ℕ} 0 1 = cc in omega arith)

and-true : (b : Bool) → b ≡ (b && true)
and-true true = refl
and-true false = refl

and_assoc : (a b c : Bool) → ((a && b) && c) ≡ (a && (b && c))
and_assoc true b c = refl
and_assoc false b c = refl

-- each element of a list that all pass
all-at : (test : ℕ → Bool) (ns : List ℕ) → all test ns ≡ true → (k : ℕ) → k < length ns → test (get_or ns k 0) ≡ true
unfolding all
all-at test [] h k l = absurd (omega arith)
all-at test (n ∷ ns) h zero l = (both (test n) (all test ns) h).0
all-at test (n ∷ ns) h (suc k) l = all-at test ns (both (test n) (all test ns) h).1 k (omega arith)

zeros : (m k : ℕ) → get_or {A = ℕ} (replicate m 0) k 0 ≡ 0
zeros zero k = refl
zeros (suc m) zero = refl
zeros (suc m) (suc k) = zeros m k

-- the list from a place on, where it has an element there
module _ (ns : List ℕ) (c x : ℕ) (xs : List ℕ) (e : drop c ns ≡ x ∷ xs) where
  has_more : c < length ns
  has_more = omega (arith, length-drop c ns, ap length e)

  has_first : get_or ns c 0 ≡ x
  has_first = ap (λ (l : List ℕ). get_or l 0 0) (sym (drop-cons ns c 0 has_more) ∙ e)

  has_rest : drop (c + 1) ns ≡ xs
  has_rest = rw (add-one c) (ap (λ (l : List ℕ). drop 1 l) (sym (drop-cons ns c 0 has_more) ∙ e))

-- ---- One number more

-- an array of five, with one number more behind those that it has; a number that is not held, and a sixth one, is not put there
pub record Put (n : List ℕ) (count value : ℕ) (n' : List ℕ) : Type 0 where
  pub long : length n' ≡ 5
  pub others : (k : ℕ) → (k ≡ count → ⊥) → get_or n' k 0 ≡ get_or n k 0
  pub here : count < 5 → value < none → get_or n' count 0 ≡ value

module _ (n : List ℕ) (count value : ℕ) (long : length n ≡ 5) where
  put-none : none ≤ value → Put n count value n
  put-none h = record { long = long; others = λ k d. refl; here = λ l m. absurd (omega arith) }

  put-past : 5 ≤ count → Put n count value n
  put-past h = record { long = long; others = λ k d. refl; here = λ l m. absurd (omega arith) }

  put_one : count < 5 → Put n count value (set n count value)
  put_one h = record {
    long = length-set n count value ∙ long;
    others = λ k d. get_or-set_other n count k value 0 d;
    here = λ l m. get_or-set_same n count value 0 (omega arith);
  }

-- and whether all are held
pub record More (n : List ℕ) (count : ℕ) (held : Bool) (value : ℕ) (n' : List ℕ) (held' : Bool) : Type 0 where
  pub put : Put n count value n'
  pub good : held' ≡ (held && is_held value)

module _ (n : List ℕ) (count : ℕ) (held : Bool) (value : ℕ) (long : length n ≡ 5) (n' : List ℕ) (held' : Bool) where
  pub more-not : none ≤ value → n' ≡ n → held' ≡ false → More n count held value n' held'
  more-not h e f = record { put = subst (Put n count value) (sym e) (put-none n count value long h); good = f ∙ not-held held }
    where
      not-held : (b : Bool) → false ≡ (b && is_held value)
      not-held true = sym (le-ltb value none h)
      not-held false = refl

  module _ (h : value < none) (f : held' ≡ held) where
    as-held : (b : Bool) → b ≡ (b && is_held value)
    as-held true = sym (lt-ltb value none h)
    as-held false = refl

    pub more-put : count < 5 → n' ≡ set n count value → More n count held value n' held'
    more-put l e = record { put = subst (Put n count value) (sym e) (put_one n count value long l); good = f ∙ as-held held }

    pub more-past : 5 ≤ count → n' ≡ n → More n count held value n' held'
    more-past l e = record { put = subst (Put n count value) (sym e) (put-past n count value long l); good = f ∙ as-held held }

-- ---- The numbers of a line, as far as a place

module _ (line ns : List ℕ) where
  pub record Told (n : List ℕ) (count : ℕ) (held : Bool) (at : ℕ) : Type 0 where
    pub inside : at ≤ length line
    pub starts : at < length line → is_blank (get_or line at 0) ≡ false
    pub few : count ≤ at
    pub told : count ≤ length ns
    pub rest : values_of (words_in (drop at line)) ≡ drop count ns
    pub good : (held && all is_held (drop count ns)) ≡ all is_held ns
    pub long : length n ≡ 5
    pub stored : (k : ℕ) → k < count → k < 5 → get_or ns k 0 < none → get_or n k 0 ≡ get_or ns k 0
    pub clear : (k : ℕ) → count ≤ k → get_or n k 0 ≡ 0

  pub told-first : (from : ℕ) → from ≤ length line → ns ≡ values_of (words_in (drop from line)) → (at : ℕ) → at ≡ from + ahead is_blank (drop from line)
      → Told (replicate 5 0) 0 true at
  told-first from l e at p = record {
    inside = omega (arith, past-in is_blank line from l);
    starts = λ m. ap (λ (k : ℕ). is_blank (get_or line k 0)) p ∙ past-stops is_blank line from (omega arith);
    few = omega arith;
    told = omega arith;
    rest = ap (λ (k : ℕ). values_of (words_in (drop k line))) p ∙ sym (e ∙ ap values_of (words-skip line from));
    good = refl;
    long = refl;
    stored = λ k m. absurd (omega arith);
    clear = λ k m. zeros 5 k;
  }

  module _ {n : List ℕ} {count : ℕ} {held : Bool} {at : ℕ} (t : Told n count held at) where
    pub told-last : length line ≤ at → Valued record { count = count; held = held; n = n } ns
    unfolding all values_of
    told-last l = record { held = and-true held ∙ ap (λ (xs : List ℕ). held && all is_held xs) (sym none_left) ∙ t.good; numbers = λ a. record { count = many; first = λ k m. by a k m (ltb k count) refl } }
      where
        none_left : drop count ns ≡ []
        none_left = sym t.rest ∙ ap values_of (words-done line at l)

        many : count ≡ length ns
        many = omega (arith, t.told, length-drop count ns, ap length none_left)

        by : all is_held ns ≡ true → (k : ℕ) → k < 5 → (b : Bool) → ltb k count ≡ b → get_or n k 0 ≡ get_or ns k 0
        by a k m true e = t.stored k (ltb-true k count e) m (ltb-true (get_or ns k 0) none (all-at is_held ns a k (omega (arith, ltb-true k count e, many))))
        by a k m false e = t.clear k (ltb-false k count e) ∙ sym (let z : length ns ≤ k = omega (arith, ltb-false k count e, many) in get_or-eq_default ns 0 z)

    module _ (l : at < length line) (end : ℕ) (e : end ≡ at + ahead is_letter (drop at line)) where
      pub word-ends : (at < end) × (end ≤ length line)
      word-ends = (omega (arith, word_some line at l (t.starts l)), omega (arith, past-in is_letter line at t.inside))

      module _ (value : ℕ) (f : value ≡ value_of (take (end - at) (drop at line))) where
        next : drop count ns ≡ value ∷ values_of (words_in (drop end line))
        unfolding values_of
        next =
            sym t.rest
            ∙ ap values_of (words-next line at l (t.starts l))
            ∙ ap₂ (λ (x : ℕ) (k : ℕ). x ∷ values_of (words_in (drop k line))) (ap (λ (k : ℕ). value_of (take k (drop at line))) long ∙ sym f) (sym e)
          where
            long : ahead is_letter (drop at line) ≡ end - at
            long = omega arith

        pub told-next : (n' : List ℕ) (held' : Bool) → More n count held value n' held'
            → (at' : ℕ) → at' ≡ end + ahead is_blank (drop end line) → Told n' (count + 1) held' at'
        unfolding all
        told-next n' held' m at' q = record {
          inside = omega (arith, past-in is_blank line end word-ends.1);
          starts = λ i. ap (λ (k : ℕ). is_blank (get_or line k 0)) q ∙ past-stops is_blank line end (omega arith);
          few = omega (arith, t.few, word-ends.0);
          told = omega (arith, has_more ns count value _ next);
          rest = ap (λ (k : ℕ). values_of (words_in (drop k line))) q ∙ sym (has_rest ns count value _ next ∙ ap values_of (words-skip line end));
          good =
              ap₂ (λ (b : Bool) (xs : List ℕ). b && all is_held xs) m.good (has_rest ns count value _ next)
              ∙ and_assoc held (is_held value) (all is_held (values_of (words_in (drop end line))))
              ∙ ap (λ (xs : List ℕ). held && all is_held xs) (sym next)
              ∙ t.good;
          long = m.put.long;
          stored = λ k i j g. by k i j g (ltb k count) refl;
          clear = λ k i. m.put.others k (λ z. omega arith) ∙ t.clear k (omega arith);
        }
          where
            by : (k : ℕ) → k < count + 1 → k < 5 → get_or ns k 0 < none → (b : Bool) → ltb k count ≡ b → get_or n' k 0 ≡ get_or ns k 0
            by k i j g true x = m.put.others k (λ z. omega (arith, ltb-true k count x)) ∙ t.stored k (ltb-true k count x) j g
            by k i j g false x = ap (λ (a : ℕ). get_or n' a 0) last ∙ m.put.here (omega (arith, last)) (omega (arith, is)) ∙ sym is
              where
                last : k ≡ count
                last = omega (arith, ltb-false k count x)

                is : get_or ns k 0 ≡ value
                is = ap (λ (a : ℕ). get_or ns a 0) last ∙ has_first ns count value _ next
