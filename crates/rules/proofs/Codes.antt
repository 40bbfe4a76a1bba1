-- Laws of the code tables, each a test that is computed over all codes of a colour, and what follows from it at each code: no code of a colour
-- begins another; every code has a one, at most 7 zeros before its first and at most 3 behind its last; eight zeros begin none.
-- Assumes nothing.
use mathlib.Core.Path.{◌≡◌, refl, sym, ap, ◌∙◌, subst}
use mathlib.Core.Logic.{◌⊎◌, inl, inr, ⊎_elim}
use mathlib.Core.Bool.{Bool, true, false, not, ◌&&◌, ◌||◌}
use mathlib.Core.List.Memᴰ
use mathlib.Core.List.{List, [], ◌∷◌, ◌++◌, reverse, Memᴰ}
use mathlib.Core.Option.{Option, none, some}
use Prim.Native.Nat.{ℕ, suc, ◌^◌, ◌≤◌, ◌<◌}
use native.Mathlib.Omega.{arith}
use lib.Dec.{T, T_not, leb, ltb, leb→le, ltb→lt}
use lib.ListN.{length, take, replicate}
use Rattle.rules.specs.Bits.{bit, bits_for}
use Rattle.rules.specs.Codes.{Colour, white, black, Code, code_bits, codes_of}
use Rattle.rules.specs.Lookup.{begins, code_in}
use Rattle.rules.proofs.Bits.{length-bits_for}

pub both : (a b : Bool) → T (a && b) → T a × T b
both true b t = (tt, t)
both false b t = absurd t

true-T : {b : Bool} → b ≡ true → T b
true-T e = subst T (sym e) tt

-- ---- A test at every code of a colour

every : (Code → Bool) → List Code → Bool
every p [] = true
every p (c ∷ cs) = p c && every p cs

every-at : (p : Code → Bool) (cs : List Code) → T (every p cs) → (c : Code) → Memᴰ c cs → T (p c)
unfolding every
every-at p [] t c m = absurd (Memᴰ.not-nil m)
every-at p (x ∷ cs) t c m =
    let q = both (p x) (every p cs) t in
    ⊎_elim (λ e. subst (λ (y : Code). T (p y)) (sym e) q.0) (λ k. every-at p cs q.1 c k) (Memᴰ.cases_cons m)

either-colour : (p : Code → Bool) → T (every p (codes_of white)) → T (every p (codes_of black)) → (colour : Colour) (c : Code) → Memᴰ c (codes_of colour) → T (p c)
either-colour p t s white c m = every-at p (codes_of white) t c m
either-colour p t s black c m = every-at p (codes_of black) s c m

-- the zeros before the first one, and whether there is a one
unfoldable pub zeros_before : List Bool → ℕ
zeros_before [] = 0
zeros_before (true ∷ bs) = 0
zeros_before (false ∷ bs) = suc (zeros_before bs)

unfoldable pub holds_one : List Bool → Bool
holds_one [] = false
holds_one (b ∷ bs) = b || holds_one bs

-- A one comes soon: among the first eight bits, and among the first eleven of each end part of four bits or more. So such a word neither begins with eight
-- zeros nor ends four or more bits deep in eleven.
unfoldable pub spread : List Bool → Bool
spread [] = true
spread (b ∷ bs) = (ltb (length (b ∷ bs)) 4 || holds_one (take 11 (b ∷ bs))) && spread bs

unfoldable pub soon : List Bool → Bool
soon bs = holds_one (take 8 bs) && spread bs

-- what is known of a code
pub record Shape (c : Code) : Type 0 where
  pub small-run : c.run ≤ 2560
  pub some_bits : 1 ≤ c.size
  pub two-bits : 2 ≤ c.size
  pub few_bits : c.size ≤ 13
  pub small_word : c.word < 2 ^ c.size
  pub has_one : T (holds_one (code_bits c))
  pub leading : zeros_before (code_bits c) ≤ 7
  pub trailing : zeros_before (reverse (code_bits c)) ≤ 3
  pub one-soon : T (soon (code_bits c))

pub shape : (colour : Colour) (c : Code) → Memᴰ c (codes_of colour) → Shape c
unfolding every codes_of code_bits zeros_before holds_one soon spread bits_for bit
shape colour c m = record {
  small-run = leb→le c.run 2560 (either-colour (λ (d : Code). leb d.run 2560) tt tt colour c m);
  some_bits = leb→le 1 c.size (either-colour (λ (d : Code). leb 1 d.size) tt tt colour c m);
  two-bits = leb→le 2 c.size (either-colour (λ (d : Code). leb 2 d.size) tt tt colour c m);
  few_bits = leb→le c.size 13 (either-colour (λ (d : Code). leb d.size 13) tt tt colour c m);
  small_word = ltb→lt c.word (2 ^ c.size) (either-colour (λ (d : Code). ltb d.word (2 ^ d.size)) tt tt colour c m);
  has_one = either-colour (λ (d : Code). holds_one (code_bits d)) tt tt colour c m;
  leading = leb→le (zeros_before (code_bits c)) 7 (either-colour (λ (d : Code). leb (zeros_before (code_bits d)) 7) tt tt colour c m);
  trailing =
      leb→le (zeros_before (reverse (code_bits c))) 3
      (either-colour (λ (d : Code). leb (zeros_before (reverse (code_bits d))) 3) tt tt colour c m);
  one-soon = either-colour (λ (d : Code). soon (code_bits d)) tt tt colour c m;
}

pub length-code_bits : (c : Code) → length (code_bits c) ≡ c.size
unfolding code_bits
length-code_bits c = length-bits_for c.size c.word

-- eight zeros begin no code, whatever follows
pub eight-zeros : (colour : Colour) (bs : List Bool) → code_in (codes_of colour) (replicate 8 false ++ bs) ≡ none
unfolding code_in codes_of code_bits begins bits_for bit
eight-zeros white bs = refl
eight-zeros black bs = refl

-- ---- No code of a colour begins another

unfoldable pub alone : List Bool → List Code → Bool
unfolding begins code_bits
alone xs [] = true
alone xs (d ∷ ds) = not (begins xs (code_bits d)) && (not (begins (code_bits d) xs) && alone xs ds)

unfoldable pub apart : List Code → Bool
unfolding alone
apart [] = true
apart (c ∷ cs) = alone (code_bits c) cs && apart cs

pub apart_of : (colour : Colour) → T (apart (codes_of colour))
unfolding apart codes_of code_bits begins bits_for bit
apart_of white = tt
apart_of black = tt

alone_at : (xs : List Bool) (ds : List Code) → T (alone xs ds) → (d : Code) → Memᴰ d ds → (T (begins xs (code_bits d)) → ⊥) × (T (begins (code_bits d) xs) → ⊥)
unfolding alone
alone_at xs [] t d m = absurd (Memᴰ.not-nil m)
alone_at xs (x ∷ ds) t d m =
    let p = both (not (begins xs (code_bits x))) (not (begins (code_bits x) xs) && alone xs ds) t in
    let q = both (not (begins (code_bits x) xs)) (alone xs ds) p.1 in
    ⊎_elim
    (λ e. subst (λ (y : Code). (T (begins xs (code_bits y)) → ⊥) × (T (begins (code_bits y) xs) → ⊥)) (sym e) (T_not (begins xs (code_bits x)) p.0, T_not (begins (code_bits x) xs) q.0))
    (λ k. alone_at xs ds q.1 d k)
    (Memᴰ.cases_cons m)

apart-at : (cs : List Code) → T (apart cs) → (c d : Code) → Memᴰ c cs → Memᴰ d cs → T (begins (code_bits c) (code_bits d)) → c ≡ d
unfolding apart
apart-at [] t c d m k b = absurd (Memᴰ.not-nil m)
apart-at (x ∷ cs) t c d m k b =
    let p = both (alone (code_bits x) cs) (apart cs) t in
    ⊎_elim
    (λ e. ⊎_elim
    (λ f. e ∙ sym f)
    (λ l. absurd ((alone_at (code_bits x) cs p.0 d l).0 (subst (λ (y : Code). T (begins (code_bits y) (code_bits d))) e b)))
    (Memᴰ.cases_cons k))
    (λ j. ⊎_elim
    (λ f. absurd ((alone_at (code_bits x) cs p.0 c j).1 (subst (λ (y : Code). T (begins (code_bits c) (code_bits y))) f b)))
    (λ l. apart-at cs p.1 c d j l b)
    (Memᴰ.cases_cons k))
    (Memᴰ.cases_cons m)

pub prefix-free : (colour : Colour) (c d : Code) → Memᴰ c (codes_of colour) → Memᴰ d (codes_of colour) → T (begins (code_bits c) (code_bits d)) → c ≡ d
prefix-free colour c d m k b = apart-at (codes_of colour) (apart_of colour) c d m k b

-- of two words that begin the same bits, one begins the other
comparable : (xs ys bs : List Bool) → T (begins xs bs) → T (begins ys bs) → T (begins xs ys) ⊎ T (begins ys xs)
unfolding begins
comparable [] ys bs s t = inl tt
comparable (x ∷ xs) [] bs s t = inr tt
comparable (x ∷ xs) (y ∷ ys) [] s t = absurd s
comparable (true ∷ xs) (true ∷ ys) (true ∷ bs) s t = comparable xs ys bs s t
comparable (true ∷ xs) (true ∷ ys) (false ∷ bs) s t = absurd s
comparable (true ∷ xs) (false ∷ ys) (true ∷ bs) s t = absurd t
comparable (true ∷ xs) (false ∷ ys) (false ∷ bs) s t = absurd s
comparable (false ∷ xs) (true ∷ ys) (true ∷ bs) s t = absurd s
comparable (false ∷ xs) (true ∷ ys) (false ∷ bs) s t = absurd t
comparable (false ∷ xs) (false ∷ ys) (true ∷ bs) s t = absurd s
comparable (false ∷ xs) (false ∷ ys) (false ∷ bs) s t = comparable xs ys bs s t

-- ---- The code that is found

-- it is one of the list, and begins the bits
pub record Found (cs : List Code) (bs : List Bool) (c : Code) : Type 0 where
  pub member : Memᴰ c cs
  pub begun : T (begins (code_bits c) bs)

pub found-is : (cs : List Code) (bs : List Bool) (c : Code) → code_in cs bs ≡ some c → Found cs bs c
unfolding code_in
found-is [] bs c e = absurd (let z : ◌≡◌ {A = ℕ} 0 1 = cc in omega arith)
found-is (x ∷ cs) bs c e = cases (found-is cs bs c) (begins (code_bits x) bs) refl e
  where
    cases : (code_in cs bs ≡ some c → Found cs bs c) → (t : Bool) → begins (code_bits x) bs ≡ t → (elim t as (λ _. Option Code) [ true ↦ some x | false ↦ code_in cs bs ]) ≡ some c → Found (x ∷ cs) bs c
    cases ih true q e =
        let s : x ≡ c = cc in
        record { member = Memᴰ.head (sym s); begun = subst (λ (y : Code). T (begins (code_bits y) bs)) s (true-T q) }
    cases ih false q e = let f = ih e in record { member = Memᴰ.tail f.member; begun = f.begun }

-- some code of the list that begins the bits is found
some-found : (cs : List Code) (bs : List Bool) (c : Code) → Memᴰ c cs → T (begins (code_bits c) bs) → (d : Code) × (code_in cs bs ≡ some d)
unfolding code_in
some-found [] bs c m b = absurd (Memᴰ.not-nil m)
some-found (x ∷ cs) bs c m b = cases (λ k. some-found cs bs c k b) (begins (code_bits x) bs) refl
  where
    cases : (Memᴰ c cs → (d : Code) × (code_in cs bs ≡ some d)) → (t : Bool) → begins (code_bits x) bs ≡ t → (d : Code) × ((elim t as (λ _. Option Code) [ true ↦ some x | false ↦ code_in cs bs ]) ≡ some d)
    cases ih true q = (x, refl)
    cases ih false q = ⊎_elim (λ e. absurd (subst T q (subst (λ (y : Code). T (begins (code_bits y) bs)) e b))) ih (Memᴰ.cases_cons m)

-- bits that begin with a code of the colour: that code is found
pub finds : (colour : Colour) (c : Code) (bs : List Bool) → Memᴰ c (codes_of colour) → T (begins (code_bits c) bs) → code_in (codes_of colour) bs ≡ some c
finds colour c bs m b =
    let r = some-found (codes_of colour) bs c m b in
    let f = found-is (codes_of colour) bs r.0 r.1 in
    let e : r.0 ≡ c = ⊎_elim
    (λ t. prefix-free colour r.0 c f.member m t)
    (λ t. sym (prefix-free colour c r.0 m f.member t))
    (comparable (code_bits r.0) (code_bits c) bs f.begun b) in
    r.1 ∙ ap (λ (d : Code). some d) e
