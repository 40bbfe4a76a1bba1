-- The plain engine (A14) and the lookup engine give the same: run, bits taken and answer, on all data, from any bit, and for both colours by one argument.
-- It is over candidates of which none begins another; of the two tables it uses only what proofs/Codes.antt says of both. Assumes nothing.
use mathlib.Core.Path.{◌≡◌, refl, sym, ap, ap₂, ◌∙◌, subst}
use mathlib.Core.Bool.{Bool, true, false, cond, not, ◌&&◌, true≢false}
use mathlib.Core.List.{List, [], ◌∷◌, Memᴰ}
use mathlib.Core.Option.{Option, none, some}
use Prim.Native.Nat.{ℕ, zero, suc, ◌+◌, max, ◌≤◌}
use native.Mathlib.Omega.{arith}
use native.Mathlib.Nat.{zero-add}
use lib.Dec.{T, leb}
use lib.ListN.{length, drop, length-drop}
use borrow.Author.Tests.{leb-true, leb-false, le-leb, lt-leb}
use Rattle.rules.specs.Machine.{Out, done}
use Rattle.rules.specs.Bits.{window}
use Rattle.rules.specs.Codes.{Colour, Code, code_bits, codes_of}
use Rattle.rules.specs.Lookup.{begins, shared, code_in, longest_shared, Entry, valid, invalid, entry_for, lookup}
use Rattle.rules.specs.Runs.{Res, fault, Sum, run_take, run_step}
use Rattle.rules.specs.Plain.{Found, found, lost, Candidate, candidate, candidates, agreeing, Verdict, no_code, is_code, more_bits, or_more_bits, verdict, compare, plain, by_entry, by_lookup}
use Rattle.rules.proofs.Codes.{both, Shape, shape, length-code_bits, alone, apart, apart_of}

-- ---- The lookup's rule over candidates

-- the first whose bits to come begin the bits
among : List Candidate → List Bool → Option Candidate
among [] bs = none
among (candidate xs r ∷ cs) bs = elim (begins xs bs) [ true ↦ some (candidate xs r) | false ↦ among cs bs ]

longest : List Candidate → List Bool → ℕ
longest [] bs = 0
longest (candidate xs r ∷ cs) bs = max (shared xs bs) (longest cs bs)

abbrev entry_of : ℕ → Option Candidate → Entry
entry_of n (some (candidate xs r)) = valid r (length xs)
entry_of n none = invalid (n + 1)

abbrev entry_in : List Candidate → List Bool → Entry
entry_in cs bs = entry_of (longest cs bs) (among cs bs)

-- over all codes of a table it is the lookup's
table-longest : (cs : List Code) (bs : List Bool) → longest (candidates cs) bs ≡ longest_shared cs bs
unfolding longest candidates longest_shared
table-longest [] bs = refl
table-longest (c ∷ cs) bs = ap (λ (n : ℕ). max (shared (code_bits c) bs) n) (table-longest cs bs)

-- the same code, or none
abbrev Same : Option Code → Option Candidate → Type 0
Same none none = Unit {0}
Same none (some o) = ⊥
Same (some c) none = ⊥
Same (some c) (some (candidate xs r)) = (r ≡ c.run) × (length xs ≡ c.size)

table_same : (cs : List Code) (bs : List Bool) → Same (code_in cs bs) (among (candidates cs) bs)
unfolding among candidates code_in
table_same [] bs = tt
table_same (c ∷ cs) bs = tests (begins (code_bits c) bs) (table_same cs bs)
  where
    tests : (b : Bool) → Same (code_in cs bs) (among (candidates cs) bs)
        → Same (elim b [ true ↦ some c | false ↦ code_in cs bs ]) (elim b [ true ↦ some (candidate (code_bits c) c.run) | false ↦ among (candidates cs) bs ])
    tests true later = (refl, length-code_bits c)
    tests false later = later

table-entry : (cs : List Code) (bs : List Bool) → entry_in (candidates cs) bs ≡ entry_for cs bs (code_in cs bs)
table-entry cs bs = cases (code_in cs bs) (among (candidates cs) bs) (table_same cs bs)
  where
    cases : (a : Option Code) (b : Option Candidate) → Same a b → entry_of (longest (candidates cs) bs) b ≡ entry_for cs bs a
    cases none none s = ap (λ (n : ℕ). invalid (n + 1)) (table-longest cs bs)
    cases none (some o) s = absurd s
    cases (some c) none s = absurd s
    cases (some c) (some (candidate xs r)) (e, l) = ap₂ valid e l

-- ---- What is known of the candidates

-- at most k bits are to come
pub data Short (k : ℕ) : List Candidate → Type 0 where
  short_none : Short k []
  short-then : {xs : List Bool} {r : ℕ} {cs : List Candidate} → length xs ≤ k → Short k cs → Short k (candidate xs r ∷ cs)

-- at least one bit is to come
data Open : List Candidate → Type 0 where
  open_none : Open []
  open-then : {x : Bool} {xs : List Bool} {r : ℕ} {cs : List Candidate} → Open cs → Open (candidate (x ∷ xs) r ∷ cs)

-- none of them begins another
data Alone (xs : List Bool) : List Candidate → Type 0 where
  alone-none : Alone xs []
  alone-then : {ys : List Bool} {r : ℕ} {cs : List Candidate} → begins xs ys ≡ false → begins ys xs ≡ false → Alone xs cs → Alone xs (candidate ys r ∷ cs)

data Apart : List Candidate → Type 0 where
  apart_none : Apart []
  apart-then : {xs : List Bool} {r : ℕ} {cs : List Candidate} → Alone xs cs → Apart cs → Apart (candidate xs r ∷ cs)

-- the same of those that agree with a bit
pub short-agreeing : (b : Bool) {k : ℕ} {cs : List Candidate} → Short (suc k) cs → Short k (agreeing b cs)
unfolding agreeing
short-agreeing b short_none = short_none
short-agreeing true (short-then {xs = []} h s) = short-agreeing true s
short-agreeing false (short-then {xs = []} h s) = short-agreeing false s
short-agreeing true (short-then {xs = true ∷ xs} h s) = short-then {xs = xs} (omega arith) (short-agreeing true s)
short-agreeing true (short-then {xs = false ∷ xs} h s) = short-agreeing true s
short-agreeing false (short-then {xs = true ∷ xs} h s) = short-agreeing false s
short-agreeing false (short-then {xs = false ∷ xs} h s) = short-then {xs = xs} (omega arith) (short-agreeing false s)

alone-agreeing : (b : Bool) (xs : List Bool) {cs : List Candidate} → Alone (b ∷ xs) cs → Alone xs (agreeing b cs)
unfolding agreeing begins
alone-agreeing b xs alone-none = alone-none
alone-agreeing true xs (alone-then {ys = []} p q a) = alone-agreeing true xs a
alone-agreeing false xs (alone-then {ys = []} p q a) = alone-agreeing false xs a
alone-agreeing true xs (alone-then {ys = true ∷ ys} p q a) = alone-then p q (alone-agreeing true xs a)
alone-agreeing true xs (alone-then {ys = false ∷ ys} p q a) = alone-agreeing true xs a
alone-agreeing false xs (alone-then {ys = true ∷ ys} p q a) = alone-agreeing false xs a
alone-agreeing false xs (alone-then {ys = false ∷ ys} p q a) = alone-then p q (alone-agreeing false xs a)

apart-agreeing : (b : Bool) {cs : List Candidate} → Apart cs → Apart (agreeing b cs)
unfolding agreeing
apart-agreeing b apart_none = apart_none
apart-agreeing true (apart-then {xs = []} a s) = apart-agreeing true s
apart-agreeing false (apart-then {xs = []} a s) = apart-agreeing false s
apart-agreeing true (apart-then {xs = true ∷ xs} a s) = apart-then (alone-agreeing true xs a) (apart-agreeing true s)
apart-agreeing true (apart-then {xs = false ∷ xs} a s) = apart-agreeing true s
apart-agreeing false (apart-then {xs = true ∷ xs} a s) = apart-agreeing false s
apart-agreeing false (apart-then {xs = false ∷ xs} a s) = apart-then (alone-agreeing false xs a) (apart-agreeing false s)

-- so of the codes of a colour: none has more than 13 bits, each has one, and none begins another (proofs/Codes.antt)
short-codes : (cs : List Code) → ((c : Code) → Memᴰ c cs → Shape c) → Short 13 (candidates cs)
unfolding candidates
short-codes [] h = short_none
short-codes (c ∷ cs) h = short-then {xs = code_bits c} (omega (arith, (h c (Memᴰ.head refl)).few_bits, length-code_bits c)) (short-codes cs (λ d m. h d (Memᴰ.tail m)))

open-codes : (cs : List Code) → ((c : Code) → Memᴰ c cs → Shape c) → Open (candidates cs)
unfolding candidates
open-codes [] h = open_none
open-codes (c ∷ cs) h = bits (code_bits c) (omega (arith, (h c (Memᴰ.head refl)).some_bits, length-code_bits c)) (open-codes cs (λ d m. h d (Memᴰ.tail m)))
  where
    bits : (xs : List Bool) → 1 ≤ length xs → Open (candidates cs) → Open (candidate xs c.run ∷ candidates cs)
    bits [] h o = absurd (omega arith)
    bits (x ∷ xs) h o = open-then o

not_T : (b : Bool) → T (not b) → b ≡ false
not_T true t = absurd t
not_T false t = refl

alone-codes : (xs : List Bool) (cs : List Code) → T (alone xs cs) → Alone xs (candidates cs)
unfolding alone candidates
alone-codes xs [] t = alone-none
alone-codes xs (c ∷ cs) t =
    let p = both (not (begins xs (code_bits c))) (not (begins (code_bits c) xs) && alone xs cs) t in
    let q = both (not (begins (code_bits c) xs)) (alone xs cs) p.1 in
    alone-then (not_T (begins xs (code_bits c)) p.0) (not_T (begins (code_bits c) xs) q.0) (alone-codes xs cs q.1)

apart-codes : (cs : List Code) → T (apart cs) → Apart (candidates cs)
unfolding apart candidates
apart-codes [] t = apart_none
apart-codes (c ∷ cs) t = let q = both (alone (code_bits c) cs) (apart cs) t in apart-then (alone-codes (code_bits c) cs q.0) (apart-codes cs q.1)

pub short-table : (colour : Colour) → Short 13 (candidates (codes_of colour))
short-table colour = short-codes (codes_of colour) (shape colour)

open-table : (colour : Colour) → Open (candidates (codes_of colour))
open-table colour = open-codes (codes_of colour) (shape colour)

apart-table : (colour : Colour) → Apart (candidates (codes_of colour))
apart-table colour = apart-codes (codes_of colour) (apart_of colour)

-- ---- The verdict

verdict-no-code : (cs : List Candidate) → verdict cs ≡ no_code → cs ≡ []
unfolding verdict
verdict-no-code [] e = refl
verdict-no-code (candidate [] r ∷ cs) e = absurd (let z : ◌≡◌ {A = ℕ} 0 1 = cc in omega arith)
verdict-no-code (candidate (x ∷ xs) r ∷ cs) e = cases (verdict cs) e
  where
    cases : (v : Verdict) → or_more_bits v ≡ no_code → candidate (x ∷ xs) r ∷ cs ≡ []
    cases no_code e = absurd (let z : ◌≡◌ {A = ℕ} 0 1 = cc in omega arith)
    cases (is_code n) e = absurd (let z : ◌≡◌ {A = ℕ} 0 1 = cc in omega arith)
    cases more_bits e = absurd (let z : ◌≡◌ {A = ℕ} 0 1 = cc in omega arith)

-- one that has all its bits begins every other, so it is the only one
verdict-is-code : (cs : List Candidate) (r : ℕ) → Apart cs → verdict cs ≡ is_code r → cs ≡ candidate [] r ∷ []
unfolding verdict begins
verdict-is-code [] r a e = absurd (let z : ◌≡◌ {A = ℕ} 0 1 = cc in omega arith)
verdict-is-code (candidate [] n ∷ cs) r (apart-then alone-none s) e = let q : n ≡ r = cc in ap (λ (i : ℕ). candidate [] i ∷ []) q
verdict-is-code (candidate [] n ∷ cs) r (apart-then (alone-then p q l) s) e = absurd (true≢false p)
verdict-is-code (candidate (x ∷ xs) n ∷ cs) r (apart-then l s) e = absurd (cases (verdict-is-code cs r s) (verdict cs) refl e)
  where
    only : (cs : List Candidate) → cs ≡ candidate [] r ∷ [] → Alone (x ∷ xs) cs → ⊥
    only cs e l = beside (subst (Alone (x ∷ xs)) e l)
      where
        beside : Alone (x ∷ xs) (candidate [] r ∷ []) → ⊥
        beside (alone-then p q a) = true≢false q

    cases : (verdict cs ≡ is_code r → cs ≡ candidate [] r ∷ []) → (v : Verdict) → verdict cs ≡ v → or_more_bits v ≡ is_code r → ⊥
    cases later no_code q e = let z : ◌≡◌ {A = ℕ} 0 1 = cc in omega arith
    cases later (is_code m) q e = only cs (later (q ∙ e)) l
    cases later more_bits q e = let z : ◌≡◌ {A = ℕ} 0 1 = cc in omega arith

verdict-more-bits : (cs : List Candidate) → verdict cs ≡ more_bits → Open cs
unfolding verdict
verdict-more-bits [] e = open_none
verdict-more-bits (candidate [] r ∷ cs) e = absurd (let z : ◌≡◌ {A = ℕ} 0 1 = cc in omega arith)
verdict-more-bits (candidate (x ∷ xs) r ∷ cs) e = open-then (cases (verdict-more-bits cs) (verdict cs) refl e)
  where
    cases : (verdict cs ≡ more_bits → Open cs) → (v : Verdict) → verdict cs ≡ v → or_more_bits v ≡ more_bits → Open cs
    cases later no_code q e = subst Open (sym (verdict-no-code cs q)) open_none
    cases later (is_code n) q e = absurd (let z : ◌≡◌ {A = ℕ} 0 1 = cc in omega arith)
    cases later more_bits q e = later q

-- then there is one, and it has a bit to come
pub more-bits-come : {k : ℕ} {cs : List Candidate} → Short k cs → verdict cs ≡ more_bits → 1 ≤ k
unfolding verdict
more-bits-come short_none e = absurd (let z : ◌≡◌ {A = ℕ} 0 1 = cc in omega arith)
more-bits-come (short-then {xs = []} h s) e = absurd (let z : ◌≡◌ {A = ℕ} 0 1 = cc in omega arith)
more-bits-come (short-then {xs = x ∷ xs} h s) e = omega arith

verdict-some : (cs : List Candidate) → verdict cs ≡ more_bits → cs ≡ [] → ⊥
unfolding verdict
verdict-some [] e q = let z : ◌≡◌ {A = ℕ} 0 1 = cc in omega arith
verdict-some (c ∷ cs) e q = let z : ◌≡◌ {A = ℕ} 0 1 = cc in omega arith

-- ---- One bit

abbrev with_bit : Bool → Option Candidate → Option Candidate
with_bit b none = none
with_bit b (some (candidate xs r)) = some (candidate (b ∷ xs) r)

-- which of them begins a bit and those behind it
among-step : (b : Bool) (ws : List Bool) {cs : List Candidate} → Open cs → among cs (b ∷ ws) ≡ with_bit b (among (agreeing b cs) ws)
unfolding among agreeing begins
among-step b ws open_none = refl
among-step true ws (open-then {x = false} s) = among-step true ws s
among-step false ws (open-then {x = true} s) = among-step false ws s
among-step true ws (open-then {x = true} {xs = xs} {r = r} {cs = cs} s) = tests (begins xs ws) (among-step true ws s)
  where
    tests : (t : Bool) → among cs (true ∷ ws) ≡ with_bit true (among (agreeing true cs) ws)
        → elim t [ true ↦ some (candidate (true ∷ xs) r) | false ↦ among cs (true ∷ ws) ] ≡ with_bit true (elim t [ true ↦ some (candidate xs r) | false ↦ among (agreeing true cs) ws ])
    tests true e = refl
    tests false e = e
among-step false ws (open-then {x = false} {xs = xs} {r = r} {cs = cs} s) = tests (begins xs ws) (among-step false ws s)
  where
    tests : (t : Bool) → among cs (false ∷ ws) ≡ with_bit false (among (agreeing false cs) ws)
        → elim t [ true ↦ some (candidate (false ∷ xs) r) | false ↦ among cs (false ∷ ws) ] ≡ with_bit false (elim t [ true ↦ some (candidate xs r) | false ↦ among (agreeing false cs) ws ])
    tests true e = refl
    tests false e = e

-- how many bits they share: one more than behind it, where any agrees
abbrev one_more : List Candidate → ℕ → ℕ
one_more [] n = 0
one_more (c ∷ cs) n = suc n

bigger : (n : ℕ) (cs : List Candidate) (ws : List Bool) → max (suc n) (one_more cs (longest cs ws)) ≡ suc (max n (longest cs ws))
unfolding longest
bigger n [] ws = omega arith
bigger n (c ∷ cs) ws = omega arith

longest-step : (b : Bool) (ws : List Bool) {cs : List Candidate} → Open cs → longest cs (b ∷ ws) ≡ one_more (agreeing b cs) (longest (agreeing b cs) ws)
unfolding longest agreeing shared
longest-step b ws open_none = refl
longest-step true ws (open-then {x = false} {cs = cs} s) = (let q : max 0 (longest cs (true ∷ ws)) ≡ longest cs (true ∷ ws) = omega arith in q) ∙ longest-step true ws s
longest-step false ws (open-then {x = true} {cs = cs} s) = (let q : max 0 (longest cs (false ∷ ws)) ≡ longest cs (false ∷ ws) = omega arith in q) ∙ longest-step false ws s
longest-step true ws (open-then {x = true} {xs = xs} {cs = cs} s) = rw (longest-step true ws s) (bigger (shared xs ws) (agreeing true cs) ws)
longest-step false ws (open-then {x = false} {xs = xs} {cs = cs} s) = rw (longest-step false ws s) (bigger (shared xs ws) (agreeing false cs) ws)

abbrev longer : Entry → Entry
longer (valid r n) = valid r (suc n)
longer (invalid n) = invalid (suc n)

-- the entry of a bit and those behind it: one bit longer than behind it, where any agrees; else that bit alone
entry-step : (b : Bool) (ws : List Bool) {cs : List Candidate} → Open cs → (agreeing b cs ≡ [] → ⊥) → entry_in cs (b ∷ ws) ≡ longer (entry_in (agreeing b cs) ws)
entry-step b ws {cs} s agree = ap₂ entry_of (longest-step b ws s) (among-step b ws s) ∙ cases (among (agreeing b cs) ws) (agreeing b cs) agree
  where
    cases : (m : Option Candidate) (l : List Candidate) → (l ≡ [] → ⊥) → entry_of (one_more l (longest (agreeing b cs) ws)) (with_bit b m) ≡ longer (entry_of (longest (agreeing b cs) ws) m)
    cases none [] h = absurd (h refl)
    cases none (c ∷ l) h = ap invalid (let q : suc (longest (agreeing b cs) ws) + 1 ≡ suc (longest (agreeing b cs) ws + 1) = omega arith in q)
    cases (some (candidate xs r)) l h = refl

entry-no-code : (b : Bool) (ws : List Bool) {cs : List Candidate} → Open cs → agreeing b cs ≡ [] → entry_in cs (b ∷ ws) ≡ invalid 1
unfolding among
entry-no-code b ws s e = ap₂ entry_of (longest-step b ws s ∙ ap (λ (l : List Candidate). one_more l (longest l ws)) e) (among-step b ws s ∙ ap (λ (l : List Candidate). with_bit b (among l ws)) e)

entry-is-code : (b : Bool) (ws : List Bool) {cs : List Candidate} (r : ℕ) → Open cs → agreeing b cs ≡ candidate [] r ∷ [] → entry_in cs (b ∷ ws) ≡ valid r 1
unfolding among begins
entry-is-code b ws {cs} r s e = ap (entry_of (longest cs (b ∷ ws))) (among-step b ws s ∙ ap (λ (l : List Candidate). with_bit b (among l ws)) e)

-- an entry has a bit at least
abbrev Long : Entry → Type 0
Long (valid r n) = 1 ≤ n
Long (invalid n) = 1 ≤ n

entry-long : (ws : List Bool) {cs : List Candidate} → Open cs → Long (entry_in cs ws)
unfolding among
entry-long ws {cs} s = among-long (longest cs ws) s
  where
    among-long : (n : ℕ) {cs : List Candidate} → Open cs → Long (entry_of n (among cs ws))
    among-long n open_none = omega arith
    among-long n (open-then {x = x} {xs = xs} {r = r} {cs = cs} s) = tests (begins (x ∷ xs) ws) (among-long n s)
      where
        tests : (b : Bool) → Long (entry_of n (among cs ws)) → Long (entry_of n (elim b [ true ↦ some (candidate (x ∷ xs) r) | false ↦ among cs ws ]))
        tests true later = omega arith
        tests false later = later

-- ---- Bit after bit

-- with n bits more taken before
abbrev after : ℕ → Found → Found
after n (found r m) = found r (n + m)
after n (lost a m) = lost a (n + m)

-- a bit less is left, and a bit more was taken
after-step : (n left : ℕ) (e : Entry) → after (suc n) (by_entry left e) ≡ after n (by_entry (suc left) (longer e))
after-step n left e = entry e
  where
    moved : (m : ℕ) → suc n + m ≡ n + suc m
    moved m = omega arith

    tests : (m : ℕ) (f g : Found) → after (suc n) f ≡ after n g → (b : Bool) → leb m left ≡ b
        → after (suc n) (cond b f (lost 2 left)) ≡ after n (cond (leb (suc m) (suc left)) g (lost 2 (suc left)))
    tests m f g e true q = rw (le-leb (suc m) (suc left) (omega (arith, leb-true m left q))) e
    tests m f g e false q = rw (lt-leb (suc m) (suc left) (omega (arith, leb-false m left q))) (ap (lost 2) (moved left))

    entry : (e : Entry) → after (suc n) (by_entry left e) ≡ after n (by_entry (suc left) (longer e))
    entry (valid r m) = tests m (found r m) (found r (suc m)) (ap (found r) (moved m)) (leb m left) refl
    entry (invalid m) = tests m (lost 1 m) (lost 1 (suc m)) (ap (lost 1) (moved m)) (leb m left) refl

-- at the end of the data
at-end : (n : ℕ) (e : Entry) → Long e → lost 2 n ≡ after n (by_entry 0 e)
at-end n (valid r m) h = rw (lt-leb m 0 (omega arith)) (ap (lost 2) (let z : n ≡ n + 0 = omega arith in z))
at-end n (invalid m) h = rw (lt-leb m 0 (omega arith)) (ap (lost 2) (let z : n ≡ n + 0 = omega arith in z))

-- candidates with bits to come, and none to come, are none
short-open : {cs : List Candidate} → Short 0 cs → Open cs → cs ≡ []
short-open short_none open_none = refl
short-open (short-then h s) (open-then o) = absurd (omega arith)

-- no candidate agrees with any bit
none-agrees : (n : ℕ) (b : Bool) (bs : List Bool) → compare n [] (b ∷ bs) ≡ after n (by_entry (suc (length bs)) (entry_in [] []))
unfolding compare agreeing verdict among longest
none-agrees n b bs = rw (le-leb 1 (suc (length bs)) (omega arith)) (ap (lost 1) (let z : suc n ≡ n + 1 = omega arith in z))

-- Candidates of at most k bits, none of which begins another: comparing them with the data is what their entry for k bits says.
compare-is : (bs : List Bool) (k n : ℕ) (cs : List Candidate) → Short k cs → Open cs → Apart cs → compare n cs bs ≡ after n (by_entry (length bs) (entry_in cs (window k bs)))
unfolding compare window
compare-is [] k n cs s o a = at-end n (entry_in cs (window k [])) (entry-long (window k []) o)
compare-is (b ∷ bs) zero n cs s o a =
    subst (λ (l : List Candidate). compare n l (b ∷ bs) ≡ after n (by_entry (suc (length bs)) (entry_in l []))) (sym (short-open s o)) (none-agrees n b bs)
compare-is (b ∷ bs) (suc k) n cs s o a = cases (verdict (agreeing b cs)) refl (compare-is bs k (suc n) (agreeing b cs) (short-agreeing b s))
  where
    ws : List Bool
    ws = window k bs

    -- what the entry of the bit and those behind it says
    says : {e : Entry} → entry_in cs (b ∷ ws) ≡ e → after n (by_entry (suc (length bs)) e) ≡ after n (by_entry (suc (length bs)) (entry_in cs (b ∷ ws)))
    says e = ap (λ (x : Entry). after n (by_entry (suc (length bs)) x)) (sym e)

    one_bit : (f : ℕ → Found) → (f (suc n) ≡ after n (f 1)) → f (suc n) ≡ after n (cond (leb 1 (suc (length bs))) (f 1) (lost 2 (suc (length bs))))
    one_bit f e = rw (le-leb 1 (suc (length bs)) (omega arith)) e

    next : suc n ≡ n + 1
    next = omega arith

    cases : (v : Verdict) → verdict (agreeing b cs) ≡ v
        → (Open (agreeing b cs) → Apart (agreeing b cs) → compare (suc n) (agreeing b cs) bs ≡ after (suc n) (by_entry (length bs) (entry_in (agreeing b cs) ws)))
        → elim v [ no_code ↦ lost 1 (suc n) | is_code r ↦ found r (suc n) | more_bits ↦ compare (suc n) (agreeing b cs) bs ] ≡ after n (by_entry (suc (length bs)) (entry_in cs (b ∷ ws)))
    cases no_code q later = one_bit (lost 1) (ap (lost 1) next) ∙ says (entry-no-code b ws o (verdict-no-code (agreeing b cs) q))
    cases (is_code r) q later = one_bit (found r) (ap (found r) next) ∙ says (entry-is-code b ws r o (verdict-is-code (agreeing b cs) r (apart-agreeing b a) q))
    cases more_bits q later =
        later (verdict-more-bits (agreeing b cs) q) (apart-agreeing b a)
        ∙ after-step n (length bs) (entry_in (agreeing b cs) ws)
        ∙ says (entry-step b ws o (verdict-some (agreeing b cs) q))

-- ---- The engines

none_before : (f : Found) → after 0 f ≡ f
none_before (found r n) = ap (found r) (zero-add n)
none_before (lost a n) = ap (lost a) (zero-add n)

-- Whatever the data and the colour, both engines give the same run, bits taken and answer for the code at its front.
pub plain-is-lookup : (colour : Colour) (bs : List Bool) → plain colour bs ≡ by_lookup colour bs
unfolding plain lookup
plain-is-lookup colour bs =
    compare-is bs 13 0 (candidates (codes_of colour)) (short-table colour) (open-table colour) (apart-table colour)
    ∙ none_before (by_entry (length bs) (entry_in (candidates (codes_of colour)) (window 13 bs)))
    ∙ ap (by_entry (length bs)) (table-entry (codes_of colour) (window 13 bs))

-- what the plain engine's code adds to a run: a code that is found is added as an entry is
abbrev pub found_take : ℕ → Sum → Found → Out Sum (Res Sum)
found_take size s (found run len) = run_take size s (valid run len)
found_take size s (lost n len) = done (fault n s.at)

-- So each step of a run, from any bit, is a step of the plain engine.
pub plain_step : (colour : Colour) (bs : List Bool) (s : Sum) → run_step colour bs s ≡ found_take (length bs) s (plain colour (drop s.at bs))
unfolding run_step run_take lookup
plain_step colour bs s =
    cases (lookup colour (window 13 rest)) (subst Long (table-entry (codes_of colour) (window 13 rest)) (entry-long (window 13 rest) (open-table colour)))
    ∙ ap (found_take (length bs) s) (sym (plain-is-lookup colour rest))
  where
    rest : List Bool
    rest = drop s.at bs

    -- too few bits are left, by either count
    same_test : (n : ℕ) → 1 ≤ n → leb (s.at + n) (length bs) ≡ leb n (length rest)
    same_test n h = tests (leb n (length rest)) refl
      where
        tests : (b : Bool) → leb n (length rest) ≡ b → leb (s.at + n) (length bs) ≡ b
        tests true q = le-leb (s.at + n) (length bs) (omega (arith, leb-true n (length rest) q, length-drop s.at bs))
        tests false q = lt-leb (s.at + n) (length bs) (omega (arith, leb-false n (length rest) q, length-drop s.at bs))

    cases : (e : Entry) → Long e → run_take (length bs) s e ≡ found_take (length bs) s (by_entry (length rest) e)
    cases (valid r n) h = tests (leb n (length rest)) (same_test n h)
      where
        tests : (b : Bool) → leb (s.at + n) (length bs) ≡ b → run_take (length bs) s (valid r n) ≡ found_take (length bs) s (cond b (found r n) (lost 2 (length rest)))
        tests true q = refl
        tests false q = rw q
    cases (invalid n) h = rw (same_test n h) (tests (leb n (length rest)))
      where
        tests : (b : Bool) → done (fault (cond b 1 2) s.at) ≡ found_take (length bs) s (cond b (lost 1 n) (lost 2 (length rest)))
        tests true = refl
        tests false = refl
