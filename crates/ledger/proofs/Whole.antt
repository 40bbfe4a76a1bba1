-- Lines of text: their parts, and how long they can be. Assumes nothing.
use mathlib.Core.Path.{◌≡◌, refl, ap, ap₂, ◌∙◌, subst}
use mathlib.Core.Bool.{Bool, true, false, not, ◌&&◌}
use mathlib.Core.List.{List, [], ◌∷◌, ◌++◌, map}
use Prim.Native.Nat.{ℕ, zero, suc, ◌+◌, ◌-◌, ◌*◌, ◌/◌, ◌%◌, ◌≤◌, ◌<◌}
use native.Mathlib.Omega.{arith}
use lib.Dec.{eqb, leb}
use lib.IntN.{pos}
use lib.ListN.{length, get_or, length-append, length-map}
use borrow.Author.Tests.{eq-eqb, ne_eqb, leb-true}
use Rattle.listing_text.specs.Text.{ascii, newline, decimal}
use Rattle.listing_text.specs.Writing.{Room, Puts, written_to}
use Rattle.listing_text.specs.Listed.{Prints}
use Rattle.listing_text.proofs.Lengths.{decimal-short}
use Rattle.listing_text.proofs.Written.{Owes, owes-all, owes-room, owes-some, owes-last-room, owes-last}
use Rattle.listing_text.specs.Lines.{pieces, lines_of}
use Rattle.ledger.specs.Balance.{opened}
use Rattle.ledger.specs.Books.{left}
use Rattle.ledger.specs.Said.{is_letter, fill, numbers, reason_with, head_at, alone_at, total_at, line_of, page_line, reason_line, total_line, no_verdict, Tells, shown, shown_byte}
use Rattle.ledger.specs.Phrases.{words, lined, phrase, one, reason_at}
use Rattle.ledger.specs.Books.{is_below, size}
use Rattle.ledger.specs.declared.Ledger.{Ledger}
use Rattle.ledger.specs.declared.Verdict.{Verdict}

-- ---- The reason

pub reason-none : (v : Verdict) (ns : List ℕ) → v.number ≡ 0 → reason_with v ns ≡ []
reason-none v ns e = rw (reason_with, eq-eqb v.number 0 e)

pub reason-some : (v : Verdict) (ns : List ℕ) → (v.number ≡ 0 → ⊥) → reason_with v ns ≡ fill ns (phrase (reason_at v))
reason-some v ns e = rw (reason_with, ne_eqb v.number 0 e)

-- ---- How long

-- a letter may be a number of twenty digits
unfoldable pub weight : List ℕ → ℕ
weight [] = 0
weight (b ∷ bs) = elim (is_letter b) [ true ↦ 20 + weight bs | false ↦ 1 + weight bs ]

abbrev pub Small : List ℕ → Type 0
Small ns = (i : ℕ) → get_or ns i 0 < 18446744073709551616

pub fill-short : (ns : List ℕ) → Small ns → (t : List ℕ) → length (fill ns t) ≤ weight t
unfolding fill weight
fill-short ns s [] = omega arith
fill-short ns s (b ∷ bs) = by (is_letter b) (fill-short ns s bs)
  where
    by : (t : Bool) → length (fill ns bs) ≤ weight bs
        → length {A = ℕ} (elim t [ true ↦ decimal (get_or ns (b - 65) 0) ++ fill ns bs | false ↦ b ∷ fill ns bs ]) ≤ elim t [ true ↦ 20 + weight bs | false ↦ 1 + weight bs ]
    by true h = omega (arith, length-append (decimal (get_or ns (b - 65) 0)) (fill ns bs), decimal-short 19 (get_or ns (b - 65) 0) (omega (arith, s (b - 65))))
    by false h = omega arith

-- each phrase is light
unfoldable light : List (List ℕ) → Bool
light [] = true
light (l ∷ ls) = leb (weight l) 200 && light ls

light-at : (ls : List (List ℕ)) → light ls ≡ true → (k : ℕ) → weight (get_or ls k []) ≤ 200
unfolding light weight
light-at [] e k = omega arith
light-at (l ∷ ls) e k = by (leb (weight l) 200) refl e (light-at ls) k
  where
    by : (t : Bool) → leb (weight l) 200 ≡ t → (t && light ls) ≡ true → (light ls ≡ true → (k : ℕ) → weight (get_or ls k []) ≤ 200) → (k : ℕ) → weight (get_or (l ∷ ls) k []) ≤ 200
    by true p q r zero = leb-true (weight l) 200 p
    by true p q r (suc k) = r q k
    by false p q r k = absurd (let z : ◌≡◌ {A = ℕ} 0 1 = cc in omega arith)

all-light : light (map ascii words) ≡ true
unfolding light weight words ascii
all-light = refl

pub phrase-short : (ns : List ℕ) → Small ns → (k : ℕ) → length (fill ns (phrase k)) ≤ 200
phrase-short ns s k = omega (arith, fill-short ns s (phrase k), light-at (map ascii words) all-light k)

reason-short : (v : Verdict) (ns : List ℕ) → Small ns → length (reason_with v ns) ≤ 200
reason-short v ns s = by (eqb v.number 0)
  where
    by : (t : Bool) → length {A = ℕ} (elim t [ true ↦ [] | false ↦ fill ns (phrase (reason_at v)) ]) ≤ 200
    by true = omega arith
    by false = phrase-short ns s (reason_at v)

small-as : {ns ms : List ℕ} → ns ≡ ms → Small ns → Small ms
small-as e s = subst Small e s

pub length-shown : (name : List ℕ) → length (shown name) ≡ length name
unfolding shown
length-shown name = length-map name shown_byte

pub line-room : (out name ns : List ℕ) (v : Verdict) (k : ℕ) → Small ns → length name + 512 ≤ length out → Room out 0 (line_of name v ns k)
line-room out name ns v k s h =
    record {
      fits =
          omega (
            arith,
            length-shown name,
            length-append (shown name) (fill ns (phrase k) ++ (reason_with v ns ++ newline ∷ [])),
            length-append (fill ns (phrase k)) (reason_with v ns ++ newline ∷ []),
            length-append (reason_with v ns) (newline ∷ []),
            phrase-short ns s k,
            reason-short v ns s,
          );
    }

pub total-room : (out ns : List ℕ) (b : Ledger) → ns ≡ numbers no_verdict b → Small ns → 512 ≤ length out → Room out 0 (total_line b)
unfolding total_line
total-room out ns b e s h =
    let ms = numbers no_verdict b in
    record { fits = omega (arith, length-append (fill ms (phrase (total_at b))) (newline ∷ []), phrase-short ms (small-as e s) (total_at b)) }

-- ---- Told

pub tells-no : (n : ℕ) (text out : List ℕ) → leb (n + 512) (length out) ≡ false → Tells n text out 0 out
tells-no n text out e = rw (Tells, e) (refl, refl)

pub tells-yes : (n : ℕ) (text out : List ℕ) {r : ℕ} {after : List ℕ} → leb (n + 512) (length out) ≡ true → Prints out text r after → Tells n text out r after
tells-yes n text out e p = rw (Tells, e) p

-- a line is its parts
pub page-parts : (name : List ℕ) (v : Verdict) (b : Ledger) {ns : List ℕ} {k : ℕ} → ns ≡ numbers v b → k ≡ head_at v b → line_of name v ns k ≡ page_line name v b
unfolding page_line
page-parts name v b e h = ap₂ (line_of name v) e h

pub reason-parts : (v : Verdict) {ns : List ℕ} {k : ℕ} → ns ≡ numbers v (opened (pos 0)) → k ≡ alone_at v → line_of [] v ns k ≡ reason_line v
unfolding reason_line
reason-parts v e h = ap₂ (line_of [] v) e h

-- a text that is put at the front is printed
pub prints : {out text after : List ℕ} {r : ℕ} → Puts out 0 text r after → Prints out text r after
unfolding written_to
prints p = record { count = p.place ∙ (omega arith); array = p.array }

-- ---- The phrases are the lines of their text

lines_are : lines_of (lined words) ≡ map ascii words ++ [] ∷ []
unfolding pieces lined words ascii
lines_are = refl

pub phrase-line : (k : ℕ) → get_or (lines_of (lined words)) k [] ≡ phrase k
phrase-line k = ap (λ (ls : List (List ℕ)). get_or ls k []) lines_are ∙ one_more (map ascii words) k
  where
    one_more : (ls : List (List ℕ)) (k : ℕ) → get_or (ls ++ [] ∷ []) k [] ≡ get_or ls k []
    one_more [] zero = refl
    one_more [] (suc k) = refl
    one_more (l ∷ ls) zero = refl
    one_more (l ∷ ls) (suc k) = one_more ls k

-- ---- The numbers, and the lines of the words

pub numbers_as : (v : Verdict) (b : Ledger) {x y : ℕ} → x ≡ b.pages - b.looked → y ≡ size (left b)
    → ◌≡◌ {A = List ℕ} (v.number ∷ (v.place / 8) ∷ v.count ∷ (v.which / 2) ∷ (v.place % 8) ∷ v.line ∷ x ∷ v.heads ∷ b.heads ∷ v.rows ∷ b.looked ∷ v.least ∷ v.most ∷ y ∷ v.row ∷ b.pages ∷ []) (numbers v b)
numbers_as v b {x} {y} e f =
    ap₂ (λ (m n : ℕ). v.number ∷ (v.place / 8) ∷ v.count ∷ (v.which / 2) ∷ (v.place % 8) ∷ v.line ∷ m ∷ v.heads ∷ b.heads ∷ v.rows ∷ b.looked ∷ v.least ∷ v.most ∷ n ∷ v.row ∷ b.pages ∷ []) e f

pub head_as : (v : Verdict) (b : Ledger) {x y : ℕ} {p : Bool} → x ≡ one (not (eqb v.number 0)) → y ≡ one p → p ≡ is_below (left b) → 2 * x + y ≡ head_at v b
head_as v b e f g = ap₂ (λ (m n : ℕ). 2 * m + n) e (f ∙ ap one g)

pub total-as : (b : Ledger) {x y : ℕ} {p : Bool} → x ≡ one (eqb b.pages 1) → y ≡ one p → p ≡ is_below (left b) → 4 + 2 * x + y ≡ total_at b
total-as b e f g = ap₂ (λ (m n : ℕ). 4 + 2 * m + n) e (f ∙ ap one g)

-- ---- A line, part by part

module _ (out name ns : List ℕ) (v : Verdict) (k : ℕ) (room : Room out 0 (line_of name v ns k)) where
  abbrev rest : List ℕ
  rest = fill ns (phrase k) ++ (reason_with v ns ++ newline ∷ [])

  starts : Owes 0 (line_of name v ns k) out 0 (shown name ++ rest) out
  starts = owes-all room

  pub name-room : Room out 0 (shown name)
  name-room = owes-room starts (shown name) rest refl

  module _ {p : ℕ} {out₁ : List ℕ} (named : Puts out 0 (shown name) p out₁) where
    second : Owes 0 (line_of name v ns k) out p rest out₁
    second = owes-some starts (shown name) rest refl named

    pub head-room : Room out₁ p (fill ns (phrase k))
    head-room = owes-room second (fill ns (phrase k)) (reason_with v ns ++ newline ∷ []) refl

    module _ {q : ℕ} {out₂ : List ℕ} (headed : Puts out₁ p (fill ns (phrase k)) q out₂) where
      third : Owes 0 (line_of name v ns k) out q (reason_with v ns ++ newline ∷ []) out₂
      third = owes-some second (fill ns (phrase k)) (reason_with v ns ++ newline ∷ []) refl headed

      pub reason-room : Room out₂ q (reason_with v ns)
      reason-room = owes-room third (reason_with v ns) (newline ∷ []) refl

      module _ {t : ℕ} {out₃ : List ℕ} (reasoned : Puts out₂ q (reason_with v ns) t out₃) where
        fourth : Owes 0 (line_of name v ns k) out t (newline ∷ []) out₃
        fourth = owes-some third (reason_with v ns) (newline ∷ []) refl reasoned

        pub end-room : Room out₃ t (newline ∷ [])
        end-room = owes-last-room fourth

        pub ended : {u : ℕ} {out₄ : List ℕ} → Puts out₃ t (newline ∷ []) u out₄ → Prints out (line_of name v ns k) u out₄
        ended w = prints (owes-last fourth w)

module _ (out ns : List ℕ) (b : Ledger) (room : Room out 0 (total_line b)) (e : ns ≡ numbers no_verdict b) (h : ℕ) (hd : h ≡ total_at b) where
  total-starts : Owes 0 (total_line b) out 0 (fill ns (phrase h) ++ newline ∷ []) out
  unfolding total_line
  total-starts = rw (hd, e) (owes-all room)

  pub total-words : Room out 0 (fill ns (phrase h))
  total-words = owes-room total-starts (fill ns (phrase h)) (newline ∷ []) refl

  module _ {q : ℕ} {out₂ : List ℕ} (headed : Puts out 0 (fill ns (phrase h)) q out₂) where
    total-last : Owes 0 (total_line b) out q (newline ∷ []) out₂
    total-last = owes-some total-starts (fill ns (phrase h)) (newline ∷ []) refl headed

    pub total-end-room : Room out₂ q (newline ∷ [])
    total-end-room = owes-last-room total-last

    pub total-ended : {u : ℕ} {out₄ : List ℕ} → Puts out₂ q (newline ∷ []) u out₄ → Prints out (total_line b) u out₄
    total-ended w = prints (owes-last total-last w)
