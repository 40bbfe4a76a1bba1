-- What `decode` answers, by cases: a refusal, or a page that is read; and a page that is short of rows (A12), or any other. Assumes nothing.
use mathlib.Core.Path.{◌≡◌, refl}
use mathlib.Core.Bool.{Bool, true, false, cond, ◌&&◌}
use mathlib.Core.List.{List}
use Prim.Native.Nat.{ℕ, ◌≤◌, ◌<◌}
use native.Mathlib.Omega.{arith}
use lib.Dec.{eqb, ltb}
use lib.ListN.{length}
use borrow.Author.Tests.{eqb-true, eqb-false, ne_eqb, ltb-true, ltb-false, le-ltb}
use Rattle.rules.specs.Bits.{bits_of}
use Rattle.rules.specs.Rows.{Settings}
use Rattle.rules.specs.Pages.{Answer, refusal, read_page, strict_if_exact, short_of, unless_short, most_bytes, is_too_wide, decode}

-- ---- Short of rows

-- the page was done with fewer rows than an exact reading is to find
pub record Lacks (S : Settings) (a : Answer) : Type 0 where
  pub exact : S.exact ≡ true
  pub finished : a.number ≡ 0
  pub fewer : length a.rows < S.rows

module _ (S : Settings) (a : Answer) where
  pub short-cases : (C : Answer → Type 0) → (Lacks S a → C (short_of a)) → ((Lacks S a → ⊥) → C a) → C (unless_short S a)
  short-cases C lacks stays = tests S.exact refl (eqb a.number 0) refl (ltb (length a.rows) S.rows) refl
    where
      tests : (x : Bool) → S.exact ≡ x → (y : Bool) → eqb a.number 0 ≡ y → (z : Bool) → ltb (length a.rows) S.rows ≡ z → C (cond (x && (y && z)) (short_of a) a)
      tests true p true q true r = lacks (record { exact = p; finished = eqb-true a.number 0 q; fewer = ltb-true (length a.rows) S.rows r })
      tests true p true q false r = stays (λ l. omega (arith, ltb-false (length a.rows) S.rows r, l.fewer))
      tests true p false q z r = stays (λ l. eqb-false a.number 0 q l.finished)
      tests false p y q z r = stays (λ l. let e = l.exact in let n : ◌≡◌ {A = ℕ} 0 1 = cc in omega arith)

  -- no answer but 0 is replaced
  pub never-short : (a.number ≡ 0 → ⊥) → unless_short S a ≡ a
  never-short h = short-cases (λ x. x ≡ a) (λ l. absurd (h l.finished)) (λ n. refl)

  -- the rows stand
  pub short-rows : (unless_short S a).rows ≡ a.rows
  short-rows = short-cases (λ x. x.rows ≡ a.rows) (λ l. refl) (λ n. refl)

  pub short-marks : (unless_short S a).marks ≡ a.marks
  short-marks = short-cases (λ x. x.marks ≡ a.marks) (λ l. refl) (λ n. refl)

  pub short-loose : (unless_short S a).loose ≡ a.loose
  short-loose = short-cases (λ x. x.loose ≡ a.loose) (λ l. refl) (λ n. refl)

-- ---- The tests before any reading

-- what is refused, and with which number; "Columns 0 .. gives 0, no rows, 0 bytes"
pub data Refuses (S : Settings) (bytes : List ℕ) : ℕ → Type 0 where
  too_wide : S.columns ≡ 4294967295 → Refuses S bytes 6
  too_long : most_bytes < length bytes → Refuses S bytes 7
  without_columns : S.columns ≡ 0 → Refuses S bytes 0

pub record Allowed (S : Settings) (bytes : List ℕ) : Type 0 where
  pub wide : 0 < S.columns
  pub narrow : S.columns ≡ 4294967295 → ⊥
  pub small : length bytes ≤ most_bytes

pub decode-cases : (S : Settings) (bytes : List ℕ) (C : (ℕ → ℕ → Answer) → Type 0) → ((n : ℕ) → Refuses S bytes n → C (λ store places. refusal n))
    → (Allowed S bytes → C (λ store places. unless_short S (read_page (strict_if_exact S) (bits_of bytes) store places))) → C (decode S bytes)
unfolding decode
decode-cases S bytes C refuses reads = tests (is_too_wide S.columns) refl (ltb most_bytes (length bytes)) refl (eqb S.columns 0) refl
  where
    tests : (a : Bool) → is_too_wide S.columns ≡ a → (b : Bool) → ltb most_bytes (length bytes) ≡ b → (c : Bool) → eqb S.columns 0 ≡ c → C (decode S bytes)
    tests true e b f c g = rw (e, decode) (refuses 6 (too_wide (eqb-true S.columns 4294967295 e)))
    tests false e true f c g = rw (e, f, decode) (refuses 7 (too_long (ltb-true most_bytes (length bytes) f)))
    tests false e false f true g = rw (e, f, g, decode) (refuses 0 (without_columns (eqb-true S.columns 0 g)))
    tests false e false f false g =
        rw (e, f, g, decode)
        (let z : S.columns ≡ 0 → ⊥ = eqb-false S.columns 0 g in
        reads (record { wide = omega arith; narrow = eqb-false S.columns 4294967295 e; small = ltb-false most_bytes (length bytes) f }))

-- the page in bytes that are not too many is the page in their bits; it may be short of rows (A12)
pub decode-reads : (S : Settings) → 0 < S.columns → S.columns < 4294967295 → (bytes : List ℕ) → length bytes ≤ most_bytes → (store places : ℕ)
    → decode S bytes store places ≡ unless_short S (read_page (strict_if_exact S) (bits_of bytes) store places)
unfolding decode
decode-reads S wide narrow bytes small store places =
    rw (ne_eqb S.columns 4294967295 (λ q. omega arith), le-ltb most_bytes (length bytes) small, ne_eqb S.columns 0 (λ q. omega arith), decode)
