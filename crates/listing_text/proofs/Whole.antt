-- Laws of the whole listing: it fits, and its three parts make it. Assumes nothing.
use mathlib.Core.Path.{◌≡◌, refl, ap, ◌∙◌}
use mathlib.Core.List.{List, [], ◌∷◌, ◌++◌}
use Prim.Native.Nat.{ℕ, ◌+◌, ◌*◌, ◌^◌, ◌≤◌, ◌<◌}
use native.Mathlib.Omega.{arith}
use lib.ListN.{length, take}
use lib.Seq.{length-take-le}
use Rattle.rules.specs.Write.{rows_in}
use Rattle.answer.specs.declared.Answer.{Answer}
use Rattle.listing_text.specs.Sheet.{text_line, row_lines, listing_text}
use Rattle.listing_text.specs.Writing.{written_to, Room, Puts}
use Rattle.listing_text.specs.Listed.{Listing, listing_of, Prints}
use Rattle.listing_text.proofs.Written.{Owes, owes-all, owes-room, owes-some, owes-last-room, owes-last}
use Rattle.listing_text.proofs.Lengths.{Words, Marks, marks-take, rows-count, listing-short}

-- what is written from 0 on is printed
pub prints : {before text : List ℕ} {r : ℕ} {after : List ℕ} → Puts before 0 text r after → Prints before text r after
unfolding written_to
prints w = record { count = omega (arith, w.place); array = w.array }

-- the numbers that are listed, as their types hold them
pub record Held (columns : ℕ) (answer : Answer) (changes marks : List ℕ) : Type 0 where
  pub columns-held : columns < 4294967296
  pub number-held : answer.number < 4294967296
  pub rows-held : answer.rows < 2 ^ 64
  pub bytes-held : answer.bytes < 2 ^ 64
  pub changes-held : Words changes
  pub changes-few : length changes < 2 ^ 64
  pub marks-held : Marks marks

module _ {out : List ℕ} {columns : ℕ} {answer : Answer} {changes ends marks : List ℕ} (l : Listing out answer changes ends marks) (h : Held columns answer changes marks) where
  abbrev kept : List ℕ
  kept = take answer.rows ends

  abbrev told : List ℕ
  told = take answer.rows marks

  abbrev text : List ℕ
  text = listing_of columns answer changes ends marks

  abbrev first : List ℕ
  first = text_line "columns" (columns ∷ [])

  abbrev lines : List ℕ
  lines = row_lines 1 (rows_in 0 changes kept) told

  abbrev last : List ℕ
  last = text_line "stop" (answer.number ∷ answer.rows ∷ answer.bytes ∷ [])

  kept-count : length kept ≡ answer.rows
  kept-count = length-take-le answer.rows ends l.placed

  pub all-marked : length kept ≤ length told
  all-marked = omega (arith, kept-count, length-take-le answer.rows marks l.marked)

  parts : text ≡ first ++ (lines ++ last)
  unfolding listing_text
  parts = ap (λ (n : ℕ). first ++ (lines ++ text_line "stop" (answer.number ∷ n ∷ answer.bytes ∷ []))) (rows-count changes kept 0 ∙ kept-count)

  short : length text ≤ 77 + 50 * length kept + 11 * length changes
  short =
      listing-short columns answer.number answer.bytes changes kept told h.columns-held h.number-held h.bytes-held
      (omega (arith, kept-count, h.rows-held)) h.changes-held h.changes-few (marks-take answer.rows marks h.marks-held) l.rising

  owes-text : Owes 0 text out 0 text out
  owes-text = owes-all (record { fits = omega (arith, l.room, kept-count, short) })

  pub first-room : Room out 0 first
  first-room = owes-room owes-text first (lines ++ last) parts

  module _ {p : ℕ} {out₁ : List ℕ} (w : Puts out 0 first p out₁) where
    owes-lines : Owes 0 text out p (lines ++ last) out₁
    owes-lines = owes-some owes-text first (lines ++ last) parts w

    pub lines-room : Room out₁ p lines
    lines-room = owes-room owes-lines lines last refl

    module _ {q : ℕ} {out₂ : List ℕ} (v : Puts out₁ p lines q out₂) where
      owes-stop : Owes 0 text out q last out₂
      owes-stop = owes-some owes-lines lines last refl v

      pub stop-room : Room out₂ q last
      stop-room = owes-last-room owes-stop

      pub listed : {r : ℕ} {out₃ : List ℕ} → Puts out₂ q last r out₃ → Prints out text r out₃
      listed u = prints (owes-last owes-stop u)
