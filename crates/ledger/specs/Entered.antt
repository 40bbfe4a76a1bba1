-- A page goes into the books with its line of text, or not at all.
use Rattle.std.specs.Prelude.{◌≡◌, Bool, true, false, ◌&&◌, List, [], ℕ, length}
use Rattle.rules.specs.Pages.{overlaid}
use Rattle.ledger.specs.Books.{booked, has_room}
use Rattle.ledger.specs.Said.{page_line, line_room}
use Rattle.ledger.specs.declared.Entered.{Entered}
use Rattle.ledger.specs.declared.Ledger.{Ledger}
use Rattle.ledger.specs.declared.Verdict.{Verdict}

-- the books have room for a page more, and the lent array for its line
abbrev pub is_entered : List ℕ → Ledger → Verdict → List ℕ → Bool
is_entered name b v out = has_room b v && line_room (length name) (length out)

-- the line, with the books behind the page; none, where the page is not entered
unfoldable pub entry_line : List ℕ → Ledger → Verdict → List ℕ → List ℕ
entry_line name b v out = elim (is_entered name b v out) [ true ↦ page_line name v (booked b v) | false ↦ [] ]

-- books that a page is not entered into stay as they are
unfoldable pub books_after : List ℕ → Ledger → Verdict → List ℕ → Ledger
books_after name b v out = elim (is_entered name b v out) [ true ↦ booked b v | false ↦ b ]

pub record Enters (name : List ℕ) (b : Ledger) (v : Verdict) (out : List ℕ) (r : Entered) (out' : List ℕ) : Type 0 where
  pub books : r.ledger ≡ books_after name b v out
  pub length-is : r.text ≡ length (entry_line name b v out)
  pub array : out' ≡ overlaid (entry_line name b v out) out
