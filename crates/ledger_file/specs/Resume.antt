-- A run that goes on behind a ledger that it finds: the line of a page that was judged before.
use Rattle.std.specs.Prelude.{Bool, true, false, ◌&&◌, List, ◌∷◌, ℕ}
use Rattle.listing_text.specs.Text.{decimal}
use Rattle.form_file.specs.Words.{same}
use Rattle.ledger.specs.Books.{left, is_below, size, booked, has_room}
use Rattle.ledger.specs.Said.{shown}
use Rattle.ledger.specs.declared.Ledger.{Ledger}
use Rattle.ledger.specs.declared.Verdict.{Verdict}
use Rattle.ledger_file.specs.Fields.{field}
use Rattle.ledger_file.specs.Page.{page_line_of}
use Rattle.ledger_file.specs.declared.PageLine.{PageLine}
use Rattle.ledger_file.specs.declared.Resumed.{Resumed}

-- the quota left, as a line says it: behind `-`, which is 45, by how much it is passed
abbrev pub left_text : Ledger → List ℕ
left_text b = elim (is_below (left b)) [ true ↦ 45 ∷ decimal (size (left b)) | false ↦ decimal (size (left b)) ]

-- what the books take from a page: the verdict's number, and the heads
abbrev pub verdict_of : ℕ → ℕ → Verdict
verdict_of number heads = record { number = number; heads = heads; which = 0; line = 0; rows = 0; bytes = 0; place = 0; row = 0; count = 0; least = 0; most = 0 }

abbrev pub verdict_in : PageLine → Verdict
verdict_in p = verdict_of p.number p.heads

-- a page's line, of that name, for which the books have room, and behind which as much of the quota is left as it says
unfoldable pub does_go_on : List ℕ → List ℕ → Ledger → Bool
does_go_on line name b =
    let v = verdict_in (page_line_of line) in
    (page_line_of line).good && (same (field 0 line) (shown name) && (has_room b v && same (field 3 line) (left_text (booked b v))))

-- books that it does not go on from stay as they are
abbrev pub unresumed : Ledger → Resumed
unresumed b = record { good = false; ledger = b }

-- the books behind it
unfoldable pub resumed : List ℕ → List ℕ → Ledger → Resumed
resumed line name b = elim (does_go_on line name b) [ true ↦ record { good = true; ledger = booked b (verdict_in (page_line_of line)) } | false ↦ unresumed b ]
