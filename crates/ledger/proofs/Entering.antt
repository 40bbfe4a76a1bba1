-- A page that goes into the books with its line, and one that does not. Assumes nothing.
use mathlib.Core.Path.{◌≡◌, sym, ap, ◌∙◌, subst}
use mathlib.Core.Bool.{Bool, true, false, ◌&&◌}
use mathlib.Core.List.{List}
use Prim.Native.Nat.{ℕ}
use lib.ListN.{length}
use Rattle.rules.specs.Pages.{overlaid}
use Rattle.listing_text.specs.Listed.{Prints}
use Rattle.ledger.specs.Books.{booked, has_room, booked_in}
use Rattle.ledger.specs.Said.{page_line, line_room, Tells}
use Rattle.ledger.specs.Entered.{is_entered, entry_line, books_after, Enters}
use Rattle.ledger.specs.declared.Ledger.{Ledger}
use Rattle.ledger.specs.declared.Verdict.{Verdict}

module _ (name : List ℕ) (b : Ledger) (v : Verdict) (out : List ℕ) where
  -- nothing changes
  stays : is_entered name b v out ≡ false → Enters name b v out (record { ledger = b; text = 0 }) out
  unfolding entry_line books_after overlaid
  stays e = record {
    books = sym (rw (books_after, e));
    length-is = sym (rw (entry_line, e));
    array = sym (rw (entry_line, e));
  }

  pub no-books : has_room b v ≡ false → Enters name b v out (record { ledger = b; text = 0 }) out
  no-books e = stays (ap (λ (t : Bool). t && line_room (length name) (length out)) e)

  pub no_line : has_room b v ≡ true → line_room (length name) (length out) ≡ false → Enters name b v out (record { ledger = b; text = 0 }) out
  no_line e f = stays (ap (λ (t : Bool). t && line_room (length name) (length out)) e ∙ f)

  module _ (e : has_room b v ≡ true) (f : line_room (length name) (length out) ≡ true) where
    is-entered : is_entered name b v out ≡ true
    is-entered = ap (λ (t : Bool). t && line_room (length name) (length out)) e ∙ f

    behind : booked_in b v ≡ booked b v
    unfolding booked_in
    behind = rw (booked_in, e)

    abbrev Told : Ledger → ℕ → List ℕ → Bool → Type 0
    Told after text out' x = elim x [ true ↦ Prints out (page_line name v after) text out' | false ↦ (text ≡ 0) × (out' ≡ out) ]

    printed : (after : Ledger) (text : ℕ) (out' : List ℕ) → Tells (length name) (page_line name v after) out text out' → Prints out (page_line name v after) text out'
    printed after text out' t = subst (Told after text out') f t

    pub goes_in : {after : Ledger} {text : ℕ} {out' : List ℕ} → after ≡ booked_in b v → Tells (length name) (page_line name v after) out text out'
        → Enters name b v out (record { ledger = after; text = text }) out'
    unfolding entry_line books_after
    goes_in {after} {text} {out'} a t =
        let p = printed after text out' t in
        let line : page_line name v after ≡ entry_line name b v out = ap (page_line name v) (a ∙ behind) ∙ sym (rw (entry_line, is-entered)) in
        record {
          books = a ∙ behind ∙ sym (rw (books_after, is-entered));
          length-is = p.count ∙ ap length line;
          array = p.array ∙ ap (λ (l : List ℕ). overlaid l out) line;
        }
