-- Nothing is moved, or both are. Assumes nothing.
use Rattle.booking.proofs.Lying.{can-move}
use borrow.Author.Tests.{not-true, not-false}
use lib.ListN.{length}
use native.Mathlib.Omega.{arith}
use mathlib.Core.Bool.{true≢false}
use mathlib.Core.Path.{◌≡◌, refl, sym, ◌∙◌}
use Rattle.booking.proofs.showing.move_form.Reads as reads
use Rattle.booking.proofs.showing.move_form.Lts as lts
use Rattle.booking.proofs.moving.move_boxes.Reads as move-boxes-reads
use Rattle.booking.proofs.moving.move_places.Reads as move-places-reads
use Rattle.booking.proofs.showing.can_move.Reads as can-move-reads
use Rattle.booking.proofs.showing.move_form.Goals as goal

pub returns-then-not-can_move : goal.returns-then-not-can_move
returns-then-not-can_move c = record {
  told = sym (not-true _ c.if-not-can_move.true-raw) ∙ c.can_move.ensures;
  boxes_are = λ e. absurd (true≢false (sym e));
  places_are = λ e. absurd (true≢false (sym e));
  boxes_kept = λ e. refl;
  places_kept = λ e. refl;
}

pub move_boxes-requires : goal.move_boxes-requires
move_boxes-requires c =
    let a = c.args in
    let k = can-move a.form a.rows a.across a.down a.boxes.now a.places.now (length a.moved_boxes.now) (length a.moved_places.now) (omega arith) (omega arith) (sym c.can_move.ensures ∙ not-false _ c.if-not-can_move.false-raw) in
    (k.boxes-go, k.roomy)

pub move_places-requires : goal.move_places-requires
move_places-requires c =
    let a = c.args in
    let k = can-move a.form a.rows a.across a.down a.boxes.now a.places.now (length a.moved_boxes.now) (length a.moved_places.now) (omega arith) (omega arith) (sym c.can_move.ensures ∙ not-false _ c.if-not-can_move.false-raw) in
    (k.places-go, k.roomy')

pub returns : goal.returns
returns c = record {
  told = sym (not-false _ c.if-not-can_move.false-raw) ∙ c.can_move.ensures;
  boxes_are = λ e. c.move_boxes.ensures;
  places_are = λ e. c.move_places.ensures;
  boxes_kept = λ e. absurd (true≢false e);
  places_kept = λ e. absurd (true≢false e);
}
