-- Laws of the lines of a form file, one behind the other: what the loop over them keeps. Assumes nothing.
use mathlib.Core.Path.{◌≡◌, refl, sym, ap, ap₂, ◌∙◌}
use mathlib.Core.Bool.{Bool, true, false, ◌&&◌}
use mathlib.Core.List.{List, [], ◌∷◌, ◌++◌}
use Prim.Native.Nat.{ℕ, suc, ◌+◌, ◌-◌, ◌*◌, ◌/◌, ◌≤◌, ◌<◌}
use native.Mathlib.Numerals.{add-one}
use native.Mathlib.Omega.{arith}
use lib.Dec.{eqb, ltb}
use lib.ListN.{length, get_or, take, drop, take-append-drop}
use lib.Seq.{length-take-le, drop-drop}
use borrow.Author.Tests.{eq-eqb, ne_eqb, ltb-true, ltb-false}
use Rattle.rules.specs.Pages.{overlaid}
use Rattle.listing_text.specs.Text.{ascii}
use Rattle.listing_text.specs.Lines.{lines_of, lines_behind, LineTo}
use Rattle.heads.specs.Form.{all}
use Rattle.heads.specs.Numbers.{box_in}
use Rattle.form_file.specs.Words.{same, none, values_of, words_of}
use Rattle.form_file.specs.Said.{box_said, page_said, by_word, line_says}
use Rattle.form_file.specs.Heard.{Went, heard, on, fault, no_form}
use Rattle.form_file.specs.FormFile.{Read, hearing, whole, faulty, places_for}
use Rattle.form_file.specs.Going.{heard_in, Lent, Onward, Stopped, box_of, Leaves, heard_from, Hearable}
use Rattle.form_file.specs.declared.Form.{Form}
use Rattle.form_file.specs.declared.said.Said.{Said}
use Rattle.form_file.specs.declared.said.Said.TheVariants.{Square as box, Wrong as wrong}

-- ---- The box that a line says is one of twenty

either : (t : Bool) (a b : Said) → box_of a < 20 → box_of b < 20 → box_of (elim t [ true ↦ a | false ↦ b ]) < 20
either true a b p q = p
either false a b p q = q

box-small : (column : ℕ) (ns : List ℕ) → column < 2 → box_of (box_said column ns) < 20
box-small column ns h = by (eqb (length ns) 5) (ltb (get_or ns 0 0) 10) (ltb-true (get_or ns 0 0) 10)
  where
    by : (a b : Bool) → (b ≡ true → get_or ns 0 0 < 10) → box_of (elim (a && b) [ true ↦ box (2 * get_or ns 0 0 + column) (box_in ns 1) | false ↦ wrong ]) < 20
    by true true l = omega (arith, l refl)
    by true false l = omega arith
    by false b l = omega arith

page-small : (ns : List ℕ) → box_of (page_said ns) < 20
page-small ns = either (eqb (length ns) 2) _ _ (omega arith) (either (eqb (length ns) 3) _ _ (omega arith) (omega arith))

word_small : (word ns : List ℕ) → box_of (by_word word ns) < 20
unfolding by_word
word_small word ns =
    either (same word (ascii "tens")) _ _ (box-small 0 ns (omega arith))
    (either (same word (ascii "units")) _ _ (box-small 1 ns (omega arith))
    (either (same word (ascii "page")) _ _ (page-small ns)
    (either (same word (ascii "tick")) _ _ (either (eqb (length ns) 1) _ _ (omega arith) (omega arith))
    (either (same word (ascii "doubt")) _ _ (either (eqb (length ns) 1) _ _ (omega arith) (omega arith))
    (either (same word (ascii "black")) _ _ (either (eqb (length ns) 5) _ _ (omega arith) (omega arith))
    (either (same word (ascii "white")) _ _ (either (eqb (length ns) 5) _ _ (omega arith) (omega arith))
    (either (same word (ascii "proper")) _ _ (either (eqb (length ns) 0) _ _ (omega arith) (omega arith))
    (either (same word (ascii "shift")) _ _ (either (eqb (length ns) 2) _ _ (omega arith) (omega arith)) (omega arith)))))))))

pub line_small : (ws : List (List ℕ)) → box_of (line_says ws) < 20
unfolding line_says
line_small [] = omega arith
line_small (w ∷ ws) = either (all (λ n. ltb n none) (values_of ws)) _ _ (word_small w (values_of ws)) (omega arith)

-- ---- Room for places

pub places-room : (lent : ℕ) → (7 * places_for lent ≤ lent) × (places_for lent ≤ 256)
places-room lent = by (ltb 256 (lent / 7)) (ltb-true 256 (lent / 7)) (ltb-false 256 (lent / 7))
  where
    by : (t : Bool) → (t ≡ true → 256 < lent / 7) → (t ≡ false → lent / 7 ≤ 256)
        → (7 * elim t [ true ↦ 256 | false ↦ lent / 7 ] ≤ lent) × (elim t [ true ↦ 256 | false ↦ lent / 7 ] ≤ 256)
    by true f g = (omega (arith, f refl), omega arith)
    by false f g = (omega arith, g refl)

-- ---- What the loop keeps

-- the reading of the lines from a place on is that of the whole; behind the places that were heard stands what was lent
pub record Going (text : List ℕ) (read : Read) (lent : List ℕ) (room line : ℕ) (f : Form) (boxes lines places : List ℕ) (at : ℕ) : Type 0 where
  pub rest : hearing room (line + 1) (heard_in f boxes lines places) (lines_of (drop at text)) ≡ read
  pub behind : drop (7 * f.places) places ≡ drop (7 * f.places) lent
  pub inside : at ≤ length text
  pub early : line ≤ at
  pub long : length places ≡ length lent
  pub roomy : Lent room f boxes lines places

-- the places that were heard, over what was lent, are what is lent now
over : (n : ℕ) (places lent : List ℕ) → n ≤ length places → drop n places ≡ drop n lent → places ≡ overlaid (take n places) lent
unfolding overlaid
over n places lent h e = sym (rw (length-take-le n places h) (ap (λ (l : List ℕ). take n places ++ l) (sym e) ∙ take-append-drop n places))

pub going_start : (text : List ℕ) (from : ℕ) (boxes lines places : List ℕ) (room : ℕ) → Hearable text from boxes lines → room ≡ places_for (length places)
    → Going text (heard_from text from boxes lines places) places room 0 no_form boxes lines places from
going_start text from boxes lines places room h e = record {
  rest = ap (λ (r : ℕ). hearing r 1 (heard_in no_form boxes lines places) (lines_of (drop from text))) e;
  behind = refl;
  inside = h.inside;
  early = omega arith;
  long = refl;
  roomy = let p = places-room (length places) in record {
    boxes_long = h.boxes_long;
    lines_long = h.lines_long;
    places_long = rw e p.0;
    small = rw e p.1;
    fits = omega arith;
  };
}

module _ {text : List ℕ} {read : Read} {lent : List ℕ} {room line : ℕ} {f : Form} {boxes lines places : List ℕ} {at : ℕ}
    (g : Going text read lent room line f boxes lines places at)
    (end : ℕ) (t : LineTo text at end) (said : Said) (s : said ≡ line_says (words_of (take (end - at) (drop at text)))) where
  after : Went → Read
  after went =
      elim went [
        | on h' ↦ hearing room (suc (line + 1)) h' (lines_behind text end)
        | fault number which ↦ record { formed = faulty number which (line + 1); boxes = boxes; places = take (7 * f.places) places }
      ]

  opens : read ≡ after (heard room (line + 1) (heard_in f boxes lines places) said)
  unfolding hearing after
  opens = sym g.rest ∙ ap (hearing room (line + 1) (heard_in f boxes lines places)) t.lines ∙ ap (λ (w : Said). after (heard room (line + 1) (heard_in f boxes lines places) w)) (sym s)

  -- the box that it says
  pub said-small : box_of said < 20
  said-small = rw s (line_small (words_of (take (end - at) (drop at text))))

  -- a line at fault
  pub going-stops : (number which : ℕ) (boxes' places' : List ℕ) → Stopped room (line + 1) f said boxes lines places number which boxes' places'
      → Leaves read lent (faulty number which (line + 1)) boxes' places'
  unfolding after
  going-stops number which boxes' places' p =
      let e = opens ∙ ap after p.is in record {
        formed = sym (ap (λ (r : Read). r.formed) e);
        boxes_are = p.boxes_same ∙ sym (ap (λ (r : Read). r.boxes) e);
        places_are =
            p.places_same ∙ over (7 * f.places) places lent (omega (arith, g.roomy.fits, g.roomy.places_long)) g.behind ∙ sym (ap (λ (r : Read). overlaid r.places lent) e);
      }

  module _ (f' : Form) (boxes' lines' places' : List ℕ) (o : Onward room (line + 1) f said boxes lines places f' boxes' lines' places') (long : length places' ≡ length places) where
    onto : read ≡ hearing room (suc (line + 1)) (heard_in f' boxes' lines' places') (lines_behind text end)
    unfolding after
    onto = opens ∙ ap after o.is

    stays : drop (7 * f'.places) places' ≡ drop (7 * f'.places) lent
    stays = o.behind ∙ further places ∙ ap (drop (7 * (f'.places - f.places))) g.behind ∙ sym (further lent)
      where
        further : (xs : List ℕ) → drop (7 * f'.places) xs ≡ drop (7 * (f'.places - f.places)) (drop (7 * f.places) xs)
        further xs =
            let z : 7 * f'.places ≡ 7 * f.places + 7 * (f'.places - f.places) = omega (arith, o.more) in
            ap (λ (n : ℕ). drop n xs) z ∙ sym (drop-drop (7 * (f'.places - f.places)) (7 * f.places) xs)

    -- the last line
    pub going-ends : end ≡ length text → Leaves read lent (whole (heard_in f' boxes' lines' places')) boxes' places'
    unfolding hearing lines_behind
    going-ends e =
        let n : lines_behind text end ≡ [] = rw (lines_behind, eq-eqb end (length text) e) in
        let w : read ≡ hearing room (suc (line + 1)) (heard_in f' boxes' lines' places') [] = onto ∙ ap (hearing room (suc (line + 1)) (heard_in f' boxes' lines' places')) n in record {
          formed = sym (ap (λ (r : Read). r.formed) w);
          boxes_are = sym (ap (λ (r : Read). r.boxes) w);
          places_are =
              over (7 * f'.places) places' lent (omega (arith, o.fits, g.roomy.places_long)) stays ∙ sym (ap (λ (r : Read). overlaid r.places lent) w);
        }

    -- another behind it
    pub going_on : (end ≡ length text → ⊥) → length boxes' ≡ 80 → length lines' ≡ 20 → Going text read lent room (line + 1) f' boxes' lines' places' (end + 1)
    unfolding lines_behind
    going_on ne b l = record {
      rest = sym (onto ∙ ap₂ (λ (n : ℕ) (ls : List (List ℕ)). hearing room n (heard_in f' boxes' lines' places') ls) (sym (add-one (line + 1))) (rw (lines_behind, ne_eqb end (length text) ne)));
      behind = stays;
      inside = below end (length text) t.inside ne;
      early = omega (arith, g.early, t.behind);
      long = long ∙ g.long;
      roomy = record { boxes_long = b; lines_long = l; places_long = omega (arith, g.roomy.places_long); small = g.roomy.small; fits = o.fits };
    }
      where
        below : (a b : ℕ) → a ≤ b → (a ≡ b → ⊥) → a + 1 ≤ b
        below a b p q = omega arith
