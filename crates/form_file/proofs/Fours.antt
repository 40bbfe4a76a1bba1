-- Four numbers of a box that are stored at a place, and the seven of a place. Assumes nothing.
use mathlib.Core.Path.{◌≡◌, sym, ap, ap₂, ◌∙◌}
use mathlib.Core.Bool.{true}
use mathlib.Core.List.{List, ◌++◌}
use Prim.Native.Nat.{ℕ, ◌+◌, ◌*◌, ◌≤◌, ◌<◌}
use native.Mathlib.Numerals.{add-one, towards_suc}
use native.Mathlib.Omega.{arith}
use lib.ListN.{length, take, drop, set, length-set, length-append}
use lib.Seq.{length-take-le, sets-eq, take_at, drop_at}
use borrow.Author.Tests.{lt-ltb}
use Rattle.heads.specs.declared.Box.{Box}
use Rattle.form_file.specs.Heard.{set_four, place_numbers, holds, heard, on, form_of}
use Rattle.form_file.specs.Going.{Onward}
use Rattle.form_file.specs.declared.Form.{Form}
use Rattle.form_file.specs.declared.said.Said.TheVariants.{Place as place}

pub four-long : (xs : List ℕ) (at : ℕ) (b : Box) → length (set_four xs at b) ≡ length xs
unfolding set_four
four-long xs at b = simp length-set

-- the seven numbers of a place, which stand at one
abbrev pub placed : List ℕ → ℕ → ℕ → Box → ℕ → ℕ → List ℕ
placed xs at kind b n line = take at xs ++ place_numbers kind b n line ++ drop (at + 7) xs

pub seven : (xs : List ℕ) (at kind : ℕ) (b : Box) (n line : ℕ) → at + 7 ≤ length xs
    → set (set (set_four (set xs at kind) (at + 1) b) (at + 5) n) (at + 6) line ≡ placed xs at kind b n line
unfolding set_four
seven xs at kind b n line h = simp towards_suc (simp towards_suc at (sets-eq (place_numbers kind b n line) xs at h))

-- a place more behind those that there are
module _ (f : Form) (places : List ℕ) (kind : ℕ) (b : Box) (n line : ℕ) (l : 7 * f.places + 7 ≤ length places) where
  abbrev front : List ℕ
  front = take (7 * f.places) places ++ place_numbers kind b n line

  front_long : length front ≡ 7 * (f.places + 1)
  front_long = length-append (take (7 * f.places) places) (place_numbers kind b n line) ∙ omega (arith, length-take-le (7 * f.places) places (omega arith))

  pub place-on : (room : ℕ) (boxes lines places' : List ℕ) → f.places < room → holds b ≡ true → places' ≡ placed places (7 * f.places) kind b n line
      → Onward room line f (place kind b n) boxes lines places (form_of f.columns f.least f.most f.tick f.doubt (f.places + 1) f.proper f.across f.down) boxes lines places'
  place-on room boxes lines places' h e p = record {
    is =
        rw (heard, lt-ltb f.places room h, e)
        (ap₂ (λ (m : ℕ) (ps : List ℕ). on (record { form = form_of f.columns f.least f.most f.tick f.doubt m f.proper f.across f.down; boxes = boxes; lines = lines; places = ps }))
        (sym (add-one f.places))
        (sym (ap (take (7 * (f.places + 1))) p ∙ take_at front (drop (7 * f.places + 7) places) (7 * (f.places + 1)) front_long)));
    more = omega arith;
    fits = omega arith;
    behind =
        ap (drop (7 * (f.places + 1))) p ∙ drop_at front (drop (7 * f.places + 7) places) (7 * (f.places + 1)) front_long
        ∙ (let z : 7 * f.places + 7 ≡ 7 * (f.places + 1) = omega arith in ap (λ (m : ℕ). drop m places) z);
  }

-- an array keeps its length
pub stored-long : {xs' : List ℕ} (xs : List ℕ) (at v to : ℕ) (b : Box) → xs' ≡ set_four (set xs at v) to b → length xs' ≡ length xs
stored-long xs at v to b e = ap length e ∙ four-long (set xs at v) to b ∙ length-set xs at v
