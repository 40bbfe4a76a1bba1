-- Sheets: small pages on which a small form lies aside of its place, with what is found, by computing. Assumes nothing.
use mathlib.Core.Path.{◌≡◌, refl}
use mathlib.Core.Bool.{Bool, true, false}
use mathlib.Core.List.{List, [], ◌∷◌}
use Prim.Native.Nat.{ℕ, zero, suc, ◌+◌}
use lib.ListN.{replicate}
use Rattle.rules.specs.Pixels as P
use Rattle.settings.specs.declared.EncodingMode.TheVariants.{Group4}
use Rattle.heads.specs.Form as H
use Rattle.heads.specs.Numbers as N
use Rattle.form_file.specs.First.{first_of, count_of}
use Rattle.form_file.specs.declared.Form.{Form}
use Rattle.booking.specs.Found as F
use Rattle.booking.specs.Showing as S
use Rattle.booking.specs.Tests as T
use Rattle.booking.specs.declared.Finding.{Finding}
use Rattle.booking.specs.declared.Lies.{Lies}

-- ten digits, each in a row of its own: the tens box in the second column, the units box in the fourth
boxes_from : ℕ → ℕ → List ℕ
boxes_from zero top = []
boxes_from (suc n) top = 1 ∷ 2 ∷ top ∷ suc top ∷ 3 ∷ 4 ∷ top ∷ suc top ∷ boxes_from n (suc top)

-- a form that may lie a pixel aside, on a page of six columns; at the form's line 3 a place in the fifth that must be black in the first row
form_for : Form
form_for = record { columns = 6; least = 10; most = 10; tick = 1; doubt = 1; places = 1; proper = false; across = 1; down = 0 }

placed : List ℕ
placed = 1 ∷ 4 ∷ 5 ∷ 0 ∷ 1 ∷ 1 ∷ 3 ∷ []

-- a page of ten rows, by its first row and its fifth
page : List ℕ → List ℕ → H.Page
page top fifth = record { columns = 6; rows = top ∷ [] ∷ [] ∷ [] ∷ fifth ∷ [] ∷ [] ∷ [] ∷ [] ∷ [] ∷ [] }

found : H.Page → Finding
found p = F.on_form form_for (boxes_from 10 0) placed Group4 p (replicate 10 0)

-- the number, the heads, the form's line, the count and its bounds
told : Finding → List ℕ
told f = f.number ∷ f.heads ∷ f.line ∷ f.count ∷ f.least ∷ f.most ∷ []

-- whether it fits, and where
lies : H.Page → Lies
lies p = S.lies_on form_for (boxes_from 10 0) placed p

record Sheets : Type 0 where
  -- tens 4 and units 4 at the form's place; and one column to the right
  in_place : told (found (page (4 ∷ 5 ∷ []) (1 ∷ 2 ∷ 3 ∷ 4 ∷ []))) ≡ 0 ∷ 44 ∷ 0 ∷ 0 ∷ 0 ∷ 0 ∷ []
  aside : told (found (page (5 ∷ 6 ∷ []) (2 ∷ 3 ∷ 4 ∷ 5 ∷ []))) ≡ 0 ∷ 44 ∷ 0 ∷ 0 ∷ 0 ∷ 0 ∷ []
  lies-aside : lies (page (5 ∷ 6 ∷ []) (2 ∷ 3 ∷ 4 ∷ 5 ∷ [])) ≡ S.lies_by true 2 0
  -- it fits at both: at the first of them no tens are ticked
  not-one : told (found (page (4 ∷ 6 ∷ []) (2 ∷ 3 ∷ 4 ∷ 5 ∷ []))) ≡ 12 ∷ 0 ∷ 0 ∷ 0 ∷ 1 ∷ 1 ∷ []
  -- and here tens 4 and units 4 at the first, tens 4 and units 0 at the other
  other-heads : told (found (page (4 ∷ 6 ∷ []) (1 ∷ 4 ∷ []))) ≡ 25 ∷ 0 ∷ 0 ∷ 0 ∷ 44 ∷ 40 ∷ []
  -- it fits nowhere: what is found at the first offset
  nowhere : told (found (page [] (1 ∷ 2 ∷ []))) ≡ 20 ∷ 0 ∷ 3 ∷ 0 ∷ 1 ∷ 0 ∷ []
  lies-nowhere : lies (page [] (1 ∷ 2 ∷ [])) ≡ S.lies_by false 0 0

sheets : Sheets
unfolding found told lies page placed form_for boxes_from S.lies_on F.on_form F.looked_for F.found_behind F.found_at F.fits_at F.best_from F.can_look_for F.moved_boxes F.moved_places F.box_inside F.listed T.tested T.bad_row T.lowest T.wrong_at T.not_one first_of count_of H.sum H.every H.all H.pixel H.black_in H.tick_table H.ticks H.heads_in H.given H.clean_under H.clean H.heads_on N.form_from P.colour_at
sheets = record {
  in_place = refl;
  aside = refl;
  lies-aside = refl;
  not-one = refl;
  other-heads = refl;
  nowhere = refl;
  lies-nowhere = refl;
}
