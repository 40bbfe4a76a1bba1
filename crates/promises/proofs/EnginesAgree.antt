-- A14 is met: one argument over the colour, from the engines' agreement on one code. Assumes nothing.
use mathlib.Core.Path.{◌≡◌, refl, sym, ap, ◌∙◌}
use mathlib.Core.Bool.{Bool, false}
use mathlib.Core.List.{List}
use mathlib.Core.Option.{Option, none, some}
use Rattle.std.specs.Prelude.{Result}
use Prim.Native.Nat.{ℕ, ◌+◌, ◌≤◌}
use native.Mathlib.Omega.{arith}
use lib.ListN.{length, drop, length-drop}
use borrow.Author.Tests.{le-leb, lt-leb}
use Rattle.rules.specs.Answers.{overflow}
use Rattle.rules.specs.Bits.{bits_of}
use Rattle.rules.specs.Codes.{Colour, Code, codes_of}
use Rattle.rules.specs.Lookup.{code_in, longest_shared, Entry, valid, invalid, entry_for, lookup}
use Rattle.rules.specs.Plain.{lost, by_entry, by_lookup}
use Rattle.rules.proofs.Codes.{shape}
use Rattle.rules.proofs.Lookup.{lookup-valid}
use Rattle.rules.proofs.Plain.{plain-is-lookup}
use Rattle.answer.specs.Answer.{number_of}
use Rattle.codes.specs.Plain.{found_of}
use Rattle.codes.specs.declared.plain.Code as Found
use Rattle.codes.specs.declared.plain.LostCode.{LostCode}
use Rattle.promises.specs.EnginesAgree.{BothAt, CodesAgree, RunsAgree, FailingCodesAgree, by_engine, PagesAgree}
use Rattle.promises.specs.Places.{CodeFails, no_code, cut_code, cut_short, passes}
use Rattle.promises.proofs.Pinned.{decode-pinned}
use Rattle.promises.proofs.PinnedInside.{read-run-pinned, look-up-pinned}
use Rattle.promises.proofs.Places.{run-faults}

-- ---- One code

-- what either engine says is what the rule of the lookup says
module _ {colour : Colour} {bytes : List ℕ} {at : ℕ} {r s : Result Found.Code LostCode} (t : BothAt colour bytes at r s) where
  plainly : found_of r ≡ by_lookup colour (drop at (bits_of bytes))
  plainly = t.compared ∙ plain-is-lookup colour (drop at (bits_of bytes))

pub codes-agree : CodesAgree
codes-agree colour bytes at r s t = look-up-pinned colour bytes at r s (plainly t) t.looked_up

-- ---- A run

pub runs-agree : RunsAgree
runs-agree colour bytes b r s g h = read-run-pinned colour bytes b b r s refl g h

-- an entry takes a bit at least
invalid-bits : (colour : Colour) (ws : List Bool) (size : ℕ) → lookup colour ws ≡ invalid size → 1 ≤ size
unfolding lookup
invalid-bits colour ws size e = cases (code_in (codes_of colour) ws) e
  where
    cases : (o : Option Code) → entry_for (codes_of colour) ws o ≡ invalid size → 1 ≤ size
    cases (some c) q = absurd (let z : ◌≡◌ {A = ℕ} 0 1 = cc in omega arith)
    cases none q = let z : longest_shared (codes_of colour) ws + 1 ≡ size = cc in omega arith

valid-bits : (colour : Colour) (ws : List Bool) (run size : ℕ) → lookup colour ws ≡ valid run size → 1 ≤ size
valid-bits colour ws run size e = let v = lookup-valid colour ws run size e in omega (arith, (shape colour v.code v.member).some_bits, v.size_is)

-- what the rule of the lookup says of a code at which a run fails
fails_by : (colour : Colour) (bs : List Bool) (sum place n : ℕ) → CodeFails colour bs sum place n → (n ≡ overflow → ⊥) → (taken : ℕ) × (by_lookup colour (drop place bs) ≡ lost n taken)
fails_by colour bs sum place n (no_code {size} e h) k =
    (size, ap (by_entry (length (drop place bs))) e ∙ simp (le-leb size (length (drop place bs)) (omega (arith, length-drop place bs))))
fails_by colour bs sum place n (cut_code {pixels} {size} e h) k = (
  length (drop place bs),
  ap (by_entry (length (drop place bs))) e ∙ simp (lt-leb size (length (drop place bs)) (omega (arith, length-drop place bs, valid-bits colour _ pixels size e))),
)
fails_by colour bs sum place n (cut_short {size} e h) k = (
  length (drop place bs),
  ap (by_entry (length (drop place bs))) e ∙ simp (lt-leb size (length (drop place bs)) (omega (arith, length-drop place bs, invalid-bits colour _ size e))),
)
fails_by colour bs sum place n (passes e h j) k = absurd (k refl)

pub failing-codes-agree : FailingCodesAgree
failing-codes-agree colour bytes at e g k r s t =
    let (taken, q) = fails_by colour (bits_of bytes) _ e.at (number_of e.error) (run-faults colour bytes at _ g (number_of e.error) e.at refl).fails k in
    (taken, plainly t ∙ q, t.looked_up ∙ q)

-- ---- A page

-- the contract does not see the engine
pub pages-agree : PagesAgree
pages-agree bytes settings changes ends marks r s xs ys es fs ms ns g h = decode-pinned bytes (by_engine false settings) changes ends marks r s xs ys es fs ms ns g h
