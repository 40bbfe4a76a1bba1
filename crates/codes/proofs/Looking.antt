-- One code by the lookup: what the two parts of an entry's number say is what the entry does. Assumes nothing.
use mathlib.Core.Path.{◌≡◌, refl, sym, ◌∙◌}
use mathlib.Core.Bool.{Bool, cond}
use mathlib.Core.List.{List}
use Prim.Native.Nat.{ℕ, ◌+◌, ◌-◌, ◌*◌, ◌/◌, ◌%◌, ◌≤◌, ◌<◌}
use native.Mathlib.Omega.{arith}
use lib.Dec.{eqb, leb}
use lib.ListN.{length, drop, length-drop}
use borrow.Author.Tests.{le-leb, lt-leb, eq-eqb, ne_eqb}
use Rattle.rules.specs.Bits.{bits_of, window}
use Rattle.rules.specs.Codes.{Colour}
use Rattle.rules.specs.Lookup.{Entry, valid, invalid, lookup, entry_number}
use Rattle.rules.specs.Plain.{Found, found, lost, by_entry, by_lookup}
use Rattle.rules.proofs.Bits.{length-bits_of}
use Rattle.rules.proofs.Codes.{shape}
use Rattle.rules.proofs.Lookup.{lookup-valid}
use Rattle.codes.proofs.Runs.{At}

-- what a run and a size say where so many bits are left; 4,095 is the run of none
abbrev in_parts : ℕ → ℕ → ℕ → Found
in_parts left run size = cond (leb size left) (cond (eqb run 4095) (lost 1 size) (found run size)) (lost 2 left)

by_number : (colour : Colour) (ws : List Bool) (left : ℕ) (o : Entry) → lookup colour ws ≡ o → by_entry left o ≡ in_parts left (entry_number o % 4096) (entry_number o / 4096)
by_number colour ws left (invalid size) q =
    let d : (4095 + 4096 * size) / 4096 ≡ size = omega arith in
    let m : (4095 + 4096 * size) % 4096 ≡ 4095 = omega arith in
    rw (d, m)
by_number colour ws left (valid run size) q =
    let v = lookup-valid colour ws run size q in
    let k : run ≤ 2560 = omega (arith, (shape colour v.code v.member).small-run, v.run_is) in
    let d : (run + 4096 * size) / 4096 ≡ size = omega arith in
    let m : (run + 4096 * size) % 4096 ≡ run = omega arith in
    rw (d, m, ne_eqb run 4095 (λ z. omega arith))

module _ {colour : Colour} {bytes : List ℕ} {at run size : ℕ} (t : At colour bytes at run size) where
  abbrev ds : List Bool
  ds = drop at (bits_of bytes)

  left : length ds ≡ 8 * length bytes - at
  left = omega (arith, length-drop at (bits_of bytes), length-bits_of bytes)

  by_parts : by_lookup colour ds ≡ in_parts (8 * length bytes - at) run size
  by_parts =
      by_number colour (window 13 ds) (length ds) (lookup colour (window 13 ds)) refl
      ∙ (λ i. in_parts (left i) (sym t.entered i % 4096) (sym t.entered i / 4096))
      ∙ (λ i. in_parts (8 * length bytes - at) (sym t.run_is i) (sym t.size_is i))

  -- too few bits are left
  pub looks-short : 8 * length bytes - at < size → lost 2 (8 * length bytes - at) ≡ by_lookup colour (drop at (bits_of bytes))
  looks-short h = sym (by_parts ∙ simp (lt-leb size (8 * length bytes - at) h))

  module _ (there : size ≤ 8 * length bytes - at) where
    pub looks-wrong : run ≡ 4095 → lost 1 size ≡ by_lookup colour (drop at (bits_of bytes))
    looks-wrong h = sym (by_parts ∙ simp (le-leb size (8 * length bytes - at) there, eq-eqb run 4095 h))

    pub looks-right : (run ≡ 4095 → ⊥) → found run size ≡ by_lookup colour (drop at (bits_of bytes))
    looks-right h = sym (by_parts ∙ simp (le-leb size (8 * length bytes - at) there, ne_eqb run 4095 h))
